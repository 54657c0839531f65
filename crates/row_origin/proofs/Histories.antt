-- Histories, and what is kept of them.
use Rattle.std.proofs.Common.{ℕ, ◌+◌, ◌^◌, ◌<◌, ◌++◌, Bool, true, false, length, [], ◌∷◌, Option, Some, None}
use Rattle.row_origin.specs.declared.history.History.{History}
use Rattle.row_origin.specs.Histories.{HistoryView, IsKept, KeptCountsFrom, history_of}
use Rattle.row_origin.specs.Trails.{Trail}
use Rattle.row_origin.proofs.LastOf.{count_on, of_none_more}

-- a history that is kept can be counted on from a base, where its rows can
pub kept_counts : (origin : Bool) (view : HistoryView) (history : Option History) (base : ℕ)
    → IsKept origin view history → base + length view.before < 2 ^ 64 → KeptCountsFrom base history
kept_counts true view (Some history) base is fits = count_on history.last view.before base is.last fits
kept_counts true view None base is fits = tt
kept_counts false view (Some history) base is fits = absurd is
kept_counts false view None base is fits = tt

-- a row that is not valid adds nothing
pub kept_of_none_more : (origin : Bool) (trail : Trail) (history : Option History)
    → IsKept origin (history_of trail) history → IsKept origin (history_of (trail ++ None ∷ [])) history
kept_of_none_more true trail (Some history) is = record {
  last = of_none_more history.last trail is.last;
  differing = is.differing;
}
kept_of_none_more true trail None is = is
kept_of_none_more false trail (Some history) is = is
kept_of_none_more false trail None is = is
