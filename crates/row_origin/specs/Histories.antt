-- What rows did, up to one that differs.
use Rattle.std.specs.Prelude.{◌≡◌, ℕ, Bool, true, false, ◌++◌, length, Option, Some, None, IfSome, option_map}
use Rattle.std.specs.Global.{Box}
use Rattle.row_origin.specs.declared.differing_row.DifferingRow.{DifferingRow}
use Rattle.row_origin.specs.declared.history.History.{History}
use Rattle.row_origin.specs.DifferingRows.{facts_in}
use Rattle.row_origin.specs.Last.{CountsFrom, IsAsBefore, IsLastOf}
use Rattle.row_origin.specs.Origins.{OriginsView, origins_of}
use Rattle.row_origin.specs.Trails.{RowFacts, Trail}

-- what rows did, and what the row after them did, where it differs
pub record HistoryView : Type 0 where
  pub before : Trail
  pub differing : Option RowFacts

-- no row differs
abbrev pub history_of : Trail → HistoryView
history_of trail = record { before = trail; differing = None }

-- what rows did, and what later ones did after them
abbrev pub history_after : Trail → HistoryView → HistoryView
history_after trail later = record { before = trail ++ later.before; differing = later.differing }

-- who wrote what the differing row read
abbrev pub origins_in_history : HistoryView → Option OriginsView
origins_in_history history = option_map (origins_of history.before) history.differing

-- ---- in code

abbrev pub facts_boxed : Box DifferingRow → RowFacts
facts_boxed row = facts_in row.value

pub record IsHistoryOf (history : History) (view : HistoryView) : Type 0 where
  pub last : IsLastOf history.last view.before
  pub differing : option_map facts_boxed history.differing ≡ view.differing

-- it is as it was
pub record IsSameHistory (before after : History) : Type 0 where
  pub last : IsAsBefore before.last after.last
  pub differing : after.differing ≡ before.differing

-- a history is kept where it is asked for, and else none is
abbrev pub IsKept : Bool → HistoryView → Option History → Type 0
IsKept true view (Some history) = IsHistoryOf history view
IsKept true view None = ⊥
IsKept false view (Some history) = ⊥
IsKept false view None = Unit {0}

-- the rows of a history that is kept can be counted on from a base
abbrev pub KeptCountsFrom : ℕ → Option History → Type 0
KeptCountsFrom base history = IfSome history (λ history. CountsFrom base history.last)

-- what later rows did follows what others did, and counts from a base
abbrev pub Follows : Option History → Option History → ℕ → Option History → Type 0
Follows before later base now =
    (origin : Bool) (trail : Trail) (view : HistoryView) → IsKept origin (history_of trail) before
    → IsKept origin view later → base ≡ length trail → IsKept origin (history_after trail view) now

-- what rows did follows what was kept of others before them, so many as the base
abbrev pub Grows : Bool → HistoryView → ℕ → Option History → Option History → Type 0
Grows origin view base before now =
    (trail : Trail) → IsKept origin (history_of trail) before → base ≡ length trail
    → IsKept origin (history_after trail view) now
