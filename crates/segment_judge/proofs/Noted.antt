-- What a row did is noted.
use Rattle.std.proofs.Common.{◌≡◌, ℕ, Bool, List, [], ◌∷◌, ◌++◌, length, drop, Option, Some, None, Ok, Err, refl, sym, ap}
use Rattle.std.proofs.Common.{◌∙◌, subst, append_assoc, append-nil, arith, ◌+◌, ◌≤◌, slice_get}
use Rattle.std.proofs.lemmas.List.{drop_all, length-append}
use Rattle.hart_words.specs.declared.accesses.Read.{Read}
use Rattle.hart_words.specs.declared.accesses.Write.{Write}
use Rattle.hart_words.specs.declared.signal.Difference.{Difference}
use Rattle.hart_words.specs.Actions.{Performs}
use Rattle.hart_words.specs.Memory.{Bytes}
use Rattle.hart_words.specs.Signals.{Shown}
use Rattle.rvfi_rows.specs.declared.expected.Expected.{Expected}
use Rattle.rvfi_rows.specs.declared.fault.RowFault.{RowFault}
use Rattle.rvfi_rows.specs.declared.row_counts.RowCounts.{RowCounts}
use Rattle.rvfi_rows.specs.declared.verdict.Verdict.{Verdict}
use Rattle.rvfi_rows.specs.Rows.{RowReading, hart_of}
use Rattle.hart_step.specs.declared.state.Core.{Core}
use Rattle.hart_step.specs.HartSets.{SetState, set_after_row, set_state_of, set_step_of}
use Rattle.row_compare.specs.Difference.{difference_of}
use Rattle.row_origin.specs.declared.history.History.{History}
use Rattle.row_origin.specs.Histories.{HistoryView, IsKept, history_after, history_of}
use Rattle.row_origin.specs.Trails.{RowFacts, Trail}
use Rattle.segment_judge.specs.declared.progress.Progress.{Progress}
use Rattle.segment_judge.specs.Histories.{facts_at, history_after_row, history_from}
use Rattle.segment_judge.specs.Progress.{NotesRow}
use Rattle.segment_judge.proofs.Histories.{agreed_history, different_history}
use Rattle.segment_judge.proofs.Turns.{drop_found, performed_state}

-- a step that was performed did this
facts_performed : {next : List Core} {expected : Expected} {seen : List Read} {wrote : List Write} {bytes : Bytes}
    (state : SetState) (shown : Shown) (hart : ℕ) → hart ≡ hart_of shown
    → Performs (set_step_of state.core shown) (record { next = next; expected = expected }) [] seen [] wrote state.bytes
    bytes → ◌≡◌ {A = RowFacts} (record { hart = hart; expected = expected; reads = seen; wrote = wrote })
    (facts_at state shown)
facts_performed {expected = expected} state shown hart is done =
    let same : expected ≡ ((set_step_of state.core shown).run state.bytes).value.expected =
    ap (λ gave. gave.expected) done.value_is in
    rw (is, same, done.seen_is, done.wrote_is) refl

pub noted_refused : {M : Type 0} (bytes_of : M → Bytes) (origin : Bool) (before : Progress M) (fault : RowFault)
    (verdict : Verdict) (trail : Trail) → NotesRow bytes_of origin before before (Err fault) (Some verdict) trail
unfolding history_from
noted_refused bytes_of origin before fault verdict trail = λ kept counted. record {
  view = history_of trail;
  kept = kept;
  goes = λ rows. ap (λ all. history_of all) (append-nil trail);
}

pub noted_invalid : {M : Type 0} (bytes_of : M → Bytes) (origin : Bool) (before : Progress M) (counts : RowCounts)
    (history : Option History) (trail : Trail)
    → (IsKept origin (history_of trail) before.history → IsKept origin (history_of (trail ++ None ∷ [])) history)
    → NotesRow bytes_of origin before (record before { counts = counts; history = history }) (Ok None) None trail
unfolding history_from
noted_invalid bytes_of origin before counts history trail adds = λ kept counted. record {
  view = history_of (trail ++ None ∷ []);
  kept = adds kept;
  goes = (None, (refl, λ rows. refl));
}

-- a valid row was stepped by its hart, and what it did is this
pub record DidSo {M : Type 0} (bytes_of : M → Bytes) (before now : Progress M) (shown : Shown) (facts : RowFacts)
    : Type 0 where
  pub done : Performs (set_step_of before.harts.cores.items shown)
      (record { next = now.harts.cores.items; expected = facts.expected }) [] facts.reads [] facts.wrote
      (bytes_of before.harts.mem) (bytes_of now.harts.mem)
  pub hart : facts.hart ≡ hart_of shown

did : {M : Type 0} {bytes_of : M → Bytes} {now : Progress M} {facts : RowFacts} (before : Progress M) (shown : Shown)
    → DidSo bytes_of before now shown facts → facts ≡ facts_at (set_state_of bytes_of before.harts) shown
did {bytes_of = bytes_of} {facts = facts} before shown so =
    facts_performed (set_state_of bytes_of before.harts) shown facts.hart so.hart so.done

pub noted_different : {M : Type 0} {bytes_of : M → Bytes} {facts : RowFacts} (origin : Bool) (before now : Progress M)
    (shown : Shown) (verdict : Verdict) (difference : Difference) (trail : Trail) → DidSo bytes_of before now shown facts
    → difference_of facts.expected shown ≡ Some difference
    → (IsKept origin (history_of trail) before.history
    → IsKept origin (record { before = trail; differing = Some facts }) now.history)
    → NotesRow bytes_of origin before now (Ok (Some shown)) (Some verdict) trail
noted_different {bytes_of = bytes_of} {facts = facts} origin before now shown verdict difference trail so differs ends =
    λ kept counted.
    let here = set_state_of bytes_of before.harts in
    let is = did before shown so in
    let differs_here : difference_of (facts_at here shown).expected shown ≡ Some difference =
    ap (λ (facts : RowFacts). difference_of facts.expected shown) (sym is) ∙ differs in
    record {
      view = record { before = trail; differing = Some facts };
      kept = ends kept;
      goes =
          λ rows. ap (history_after trail) (different_history here shown rows difference differs_here)
          ∙ ap (λ before. record { before = before; differing = Some (facts_at here shown) }) (append-nil trail)
          ∙ ap (λ facts. record { before = trail; differing = Some facts }) (sym is);
    }

pub noted_agreed : {M : Type 0} {bytes_of : M → Bytes} {facts : RowFacts} (origin : Bool) (before now : Progress M)
    (shown : Shown) (trail : Trail) → DidSo bytes_of before now shown facts
    → difference_of facts.expected shown ≡ None
    → (IsKept origin (history_of trail) before.history → length trail ≡ before.counts.rows
    → IsKept origin (history_of (trail ++ Some facts ∷ [])) now.history)
    → NotesRow bytes_of origin before now (Ok (Some shown)) None trail
noted_agreed {bytes_of = bytes_of} {facts = facts} origin before now shown trail so agrees adds =
    λ kept counted.
    let here = set_state_of bytes_of before.harts in
    let is = did before shown so in
    let agrees_here : difference_of (facts_at here shown).expected shown ≡ None =
    ap (λ (facts : RowFacts). difference_of facts.expected shown) (sym is) ∙ agrees in
    let next : set_after_row here shown ≡ set_state_of bytes_of now.harts =
    sym
    (performed_state here shown now.harts.cores.items facts.expected facts.reads facts.wrote (bytes_of now.harts.mem)
    so.done) in
    record {
      view = history_of (trail ++ Some facts ∷ []);
      kept = adds kept counted;
      goes = (
        Some facts,
        (
          refl,
          λ rows. agreed_history here shown rows agrees_here
              ∙ ap (λ facts. history_after_row (Some facts) (history_from (set_after_row here shown) rows)) (sym is)
              ∙ ap (λ state. history_after_row (Some facts) (history_from state rows)) next,
        ),
      );
    }

-- ---- row by row

-- rows so far, and those that are left
pub record IsNotedSoFar (origin : Bool) (start now : SetState) (rows : List RowReading) (place : ℕ)
    (history : Option History) : Type 0 where
  pub trail : Trail
  pub kept : IsKept origin (history_of trail) history
  pub counted : length trail ≡ place
  pub told : history_after trail (history_from now (drop place rows)) ≡ history_from start rows

pub noting_begins : (origin : Bool) (start : SetState) (rows : List RowReading) (history : Option History)
    → IsKept origin (history_of []) history → IsNotedSoFar origin start start rows 0 history
noting_begins origin start rows history kept = record { trail = []; kept = kept; counted = refl; told = refl }

joined_twice : (trail : Trail) (facts : Option RowFacts) (later : HistoryView)
    → history_after (trail ++ facts ∷ []) later ≡ history_after trail (history_after_row facts later)
joined_twice trail facts later =
    ap (λ before. record { before = before; differing = later.differing })
    (append_assoc trail (facts ∷ []) later.before)

pub noting_goes_on : {M : Type 0} {bytes_of : M → Bytes} {origin : Bool} {start : SetState} {row : RowReading}
    {place : ℕ} (before now : Progress M) (rows : List RowReading) → Some row ≡ slice_get rows place
    → before.counts.rows ≡ place
    → IsNotedSoFar origin start (set_state_of bytes_of before.harts) rows place before.history
    → ((trail : Trail) → NotesRow bytes_of origin before now row None trail)
    → IsNotedSoFar origin start (set_state_of bytes_of now.harts) rows (place + 1) now.history
noting_goes_on {bytes_of = bytes_of} {origin = origin} {row = row} {place = place} before now rows here at so_far notes =
    let noted = notes so_far.trail so_far.kept (so_far.counted ∙ sym at) in
    let facts = noted.goes.0 in
    let later = history_from (set_state_of bytes_of now.harts) (drop (place + 1) rows) in
    record {
      trail = so_far.trail ++ facts ∷ [];
      kept = subst (λ view. IsKept origin view now.history) noted.goes.1.0 noted.kept;
      counted =
          let joined = length-append so_far.trail (facts ∷ []) in omega (arith, joined, so_far.counted);
      told =
          joined_twice so_far.trail facts later
          ∙ sym (ap (history_after so_far.trail) (noted.goes.1.1 (drop (place + 1) rows)))
          ∙ sym
          (ap (λ rest. history_after so_far.trail (history_from (set_state_of bytes_of before.harts) rest))
          (drop_found rows place row here))
          ∙ so_far.told;
    }

pub noting_ends : {M : Type 0} {bytes_of : M → Bytes} {origin : Bool} {start : SetState} {row : RowReading}
    {place : ℕ} (before now : Progress M) (rows : List RowReading) (verdict : Verdict) → Some row ≡ slice_get rows place
    → before.counts.rows ≡ place
    → IsNotedSoFar origin start (set_state_of bytes_of before.harts) rows place before.history
    → ((trail : Trail) → NotesRow bytes_of origin before now row (Some verdict) trail)
    → IsKept origin (history_from start rows) now.history
noting_ends {bytes_of = bytes_of} {origin = origin} {row = row} {place = place} before now rows verdict here at so_far
    notes =
    let noted = notes so_far.trail so_far.kept (so_far.counted ∙ sym at) in
    subst (λ view. IsKept origin view now.history)
    (sym (noted.goes (drop (place + 1) rows))
    ∙ sym
    (ap (λ rest. history_after so_far.trail (history_from (set_state_of bytes_of before.harts) rest))
    (drop_found rows place row here))
    ∙ so_far.told)
    noted.kept

-- no row is left
pub noting_is_whole : {origin : Bool} {start now : SetState} {rows : List RowReading} {place : ℕ}
    (history : Option History) → IsNotedSoFar origin start now rows place history → length rows ≤ place
    → IsKept origin (history_from start rows) history
unfolding history_from
noting_is_whole {origin = origin} {now = now} {rows = rows} {place = place} history so_far past =
    subst (λ view. IsKept origin view history)
    (sym (ap (λ before. history_of before) (append-nil so_far.trail))
    ∙ sym (ap (λ rest. history_after so_far.trail (history_from now rest)) (drop_all place rows past))
    ∙ so_far.told)
    so_far.kept
