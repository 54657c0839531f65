-- Judging one row more.
use Rattle.std.proofs.Common.{◌≡◌, ℕ, zero, suc, ◌+◌, ◌≤◌, List, [], ◌∷◌, ◌++◌, length, drop, slice_get, Option, Some}
use Rattle.std.proofs.Common.{None, Ok, Err, refl, sym, ap, ◌∙◌, append_assoc, append-nil, add-one, arith}
use Rattle.std.proofs.lemmas.List.{drop_all}
use Rattle.hart_words.specs.declared.accesses.Read.{Read}
use Rattle.hart_words.specs.declared.accesses.Write.{Write}
use Rattle.hart_words.specs.declared.signal.Difference.{Difference}
use Rattle.hart_words.specs.Actions.{Performs, mapped}
use Rattle.hart_words.specs.Memory.{Bytes}
use Rattle.hart_words.specs.Signals.{Shown}
use Rattle.rvfi_rows.specs.declared.expected.Expected.{Expected}
use Rattle.rvfi_rows.specs.declared.fault.RowFault.{RowFault}
use Rattle.rvfi_rows.specs.declared.verdict.Verdict.{Verdict}
use Rattle.rvfi_rows.specs.declared.verdict.Verdict.TheVariants.{Agrees, Differs, Refused}
use Rattle.rvfi_rows.specs.Rows.{RowReading}
use Rattle.hart_step.specs.declared.state.Core.{Core}
use Rattle.hart_step.specs.HartSets.{SetState, set_after_row, set_step_of}
use Rattle.row_compare.specs.Difference.{difference_of}
use Rattle.read_footprint.specs.Footprints.{Accesses}
use Rattle.segment_judge.specs.Judgements.{Judgement, by_set, verdict_after_rows, judgement_of}
use Rattle.segment_judge.specs.Laws.{judgement_from}
use Rattle.segment_judge.specs.Standings.{RowGives, Standing, judgement_after, judgement_or, accesses_at}
use Rattle.segment_judge.proofs.Parts.{counted_twice, uncounted}

-- the same verdict, counted on twice, after what was touched
abbrev judgement_with : Verdict → List Accesses → Judgement (List Core) → Judgement (List Core)
judgement_with verdict accesses rest = record { verdict = verdict; end = rest.end; accesses = accesses }

counted_rest : (before : Standing) (valid : ℕ) (accesses : List Accesses) (rest : Judgement (List Core))
    → judgement_with (verdict_after_rows before.rows before.valid (verdict_after_rows 1 valid rest.verdict))
    (before.accesses ++ (accesses ++ rest.accesses)) rest
    ≡ judgement_with (verdict_after_rows (before.rows + 1) (before.valid + valid) rest.verdict)
    ((before.accesses ++ accesses) ++ rest.accesses) rest
counted_rest before valid accesses rest =
    rw (
      counted_twice before.rows before.valid 1 valid rest.verdict,
      append_assoc before.accesses accesses rest.accesses,
    ) refl

pub refused_gives : (before : Standing) (fault : RowFault)
    → RowGives before (Err fault) (Some (Refused (before.rows + 1) fault))
    (record before { accesses = before.accesses ++ [] })
unfolding judgement_after judgement_of
refused_gives before fault rows = refl

pub invalid_gives : (before : Standing)
    → RowGives before (Ok None) None (record before { rows = before.rows + 1; accesses = before.accesses ++ [] })
unfolding judgement_after judgement_of
invalid_gives before rows =
    let none : before.valid + 0 ≡ before.valid = omega arith in
    let rest = judgement_of by_set before.state.core rows before.state.bytes in
    counted_rest before 0 [] rest
    ∙ ap (λ valid. judgement_with (verdict_after_rows (before.rows + 1) valid rest.verdict)
    ((before.accesses ++ []) ++ rest.accesses) rest) none

-- what the hart did at a row
abbrev expected_at : SetState → Shown → Expected
expected_at state shown = ((set_step_of state.core shown).run state.bytes).value.expected

-- after a valid row
abbrev pub after_valid : Standing → Shown → ℕ → Standing
after_valid before shown valid = record {
  state = set_after_row before.state shown;
  rows = before.rows + 1;
  valid = valid;
  accesses = before.accesses ++ accesses_at before.state (Ok (Some shown));
}

pub agreed_gives : (before : Standing) (shown : Shown) → difference_of (expected_at before.state shown) shown ≡ None
    → RowGives before (Ok (Some shown)) None (after_valid before shown (before.valid + 1))
unfolding judgement_after judgement_of by_set mapped
agreed_gives before shown agrees rows =
    let now = set_after_row before.state shown in
    rw agrees (counted_rest before 1 (accesses_at before.state (Ok (Some shown)))
    (judgement_of by_set now.core rows now.bytes))

pub differing_gives : (before : Standing) (shown : Shown) (difference : Difference)
    → difference_of (expected_at before.state shown) shown ≡ Some difference
    → RowGives before (Ok (Some shown)) (Some (Differs (before.rows + 1) difference))
    (after_valid before shown before.valid)
unfolding judgement_after judgement_of by_set mapped
differing_gives before shown difference differs rows = rw differs refl

-- a step that was performed
pub performed_state : (state : SetState) (shown : Shown) (next : List Core) (expected : Expected) (seen : List Read)
    (wrote : List Write) (bytes : Bytes)
    → Performs (set_step_of state.core shown) (record { next = next; expected = expected }) [] seen [] wrote state.bytes
    bytes → record { core = next; bytes = bytes } ≡ set_after_row state shown
performed_state state shown next expected seen wrote bytes done =
    let core : next ≡ ((set_step_of state.core shown).run state.bytes).value.next =
    ap (λ gave. gave.next) done.value_is in
    rw (core, done.bytes_are) refl

pub performed_touched : (state : SetState) (shown : Shown) (next : List Core) (expected : Expected) (seen : List Read)
    (wrote : List Write) (bytes : Bytes)
    → Performs (set_step_of state.core shown) (record { next = next; expected = expected }) [] seen [] wrote state.bytes
    bytes → accesses_at state (Ok (Some shown)) ≡ record { reads = seen; wrote = wrote } ∷ []
performed_touched state shown next expected seen wrote bytes done = rw (done.seen_is, done.wrote_is) refl

drop_from : {A : Type 0} (xs : List A) (i : ℕ) (x : A) → Some x ≡ slice_get xs i → drop i xs ≡ x ∷ drop (suc i) xs
drop_from [] i x is = absurd cc
drop_from (y ∷ xs) zero x is = let same : x ≡ y = cc in rw same refl
drop_from (y ∷ xs) (suc i) x is = drop_from xs i x is

pub drop_found : {A : Type 0} (xs : List A) (i : ℕ) (x : A) → Some x ≡ slice_get xs i → drop i xs ≡ x ∷ drop (i + 1) xs
drop_found xs i x is = rw add-one (drop_from xs i x is)

pub row_turn : {row : RowReading} {whole : Judgement (List Core)} (before now : Standing) (rows : List RowReading)
    (place : ℕ) (end : Option Verdict) → Some row ≡ slice_get rows place → RowGives before row end now
    → judgement_after before (drop place rows) ≡ whole → judgement_or end now (drop (place + 1) rows) ≡ whole
row_turn {row} before now rows place end here gives so_far =
    sym (gives (drop (place + 1) rows))
    ∙ sym (ap (λ rest. judgement_after before rest) (drop_found rows place row here)) ∙ so_far

-- no row is left
pub rows_end : (before : Standing) (rows : List RowReading) (place : ℕ) (whole : Judgement (List Core))
    → length rows ≤ place → judgement_after before (drop place rows) ≡ whole
    → record { verdict = Agrees before.rows before.valid; end = Some before.state.core; accesses = before.accesses }
    ≡ whole
unfolding judgement_after judgement_of
rows_end before rows place whole past so_far =
    let rows_same : before.rows + 0 ≡ before.rows = omega arith in
    let valid_same : before.valid + 0 ≡ before.valid = omega arith in
    let all : record {
      verdict =
          Agrees before.rows before.valid;
      end = Some before.state.core;
      accesses = before.accesses;
    }
    ≡ judgement_after before [] = rw (rows_same, valid_same, append-nil before.accesses) refl in
    all ∙ sym (ap (λ rest. judgement_after before rest) (drop_all place rows past)) ∙ so_far

-- nothing was judged yet
pub rows_begin : (state : SetState) (rows : List RowReading)
    → judgement_after (record { state = state; rows = 0; valid = 0; accesses = [] }) rows
    ≡ judgement_from by_set state rows
unfolding judgement_after
rows_begin state rows =
    let rest = judgement_from by_set state rows in
    ap (λ verdict. judgement_with verdict rest.accesses rest) (uncounted rest.verdict)
