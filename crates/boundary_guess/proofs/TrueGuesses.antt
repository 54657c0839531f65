-- Guesses after rows and segments that agree, and show their changes, are the true states.
use Rattle.std.proofs.Common.{◌≡◌, ℕ, zero, suc, ◌-◌, ◌^◌, ◌<◌, ◌==◌, Bool, true, false, if◌then◌else◌, List, [], ◌∷◌}
use Rattle.std.proofs.Common.{◌++◌, map, Some, None, Ok, Err, refl, ap, ◌∙◌, subst, sym, lit<}
use Rattle.std.specs.Prelude.{All, replicate, slice_index}
use Rattle.std.proofs.lemmas.List.Concat.{flat_map-cons}
use Rattle.std.proofs.lemmas.List.Elements.{All-cons, All-head, All-nil, All-replicate, All-tail, All-weaker}
use Rattle.hart_words.specs.declared.map.Map.{Map}
use Rattle.hart_words.specs.declared.choices.Choices.{Choices}
use Rattle.hart_words.specs.Memory.{Bytes}
use Rattle.hart_words.specs.Registers.{register_of, registers_at_reset}
use Rattle.csr_file.specs.declared.stored_csr.StoredCsr.{StoredCsr}
use Rattle.csr_file.specs.declared.profile.CsrProfile.{CsrProfile}
use Rattle.csr_file.specs.Registers.{at, csrs_at_reset_of, no_entry}
use Rattle.csr_file.proofs.Legal.{fixed_at}
use Rattle.csr_file.proofs.Profiles.{fixed_fits}
use Rattle.rvfi_rows.specs.Columns.{TraceColumns}
use Rattle.rvfi_rows.specs.Rows.{RowReading, rows_of}
use Rattle.rvfi_rows.proofs.PortRows.{rows_append}
use Rattle.hart_step.specs.Cores.{IsSound, core_at_reset_of}
use Rattle.hart_step.specs.declared.state.Core.{Core}
use Rattle.hart_step.specs.HartSets.{SetHoldsWords, SetState, set_after_row}
use Rattle.hart_step.specs.Harts.{CoreHoldsWords}
use Rattle.boundary_guess.specs.Pieces.{lines_of_pieces}
use Rattle.boundary_guess.specs.Guesses.{guess_after, guesses_of}
use Rattle.boundary_guess.specs.Truth.{Agree, SetNoMarks, ShowChanges, StaysSound, true_starts, true_state_after}
use Rattle.boundary_guess.specs.Truth.{state_at_reset}
use Rattle.boundary_guess.proofs.CoreWords.{IsSane}
use Rattle.boundary_guess.proofs.SetRows.{IsSaneState, row_is_true, row_keeps_no_marks, row_keeps_sane}
use Rattle.boundary_guess.proofs.ShownWords.{AllReadWords, rows_words}

-- ---- rows

-- A and D that are clear stay page faults
pub rows_keep : (rows : List RowReading) (state : SetState) → SetNoMarks state.core
    → SetNoMarks (true_state_after state rows).core
unfolding true_state_after
rows_keep [] state faults = faults
rows_keep (Err fault ∷ rows) state faults = faults
rows_keep (Ok None ∷ rows) state faults = rows_keep rows state faults
rows_keep (Ok (Some shown) ∷ rows) state faults =
    rows_keep rows (set_after_row state shown) (row_keeps_no_marks state shown faults)

pub record IsGuessedRightly (state : SetState) (rows : List RowReading) : Type 0 where
  pub guess : guess_after state rows ≡ true_state_after state rows
  pub sane : IsSaneState (true_state_after state rows)

rows_true : (rows : List RowReading) (state : SetState) → IsSaneState state → SetNoMarks state.core
    → AllReadWords rows → Agree state rows → ShowChanges rows → IsGuessedRightly state rows
unfolding guess_after true_state_after Agree ShowChanges AllReadWords
rows_true [] state sane faults words agree show = record { guess = refl; sane = sane }
rows_true (Err fault ∷ rows) state sane faults words agree show = absurd agree
rows_true (Ok None ∷ rows) state sane faults words agree show =
    let more = rows_true rows state sane faults words.1 agree show in
    record { guess = more.guess; sane = more.sane }
rows_true (Ok (Some shown) ∷ rows) state sane faults words agree show =
    let next = row_keeps_sane state shown sane words.0 in
    let right = row_is_true state shown sane faults show.0 words.0 agree.0 in
    let more =
    rows_true rows (set_after_row state shown) next (row_keeps_no_marks state shown faults) words.1 agree.1 show.1 in
    record { guess = ap (λ s. guess_after s rows) right ∙ more.guess; sane = more.sane }

-- ---- rows before others

pub agree_parts : (front back : List RowReading) (state : SetState) → Agree state (front ++ back)
    → Agree state front × Agree (true_state_after state front) back
unfolding Agree true_state_after
agree_parts [] back state agree = (tt, agree)
agree_parts (Err fault ∷ front) back state agree = absurd agree
agree_parts (Ok None ∷ front) back state agree = agree_parts front back state agree
agree_parts (Ok (Some shown) ∷ front) back state agree =
    let more = agree_parts front back (set_after_row state shown) agree.1 in
    ((agree.0, more.0), more.1)

show_parts : (front back : List RowReading) → ShowChanges (front ++ back) → ShowChanges front × ShowChanges back
unfolding ShowChanges
show_parts [] back show = (tt, show)
show_parts (Err fault ∷ front) back show = show_parts front back show
show_parts (Ok None ∷ front) back show = show_parts front back show
show_parts (Ok (Some shown) ∷ front) back show =
    let more = show_parts front back show.1 in
    ((show.0, more.0), more.1)

-- ---- segments

rows_split : (columns : TraceColumns) (lines : List (List ℕ)) (segments : List (List (List ℕ)))
    → rows_of columns (lines_of_pieces (lines ∷ segments)) ≡ rows_of columns lines
    ++ rows_of columns (lines_of_pieces segments)
rows_split columns lines segments =
    ap (rows_of columns) (flat_map-cons (λ (piece : List (List ℕ)). piece) lines segments)
    ∙ rows_append columns lines (lines_of_pieces segments)

segments_true : (segments : List (List (List ℕ))) (last : List (List ℕ)) (columns : TraceColumns) (state : SetState)
    → IsSaneState state → SetNoMarks state.core
    → Agree state (rows_of columns (lines_of_pieces segments))
    → ShowChanges (rows_of columns (lines_of_pieces segments))
    → guesses_of state columns (segments ++ last ∷ []) ≡ true_starts state columns (segments ++ last ∷ [])
unfolding guesses_of true_starts
segments_true [] last columns state sane faults agree show = refl
segments_true (lines ∷ segments) last columns state sane faults agree show =
    let rows = rows_of columns lines in
    let later = rows_of columns (lines_of_pieces segments) in
    let agreed = agree_parts rows later state (subst (Agree state) (rows_split columns lines segments) agree) in
    let showed = show_parts rows later (subst ShowChanges (rows_split columns lines segments) show) in
    let here = rows_true rows state sane faults (rows_words columns lines) agreed.0 showed.0 in
    ap (λ next. state ∷ guesses_of next columns (segments ++ last ∷ [])) here.guess
    ∙ ap (λ more. state ∷ more)
    (segments_true segments last columns (true_state_after state rows) here.sane (rows_keep rows state faults) agreed.1
    showed.1)

-- ---- states

core_sane : (core : Core) → IsSound core → CoreHoldsWords core → IsSane core
core_sane core sound words = record {
  sound = sound;
  pc = words.pc;
  registers = words.registers;
  csrs = record { values = words.csrs; configurations = words.configurations };
}

cores_sane : (cores : List Core) → All IsSound cores → All CoreHoldsWords cores → All IsSane cores
cores_sane [] sound words = All-nil IsSane
cores_sane (core ∷ cores) sound words =
    All-cons IsSane core cores
    (core_sane core (All-head IsSound core cores sound) (All-head CoreHoldsWords core cores words))
    (cores_sane cores (All-tail IsSound core cores sound) (All-tail CoreHoldsWords core cores words))

sane_by : (state : SetState) → All IsSound state.core → SetHoldsWords state → IsSaneState state
sane_by state sound words =
    record { cores = cores_sane state.core sound words.cores; bytes = words.bytes }

states_sane : (rows : List RowReading) (state : SetState) → IsSaneState state → AllReadWords rows
    → IsSaneState (true_state_after state rows)
unfolding true_state_after AllReadWords
states_sane [] state sane words = sane
states_sane (Err fault ∷ rows) state sane words = sane
states_sane (Ok None ∷ rows) state sane words = states_sane rows state sane words.1
states_sane (Ok (Some shown) ∷ rows) state sane words =
    states_sane rows (set_after_row state shown) (row_keeps_sane state shown sane words.0) words.1

core_words : (core : Core) → IsSane core → CoreHoldsWords core
core_words core sane = record {
  pc = sane.pc;
  registers = sane.registers;
  csrs = sane.csrs.values;
  configurations = sane.csrs.configurations;
}

words_by : (state : SetState) → IsSaneState state → SetHoldsWords state
words_by state sane = record {
  cores = All-weaker IsSane CoreHoldsWords core_words state.core sane.cores;
  bytes = sane.bytes;
}

zeros : (count i : ℕ) → slice_index (replicate count 0) i < 2 ^ 64
zeros zero i = lit< tt
zeros (suc count) zero = lit< tt
zeros (suc count) (suc i) = zeros count i

zero_or : (zeroth : Bool) (i : ℕ) → (if zeroth then 0 else slice_index (replicate 31 0) i) < 2 ^ 64
zero_or true i = lit< tt
zero_or false i = zeros 31 i

reset_registers : (number : ℕ) → register_of registers_at_reset number < 2 ^ 64
unfolding registers_at_reset
reset_registers number = zero_or (number == 0) (number - 1)

reset_csrs : (profile : CsrProfile) (stored : StoredCsr) → at (csrs_at_reset_of profile) stored < 2 ^ 64
reset_csrs profile stored =
    subst (λ value. value < 2 ^ 64) (sym (fixed_at profile stored)) (fixed_fits profile stored)

reset_configurations : (profile : CsrProfile) → All (λ entry. entry.cfg < 256) (csrs_at_reset_of profile).entries
unfolding csrs_at_reset_of
reset_configurations profile = All-replicate (λ entry. entry.cfg < 256) 16 no_entry (lit< tt)

core_at_reset_holds : (profile : CsrProfile) (pc : ℕ) (map : Map) (choices : Choices) → pc < 2 ^ 64
    → CoreHoldsWords (core_at_reset_of profile pc map choices)
unfolding core_at_reset_of
core_at_reset_holds profile pc map choices small = record {
  pc = small;
  registers = reset_registers;
  csrs = reset_csrs profile;
  configurations = reset_configurations profile;
}

pub reset_holds : (profile : CsrProfile) (harts pc : ℕ) (map : Map) (choices : Choices) (bytes : Bytes) → pc < 2 ^ 64
    → ((address : ℕ) → bytes address < 2 ^ 8) → SetHoldsWords (state_at_reset profile harts pc map choices bytes)
reset_holds profile harts pc map choices bytes small are = record {
  cores =
      All-replicate CoreHoldsWords harts (core_at_reset_of profile pc map choices)
      (core_at_reset_holds profile pc map choices small);
  bytes = are;
}

pub rows_stay : (state : SetState) (columns : TraceColumns) (lines : List (List ℕ)) → All IsSound state.core
    → SetHoldsWords state → StaysSound state (rows_of columns lines)
rows_stay state columns lines sound words =
    let last = true_state_after state (rows_of columns lines) in
    let after = states_sane (rows_of columns lines) state (sane_by state sound words) (rows_words columns lines) in
    record {
      sound = All-weaker IsSane IsSound (λ core sane. sane.sound) last.core after.cores;
      words = words_by last after;
    }

-- ---- the law

pub rows_guessed : (state : SetState) (columns : TraceColumns) (lines : List (List ℕ)) → All IsSound state.core
    → SetHoldsWords state → SetNoMarks state.core
    → Agree state (rows_of columns lines) → ShowChanges (rows_of columns lines)
    → guess_after state (rows_of columns lines) ≡ true_state_after state (rows_of columns lines)
rows_guessed state columns lines sound words faults agree show =
    (rows_true (rows_of columns lines) state (sane_by state sound words) faults (rows_words columns lines) agree
    show).guess

pub segments_guessed : (state : SetState) (columns : TraceColumns) (segments : List (List (List ℕ)))
    (last : List (List ℕ)) → All IsSound state.core → SetHoldsWords state → SetNoMarks state.core
    → Agree state (rows_of columns (lines_of_pieces segments))
    → ShowChanges (rows_of columns (lines_of_pieces segments))
    → guesses_of state columns (segments ++ last ∷ []) ≡ true_starts state columns (segments ++ last ∷ [])
segments_guessed state columns segments last sound words faults agree show =
    segments_true segments last columns state (sane_by state sound words) faults agree show
