-- A row that shows a column of a control and status register is compared with the registers that are carried.
use Rattle.std.proofs.Common.{◌≡◌, ◌∙◌, sym, ap, refl, subst, ℕ, zero, suc, ◌==◌, Bool, true, false, ◌&&◌, bit_and}
use Rattle.std.proofs.Common.{List, [], ◌∷◌, slice_get, Option, Some, None, if◌then◌else◌}
use Rattle.std.specs.Prelude.{◌||◌, option_map}
use Rattle.std.specs.List.{list_any}
use Rattle.std.specs.Option.{is_some}
use Rattle.std.proofs.lemmas.Bool.{eqb-true}
use Rattle.hart_words.specs.Memory.{Bytes}
use Rattle.hart_words.specs.Signals.{Shown, index_of, signal_entry_of}
use Rattle.hart_words.specs.declared.signal.CsrName.{CsrName}
use Rattle.hart_words.specs.declared.signal.CsrSide.{CsrSide}
use Rattle.hart_words.specs.declared.signal.CsrSide.TheVariants.{Rdata, Wdata}
use Rattle.hart_words.specs.declared.signal.Difference.{Difference}
use Rattle.hart_words.specs.declared.signal.Signal.{Signal}
use Rattle.hart_words.specs.declared.signal.Signal.TheVariants.{Csr}
use Rattle.hart_words.specs.declared.signal.SignalEntry.{SignalEntry}
use Rattle.hart_words.specs.declared.signal.TheConstants.{SIGNALS}
use Rattle.hart_words.proofs.SignalTable.{stands_at_its_index}
use Rattle.rvfi_rows.specs.Rows.{is_csr, shows_csr}
use Rattle.rvfi_rows.specs.declared.expected.CsrsAround.{CsrsAround}
use Rattle.rvfi_rows.specs.declared.expected.Expected.{Expected}
use Rattle.rvfi_rows.specs.declared.expected.Expected.TheVariants as expected
use Rattle.row_compare.specs.declared.expected_signal.ExpectedSignal.{ExpectedSignal}
use Rattle.row_compare.specs.Difference.{difference_between, signal_difference}
use Rattle.row_compare.specs.Signals.{csr_after, csr_before, expected_signal}
use Rattle.row_compare.proofs.Among.{agrees_in_all}
use Rattle.hart_step.specs.declared.state.Core.{Core}
use Rattle.hart_step.specs.Choices.{pending_lines_of}
use Rattle.hart_step.specs.Instructions.{instruction_run}
use Rattle.hart_step.specs.Steps.{before_instruction, core_after_run, csrs_around, expected_of}
use Rattle.hart_step.proofs.Phases.{expected_running, next_running}
use Rattle.hart_laws.specs.Columns.{IsComparedWith, IsWanted, done_by, had_before, has_after}

-- ---- a row that shows one column of a register shows some column of one

or_true : (first : Bool) → (first || true) ≡ true
or_true true = refl
or_true false = refl

any_at : (test : SignalEntry → Bool) (entries : List SignalEntry) (i : ℕ) (entry : SignalEntry)
    → Some entry ≡ slice_get entries i → test entry ≡ true → list_any test entries ≡ true
any_at test [] i entry at is = absurd cc
any_at test (first ∷ entries) zero entry at is =
    let same : entry ≡ first = cc in
    ap (λ here. here || list_any test entries) (ap test (sym same) ∙ is)
any_at test (first ∷ entries) (suc i) entry at is =
    ap (λ rest. test first || rest) (any_at test entries i entry at is) ∙ or_true (test first)

shows_at : (shown : Shown) (signal : Signal) (found : Option SignalEntry)
    → found ≡ slice_get SIGNALS (index_of signal) → option_map (λ entry. entry.signal) found ≡ Some signal
    → (is_csr signal && is_some (shown signal)) ≡ true → shows_csr shown ≡ true
unfolding shows_csr
shows_at shown signal None at is here = absurd cc
shows_at shown signal (Some entry) at is here =
    let same : signal ≡ entry.signal = cc in
    any_at (λ e. is_csr e.signal && is_some (shown e.signal)) SIGNALS (index_of signal) entry at
    (subst (λ s. (is_csr s && is_some (shown s)) ≡ true) same here)

shows_one : (shown : Shown) (name : CsrName) (side : CsrSide) (value : ℕ) → shown (Csr name side) ≡ Some value
    → shows_csr shown ≡ true
unfolding signal_entry_of
shows_one shown name side value is =
    let signal = Csr name side in
    shows_at shown signal (slice_get SIGNALS (index_of signal)) refl (stands_at_its_index signal) (ap is_some is)

-- ---- what is wanted of it is compared

under_mask : (want found : ℕ) (difference : Difference) (test : Bool) → (want == found) ≡ test
    → (if test then None else Some difference) ≡ None → want ≡ found
under_mask want found difference true is none = eqb-true want found is
under_mask want found difference false is none = absurd cc

between : (signal : Signal) (value : ℕ) (want : ExpectedSignal)
    → difference_between signal (Some value) (Some want) ≡ None → bit_and want.value want.mask ≡ bit_and value want.mask
between signal value want none =
    under_mask (bit_and want.value want.mask) (bit_and value want.mask)
    (record { signal = signal; expected = bit_and want.value want.mask; found = bit_and value want.mask })
    (bit_and want.value want.mask == bit_and value want.mask) refl none

compared : (expected : Expected) (shown : Shown) (signal : Signal) (value : ℕ) (want : ExpectedSignal)
    → shown signal ≡ Some value → IsWanted expected shown signal want → IsComparedWith expected shown signal value want
unfolding signal_difference
compared expected.Halted shown signal value want is wanted = absurd wanted
compared (expected.Retired retired) shown signal value want is wanted = record {
  is_wanted = wanted;
  agrees = λ none.
      between signal value want
      (ap (λ s. difference_between signal s (Some want)) (sym is)
      ∙ ap (difference_between signal (shown signal)) (sym wanted)
      ∙ agrees_in_all retired shown none signal);
}

pub compared_before : (core : Core) (shown : Shown) (bytes : Bytes) (name : CsrName) (value : ℕ) → core.halted ≡ false
    → shown (Csr name Rdata) ≡ Some value
    → IsComparedWith (done_by core shown bytes) shown (Csr name Rdata) value (had_before core shown name)
unfolding expected_of expected_signal
compared_before core shown bytes name value runs is =
    let done = ((instruction_run (before_instruction core shown) shown).run bytes).value in
    let before = (before_instruction core shown).csrs in
    let lines = (pending_lines_of shown).up in
    let P : Expected → Type 0 = λ e. IsWanted e shown (Csr name Rdata) (had_before core shown name) in
    let of : CsrsAround → ExpectedSignal = λ csrs. csr_before csrs.before name lines shown in
    compared (done_by core shown bytes) shown (Csr name Rdata) value (had_before core shown name) is
    (subst P (sym (expected_running core shown bytes runs))
    (ap (λ carries. option_map of (csrs_around carries before (core_after_run done shown).csrs))
    (shows_one shown name Rdata value is)))

pub compared_after : (core : Core) (shown : Shown) (bytes : Bytes) (name : CsrName) (value : ℕ) → core.halted ≡ false
    → shown (Csr name Wdata) ≡ Some value
    → IsComparedWith (done_by core shown bytes) shown (Csr name Wdata) value (has_after core shown bytes name)
unfolding expected_of expected_signal
compared_after core shown bytes name value runs is =
    let done = ((instruction_run (before_instruction core shown) shown).run bytes).value in
    let before = (before_instruction core shown).csrs in
    let lines = (pending_lines_of shown).up in
    let P : Expected → Type 0 = λ e. IsWanted e shown (Csr name Wdata) (has_after core shown bytes name) in
    let of : CsrsAround → ExpectedSignal = λ csrs. csr_after csrs.after name lines shown in
    compared (done_by core shown bytes) shown (Csr name Wdata) value (has_after core shown bytes name) is
    (subst P (sym (expected_running core shown bytes runs))
    (ap (λ carries. option_map of (csrs_around carries before (core_after_run done shown).csrs))
    (shows_one shown name Wdata value is)
    ∙ ap (λ k. Some (csr_after k.csrs name lines shown)) (sym (next_running core shown bytes runs))))
