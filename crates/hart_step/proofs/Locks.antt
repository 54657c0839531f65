-- A locked entry outlasts every step.
use Rattle.std.proofs.Common.{◌≤◌}
use Rattle.std.proofs.Common.{◌≡◌, ◌↔◌, ℕ, zero, suc, ◌-◌, ◌/◌, ◌%◌, ◌^◌, ◌<◌, Bool, true, false, inl, inr, refl, sym}
use Rattle.std.proofs.Common.{ap, ◌∙◌, subst, arith, if◌then◌else◌, List, [], ◌∷◌, nat_lt, take}
use Rattle.std.specs.Prelude.{◌==◌, slice_index_or}
use Rattle.std.proofs.lemmas.Bool.{cases_Bool, and_from}
use Rattle.std.proofs.lemmas.Bool.Decides.{nat_tests}
use Rattle.hart_words.specs.declared.privilege.PmpEntry.{PmpEntry}
use Rattle.hart_words.specs.Memory.{Bytes}
use Rattle.hart_words.specs.Signals.{Shown}
use Rattle.pmp_check.specs.declared.region.Matching.TheVariants.{Off, TopOfRange, FourBytes, PowerOfTwo}
use Rattle.pmp_check.specs.Protection.{matching_of}
use Rattle.pmp_check.specs.Covering.{CoversAs, entry_at, register_before}
use Rattle.csr_file.specs.declared.csrs.Csrs.{Csrs}
use Rattle.csr_file.specs.declared.fields.TheConstants.{PMP_LOCK}
use Rattle.csr_file.specs.Fields.{bit_is_set}
use Rattle.csr_file.specs.Registers.{no_entry, pmp_entries_of, pmp_entry_of}
use Rattle.csr_file.specs.declared.profile.CsrProfile.{CsrProfile}
use Rattle.csr_file.specs.Profiles.{entry_count_of}
use Rattle.csr_file.specs.Values.{configuration_of, has_entry, is_locked_from_below}
use Rattle.csr_file.specs.Laws.{KeepsLocked}
use Rattle.csr_file.proofs.Writes.{leaves_locked}
use Rattle.hart_step.specs.declared.state.Core.{Core}
use Rattle.hart_step.specs.Instructions.{instruction_run}
use Rattle.hart_step.specs.Steps.{before_instruction, core_after_run}
use Rattle.hart_step.specs.Laws.{next_of}
use Rattle.hart_step.specs.ProtectionLaws.{is_locked, CoversTheSame, LocksArePreserved}
use Rattle.hart_step.proofs.Phases.{next_running, next_halted}
use Rattle.hart_step.proofs.Entries.{ChangesIn, KeepsEntries, begun_keeps, finished_keeps, ran_changes}

same_entry : (before after : Csrs) (number : ℕ) → KeepsEntries before after
    → pmp_entry_of after number ≡ pmp_entry_of before number
same_entry before after number same = ap (λ entries. slice_index_or entries number no_entry) same.1

same_lock : (before after : Csrs) (number : ℕ) → KeepsEntries before after → is_locked before number ≡ true
    → is_locked after number ≡ true
same_lock before after number same locked =
    ap (λ entries. bit_is_set (slice_index_or entries number no_entry).cfg PMP_LOCK) same.1 ∙ locked

-- one that the same entries, a write or nothing leaves
kept_by_same : (before after : Csrs) (number : ℕ) → KeepsEntries before after → KeepsLocked before after number
kept_by_same before after number same = record {
  profile = same.0;
  entry = same_entry before after number same;
  below = λ begins. ap (λ entry. entry.addr) (same_entry before after (number - 1) same);
}

kept_after : (one two three : Csrs) (number : ℕ) → KeepsLocked one two number → KeepsLocked two three number
    → KeepsLocked one three number
kept_after one two three number first second = record {
  profile = second.profile ∙ first.profile;
  entry = second.entry ∙ first.entry;
  below =
      λ begins. second.below (ap (λ entry. is_locked_from_below entry.cfg) first.entry ∙ begins) ∙ first.below begins;
}

kept_by_change : (core : Core) (after : Csrs) (number : ℕ) → number < 16 → is_locked core.csrs number ≡ true
    → ChangesIn core.mode core.csrs after → KeepsLocked core.csrs after number
kept_by_change core after number below locked changes = elim changes [
  | inl same ↦ kept_by_same core.csrs after number same
  | inr write ↦
      let P : Csrs → Type 0 = λ csrs. KeepsLocked core.csrs csrs number in
      subst P (sym write.written) (leaves_locked core.csrs write.csr write.value number below locked)
]

kept_running : (core : Core) (shown : Shown) (bytes : Bytes) (number : ℕ) → core.halted ≡ false → number < 16
    → is_locked core.csrs number ≡ true → KeepsLocked core.csrs (next_of core shown bytes).csrs number
kept_running core shown bytes number runs below locked =
    let begins = before_instruction core shown in
    let done = ((instruction_run begins shown).run bytes).value in
    let P : Core → Type 0 = λ k. KeepsLocked core.csrs k.csrs number in
    let entry = kept_by_same core.csrs begins.csrs number (begun_keeps core shown) in
    let runs_on =
    kept_by_change begins done.core.csrs number below
    (same_lock core.csrs begins.csrs number (begun_keeps core shown) locked) (ran_changes begins shown bytes) in
    let ends = kept_by_same done.core.csrs (core_after_run done shown).csrs number (finished_keeps done shown) in
    subst P (sym (next_running core shown bytes runs))
    (kept_after core.csrs begins.csrs (core_after_run done shown).csrs number entry
    (kept_after begins.csrs done.core.csrs (core_after_run done shown).csrs number runs_on ends))

kept : (core : Core) (shown : Shown) (bytes : Bytes) (number : ℕ) → number < 16 → is_locked core.csrs number ≡ true
    → KeepsLocked core.csrs (next_of core shown bytes).csrs number
kept core shown bytes number below locked = elim (cases_Bool core.halted) [
  | inl halted ↦
      kept_by_same core.csrs (next_of core shown bytes).csrs number (
        ap (λ k. k.csrs.profile) (next_halted core shown bytes halted),
        ap (λ k. k.csrs.entries) (next_halted core shown bytes halted),
      )
  | inr runs ↦ kept_running core shown bytes number runs below locked
]

-- what an entry covers is by the entry before it in TOR alone
same_bytes : (cfg addr one other a : ℕ) → ((cfg / 2 ^ 3 % 4 == 1) ≡ true → other ≡ one)
    → CoversAs (matching_of cfg) one addr a → CoversAs (matching_of cfg) other addr a
same_bytes cfg addr one other a same =
    by (cfg / 2 ^ 3 % 4 == 0) (cfg / 2 ^ 3 % 4 == 1) (cfg / 2 ^ 3 % 4 == 2) same
  where
    by : (off top four : Bool) → (top ≡ true → other ≡ one)
        → CoversAs (if off then Off else if top then TopOfRange else if four then FourBytes else PowerOfTwo) one addr a
        → CoversAs (if off then Off else if top then TopOfRange else if four then FourBytes else PowerOfTwo)
        other addr a
    by true top four is covers = covers
    by false true four is covers = subst (λ (b : ℕ). CoversAs TopOfRange b addr a) (sym (is refl)) covers
    by false false true is covers = covers
    by false false false is covers = covers

-- an entry among the first so many
first_of : ℕ → List PmpEntry → ℕ → PmpEntry
first_of count entries number = if nat_lt number count then slice_index_or entries number no_entry else no_entry

entry_among : (count : ℕ) (entries : List PmpEntry) (number : ℕ)
    → entry_at (take count entries) number ≡ first_of count entries number
unfolding first_of
entry_among zero entries number = none_below (nat_lt number 0) refl
  where
    none_below : (within : Bool) → nat_lt number 0 ≡ within
        → no_entry ≡ (if within then slice_index_or entries number no_entry else no_entry)
    none_below true is =
        let below : number < 0 = grind (arith, nat_tests, is) in
        let never : ⊥ = omega (arith, below) in absurd never
    none_below false is = refl
entry_among (suc count) [] number = by (nat_lt number (suc count))
  where
    by : (within : Bool) → no_entry ≡ (if within then no_entry else no_entry)
    by true = refl
    by false = refl
entry_among (suc count) (entry ∷ entries) zero = here (nat_lt 0 (suc count)) refl
  where
    here : (within : Bool) → nat_lt 0 (suc count) ≡ within → entry ≡ (if within then entry else no_entry)
    here true is = refl
    here false is =
        let past : suc count ≤ 0 = grind (arith, nat_tests, is) in
        let never : ⊥ = omega (arith, past) in absurd never
entry_among (suc count) (entry ∷ entries) (suc number) =
    later (nat_lt (suc number) (suc count)) (nat_lt number count) refl refl (entry_among count entries number)
  where
    later : (here there : Bool) → nat_lt (suc number) (suc count) ≡ here → nat_lt number count ≡ there
        → entry_at (take count entries) number ≡ (if there then slice_index_or entries number no_entry else no_entry)
        → entry_at (take count entries) number ≡ (if here then slice_index_or entries number no_entry else no_entry)
    later true true h t is = is
    later false false h t is = is
    later true false h t is = let never : ⊥ = grind (arith, nat_tests, h, t) in absurd never
    later false true h t is = let never : ⊥ = grind (arith, nat_tests, h, t) in absurd never

-- the entry with a number that the core has
pub entry_had : (csrs : Csrs) (number : ℕ)
    → entry_at (pmp_entries_of csrs) number ≡ (if has_entry csrs number then pmp_entry_of csrs number else no_entry)
unfolding first_of
entry_had csrs number = entry_among (entry_count_of csrs.profile.entry_count) csrs.entries number

had_kept : (before after : Csrs) (number : ℕ) → after.profile ≡ before.profile
    → pmp_entry_of after number ≡ pmp_entry_of before number
    → entry_at (pmp_entries_of after) number ≡ entry_at (pmp_entries_of before) number
had_kept before after number profile same =
    entry_had after number
    ∙ ap (λ (p : CsrProfile). if nat_lt number (entry_count_of p.entry_count) then pmp_entry_of after number
    else no_entry) profile
    ∙ ap (λ entry. if has_entry before number then entry else no_entry) same ∙ sym (entry_had before number)

addr_kept : (before after : Csrs) (number : ℕ) → after.profile ≡ before.profile
    → (pmp_entry_of after number).addr ≡ (pmp_entry_of before number).addr
    → (entry_at (pmp_entries_of after) number).addr ≡ (entry_at (pmp_entries_of before) number).addr
addr_kept before after number profile same =
    ap (λ (entry : PmpEntry). entry.addr) (entry_had after number)
    ∙ ap (λ (p : CsrProfile). (if nat_lt number (entry_count_of p.entry_count) then pmp_entry_of after number
    else no_entry).addr) profile
    ∙ by (has_entry before number) same ∙ ap (λ (entry : PmpEntry). entry.addr) (sym (entry_had before number))
  where
    by : (has : Bool) → (pmp_entry_of after number).addr ≡ (pmp_entry_of before number).addr
        → (if has then pmp_entry_of after number else no_entry).addr
        ≡ (if has then pmp_entry_of before number else no_entry).addr
    by true is = is
    by false is = refl

-- an entry that begins at the address of the one before it is one that the core has
top_had : (csrs : Csrs) (number : ℕ) → ((entry_at (pmp_entries_of csrs) number).cfg / 2 ^ 3 % 4 == 1) ≡ true
    → (configuration_of csrs number / 2 ^ 3 % 4 == 1) ≡ true
top_had csrs number top = by (has_entry csrs number) (ap (λ (e : PmpEntry). e.cfg / 2 ^ 3 % 4 == 1) (sym (entry_had csrs number)) ∙ top)
  where
    by : (has : Bool) → ((if has then pmp_entry_of csrs number else no_entry).cfg / 2 ^ 3 % 4 == 1) ≡ true
        → (configuration_of csrs number / 2 ^ 3 % 4 == 1) ≡ true
    by true is = is
    by false is = cc

-- the address of the entry before a locked one, where it counts
before_it : (before after : Csrs) (number : ℕ) → is_locked before number ≡ true → KeepsLocked before after number
    → ((entry_at (pmp_entries_of before) number).cfg / 2 ^ 3 % 4 == 1) ≡ true
    → register_before 0 (pmp_entries_of after) number ≡ register_before 0 (pmp_entries_of before) number
before_it before after zero locked keeps top = refl
before_it before after (suc number) locked keeps top =
    let begins : is_locked_from_below (configuration_of before (suc number)) ≡ true =
    and_from (is_locked before (suc number)) (configuration_of before (suc number) / 2 ^ 3 % 4 == 1) locked
    (top_had before (suc number) top) in
    let is : suc number - 1 ≡ number = omega arith in
    let P : ℕ → Type 0 = λ n. (pmp_entry_of after n).addr ≡ (pmp_entry_of before n).addr in
    addr_kept before after number keeps.profile (subst P is (keeps.below begins))

covers_same : (before after : Csrs) (number : ℕ) → is_locked before number ≡ true → KeepsLocked before after number
    → CoversTheSame before after number
covers_same before after number locked keeps a =
    let entry = entry_at (pmp_entries_of before) number in
    let now = register_before 0 (pmp_entries_of after) number in
    let was = register_before 0 (pmp_entries_of before) number in
    let top = before_it before after number locked keeps in
    let P : PmpEntry → Type 0 =
    λ e. CoversAs (matching_of e.cfg) now e.addr a ↔ CoversAs (matching_of entry.cfg) was entry.addr a in
    subst P (sym (had_kept before after number keeps.profile keeps.entry)) (
      same_bytes entry.cfg entry.addr now was a (λ h. sym (top h)),
      same_bytes entry.cfg entry.addr was now a top,
    )

pub locks_outlast : (core : Core) (shown : Shown) (bytes : Bytes)
    → LocksArePreserved core.csrs (next_of core shown bytes).csrs
locks_outlast core shown bytes number below locked =
    let keeps = kept core shown bytes number below locked in
    record { keeps = keeps; covers = covers_same core.csrs (next_of core shown bytes).csrs number locked keeps }

-- one after the other
pub same_outlasts : (csrs : Csrs) → LocksArePreserved csrs csrs
same_outlasts csrs number below locked =
    record { keeps = kept_by_same csrs csrs number (refl, refl); covers = λ a. (λ covers. covers, λ covers. covers) }

pub still_locked : (before after : Csrs) (number : ℕ) → KeepsLocked before after number
    → is_locked before number ≡ true → is_locked after number ≡ true
still_locked before after number keeps locked = ap (λ entry. bit_is_set entry.cfg PMP_LOCK) keeps.entry ∙ locked

pub locks_after : (one two three : Csrs) → LocksArePreserved one two → LocksArePreserved two three
    → LocksArePreserved one three
locks_after one two three first second number below locked =
    let early = first number below locked in
    let late = second number below (still_locked one two number early.keeps locked) in
    record {
      keeps = kept_after one two three number early.keeps late.keeps;
      covers =
          λ a. (
            λ covers. (early.covers a).0 ((late.covers a).0 covers),
            λ covers. (late.covers a).1 ((early.covers a).1 covers),
          );
    }
