-- A byte that no mode may write, by locked entries, outlasts rows in every mode.
use Rattle.std.proofs.Common.{◌≡◌, ℕ, zero, suc, ◌/◌, ◌%◌, ◌^◌, ◌<◌, ◌≤◌, Bool, true, false, ◌&&◌, List, [], ◌∷◌}
use Rattle.std.proofs.Common.{length, nat_lt, inl, inr, refl, sym, ap, ◌∙◌, subst, arith, lit<, if◌then◌else◌}
use Rattle.std.specs.Prelude.{◌==◌}
use Rattle.std.proofs.Math.ListN.{get_or-eq_default}
use Rattle.std.proofs.lemmas.Bool.{and_right, cases_Bool, cond-false, cond-true, false_from_ne_true}
use Rattle.std.proofs.lemmas.Bool.Decides.{nat_tests}
use Rattle.hart_words.specs.declared.privilege.Access.TheVariants as kind
use Rattle.hart_words.specs.declared.privilege.Mode.{Mode}
use Rattle.hart_words.specs.declared.privilege.Mode.TheVariants.{User, Supervisor, Machine}
use Rattle.hart_words.specs.declared.privilege.PmpEntry.{PmpEntry}
use Rattle.hart_words.specs.Signals.{Shown}
use Rattle.pmp_check.specs.Covering.{Covers, IsRegister, SomeByte, entry_at, register_before}
use Rattle.pmp_check.specs.Protection.{covers_all, covers_some, is_allowed, is_allowed_after, entry_permits, permits}
use Rattle.pmp_check.specs.Protection.{region_of}
use Rattle.pmp_check.proofs.Covering.{region_of-Covers, some_byte}
use Rattle.pmp_check.proofs.Deciding.{SomeByte-map, Touches, shift, accesses, unshift}
use Rattle.csr_file.specs.declared.csrs.Csrs.{Csrs}
use Rattle.csr_file.specs.declared.fields.TheConstants.{PMP_LOCK}
use Rattle.csr_file.specs.Fields.{bit_is_set}
use Rattle.csr_file.specs.Legal.{IsLegal}
use Rattle.csr_file.specs.Registers.{no_entry, pmp_entries_of, pmp_entry_of}
use Rattle.csr_file.specs.Values.{configuration_of, has_entry}
use Rattle.hart_step.specs.Cores.{IsSound}
use Rattle.hart_step.specs.Rows.{HartState, after_row, after_rows}
use Rattle.hart_step.specs.Steps.{before_instruction, step_of}
use Rattle.hart_step.specs.ProtectionLaws.{IsLockedByte, LocksArePreserved}
use Rattle.hart_step.proofs.Entries.{begun_entries}
use Rattle.hart_step.proofs.Permitted.{step_granted}
use Rattle.hart_step.proofs.Locks.{entry_had, locks_outlast, still_locked}
use Rattle.hart_step.proofs.Rows.{address_fits, refused_misses, unreached, writes_miss}

-- a locked entry without W refuses a store to every mode
by_lock : (cfg : ℕ) (unlocked : Bool) → (cfg / 2 ^ 7 % 2 == 0) ≡ unlocked → bit_is_set cfg PMP_LOCK ≡ true
    → permits cfg kind.Store ≡ false → (if unlocked then true else permits cfg kind.Store) ≡ false
by_lock cfg true is locked forbids = absurd (grind (arith, nat_tests, is, locked))
by_lock cfg false is locked forbids = forbids

permits_none : (cfg : ℕ) (mode : Mode) → bit_is_set cfg PMP_LOCK ≡ true → permits cfg kind.Store ≡ false
    → entry_permits cfg mode kind.Store ≡ false
unfolding entry_permits
permits_none cfg Machine locked forbids = by_lock cfg (cfg / 2 ^ 7 % 2 == 0) refl locked forbids
permits_none cfg Supervisor locked forbids = forbids
permits_none cfg User locked forbids = forbids

-- the first entry that covers a byte refuses it, whatever the entries after that one are
missed : (before : ℕ) (entry : PmpEntry) (byte : ℕ) → IsRegister entry → (SomeByte byte 1 (Covers before entry) → ⊥)
    → covers_some (region_of before entry) byte 1 ≡ false
missed before entry byte register none =
    let region = region_of before entry in
    false_from_ne_true (covers_some region byte 1)
    (λ e. none (SomeByte-map byte 1 (λ a. (region_of-Covers before entry a register).0)
    ((some_byte region byte 1).0 e)))

-- of the entries after one that ends at an address, the first that covers a byte
record IsLeast (first : ℕ) (entries : List PmpEntry) (number byte : ℕ) : Type 0 where
  pub registers : (lower : ℕ) → lower ≤ number → IsRegister (entry_at entries lower)
  pub touches : Touches first entries number byte 1
  pub none_before : (lower : ℕ) → lower < number → Touches first entries lower byte 1 → ⊥

refused_from : (first : ℕ) (entries : List PmpEntry) (number : ℕ) (mode : Mode) (byte : ℕ)
    → IsLeast first entries number byte → entry_permits (entry_at entries number).cfg mode kind.Store ≡ false
    → is_allowed_after first entries mode byte 1 kind.Store ≡ false
unfolding is_allowed_after
refused_from first [] zero mode byte is refuses = absurd is.touches.holds
refused_from first [] (suc number) mode byte is refuses = absurd is.touches.holds
refused_from first (entry ∷ entries) zero mode byte is refuses =
    let region = region_of first entry in
    let permitted = entry_permits entry.cfg mode kind.Store in
    cond-true (covers_some region byte 1) (covers_all region byte 1 && permitted)
    (is_allowed_after entry.addr entries mode byte 1 kind.Store)
    (accesses first entry byte 1 (is.registers 0 (omega arith)) is.touches)
    ∙ and_right (covers_all region byte 1) permitted refuses
refused_from first (entry ∷ entries) (suc number) mode byte is refuses =
    let region = region_of first entry in
    let permitted = entry_permits entry.cfg mode kind.Store in
    let later : IsLeast entry.addr entries number byte = record {
      registers = λ lower below. is.registers (suc lower) (omega (arith, below));
      touches = unshift first entry entries number byte 1 is.touches;
      none_before =
          λ lower below met. is.none_before (suc lower) (omega (arith, below))
          (shift first entry entries lower byte 1 met);
    } in
    cond-false (covers_some region byte 1) (covers_all region byte 1 && permitted)
    (is_allowed_after entry.addr entries mode byte 1 kind.Store)
    (missed first entry byte (is.registers 0 (omega arith)) (is.none_before 0 (omega arith)))
    ∙ refused_from entry.addr entries number mode byte later refuses

-- with no entries none covers a byte
refused_by : (entries : List PmpEntry) (number : ℕ) (mode : Mode) (byte : ℕ) → IsLeast 0 entries number byte
    → entry_permits (entry_at entries number).cfg mode kind.Store ≡ false
    → is_allowed entries mode byte 1 kind.Store ≡ false
unfolding is_allowed
refused_by [] zero mode byte is refuses = absurd is.touches.holds
refused_by [] (suc number) mode byte is refuses = absurd is.touches.holds
refused_by (entry ∷ entries) number mode byte is refuses = refused_from 0 (entry ∷ entries) number mode byte is refuses

-- what stays of a locked byte
record IsShut (csrs : Csrs) (byte : ℕ) : Type 0 where
  pub lock : IsLockedByte csrs byte
  pub registers : (lower : ℕ) → lower ≤ lock.number → IsRegister (pmp_entry_of csrs lower)

register_had : (csrs : Csrs) (number : ℕ) → IsRegister (pmp_entry_of csrs number)
    → IsRegister (entry_at (pmp_entries_of csrs) number)
register_had csrs number is = subst IsRegister (sym (entry_had csrs number)) (by (has_entry csrs number))
  where
    by : (has : Bool) → IsRegister (if has then pmp_entry_of csrs number else no_entry)
    by true = is
    by false = lit< tt

-- an entry that covers a byte is one that the core has
touching_had : (csrs : Csrs) (number byte : ℕ) → Touches 0 (pmp_entries_of csrs) number byte 1
    → entry_at (pmp_entries_of csrs) number ≡ pmp_entry_of csrs number
touching_had csrs number byte touches =
    entry_had csrs number ∙ by (has_entry csrs number)
    (subst (λ e. SomeByte byte 1 (Covers (register_before 0 (pmp_entries_of csrs) number) e)) (entry_had csrs number)
    touches)
  where
    by : (has : Bool)
        → SomeByte byte 1 (Covers (register_before 0 (pmp_entries_of csrs) number)
        (if has then pmp_entry_of csrs number else no_entry))
        → (if has then pmp_entry_of csrs number else no_entry) ≡ pmp_entry_of csrs number
    by true touched = refl
    by false touched = absurd touched.holds

shut_refuses : (csrs : Csrs) (byte : ℕ) (mode : Mode) → IsShut csrs byte
    → is_allowed (pmp_entries_of csrs) mode byte 1 kind.Store ≡ false
shut_refuses csrs byte mode shut =
    let lock = shut.lock in
    let cfg = configuration_of csrs lock.number in
    let is : IsLeast 0 (pmp_entries_of csrs) lock.number byte = record {
      registers = λ lower low. register_had csrs lower (shut.registers lower low);
      touches = lock.decides.touches;
      none_before = lock.decides.least;
    } in
    refused_by (pmp_entries_of csrs) lock.number mode byte is
    (ap (λ (entry : PmpEntry). entry_permits entry.cfg mode kind.Store)
    (touching_had csrs lock.number byte lock.decides.touches)
    ∙ permits_none cfg mode (lock.locked lock.number (omega arith)) lock.forbids)

shut_after : (before after : Csrs) (byte : ℕ) → LocksArePreserved before after → IsShut before byte → IsShut after byte
shut_after before after byte outlasts shut =
    let lock = shut.lock in
    let number = lock.number in
    let here = outlasts number lock.below_16 (lock.locked number (omega arith)) in
    let below = λ (lower : ℕ) (low : lower ≤ number). outlasts lower (omega (arith, low, lock.below_16))
    (lock.locked lower low) in
    record {
      lock = record {
        number = number;
        below_16 = lock.below_16;
        decides = record {
          touches = SomeByte-map byte 1 (λ a. (here.covers a).1) lock.decides.touches;
          least = λ lower low there. lock.decides.least lower low
              (SomeByte-map byte 1 (λ a. ((below lower (omega (arith, low))).covers a).0) there);
        };
        forbids = ap (λ (entry : PmpEntry). permits entry.cfg kind.Store) here.keeps.entry ∙ lock.forbids;
        locked = λ lower low. still_locked before after lower (below lower low).keeps (lock.locked lower low);
      };
      registers = λ lower low. subst IsRegister (sym (below lower low).keeps.entry) (shut.registers lower low);
    }

-- one row, and rows
kept_by_row : (state : HartState) (shown : Shown) (byte : ℕ) → IsShut state.core.csrs byte
    → (after_row state shown).bytes byte ≡ state.bytes byte
kept_by_row state shown byte shut =
    let begins = before_instruction state.core shown in
    let wrote = ((step_of state.core shown).run state.bytes).wrote in
    let refused =
    λ (mode : Mode). ap (λ entries. is_allowed entries mode byte 1 kind.Store) (begun_entries state.core shown)
    ∙ shut_refuses state.core.csrs byte mode shut in
    unreached wrote state.bytes byte
    (writes_miss begins state.bytes byte wrote (refused Supervisor)
    (λ write granted. refused_misses begins byte write refused granted)
    (step_granted state.core shown state.bytes).writes)

kept_by_rows : (state : HartState) (rows : List Shown) (byte : ℕ) → IsShut state.core.csrs byte
    → (after_rows state rows).bytes byte ≡ state.bytes byte
unfolding after_rows
kept_by_rows state [] byte shut = refl
kept_by_rows state (shown ∷ rows) byte shut =
    let next = after_row state shown in
    kept_by_rows next rows byte
    (shut_after state.core.csrs next.core.csrs byte (locks_outlast state.core shown state.bytes) shut)
    ∙ kept_by_row state shown byte shut

-- an address register of a legal hart
register_of : (csrs : Csrs) (number : ℕ) → IsLegal csrs → IsRegister (pmp_entry_of csrs number)
register_of csrs number legal = elim (cases_Bool (nat_lt number (length csrs.entries))) [
  | inl inside ↦
      let entry = legal.entries number no_entry (grind (arith, nat_tests, inside)) in
      address_fits csrs.profile (pmp_entry_of csrs number) entry
  | inr outside ↦
      let past : length csrs.entries ≤ number = grind (arith, nat_tests, outside) in
      let off : IsRegister no_entry = lit< tt in
      subst IsRegister (sym (get_or-eq_default csrs.entries no_entry past)) off
]

pub locked_outlasts : (state : HartState) (rows : List Shown) (byte : ℕ) → IsSound state.core
    → IsLockedByte state.core.csrs byte → (after_rows state rows).bytes byte ≡ state.bytes byte
locked_outlasts state rows byte sound lock =
    kept_by_rows state rows byte
    (record { lock = lock; registers = λ lower low. register_of state.core.csrs lower sound.legal })
