-- A plain row that agrees, and shows its changes, shows the state after it.
use Rattle.std.proofs.Common.{◌≡◌, ℕ, zero, suc, ◌-◌, ◌%◌, ◌^◌, ◌<◌, ◌==◌, Bool, true, false, not, ◌&&◌, List, [], ◌∷◌}
use Rattle.std.proofs.Common.{Option, Some, None, Ok, if◌then◌else◌, refl, sym, ap, ◌∙◌, arith}
use Rattle.std.specs.Prelude.{◌||◌, unwrap_or, slice_index, slice_set}
use Rattle.std.proofs.Math.Path.{fun_ext}
use Rattle.hart_words.specs.declared.registers.Registers.{Registers}
use Rattle.hart_words.specs.declared.accesses.Write.{Write}
use Rattle.hart_words.specs.declared.signal.Signal.TheVariants.{Halt, Intr, PcWdata, RdAddr, RdWdata, Trap}
use Rattle.hart_words.specs.Memory.{Bytes, after_writes}
use Rattle.hart_words.specs.Registers.{register_of, with_register}
use Rattle.hart_words.specs.Signals.{Shown}
use Rattle.rv_decode.specs.Operands.{operands_of}
use Rattle.rvfi_rows.specs.declared.expected.Retired.{Retired as Retirement}
use Rattle.rvfi_rows.specs.declared.expected.Effects.{Effects}
use Rattle.rvfi_rows.specs.declared.expected.Accessed.{Accessed}
use Rattle.hart_step.specs.declared.state.Core.{Core}
use Rattle.hart_step.specs.declared.instruction.Instruction.{Instruction}
use Rattle.hart_step.specs.declared.instruction.InstructionOutcome.{InstructionOutcome}
use Rattle.hart_step.specs.declared.instruction.InstructionOutcome.TheVariants.{Trapped, Retired}
use Rattle.hart_step.specs.Choices.{shows}
use Rattle.hart_step.specs.Instructions.{InstructionRun, core_after_retirement}
use Rattle.hart_step.specs.PlainRows.{bytes_put, memory_shown, core_shown, insn_shown, is_plain}
use Rattle.hart_step.specs.PlainRows.{is_system_or_atomic, next_pc_shown, next_address_shown, registers_shown}
use Rattle.hart_step.specs.PlainRows.{shows_bytes, shows_store, store_shown}
use Rattle.hart_step.specs.Steps.{core_after_count, effects_of, core_after_run, insn_of}
use Rattle.hart_step.proofs.WordOpcodes.{both}
use Rattle.boundary_guess.specs.Truth.{ShowsChanges}
use Rattle.boundary_guess.proofs.Compared.{RowAgrees, insn_is, next_is, rd_is, took_no_fault, value_is}
use Rattle.boundary_guess.proofs.PlainOps.{destination_below}
use Rattle.boundary_guess.proofs.PlainRuns.{Leaves, Touches}
use Rattle.boundary_guess.proofs.PlainSteps.{Runs, fetched_fits, plain_word, same_kind, stores_as}
use Rattle.boundary_guess.proofs.ShownStores.{store_is_true}

-- ---- a plain row

-- what a plain row says
pub record IsPlain (core : Core) (shown : Shown) : Type 0 where
  pub runs : core.halted ≡ false
  pub not_trapped : core.trapped_last ≡ false
  pub trap : shows (shown Trap) 1 ≡ false
  pub intr : shows (shown Intr) 1 ≡ false
  pub halt : shows (shown Halt) 1 ≡ false
  pub common : is_system_or_atomic (insn_shown shown) ≡ false
  pub stores : shows_store shown ≡ true → shows_bytes core shown ≡ true

negated : (b : Bool) → not b ≡ true → b ≡ false
negated true h = cc
negated false h = refl

implied : (a b : Bool) → (not a || b) ≡ true → a ≡ true → b ≡ true
implied true b either is = either
implied false b either is = absurd cc

pub plain_facts : (core : Core) (shown : Shown) → is_plain core shown ≡ true → IsPlain core shown
unfolding is_plain
plain_facts core shown is =
    let runs = not core.halted in
    let not_trapped = not core.trapped_last in
    let trap = not (shows (shown Trap) 1) in
    let intr = not (shows (shown Intr) 1) in
    let halt = not (shows (shown Halt) 1) in
    let common = not (is_system_or_atomic (insn_shown shown)) in
    let stores = not (shows_store shown) || shows_bytes core shown in
    let all = both (runs && not_trapped && (trap && intr && halt) && common) stores is in
    let word = both (runs && not_trapped && (trap && intr && halt)) common all.0 in
    let undisturbed = both (runs && not_trapped) (trap && intr && halt) word.0 in
    let state = both runs not_trapped undisturbed.0 in
    let row = both (trap && intr) halt undisturbed.1 in
    let entries = both trap intr row.0 in
    record {
      runs = negated core.halted state.0;
      not_trapped = negated core.trapped_last state.1;
      trap = negated (shows (shown Trap) 1) entries.0;
      intr = negated (shows (shown Intr) 1) entries.1;
      halt = negated (shows (shown Halt) 1) row.1;
      common = negated (is_system_or_atomic (insn_shown shown)) word.1;
      stores = implied (shows_store shown) (shows_bytes core shown) all.1;
    }

-- ---- registers

set_again : (xs : List ℕ) (i v : ℕ) → slice_set xs i (slice_index (slice_set xs i v) i) ≡ slice_set xs i v
set_again [] i v = refl
set_again (x ∷ xs) zero v = refl
set_again (x ∷ xs) (suc i) v = ap (λ more. x ∷ more) (set_again xs i v)

again_by : (zeroth : Bool) (registers : Registers) (index value : ℕ)
    → (let after : Registers =
    if zeroth then registers else record { values = slice_set registers.values index value } in
    let now : ℕ = if zeroth then 0 else slice_index after.values index in
    (if zeroth then registers else record { values = slice_set registers.values index now }) ≡ after)
again_by true registers index value = refl
again_by false registers index value =
    ap (λ values. record { values = values }) (set_again registers.values index value)

-- a register takes the value that it has after the instruction
again : (registers : Registers) (number value : ℕ)
    → with_register registers number (register_of (with_register registers number value) number)
    ≡ with_register registers number value
again registers number value = again_by (number == 0) registers (number - 1) value

-- ---- the core

-- what holds of the core after the row
pub record IsInRange (core : Core) : Type 0 where
  pub even : core.pc % 2 ≡ 0
  pub pc : core.pc < 2 ^ 64
  pub registers : (number : ℕ) → register_of core.registers number < 2 ^ 64

even_whole : (pc : ℕ) → pc % 2 ≡ 0 → pc - pc % 2 ≡ pc
even_whole pc even = omega (arith, even)

next_shown : (shown : Shown) (next : ℕ) → shown PcWdata ≡ Some next → next % 2 ≡ 0 → next_pc_shown shown ≡ next
next_shown shown next is even =
    ap (λ (found : Option ℕ). let n = unwrap_or found (next_address_shown shown) in n - n % 2) is ∙ even_whole next even

-- a core with these, and otherwise as counted
abbrev made : Core → Shown → Registers → ℕ → Bool → Bool → Core
made core shown registers pc trapped halted =
    record (core_after_count core shown) { registers = registers; pc = pc; trapped_last = trapped; halted = halted }

core_made : (core : Core) (shown : Shown)
    → core_shown core shown
    ≡ made core shown (registers_shown core.registers (shown RdAddr) (shown RdWdata)) (next_pc_shown shown)
    core.trapped_last core.halted
unfolding core_shown core_after_count
core_made core shown = refl

finished_made : (core : Core) (shown : Shown) (i : Instruction) (access : Option Accessed) (value next : ℕ)
    → core_after_run
    (record
    { core = core_after_retirement (core_after_count core shown) i value next; executed = Retired i access }) shown
    ≡ made core shown (with_register core.registers (operands_of i.op).rd value) next false (shows (shown Halt) 1)
unfolding core_after_run core_after_retirement core_after_count
finished_made core shown i access value next = refl

same_made : (core : Core) (shown : Shown) {r r' : Registers} {pc pc' : ℕ} {t t' h h' : Bool} → r ≡ r' → pc ≡ pc'
    → t ≡ t' → h ≡ h' → made core shown r pc t h ≡ made core shown r' pc' t' h'
same_made core shown {r} {r'} {pc} {pc'} {t} {t'} {h} {h'} a b c d =
    ap (λ x. made core shown x pc t h) a ∙ ap (λ x. made core shown r' x t h) b
    ∙ ap (λ x. made core shown r' pc' x h) c ∙ ap (λ x. made core shown r' pc' t' x) d

left_registers : (core : Core) (shown : Shown) (i : Instruction) (value next : ℕ)
    → (core_after_retirement (core_after_count core shown) i value next).registers
    ≡ with_register core.registers (operands_of i.op).rd value
unfolding core_after_retirement core_after_count
left_registers core shown i value next = refl

left_pc : (core : Core) (shown : Shown) (i : Instruction) (value next : ℕ)
    → (core_after_retirement (core_after_count core shown) i value next).pc ≡ next
unfolding core_after_retirement
left_pc core shown i value next = refl

-- what an instruction that retired leaves, as the row shows it
record ShowsAfter (shown : Shown) (i : Instruction) (after : Core) : Type 0 where
  pub register : shown RdAddr ≡ Some (operands_of i.op).rd
  pub value : shown RdWdata ≡ Some (register_of after.registers (operands_of i.op).rd)
  pub next : shown PcWdata ≡ Some after.pc

core_is_true : {core : Core} {shown : Shown} {i : Instruction} {after : Core} (access : Option Accessed)
    → IsPlain core shown → Leaves (core_after_count core shown) i after → ShowsAfter shown i after → after.pc % 2 ≡ 0
    → core_shown core shown ≡ core_after_run (record { core = after; executed = Retired i access }) shown
core_is_true {core} {shown} {i} {after} access plain leaves shows even =
    let rd_number = (operands_of i.op).rd in
    let made_so = with_register core.registers rd_number leaves.value in
    let registers_are : after.registers ≡ made_so =
    ap (λ k. k.registers) leaves.is ∙ left_registers core shown i leaves.value leaves.next in
    let pc_is : after.pc ≡ leaves.next = ap (λ k. k.pc) leaves.is ∙ left_pc core shown i leaves.value leaves.next in
    let shown_registers : registers_shown core.registers (shown RdAddr) (shown RdWdata) ≡ made_so =
    ap (λ r. registers_shown core.registers r (shown RdWdata)) shows.register
    ∙ ap (λ v. registers_shown core.registers (Some rd_number) v) shows.value
    ∙ ap (λ r. with_register core.registers rd_number (register_of r rd_number)) registers_are
    ∙ again core.registers rd_number leaves.value in
    let shown_next : next_pc_shown shown ≡ leaves.next = next_shown shown after.pc shows.next even ∙ pc_is in
    core_made core shown
    ∙ same_made core shown shown_registers shown_next plain.not_trapped (plain.runs ∙ sym plain.halt)
    ∙ sym (finished_made core shown i access leaves.value leaves.next)
    ∙ ap (λ k. core_after_run (record { core = k; executed = Retired i access }) shown) (sym leaves.is)

-- ---- memory

bytes_are_true : {core : Core} {shown : Shown} {facts : Retirement} {effects : Effects} {stores : Bool} (bytes : Bytes)
    (wrote : List Write) → IsPlain core shown → RowAgrees facts shown → facts.effects ≡ Ok effects
    → shows_store shown ≡ stores → Touches stores (core_after_count core shown) effects.access wrote
    → memory_shown core shown bytes ≡ after_writes wrote bytes
unfolding memory_shown after_writes core_after_count shows_bytes
bytes_are_true {core} {shown} {facts} {effects} {stores} bytes wrote plain agrees effects_are is touches =
    fun_ext (λ x. ap (λ (t : Bool). (if t then bytes_put core.map.ram (store_shown shown) 8 bytes else bytes) x) is
    ∙ by stores is touches x)
  where
    by : (stores : Bool) → shows_store shown ≡ stores
        → Touches stores (core_after_count core shown) effects.access wrote → (x : ℕ)
        → (if stores then bytes_put core.map.ram (store_shown shown) 8 bytes else bytes) x ≡ after_writes wrote bytes x
    by false none touches x = ap (λ w. after_writes w bytes x) (sym touches)
    by true stores touches x = store_is_true bytes touches effects_are (plain.stores stores) agrees x

-- ---- the row

-- the row shows what the step left
pub record IsShownRightly (core : Core) (shown : Shown) (bytes : Bytes) (done : InstructionRun)
    (wrote : List Write) : Type 0 where
  pub core_is : core_shown core shown ≡ core_after_run done shown
  pub bytes_are : memory_shown core shown bytes ≡ after_writes wrote bytes

-- what the step did at it
pub record IsRunOf (core : Core) (shown : Shown) (facts : Retirement) (x : InstructionOutcome) (after : Core)
    (wrote : List Write) : Type 0 where
  pub runs : Runs (core_after_count core shown) x after wrote
  pub insn : facts.insn ≡ insn_of x
  pub effects : facts.effects ≡ effects_of (core_after_count core shown) after x
  pub in_range : IsInRange (core_after_run (record { core = after; executed = x }) shown)

pub ran_true : {core : Core} {shown : Shown} {facts : Retirement} {after : Core} {wrote : List Write} (bytes : Bytes)
    (x : InstructionOutcome) → IsPlain core shown → ShowsChanges shown → RowAgrees facts shown
    → IsRunOf core shown facts x after wrote
    → IsShownRightly core shown bytes (record { core = after; executed = x }) wrote
unfolding core_after_run
ran_true bytes (Trapped None exception) plain shows agrees did =
    absurd (took_no_fault agrees did.effects did.runs shows.trap plain.trap)
ran_true {core} {shown} bytes (Trapped (Some bits) exception) plain shows agrees did =
    let runs = did.runs in
    let is = insn_is bits agrees did.insn (fetched_fits bits runs.len runs.word) shows.insn in
    let common : is_system_or_atomic bits ≡ false =
    sym (same_kind (insn_shown shown) bits is) ∙ plain.common in
    absurd
    (took_no_fault agrees did.effects (runs.fault
    (plain_word (core_after_count core shown) bits runs.len runs.word common)) shows.trap plain.trap)
ran_true {core} {shown} {after} {wrote} bytes (Retired i access) plain shows agrees did =
    let runs = did.runs in
    let rd = (operands_of i.op).rd in
    let is = insn_is i.bits agrees did.insn (fetched_fits i.bits i.len runs.word) shows.insn in
    let common : is_system_or_atomic i.bits ≡ false =
    sym (same_kind (insn_shown shown) i.bits is) ∙ plain.common in
    let done = runs.does (plain_word (core_after_count core shown) i.bits i.len runs.word common i.op runs.means) in
    let rd_fits : rd < 2 ^ 64 = below_word rd (destination_below (core_after_count core shown) i.bits i.len i.op
    runs.means) in
    let shows_after : ShowsAfter shown i after = record {
      register = rd_is _ agrees did.effects rd_fits shows.register;
      value = value_is _ agrees did.effects (did.in_range.registers rd) shows.value;
      next = next_is _ agrees did.effects did.in_range.pc shows.next;
    } in
    record {
      core_is = core_is_true access plain done.leaves shows_after did.in_range.even;
      bytes_are =
          bytes_are_true bytes wrote plain agrees did.effects
          (stores_as (core_after_count core shown) shown i.bits i.len i.op is runs.word runs.means) done.touches;
    }
  where
    below_word : (n : ℕ) → n < 32 → n < 2 ^ 64
    below_word n below = omega (arith, below)
