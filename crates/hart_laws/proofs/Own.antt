-- What a row leaves reserved of its own hart.
use Rattle.std.proofs.Common.{◌≡◌, ℕ, Bool, true, false, not, ◌&&◌, Option, Some, None, refl, sym, ap, ◌∙◌, subst}
use Rattle.std.proofs.Common.{◌⊎◌, inl, inr, if◌then◌else◌}
use Rattle.std.specs.List.{slice_get}
use Rattle.std.proofs.lemmas.Bool.{cases_Bool}
use Rattle.hart_words.specs.declared.choices.Choices.{Choices}
use Rattle.hart_words.specs.declared.privilege.Mode.{Mode}
use Rattle.hart_words.specs.Memory.{Bytes}
use Rattle.hart_words.specs.Signals.{Shown}
use Rattle.rv_integer.specs.declared.int_result.IntResult.{IntResult}
use Rattle.rv_integer.specs.declared.int_result.IntResult.TheVariants as results
use Rattle.rv_integer.specs.declared.int_result.MemoryRequest.{MemoryRequest}
use Rattle.rv_integer.specs.declared.int_result.MemoryOp.{MemoryOp}
use Rattle.rv_integer.specs.declared.int_result.MemoryOp.TheVariants.{Load, LoadReserved, Store, StoreConditional, Amo}
use Rattle.rv_atomic.specs.declared.reservation.Block.{Block}
use Rattle.rv_atomic.specs.declared.reservation.Reservation.{Reservation}
use Rattle.rv_atomic.specs.Blocks.{block_of}
use Rattle.rvfi_rows.specs.Rows.{hart_of}
use Rattle.hart_set.proofs.SetLaws.{steps_its_hart}
use Rattle.mem_access.specs.Accesses.{LocatedValue}
use Rattle.hart_step.specs.declared.state.Core.{Core}
use Rattle.hart_step.specs.declared.instruction.InstructionOutcome.{InstructionOutcome}
use Rattle.hart_step.specs.declared.instruction.InstructionOutcome.TheVariants.{Trapped, Retired}
use Rattle.hart_step.specs.Choices.{asks_interrupt}
use Rattle.hart_step.specs.HartSets.{SetState, set_after_row}
use Rattle.hart_step.specs.Instructions.{InstructionRun, instruction_run}
use Rattle.hart_step.specs.Meanings.{core_meaning}
use Rattle.hart_step.specs.MemoryAccess.{located_access}
use Rattle.hart_step.specs.Steps.{before_instruction, core_after_count, core_after_entry, core_after_interrupt}
use Rattle.hart_step.specs.Steps.{core_after_interrupt_by, core_after_outcome, core_after_run, interrupt_of}
use Rattle.hart_step.specs.Laws.{bytes_after_fetch, next_of}
use Rattle.hart_step.proofs.Phases.{begun_reservation, next_halted, next_running}
use Rattle.hart_step.proofs.Traps.{finished_trapped, is_trap, traps_store}
use Rattle.hart_laws.specs.Reservations.{ReservesByLr, asks_for, does, is_lr, is_sc, request_of_row, retires}
use Rattle.hart_laws.proofs.Retired.{LeavesBy, LeavesByOp, ran_leaves}

-- the row's hart goes on as it does alone
pub own_after : (state : SetState) (shown : Shown) (core : Core) → slice_get state.core (hart_of shown) ≡ Some core
    → slice_get (set_after_row state shown).core (hart_of shown) ≡ Some (next_of core shown state.bytes)
own_after state shown core there =
    (steps_its_hart core_meaning state.core shown (hart_of shown) core state.bytes there).own

-- ---- tests

both_left : (one other : Bool) → (one && other) ≡ true → one ≡ true
both_left true other both = refl
both_left false other both = cc

both_right : (one other : Bool) → (one && other) ≡ true → other ≡ true
both_right true other both = both
both_right false other both = cc

second_false : (one other : Bool) → one ≡ true → (one && other) ≡ false → other ≡ false
second_false true other first both = both
second_false false other first both = cc

is_false : (b : Bool) → not b ≡ true → b ≡ false
is_false true is = cc
is_false false is = refl

either_true : (one other : Bool) → (not one && not other) ≡ false → (one ≡ true) ⊎ (other ≡ true)
either_true true other is = inl refl
either_true false true is = inr refl
either_true false false is = cc

-- ---- what begins and ends a step

choices_by : (core : Core) (asks : Bool) (pick : Option (ℕ × Mode))
    → (if asks then core_after_interrupt_by core pick else core).choices ≡ core.choices
unfolding core_after_entry
choices_by core false pick = refl
choices_by core true None = refl
choices_by core true (Some x) = refl

begun_choices : (core : Core) (shown : Shown) → (before_instruction core shown).choices ≡ core.choices
unfolding before_instruction core_after_interrupt core_after_count
begun_choices core shown =
    choices_by (core_after_count core shown) (asks_interrupt (core_after_count core shown) shown)
    (interrupt_of (core_after_count core shown) shown)

reservation_by : (core : Core) (outcome : InstructionOutcome)
    → (core_after_outcome core outcome).reservation ≡ core.reservation
unfolding core_after_entry
reservation_by core (Trapped insn exception) = refl
reservation_by core (Retired instruction access) = refl

finished_reservation : (done : InstructionRun) (shown : Shown)
    → (core_after_run done shown).reservation ≡ done.core.reservation
unfolding core_after_run
finished_reservation done shown = reservation_by done.core done.executed

-- ---- a step whose instruction retires

step_leaves : (core : Core) (shown : Shown) (bytes : Bytes) → retires core shown bytes ≡ true
    → LeavesBy (before_instruction core shown) (bytes_after_fetch (before_instruction core shown) bytes)
    (request_of_row core shown bytes) (next_of core shown bytes).reservation
step_leaves core shown bytes retired =
    let begins = before_instruction core shown in
    let done = ((instruction_run begins shown).run bytes).value in
    let runs = is_false core.halted
    (both_left (not core.halted) (not (next_of core shown bytes).trapped_last) retired) in
    let untrapped = is_false (next_of core shown bytes).trapped_last
    (both_right (not core.halted) (not (next_of core shown bytes).trapped_last) retired) in
    let is = next_running core shown bytes runs in
    let goes_on : is_trap done.executed ≡ false =
    sym (finished_trapped done shown) ∙ sym (ap (λ (k : Core). k.trapped_last) is) ∙ untrapped in
    let same = ap (λ (k : Core). k.reservation) is ∙ finished_reservation done shown in
    subst (LeavesBy begins (bytes_after_fetch begins bytes) (request_of_row core shown bytes)) (sym same)
    (ran_leaves begins shown bytes goes_on)

-- ---- neither an LR nor an SC

kept_by_op : (core : Core) (bytes : Bytes) (request : MemoryRequest) (op : MemoryOp) (after : Reservation)
    → LeavesByOp core bytes request op after → is_lr op ≡ false → is_sc op ≡ false → after ≡ core.reservation
kept_by_op core bytes request (Load signed) after leaves no_lr no_sc = leaves
kept_by_op core bytes request LoadReserved after leaves no_lr no_sc = absurd (let no : ⊥ = cc in no)
kept_by_op core bytes request (Store value) after leaves no_lr no_sc = leaves
kept_by_op core bytes request (StoreConditional value) after leaves no_lr no_sc = absurd (let no : ⊥ = cc in no)
kept_by_op core bytes request (Amo op width b) after leaves no_lr no_sc = leaves

kept_by : (core : Core) (bytes : Bytes) (asks : Option IntResult) (after : Reservation)
    → LeavesBy core bytes asks after → asks_for is_lr asks ≡ false → asks_for is_sc asks ≡ false
    → after ≡ core.reservation
kept_by core bytes None after leaves no_lr no_sc = leaves
kept_by core bytes (Some (results.Value value)) after leaves no_lr no_sc = leaves
kept_by core bytes (Some (results.Jump link target)) after leaves no_lr no_sc = leaves
kept_by core bytes (Some (results.Continue next_pc)) after leaves no_lr no_sc = leaves
kept_by core bytes (Some (results.Access request)) after leaves no_lr no_sc =
    kept_by_op core bytes request request.op after leaves no_lr no_sc
kept_by core bytes (Some (results.System request)) after leaves no_lr no_sc = leaves

pub own_kept : (core : Core) (shown : Shown) (bytes : Bytes)
    → does is_lr core shown bytes ≡ false → does is_sc core shown bytes ≡ false
    → (next_of core shown bytes).reservation ≡ core.reservation
own_kept core shown bytes no_lr no_sc = elim (cases_Bool (retires core shown bytes)) [
  | inl retired ↦
      let asks = request_of_row core shown bytes in
      let begins = before_instruction core shown in
      let lr = second_false (retires core shown bytes) (asks_for is_lr asks) retired no_lr in
      let sc = second_false (retires core shown bytes) (asks_for is_sc asks) retired no_sc in
      kept_by begins (bytes_after_fetch begins bytes) asks (next_of core shown bytes).reservation
      (step_leaves core shown bytes retired) lr sc
      ∙ begun_reservation core shown
  | inr not_retired ↦ elim (either_true core.halted (next_of core shown bytes).trapped_last not_retired) [
    | inl halted ↦ ap (λ (k : Core). k.reservation) (next_halted core shown bytes halted)
    | inr trapped ↦ (traps_store core shown bytes trapped).reservation
  ]
]

-- ---- an LR and an SC

-- the access that an instruction of the kind asks for
record AsksAccess (is_kind : MemoryOp → Bool) (asks : Option IntResult) : Type 0 where
  pub request : MemoryRequest
  pub asked : asks ≡ Some (results.Access request)
  pub kind : is_kind request.op ≡ true

access_asked : (is_kind : MemoryOp → Bool) (asks : Option IntResult) → asks_for is_kind asks ≡ true
    → AsksAccess is_kind asks
access_asked is_kind None is = absurd (let no : ⊥ = cc in no)
access_asked is_kind (Some (results.Value value)) is = absurd (let no : ⊥ = cc in no)
access_asked is_kind (Some (results.Jump link target)) is = absurd (let no : ⊥ = cc in no)
access_asked is_kind (Some (results.Continue next_pc)) is = absurd (let no : ⊥ = cc in no)
access_asked is_kind (Some (results.Access request)) is = record { request = request; asked = refl; kind = is }
access_asked is_kind (Some (results.System request)) is = absurd (let no : ⊥ = cc in no)

lr_is : (op : MemoryOp) → is_lr op ≡ true → op ≡ LoadReserved
lr_is (Load signed) is = cc
lr_is LoadReserved is = refl
lr_is (Store value) is = cc
lr_is (StoreConditional value) is = cc
lr_is (Amo op width b) is = cc

-- what an SC writes
pub value_of_sc : MemoryOp → ℕ
value_of_sc (StoreConditional value) = value
value_of_sc _ = 0

pub sc_is : (op : MemoryOp) → is_sc op ≡ true → op ≡ StoreConditional (value_of_sc op)
unfolding value_of_sc
sc_is (Load signed) is = cc
sc_is LoadReserved is = cc
sc_is (Store value) is = cc
sc_is (StoreConditional value) is = refl
sc_is (Amo op width b) is = cc

-- what a step leaves reserved, by the access that it is known to ask for
asked_leaves : (core : Core) (shown : Shown) (bytes : Bytes) (request : MemoryRequest) (op : MemoryOp)
    → retires core shown bytes ≡ true → request_of_row core shown bytes ≡ Some (results.Access request)
    → request.op ≡ op
    → LeavesByOp (before_instruction core shown) (bytes_after_fetch (before_instruction core shown) bytes) request op
    (next_of core shown bytes).reservation
asked_leaves core shown bytes request op retired asks is =
    let begins = before_instruction core shown in
    let after = (next_of core shown bytes).reservation in
    let P : Option IntResult → Type 0 = λ a. LeavesBy begins (bytes_after_fetch begins bytes) a after in
    let Q : MemoryOp → Type 0 = λ o. LeavesByOp begins (bytes_after_fetch begins bytes) request o after in
    subst Q is (subst P asks (step_leaves core shown bytes retired))

pub own_reserved : (core : Core) (shown : Shown) (bytes : Bytes) → does is_lr core shown bytes ≡ true
    → ReservesByLr core shown bytes (next_of core shown bytes).reservation.block
own_reserved core shown bytes is =
    let asks = request_of_row core shown bytes in
    let retired = both_left (retires core shown bytes) (asks_for is_lr asks) is in
    let access = access_asked is_lr asks (both_right (retires core shown bytes) (asks_for is_lr asks) is) in
    let lr = lr_is access.request.op access.kind in
    let at = asked_leaves core shown bytes access.request LoadReserved retired access.asked lr in
    record {
      retired = retired;
      request = access.request;
      asks = access.asked;
      lr = lr;
      found = at.found;
      located = at.located;
      block =
          at.is ∙ ap (λ (c : Choices). Some (block_of c.block_size at.found.0.pa)) (begun_choices core shown);
    }

pub own_released : (core : Core) (shown : Shown) (bytes : Bytes) → does is_sc core shown bytes ≡ true
    → (next_of core shown bytes).reservation.block ≡ None
own_released core shown bytes is =
    let asks = request_of_row core shown bytes in
    let retired = both_left (retires core shown bytes) (asks_for is_sc asks) is in
    let access = access_asked is_sc asks (both_right (retires core shown bytes) (asks_for is_sc asks) is) in
    let sc = sc_is access.request.op access.kind in
    asked_leaves core shown bytes access.request (StoreConditional (value_of_sc access.request.op)) retired
    access.asked sc

-- back from what an LR reserves to that it is done, and what it reserves is one block
both_true : (one other : Bool) → one ≡ true → other ≡ true → (one && other) ≡ true
both_true true other first second = second
both_true false other first second = cc

pub does_lr : (core : Core) (shown : Shown) (bytes : Bytes) (block : Option Block)
    → ReservesByLr core shown bytes block → does is_lr core shown bytes ≡ true
does_lr core shown bytes block reserves =
    both_true (retires core shown bytes) (asks_for is_lr (request_of_row core shown bytes)) reserves.retired
    (ap (asks_for is_lr) reserves.asks ∙ ap is_lr reserves.lr)

pub same_reserved : (core : Core) (shown : Shown) (bytes : Bytes) (one other : Option Block)
    → ReservesByLr core shown bytes one → ReservesByLr core shown bytes other → one ≡ other
same_reserved core shown bytes one other first second =
    let request : first.request ≡ second.request = cc (first.asks, second.asks) in
    let begins = before_instruction core shown in
    let located =
    ap (λ (r : MemoryRequest). ((located_access begins r).run (bytes_after_fetch begins bytes)).value) request in
    let found : first.found ≡ second.found = cc (first.located, second.located, located) in
    first.block ∙ ap (λ (f : LocatedValue). Some (block_of core.choices.block_size f.0.pa)) found ∙ sym second.block

-- the SC that a row's instruction is
pub record IsSc (core : Core) (shown : Shown) (bytes : Bytes) : Type 0 where
  pub request : MemoryRequest
  pub value : ℕ
  pub asked : request_of_row core shown bytes ≡ Some (results.Access request)
  pub sc : request.op ≡ StoreConditional value

pub sc_asked : (core : Core) (shown : Shown) (bytes : Bytes)
    → asks_for is_sc (request_of_row core shown bytes) ≡ true → IsSc core shown bytes
sc_asked core shown bytes is =
    let access = access_asked is_sc (request_of_row core shown bytes) is in
    record {
      request = access.request;
      value = value_of_sc access.request.op;
      asked = access.asked;
      sc = sc_is access.request.op access.kind;
    }
