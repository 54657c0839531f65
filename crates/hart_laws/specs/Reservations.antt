-- Who reserves a block, and what becomes of it, from the Unprivileged ISA's chapter "A Extension for Atomic
-- Instructions".
use Rattle.std.specs.Prelude.{◌≡◌, ◌≢◌, ℕ, Bool, true, false, not, ◌&&◌, Option, Some, Ok, List, [], ◌∷◌, ◌++◌}
use Rattle.std.specs.Prelude.{All, IfSome, slice_get}
use Rattle.hart_words.specs.declared.accesses.Write.{Write}
use Rattle.hart_words.specs.Memory.{Bytes}
use Rattle.hart_words.specs.Signals.{Shown}
use Rattle.rv_integer.specs.declared.int_result.IntResult.{IntResult}
use Rattle.rv_integer.specs.declared.int_result.IntResult.TheVariants.{Access}
use Rattle.rv_integer.specs.declared.int_result.MemoryRequest.{MemoryRequest}
use Rattle.rv_integer.specs.declared.int_result.MemoryOp.{MemoryOp}
use Rattle.rv_integer.specs.declared.int_result.MemoryOp.TheVariants.{LoadReserved, StoreConditional}
use Rattle.rv_atomic.specs.declared.reservation.Block.{Block}
use Rattle.rv_atomic.specs.Blocks.{IsReserved, block_of, is_covered}
use Rattle.rvfi_rows.specs.Rows.{hart_of}
use Rattle.mem_access.specs.Accesses.{LocatedValue}
use Rattle.hart_step.specs.declared.state.Core.{Core}
use Rattle.hart_step.specs.HartSets.{SetState, set_after_row, set_step_of}
use Rattle.hart_step.specs.MemoryAccess.{located_access}
use Rattle.hart_step.specs.Steps.{before_instruction}
use Rattle.hart_step.specs.Laws.{AreSetsAndStores, bytes_after_fetch, next_of, request_at_pc}
use Rattle.hart_laws.specs.Rows.{after_set_rows, writes_byte}

-- the access of an LR
abbrev pub is_lr : MemoryOp → Bool
is_lr LoadReserved = true
is_lr _ = false

-- the access of an SC
abbrev pub is_sc : MemoryOp → Bool
is_sc (StoreConditional value) = true
is_sc _ = false

-- an instruction asks for an access of such a kind
abbrev pub asks_for : (MemoryOp → Bool) → Option IntResult → Bool
asks_for is_kind (Some (Access request)) = is_kind request.op
asks_for is_kind _ = false

-- what a row's instruction asks for
abbrev pub request_of_row : Core → Shown → Bytes → Option IntResult
request_of_row core shown bytes = request_at_pc (before_instruction core shown) bytes

-- the row's instruction retires: the hart has not halted, and does not trap
abbrev pub retires : Core → Shown → Bytes → Bool
retires core shown bytes = not core.halted && not (next_of core shown bytes).trapped_last

-- the row's instruction retires, and is an access of such a kind
abbrev pub does : (MemoryOp → Bool) → Core → Shown → Bytes → Bool
does is_kind core shown bytes = retires core shown bytes && asks_for is_kind (request_of_row core shown bytes)

-- the row's instruction is an LR that retires, and reserves the block in which the first byte of its place lies
pub record ReservesByLr (core : Core) (shown : Shown) (bytes : Bytes) (reserved : Option Block) : Type 0 where
  pub retired : retires core shown bytes ≡ true
  pub request : MemoryRequest
  pub asks : request_of_row core shown bytes ≡ Some (Access request)
  pub lr : request.op ≡ LoadReserved
  pub found : LocatedValue
  pub located : ((located_access (before_instruction core shown) request).run
      (bytes_after_fetch (before_instruction core shown) bytes)).value ≡ Ok found
  pub block : reserved ≡ Some (block_of core.choices.block_size found.0.pa)

-- a row of the hart reserves the block by an LR
pub record ReservesBlock (state : SetState) (shown : Shown) (number : ℕ) (block : Block) : Type 0 where
  pub own : hart_of shown ≡ number
  pub core : Core
  pub there : slice_get state.core number ≡ Some core
  pub reserves : ReservesByLr core shown state.bytes (Some block)

-- the row's instruction is neither an LR nor an SC that retires
pub record NeitherReservesNorReleases (shown : Shown) (bytes : Bytes) (core : Core) : Type 0 where
  pub no_lr : does is_lr core shown bytes ≡ false
  pub no_sc : does is_sc core shown bytes ≡ false

-- a row leaves a hart's block reserved: another hart's writes no byte of it, and the hart's own is no LR and no SC that
-- retires
pub record LeavesReserved (state : SetState) (shown : Shown) (number : ℕ) (block : Block) : Type 0 where
  pub others : number ≢ hart_of shown → (address : ℕ) → IsReserved (Some block) address
      → writes_byte state shown address ≡ false
  pub own : hart_of shown ≡ number
      → IfSome (slice_get state.core number) (NeitherReservesNorReleases shown state.bytes)

-- each of the rows does, in the state that it steps
unfoldable pub AllLeaveReserved : SetState → List Shown → ℕ → Block → Type 0
AllLeaveReserved state [] number block = Unit {0}
AllLeaveReserved state (shown ∷ rows) number block =
    LeavesReserved state shown number block × AllLeaveReserved (set_after_row state shown) rows number block

-- among rows, one of the hart reserved the block by an LR, and each row since left it reserved
pub record WasReservedBy (state : SetState) (rows : List Shown) (number : ℕ) (block : Block) : Type 0 where
  pub before : List Shown
  pub row : Shown
  pub since : List Shown
  pub order : rows ≡ before ++ row ∷ since
  pub reserved : ReservesBlock (after_set_rows state before) row number block
  pub left : AllLeaveReserved (set_after_row (after_set_rows state before) row) since number block

-- a write lies in a block that was so reserved
pub record IsInBlockReservedBy (state : SetState) (rows : List Shown) (number : ℕ) (write : Write) : Type 0 where
  pub block : Block
  pub reserved : WasReservedBy state rows number block
  pub covered : is_covered (Some block) write.pa write.len ≡ true

-- what a row's hart stores after other rows lies in blocks that were so reserved; what it writes besides are A and D in
-- entries of page tables
abbrev pub StoresAfterReserving : SetState → List Shown → Core → Shown → Type 0
StoresAfterReserving state rows core shown =
    let now = after_set_rows state rows in
    AreSetsAndStores (before_instruction core shown) now.bytes (All (IsInBlockReservedBy state rows (hart_of shown)))
    ((set_step_of now.core shown).run now.bytes).wrote
