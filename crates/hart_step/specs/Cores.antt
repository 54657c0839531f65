-- The state of a hart but for its memory.
use Rattle.std.specs.Prelude.{◌≡◌, ℕ, ◌%◌, None, false, IfSome, IsTrue}
use Rattle.hart_words.specs.Registers.{registers_at_reset}
use Rattle.hart_words.specs.Spans.{holds_all}
use Rattle.hart_words.specs.declared.span.Span.{Span}
use Rattle.hart_words.specs.declared.map.Map.{Map}
use Rattle.hart_words.specs.declared.choices.Choices.{Choices}
use Rattle.hart_words.specs.declared.privilege.Mode.TheVariants.{Machine}
use Rattle.csr_file.specs.declared.profile.CsrProfile.{CsrProfile}
use Rattle.csr_file.specs.Profiles.{plain_profile}
use Rattle.csr_file.specs.Registers.{csrs_at_reset_of}
use Rattle.csr_file.specs.Legal.{IsLegal}
use Rattle.rv_atomic.specs.declared.reservation.Block.{Block}
use Rattle.rv_atomic.specs.declared.reservation.Reservation.{Reservation}
use Rattle.hart_step.specs.declared.state.Core.{Core}
use Rattle.hart_step.specs.declared.parts.CoreParts.{CoreParts}

-- at reset a hart is in M, its integer registers are 0, and nothing is reserved
unfoldable pub core_at_reset_of : CsrProfile → ℕ → Map → Choices → Core
core_at_reset_of profile pc map choices = record {
  registers = registers_at_reset;
  pc = pc;
  mode = Machine;
  csrs = csrs_at_reset_of profile;
  reservation = record { block = None };
  next_order = None;
  trapped_last = false;
  halted = false;
  map = map;
  choices = choices;
}

-- the same, where nothing is said of its control and status registers
unfoldable pub core_at_reset : ℕ → Map → Choices → Core
core_at_reset pc map choices = core_at_reset_of plain_profile pc map choices

-- a block of so many bytes, at a multiple of them, all in RAM
pub record IsBlockInRam (ram : Span) (bytes : ℕ) (block : Block) : Type 0 where
  pub size : block.size ≡ bytes
  pub aligned : block.address % bytes ≡ 0
  pub inside : IsTrue (holds_all ram block.address bytes)

-- such a block is reserved, or nothing
abbrev pub IsSoundReservation : Span → ℕ → Reservation → Type 0
IsSoundReservation ram bytes reservation = IfSome reservation.block (IsBlockInRam ram bytes)

-- what holds of every state: pc is even; each control and status register, mepc and sepc among them, has a value
-- that it can have; and what is reserved is a block of the size that is chosen, in RAM
pub record IsSound (core : Core) : Type 0 where
  pub even : core.pc % 2 ≡ 0
  pub legal : IsLegal core.csrs
  pub reserved : IsSoundReservation core.map.ram core.choices.block_size core.reservation

-- a hart by its parts
abbrev pub core_of : CoreParts → Map → Choices → Core
core_of parts map choices = record {
  registers = parts.registers;
  pc = parts.pc;
  mode = parts.mode;
  csrs = parts.csrs;
  reservation = parts.reservation;
  next_order = parts.next_order;
  trapped_last = parts.trapped_last;
  halted = parts.halted;
  map = map;
  choices = choices;
}
