-- What a hart without its memory is to those who step it, and what it loses by the writes of other harts, from the
-- Unprivileged ISA's chapter "A Extension for Atomic Instructions".
use Rattle.std.specs.Prelude.{◌≡◌, ℕ, Bool, true, false, Option, None, List, if◌then◌else◌, IfSome}
use Rattle.std.specs.List.{list_any}
use Rattle.hart_words.specs.declared.accesses.Write.{Write}
use Rattle.hart_words.specs.Memory.{Bytes, after_writes, is_within}
use Rattle.rv_atomic.specs.declared.reservation.Block.{Block}
use Rattle.rv_atomic.specs.Blocks.{block_left, is_touched, IsReserved}
use Rattle.rvfi_rows.specs.Meanings.{Meaning, lost_by}
use Rattle.hart_step.specs.declared.state.Core.{Core}
use Rattle.hart_step.specs.Cores.{IsBlockInRam, IsSound}
use Rattle.hart_step.specs.PlainRows.{is_plain}
use Rattle.hart_step.specs.Steps.{step_of}
use Rattle.hart_step.specs.TakenRows.{taken_of}

-- another hart wrote so many bytes from an address on
abbrev pub core_after_loss : Core → ℕ → ℕ → Core
core_after_loss core pa len =
    record core { reservation = record { block = block_left core.reservation.block pa len } }

abbrev pub core_meaning : Meaning Core
core_meaning = record {
  stepped = step_of;
  is_plain = is_plain;
  taken = taken_of;
  lost = core_after_loss;
  map_of = λ core. core.map;
  choices_of = λ core. core.choices;
}

-- what it loses leaves it sound
left_by : (P : Block → Type 0) (block : Option Block) (touched : Bool) → IfSome block P
    → IfSome (if touched then None else block) P
left_by P block true holds = tt
left_by P block false holds = holds

pub stays_sound : (core : Core) (pa len : ℕ) → IsSound core → IsSound (core_after_loss core pa len)
stays_sound core pa len sound = record {
  even = sound.even;
  legal = sound.legal;
  reserved =
      left_by (IsBlockInRam core.map.ram core.choices.block_size) core.reservation.block
      (is_touched core.reservation.block pa len) sound.reserved;
}

-- the byte at the address is one that was written
abbrev pub is_written : List Write → ℕ → Bool
is_written writes address = list_any (λ write. is_within write.pa write.len address) writes

-- by another hart's writes a hart loses its reservation where one of their bytes lies in the block; else it loses
-- nothing, and it never loses more
pub record LosesByBytes (core : Core) (writes : List Write) : Type 0 where
  pub lost : (address : ℕ) → IsReserved core.reservation.block address → is_written writes address ≡ true
      → (lost_by core_meaning writes core).reservation.block ≡ None
  pub kept : ((address : ℕ) → IsReserved core.reservation.block address → is_written writes address ≡ false)
      → lost_by core_meaning writes core ≡ core
  pub alone : lost_by core_meaning writes core
      ≡ record core { reservation = (lost_by core_meaning writes core).reservation }

-- writes that leave the same bytes in every memory take the same: what a hart loses hangs on the bytes alone
abbrev pub LosesAlike : Core → List Write → List Write → Type 0
LosesAlike core one other =
    ((bytes : Bytes) → after_writes one bytes ≡ after_writes other bytes)
    → lost_by core_meaning one core ≡ lost_by core_meaning other core
