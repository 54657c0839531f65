-- What the standard leaves to a core, and a step takes from the row that it is stepped by.
use Rattle.std.specs.Prelude.{ℕ, ◌+◌, ◌%◌, ◌^◌, Bool, true, false, not, ◌&&◌, ◌==◌, if◌then◌else◌, bit_and, Option}
use Rattle.std.specs.Prelude.{Some, None, option_map, unwrap_or}
use Rattle.hart_words.specs.declared.signal.Signal.TheVariants.{Intr, PcRdata, RdWdata, Trap, MemAddr, MemRdata}
use Rattle.hart_words.specs.declared.signal.Signal.TheVariants.{MemWmask, Csr}
use Rattle.hart_words.specs.declared.signal.CsrName.TheVariants.{Mip}
use Rattle.hart_words.specs.declared.signal.CsrSide.TheVariants.{Rdata, Rmask}
use Rattle.hart_words.specs.Signals.{Shown}
use Rattle.csr_file.specs.Fields.{all_bits}
use Rattle.rvfi_rows.specs.Window.{distance_in_window, moved_down}
use Rattle.hart_step.specs.declared.state.Core.{Core}
use Rattle.hart_step.specs.declared.choices.InterruptLines.{InterruptLines}
use Rattle.hart_step.specs.declared.choices.RowChoices.{RowChoices}

-- a signal is shown with this value
abbrev pub shows : Option ℕ → ℕ → Bool
shows None value = false
shows (Some shown) value = shown == value

-- the order index of the row after one: the one that is known or shown, plus 1
abbrev pub order_after : Option ℕ → Option ℕ → Option ℕ
order_after (Some known) shown = Some ((known + 1) % 2 ^ 64)
order_after None shown = option_map (λ order. (order + 1) % 2 ^ 64) shown

-- the interrupt lines: csr_mip_rdata under its mask, where it is shown; a mask that is not shown has all bits
abbrev pub pending_lines_under : Option ℕ → Option ℕ → InterruptLines
pending_lines_under None mask = record { up = 0; shown = 0 }
pending_lines_under (Some mip) mask =
    record { up = bit_and mip (unwrap_or mask all_bits); shown = unwrap_or mask all_bits }

unfoldable pub pending_lines_of : Shown → InterruptLines
pending_lines_of shown = pending_lines_under (shown (Csr Mip Rdata)) (shown (Csr Mip Rmask))

-- the row says that an interrupt was entered before it: not where it is the first row of a trap's handler
unfoldable pub asks_interrupt : Core → Shown → Bool
asks_interrupt core shown = shows (shown Intr) 1 && not (core.trapped_last && shows (shown PcRdata) core.pc)

-- what an instruction takes from its row, whose `rd_wdata` says nothing where the destination is x0
unfoldable pub row_choices_of : Shown → ℕ → RowChoices
row_choices_of shown rd = record {
  rd_wdata = if rd == 0 then None else shown RdWdata;
  mem_addr = shown MemAddr;
  mem_rdata = shown MemRdata;
  mem_wmask = shown MemWmask;
  traps = shows (shown Trap) 1;
  lines = pending_lines_of shown;
}

-- the bytes of an access among eight shown ones
abbrev pub bytes_at : ℕ → ℕ → Option ℕ → Option ℕ
bytes_at len shown distance = option_map (λ away. moved_down shown away % 256 ^ len) distance

abbrev pub load_bytes_shown : ℕ → ℕ → Option ℕ → Option ℕ → Option ℕ
load_bytes_shown va len None read = None
load_bytes_shown va len (Some address) None = None
load_bytes_shown va len (Some address) (Some read) = bytes_at len read (distance_in_window va len address)

-- what a device gave: the access's bytes of `mem_rdata`, where the row shows them; else the low bytes of the
-- destination's value; else 0
unfoldable pub device_value : RowChoices → ℕ → ℕ → ℕ
device_value choices va len =
    unwrap_or (load_bytes_shown va len choices.mem_addr choices.mem_rdata) (unwrap_or choices.rd_wdata 0 % 256 ^ len)

-- where the destination shows nothing, the mask of what is written tells; else the row does not say
abbrev pub mask_says_stored : Option ℕ → Bool
mask_says_stored None = true
mask_says_stored (Some mask) = not (mask == 0)

abbrev pub register_says_stored : Option ℕ → Option ℕ → Bool
register_says_stored None mask = mask_says_stored mask
register_says_stored (Some value) mask = value == 0

-- whether the row says that an SC stored, which it may do only in the reserved block
unfoldable pub says_stored : RowChoices → Bool
says_stored choices = register_says_stored choices.rd_wdata choices.mem_wmask
