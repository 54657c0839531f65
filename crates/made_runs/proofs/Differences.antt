-- Where rows agree with what the hart did.
use Rattle.std.proofs.Common.{◌≡◌, ℕ, true, false, List, [], ◌∷◌, Option, Some, None, Ok, refl, eq-eqb, bit_and, ◌==◌}
use Rattle.std.proofs.Common.{◌*◌, ◌%◌, ◌^◌, ◌<◌, arith}
use Rattle.std.proofs.Math.Nat.{mod-eq_of_lt}
use Rattle.csr_file.specs.Fields.{all_bits}
use Rattle.row_compare.specs.Memory.{byte_ones, data_at}
use Rattle.hart_words.specs.declared.signal.Signal.{Signal}
use Rattle.hart_words.specs.declared.signal.Signal.TheVariants.{Valid, Order, Intr, PcRdata, Mode, Ixl, Trap, Insn}
use Rattle.hart_words.specs.declared.signal.Signal.TheVariants.{Rs1Addr, Rs1Rdata, Rs2Addr, Rs2Rdata, RdAddr, RdWdata}
use Rattle.hart_words.specs.declared.signal.Signal.TheVariants.{PcWdata, MemAddr, MemRmask, MemRdata, MemWmask}
use Rattle.hart_words.specs.declared.signal.Signal.TheVariants.{MemWdata, MemPaddr, Halt, Hart, Csr}
use Rattle.hart_words.specs.declared.signal.SignalEntry.{SignalEntry}
use Rattle.hart_words.specs.Signals.{Shown}
use Rattle.rvfi_rows.specs.declared.expected.Retired.{Retired}
use Rattle.rvfi_rows.specs.declared.expected.Effects.{Effects}
use Rattle.rvfi_rows.specs.declared.expected.Accessed.{Accessed}
use Rattle.row_compare.specs.Difference.{difference_between, first_among, signal_difference}
use Rattle.row_compare.specs.Signals.{expected_signal, insn_mask}
use Rattle.row_compare.specs.Wanted.{whole, where_known}
use Rattle.trace_maker.specs.declared.made_row.MadeRow.{MadeRow}
use Rattle.made_runs.specs.Shows.{shown_of}

-- where no signal differs, none of the table does
pub none_among : (retired : Retired) (shown : Shown) (entries : List SignalEntry)
    → ((signal : Signal) → signal_difference retired shown signal ≡ None) → first_among retired shown entries ≡ None
unfolding first_among
none_among retired shown [] all = refl
none_among retired shown (entry ∷ entries) all = rw (all entry.signal) (none_among retired shown entries all)

-- a value does not differ from itself, whichever of its bits are compared
pub same_masked : (signal : Signal) (value mask : ℕ)
    → difference_between signal (Some value) (Some (record { value = value; mask = mask })) ≡ None
same_masked signal value mask =
    let same : (bit_and value mask == bit_and value mask) ≡ true = eq-eqb _ _ refl in rw same refl

pub same_value : (signal : Signal) (value : ℕ) → difference_between signal (Some value) (whole value) ≡ None
same_value signal value = same_masked signal value all_bits

-- the order index that is wanted, if one is, is this one
abbrev pub IsOrder : Option ℕ → ℕ → Type 0
IsOrder None order = Unit {0}
IsOrder (Some expected_signal) order = expected_signal ≡ order

pub same_order : (known : Option ℕ) (order : ℕ) → IsOrder known order
    → difference_between Order (Some order) (where_known known) ≡ None
same_order None order is = refl
same_order (Some expected_signal) order is = rw is (same_value Order order)

-- what the hart did by an instruction that did not trap, as a row shows it but for memory
pub record IsDone (retired : Retired) (effects : Effects) (row : MadeRow) : Type 0 where
  pub order : IsOrder retired.order row.order
  pub intr : retired.lacks_interrupt ≡ false
  pub pc : retired.pc ≡ row.pc_rdata
  pub insn : retired.insn ≡ Some row.insn
  pub done : retired.effects ≡ Ok effects
  pub rd : effects.rd ≡ row.rd_addr
  pub rd_value : effects.rd_value ≡ row.rd_wdata
  pub next_pc : effects.next_pc ≡ row.pc_wdata
  pub trap : row.trap ≡ 0

-- a row agrees in what it shows of memory
pub record AgreesInMemory (retired : Retired) (row : MadeRow) : Type 0 where
  pub address : signal_difference retired (shown_of row) MemAddr ≡ None
  pub read_mask : signal_difference retired (shown_of row) MemRmask ≡ None
  pub read : signal_difference retired (shown_of row) MemRdata ≡ None
  pub write_mask : signal_difference retired (shown_of row) MemWmask ≡ None
  pub written : signal_difference retired (shown_of row) MemWdata ≡ None
  pub physical : signal_difference retired (shown_of row) MemPaddr ≡ None

pub done_agrees : (retired : Retired) (effects : Effects) (row : MadeRow) → IsDone retired effects row
    → AgreesInMemory retired row → (signal : Signal) → signal_difference retired (shown_of row) signal ≡ None
unfolding signal_difference expected_signal
done_agrees retired effects row is memory Valid = refl
done_agrees retired effects row is memory Order = same_order retired.order row.order is.order
done_agrees retired effects row is memory Intr = refl
done_agrees retired effects row is memory PcRdata = rw is.pc (same_value PcRdata row.pc_rdata)
done_agrees retired effects row is memory Mode = refl
done_agrees retired effects row is memory Ixl = refl
done_agrees retired effects row is memory Trap = rw (is.done, is.trap) refl
done_agrees retired effects row is memory Insn =
    rw is.insn (same_masked Insn row.insn (insn_mask retired.insn_bits row.insn))
done_agrees retired effects row is memory Rs1Addr = refl
done_agrees retired effects row is memory Rs1Rdata = refl
done_agrees retired effects row is memory Rs2Addr = refl
done_agrees retired effects row is memory Rs2Rdata = refl
done_agrees retired effects row is memory RdAddr = rw (is.done, is.rd) (same_value RdAddr row.rd_addr)
done_agrees retired effects row is memory RdWdata = rw (is.done, is.rd_value) (same_value RdWdata row.rd_wdata)
done_agrees retired effects row is memory PcWdata = rw (is.done, is.next_pc) (same_value PcWdata row.pc_wdata)
done_agrees retired effects row is memory MemAddr = memory.address
done_agrees retired effects row is memory MemRmask = memory.read_mask
done_agrees retired effects row is memory MemRdata = memory.read
done_agrees retired effects row is memory MemWmask = memory.write_mask
done_agrees retired effects row is memory MemWdata = memory.written
done_agrees retired effects row is memory MemPaddr = memory.physical
done_agrees retired effects row is memory Halt = refl
done_agrees retired effects row is memory Hart = refl
done_agrees retired effects row is memory (Csr name side) = refl

-- without an access nothing is written
pub plain_memory : (retired : Retired) (effects : Effects) (row : MadeRow) → retired.effects ≡ Ok effects
    → effects.access ≡ None → row.mem_wmask ≡ 0 → AgreesInMemory retired row
unfolding signal_difference expected_signal
plain_memory retired effects row done access unwritten = record {
  address = rw (done, access) refl;
  read_mask = rw (done, access) refl;
  read = rw (done, access) refl;
  write_mask = rw (done, access, unwritten) refl;
  written = rw (done, access) refl;
  physical = rw (done, access) refl;
}

-- the 8 bytes that the loop stores and loads
abbrev pub cell_access : Option ℕ → Option ℕ → Option Accessed
cell_access read written = Some (record { va = 0x80001000; pa = 0x80001000; len = 8; read = read; written = written })

whole_value : (value : ℕ) → value < 2 ^ 64 → value * 1 % 2 ^ 64 ≡ value
whole_value value small =
    let one : value * 1 % 2 ^ 64 ≡ value = (let e : value * 1 ≡ value = omega arith in rw e (mod-eq_of_lt small)) in one

same_data : (signal : Signal) (value : ℕ) → value < 2 ^ 64
    → difference_between signal (Some value) (data_at 8 (Some 0) (Some value)) ≡ None
same_data signal value small =
    let same : (bit_and value (byte_ones 0 8) == bit_and value (byte_ones 0 8)) ≡ true = eq-eqb _ _ refl in
    rw (whole_value value small, same) refl

-- a row shows that the cell was written
pub record ShowsStore (row : MadeRow) (value : ℕ) : Type 0 where
  pub address : row.mem_addr ≡ 0x80001000
  pub mask : row.mem_wmask ≡ 255
  pub written : row.mem_wdata ≡ value
  pub physical : row.mem_paddr ≡ 0x80001000

pub store_memory : (retired : Retired) (effects : Effects) (row : MadeRow) (value : ℕ) → retired.effects ≡ Ok effects
    → effects.access ≡ cell_access None (Some value) → value < 2 ^ 64 → ShowsStore row value
    → AgreesInMemory retired row
unfolding signal_difference expected_signal
store_memory retired effects row value done access small shows = record {
  address = rw (done, access, shows.address) refl;
  read_mask = rw (done, access, shows.address) refl;
  read = rw (done, access, shows.address) refl;
  write_mask = rw (done, access, shows.address, shows.mask) refl;
  written = rw (done, access, shows.address, shows.written) (same_data MemWdata value small);
  physical = rw (done, access, shows.address, shows.physical) refl;
}

-- a row shows that the cell was read
pub record ShowsLoad (row : MadeRow) (value : ℕ) : Type 0 where
  pub address : row.mem_addr ≡ 0x80001000
  pub mask : row.mem_rmask ≡ 255
  pub unwritten : row.mem_wmask ≡ 0
  pub found : row.mem_rdata ≡ value
  pub physical : row.mem_paddr ≡ 0x80001000

pub load_memory : (retired : Retired) (effects : Effects) (row : MadeRow) (value : ℕ) → retired.effects ≡ Ok effects
    → effects.access ≡ cell_access (Some value) None → value < 2 ^ 64 → ShowsLoad row value
    → AgreesInMemory retired row
unfolding signal_difference expected_signal
load_memory retired effects row value done access small shows = record {
  address = rw (done, access, shows.address) refl;
  read_mask = rw (done, access, shows.address, shows.mask) refl;
  read = rw (done, access, shows.address, shows.found) (same_data MemRdata value small);
  write_mask = rw (done, access, shows.unwritten) refl;
  written = rw (done, access, shows.address) refl;
  physical = rw (done, access, shows.address, shows.physical) refl;
}
