-- Every signal stands in the table at its index, and no width is above 64.
use Rattle.std.proofs.Common.{◌≡◌, ◌≤◌, ℕ, zero, suc, Bool, true, false, List, [], ◌∷◌, Option, Some, refl, sym, subst}
use Rattle.std.proofs.Common.{arith}
use Rattle.std.specs.Prelude.{nat_le, slice_get}
use Rattle.std.specs.List.{list_all}
use Rattle.std.specs.Option.{option_map_or}
use Rattle.std.proofs.lemmas.Bool.{and_parts}
use Rattle.std.proofs.lemmas.Grind.{common_steps}
use Rattle.hart_words.specs.declared.signal.SignalEntry.{SignalEntry}
use Rattle.hart_words.specs.declared.signal.TheConstants.{SIGNALS}
use Rattle.hart_words.specs.declared.signal.Signal.{Signal}
use Rattle.hart_words.specs.declared.signal.Signal.TheVariants.{Valid, Order, Intr, PcRdata, Mode, Ixl, Trap, Insn}
use Rattle.hart_words.specs.declared.signal.Signal.TheVariants.{Rs1Addr, Rs1Rdata, Rs2Addr, Rs2Rdata, RdAddr, RdWdata}
use Rattle.hart_words.specs.declared.signal.Signal.TheVariants.{PcWdata, MemAddr, MemRmask, MemRdata, MemWmask}
use Rattle.hart_words.specs.declared.signal.Signal.TheVariants.{MemWdata, MemPaddr, Halt, Hart, Csr}
use Rattle.hart_words.specs.declared.signal.CsrName.{CsrName}
use Rattle.hart_words.specs.declared.signal.CsrName.TheVariants.{Mstatus, Misa, Medeleg, Mideleg, Mie, Mtvec, Mscratch}
use Rattle.hart_words.specs.declared.signal.CsrName.TheVariants.{Mepc, Mcause, Mtval, Mip, Satp, Sstatus, Sie, Sip}
use Rattle.hart_words.specs.declared.signal.CsrName.TheVariants.{Stvec, Sscratch, Sepc, Scause, Stval, Pmpcfg0, Pmpcfg2}
use Rattle.hart_words.specs.declared.signal.CsrSide.{CsrSide}
use Rattle.hart_words.specs.declared.signal.CsrSide.TheVariants.{Rmask, Wmask, Rdata, Wdata}
use Rattle.hart_words.specs.Signals.{StandsAtItsIndex, signal_entry_of, index_of, width_of}

of_mstatus : (side : CsrSide) → StandsAtItsIndex (Csr Mstatus side)
unfolding signal_entry_of
of_mstatus Rmask = refl
of_mstatus Wmask = refl
of_mstatus Rdata = refl
of_mstatus Wdata = refl

of_misa : (side : CsrSide) → StandsAtItsIndex (Csr Misa side)
unfolding signal_entry_of
of_misa Rmask = refl
of_misa Wmask = refl
of_misa Rdata = refl
of_misa Wdata = refl

of_medeleg : (side : CsrSide) → StandsAtItsIndex (Csr Medeleg side)
unfolding signal_entry_of
of_medeleg Rmask = refl
of_medeleg Wmask = refl
of_medeleg Rdata = refl
of_medeleg Wdata = refl

of_mideleg : (side : CsrSide) → StandsAtItsIndex (Csr Mideleg side)
unfolding signal_entry_of
of_mideleg Rmask = refl
of_mideleg Wmask = refl
of_mideleg Rdata = refl
of_mideleg Wdata = refl

of_mie : (side : CsrSide) → StandsAtItsIndex (Csr Mie side)
unfolding signal_entry_of
of_mie Rmask = refl
of_mie Wmask = refl
of_mie Rdata = refl
of_mie Wdata = refl

of_mtvec : (side : CsrSide) → StandsAtItsIndex (Csr Mtvec side)
unfolding signal_entry_of
of_mtvec Rmask = refl
of_mtvec Wmask = refl
of_mtvec Rdata = refl
of_mtvec Wdata = refl

of_mscratch : (side : CsrSide) → StandsAtItsIndex (Csr Mscratch side)
unfolding signal_entry_of
of_mscratch Rmask = refl
of_mscratch Wmask = refl
of_mscratch Rdata = refl
of_mscratch Wdata = refl

of_mepc : (side : CsrSide) → StandsAtItsIndex (Csr Mepc side)
unfolding signal_entry_of
of_mepc Rmask = refl
of_mepc Wmask = refl
of_mepc Rdata = refl
of_mepc Wdata = refl

of_mcause : (side : CsrSide) → StandsAtItsIndex (Csr Mcause side)
unfolding signal_entry_of
of_mcause Rmask = refl
of_mcause Wmask = refl
of_mcause Rdata = refl
of_mcause Wdata = refl

of_mtval : (side : CsrSide) → StandsAtItsIndex (Csr Mtval side)
unfolding signal_entry_of
of_mtval Rmask = refl
of_mtval Wmask = refl
of_mtval Rdata = refl
of_mtval Wdata = refl

of_mip : (side : CsrSide) → StandsAtItsIndex (Csr Mip side)
unfolding signal_entry_of
of_mip Rmask = refl
of_mip Wmask = refl
of_mip Rdata = refl
of_mip Wdata = refl

of_satp : (side : CsrSide) → StandsAtItsIndex (Csr Satp side)
unfolding signal_entry_of
of_satp Rmask = refl
of_satp Wmask = refl
of_satp Rdata = refl
of_satp Wdata = refl

of_sstatus : (side : CsrSide) → StandsAtItsIndex (Csr Sstatus side)
unfolding signal_entry_of
of_sstatus Rmask = refl
of_sstatus Wmask = refl
of_sstatus Rdata = refl
of_sstatus Wdata = refl

of_sie : (side : CsrSide) → StandsAtItsIndex (Csr Sie side)
unfolding signal_entry_of
of_sie Rmask = refl
of_sie Wmask = refl
of_sie Rdata = refl
of_sie Wdata = refl

of_sip : (side : CsrSide) → StandsAtItsIndex (Csr Sip side)
unfolding signal_entry_of
of_sip Rmask = refl
of_sip Wmask = refl
of_sip Rdata = refl
of_sip Wdata = refl

of_stvec : (side : CsrSide) → StandsAtItsIndex (Csr Stvec side)
unfolding signal_entry_of
of_stvec Rmask = refl
of_stvec Wmask = refl
of_stvec Rdata = refl
of_stvec Wdata = refl

of_sscratch : (side : CsrSide) → StandsAtItsIndex (Csr Sscratch side)
unfolding signal_entry_of
of_sscratch Rmask = refl
of_sscratch Wmask = refl
of_sscratch Rdata = refl
of_sscratch Wdata = refl

of_sepc : (side : CsrSide) → StandsAtItsIndex (Csr Sepc side)
unfolding signal_entry_of
of_sepc Rmask = refl
of_sepc Wmask = refl
of_sepc Rdata = refl
of_sepc Wdata = refl

of_scause : (side : CsrSide) → StandsAtItsIndex (Csr Scause side)
unfolding signal_entry_of
of_scause Rmask = refl
of_scause Wmask = refl
of_scause Rdata = refl
of_scause Wdata = refl

of_stval : (side : CsrSide) → StandsAtItsIndex (Csr Stval side)
unfolding signal_entry_of
of_stval Rmask = refl
of_stval Wmask = refl
of_stval Rdata = refl
of_stval Wdata = refl

of_pmpcfg0 : (side : CsrSide) → StandsAtItsIndex (Csr Pmpcfg0 side)
unfolding signal_entry_of
of_pmpcfg0 Rmask = refl
of_pmpcfg0 Wmask = refl
of_pmpcfg0 Rdata = refl
of_pmpcfg0 Wdata = refl

of_pmpcfg2 : (side : CsrSide) → StandsAtItsIndex (Csr Pmpcfg2 side)
unfolding signal_entry_of
of_pmpcfg2 Rmask = refl
of_pmpcfg2 Wmask = refl
of_pmpcfg2 Rdata = refl
of_pmpcfg2 Wdata = refl

of_register : (csr : CsrName) (side : CsrSide) → StandsAtItsIndex (Csr csr side)
of_register Mstatus side = of_mstatus side
of_register Misa side = of_misa side
of_register Medeleg side = of_medeleg side
of_register Mideleg side = of_mideleg side
of_register Mie side = of_mie side
of_register Mtvec side = of_mtvec side
of_register Mscratch side = of_mscratch side
of_register Mepc side = of_mepc side
of_register Mcause side = of_mcause side
of_register Mtval side = of_mtval side
of_register Mip side = of_mip side
of_register Satp side = of_satp side
of_register Sstatus side = of_sstatus side
of_register Sie side = of_sie side
of_register Sip side = of_sip side
of_register Stvec side = of_stvec side
of_register Sscratch side = of_sscratch side
of_register Sepc side = of_sepc side
of_register Scause side = of_scause side
of_register Stval side = of_stval side
of_register Pmpcfg0 side = of_pmpcfg0 side
of_register Pmpcfg2 side = of_pmpcfg2 side

pub stands_at_its_index : (signal : Signal) → StandsAtItsIndex signal
unfolding signal_entry_of
stands_at_its_index Valid = refl
stands_at_its_index Order = refl
stands_at_its_index Intr = refl
stands_at_its_index PcRdata = refl
stands_at_its_index Mode = refl
stands_at_its_index Ixl = refl
stands_at_its_index Trap = refl
stands_at_its_index Insn = refl
stands_at_its_index Rs1Addr = refl
stands_at_its_index Rs1Rdata = refl
stands_at_its_index Rs2Addr = refl
stands_at_its_index Rs2Rdata = refl
stands_at_its_index RdAddr = refl
stands_at_its_index RdWdata = refl
stands_at_its_index PcWdata = refl
stands_at_its_index MemAddr = refl
stands_at_its_index MemRmask = refl
stands_at_its_index MemRdata = refl
stands_at_its_index MemWmask = refl
stands_at_its_index MemWdata = refl
stands_at_its_index MemPaddr = refl
stands_at_its_index Halt = refl
stands_at_its_index Hart = refl
stands_at_its_index (Csr csr side) = of_register csr side

width_within : (width : ℕ) → nat_le width 64 ≡ true → width ≤ 64
width_within width h = grind (arith, common_steps)

width_at : (entries : List SignalEntry) (i : ℕ) → list_all (λ entry. nat_le entry.width 64) entries ≡ true
    → option_map_or (λ entry. entry.width) (slice_get entries i) 64 ≤ 64
width_at [] i h = omega arith
width_at (entry ∷ entries) zero h = width_within entry.width (and_parts (nat_le entry.width 64) _ h).0
width_at (entry ∷ entries) (suc i) h = width_at entries i (and_parts (nat_le entry.width 64) _ h).1

pub widths_fit : (signal : Signal) → width_of signal ≤ 64
unfolding width_of signal_entry_of
widths_fit signal = width_at SIGNALS (index_of signal) refl

pub width_in : (signal : Signal) (entry : SignalEntry) → Some entry ≡ signal_entry_of signal → entry.width ≤ 64
unfolding width_of
width_in signal entry is =
    let P : Option SignalEntry → Type 0 = λ e. option_map_or (λ entry. entry.width) e 64 ≤ 64 in
    subst P (sym is) (widths_fit signal)
