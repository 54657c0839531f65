-- The numbered lines: the integer registers and the control and status registers, in the order of the text, and what of
-- the hart each of them is.
use Rattle.std.specs.Prelude.{ℕ, ◌+◌, ◌==◌, List, [], ◌∷◌, ◌++◌, codes, map, slice_index, take}
use Rattle.std.specs.List.{position_or_len, range_with_len}
use Rattle.std.specs.Int.{w64, to_le_bytes}
use Rattle.hart_words.specs.declared.privilege.PmpEntry.{PmpEntry}
use Rattle.hart_words.specs.declared.registers.Registers.{Registers}
use Rattle.csr_file.specs.declared.csrs.Csrs.{Csrs}
use Rattle.csr_file.specs.declared.profile.CsrProfile.{CsrProfile}
use Rattle.csr_file.specs.declared.stored_csr.StoredCsr.{StoredCsr}
use Rattle.csr_file.specs.Registers.{at}
use Rattle.csr_file.specs.Table.{stored_csrs, stored_index_of}
use Rattle.csr_file.specs.Values.{packed_pmpcfg_of}
use Rattle.state_text.specs.declared.numbers.TheConstants.{SAVED_CSRS}

-- the names, each with the blank that ends it
abbrev pub number_names : List (List ℕ)
number_names =
    codes "x1 " ∷ codes "x2 " ∷ codes "x3 " ∷ codes "x4 " ∷ codes "x5 " ∷ codes "x6 " ∷ codes "x7 " ∷
    codes "x8 " ∷ codes "x9 " ∷ codes "x10 " ∷ codes "x11 " ∷ codes "x12 " ∷ codes "x13 " ∷ codes "x14 " ∷
    codes "x15 " ∷ codes "x16 " ∷ codes "x17 " ∷ codes "x18 " ∷ codes "x19 " ∷ codes "x20 " ∷ codes "x21 " ∷
    codes "x22 " ∷ codes "x23 " ∷ codes "x24 " ∷ codes "x25 " ∷ codes "x26 " ∷ codes "x27 " ∷ codes "x28 " ∷
    codes "x29 " ∷ codes "x30 " ∷ codes "x31 " ∷ codes "csr_mstatus " ∷ codes "csr_medeleg " ∷
    codes "csr_mideleg " ∷ codes "csr_mie " ∷ codes "csr_mtvec " ∷ codes "csr_stvec " ∷
    codes "csr_mcounteren " ∷ codes "csr_scounteren " ∷ codes "csr_menvcfg " ∷ codes "csr_senvcfg " ∷
    codes "csr_mcountinhibit " ∷ codes "csr_mscratch " ∷ codes "csr_sscratch " ∷ codes "csr_mepc " ∷
    codes "csr_sepc " ∷ codes "csr_mcause " ∷ codes "csr_scause " ∷ codes "csr_mtval " ∷ codes "csr_stval " ∷
    codes "csr_mip " ∷ codes "csr_satp " ∷ codes "csr_pmpcfg0 " ∷ codes "csr_pmpcfg2 " ∷
    codes "csr_pmpaddr0 " ∷ codes "csr_pmpaddr1 " ∷ codes "csr_pmpaddr2 " ∷ codes "csr_pmpaddr3 " ∷
    codes "csr_pmpaddr4 " ∷ codes "csr_pmpaddr5 " ∷ codes "csr_pmpaddr6 " ∷ codes "csr_pmpaddr7 " ∷
    codes "csr_pmpaddr8 " ∷ codes "csr_pmpaddr9 " ∷ codes "csr_pmpaddr10 " ∷ codes "csr_pmpaddr11 " ∷
    codes "csr_pmpaddr12 " ∷ codes "csr_pmpaddr13 " ∷ codes "csr_pmpaddr14 " ∷ codes "csr_pmpaddr15 " ∷ []

-- the stored control and status registers in the order of the text
abbrev pub saved_csrs : List StoredCsr
saved_csrs = SAVED_CSRS

-- those of physical memory protection: the configurations of the first entries and of the others, and the addresses
abbrev pub protection_numbers_of : Csrs → List ℕ
protection_numbers_of csrs =
    packed_pmpcfg_of csrs 0 ∷ packed_pmpcfg_of csrs 8 ∷ map (λ entry. entry.addr) csrs.entries

-- the numbers of a hart
unfoldable pub numbers_of : Registers → Csrs → List ℕ
numbers_of registers csrs = registers.values ++ (map (at csrs) saved_csrs ++ protection_numbers_of csrs)

-- the registers that have the numbers
abbrev pub registers_with : List ℕ → Registers
registers_with numbers = record { values = take 31 numbers }

-- where the value of a stored register is among the numbers
abbrev pub stored_place : StoredCsr → ℕ
stored_place stored =
    31 + position_or_len (λ one. stored_index_of one == stored_index_of stored) saved_csrs

-- the same of each, in the order in which they are stored
abbrev pub stored_places : List ℕ
stored_places = map stored_place stored_csrs

-- the configuration bytes of physical memory protection
abbrev pub configurations_in : List ℕ → List ℕ
configurations_in numbers = to_le_bytes w64 (slice_index numbers 52) ++ to_le_bytes w64 (slice_index numbers 53)

abbrev pub pmp_entry_in : List ℕ → ℕ → PmpEntry
pmp_entry_in numbers k =
    record { cfg = slice_index (configurations_in numbers) k; addr = slice_index numbers (54 + k) }

-- the control and status registers of a core that have the numbers
unfoldable pub csrs_with : CsrProfile → List ℕ → Csrs
csrs_with profile numbers = record {
  values = map (slice_index numbers) stored_places;
  entries = map (pmp_entry_in numbers) (range_with_len 0 16);
  profile = profile;
}
