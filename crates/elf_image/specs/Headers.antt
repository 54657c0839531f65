-- The headers of an ELF file: their fields that count, at their offsets (System V ABI, "Object Files", on the ELF
-- header and the program header; RISC-V ELF psABI, "ELF Object Files").
use Rattle.std.specs.Prelude.{ℕ, zero, suc, ◌+◌, ◌*◌, ◌%◌, Bool, ◌==◌, ◌&&◌, ◌||◌, not, nat_lt, List, [], ◌∷◌, length}
use Rattle.std.specs.Prelude.{slice_index, Result, Ok}
use Rattle.hart_words.specs.Memory.{number_at}
use Rattle.hart_words.specs.Results.{◌>>◌, refuse_if}
use Rattle.elf_image.specs.declared.header.ElfHeader.{ElfHeader}
use Rattle.elf_image.specs.declared.program_header.ProgramHeader.{ProgramHeader}
use Rattle.elf_image.specs.declared.fault.ElfFault.{ElfFault}
use Rattle.elf_image.specs.declared.fault.ElfFault.TheVariants.{CutShort, WrongKind, BadTable, BadEntry}

-- the number that so many bytes of a file are from an offset on, little-endian
abbrev pub number_at_offset : List ℕ → ℕ → ℕ → ℕ
number_at_offset file at len = number_at (slice_index file) at len

-- the ELF header, 64 bytes at the front of the file
unfoldable pub header_of : List ℕ → ElfHeader
header_of file = record {
  class = number_at_offset file 4 1;
  encoding = number_at_offset file 5 1;
  kind = number_at_offset file 16 2;
  machine = number_at_offset file 18 2;
  entry = number_at_offset file 24 8;
  phoff = number_at_offset file 32 8;
  phentsize = number_at_offset file 54 2;
  phnum = number_at_offset file 56 2;
}

-- a program header, 56 bytes at an offset
unfoldable pub program_header_at : List ℕ → ℕ → ProgramHeader
program_header_at file at = record {
  kind = number_at_offset file at 4;
  offset = number_at_offset file (at + 8) 8;
  paddr = number_at_offset file (at + 24) 8;
  filesz = number_at_offset file (at + 32) 8;
  memsz = number_at_offset file (at + 40) 8;
}

-- so many program headers, one after another, from an offset on
unfoldable pub program_headers_at : List ℕ → ℕ → ℕ → List ProgramHeader
program_headers_at file at zero = []
program_headers_at file at (suc count) = program_header_at file at ∷ program_headers_at file (at + 56) count

-- the program header table
abbrev pub table_of : List ℕ → ElfHeader → List ProgramHeader
table_of file header = program_headers_at file header.phoff header.phnum

-- 64 bits, little-endian, an executable, for RISC-V
abbrev pub is_riscv_executable : ElfHeader → Bool
is_riscv_executable header =
    (header.class == 2) && (header.encoding == 1) && (header.kind == 2) && (header.machine == 243)

-- the program headers have another size than theirs, or there are more of them than this field can say
abbrev pub has_bad_table : ElfHeader → Bool
has_bad_table header = not (header.phnum == 0) && not (header.phentsize == 56) || (header.phnum == 65535)

-- a table that has an entry runs past the end of a file of so many bytes
abbrev pub has_cut_table : ℕ → ElfHeader → Bool
has_cut_table len header = not (header.phnum == 0) && nat_lt len (header.phoff + 56 * header.phnum)

-- the ELF header, or its first fault
unfoldable pub checked_header : List ℕ → Result ElfHeader ElfFault
checked_header file = do
  refuse_if (nat_lt (length file) 64) CutShort
  let header = header_of file
  refuse_if (not (is_riscv_executable header)) WrongKind
  refuse_if (has_bad_table header) BadTable
  refuse_if (has_cut_table (length file) header) CutShort
  refuse_if (header.entry % 2 == 1) BadEntry
  Ok header
