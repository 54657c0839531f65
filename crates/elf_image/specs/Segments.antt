-- The segments that a program header table loads (System V ABI, "Program Loading and Dynamic Linking", on the program
-- header), at their physical addresses.
use Rattle.std.specs.Prelude.{ℕ, ◌+◌, Bool, ◌==◌, ◌&&◌, ◌||◌, not, nat_lt, if◌then◌else◌, List, [], ◌∷◌, Result, Ok}
use Rattle.std.specs.List.{list_any}
use Rattle.hart_words.specs.declared.span.Span.{Span}
use Rattle.hart_words.specs.Spans.{holds_all}
use Rattle.hart_words.specs.Results.{◌>>◌, refuse_if}
use Rattle.elf_image.specs.declared.program_header.ProgramHeader.{ProgramHeader}
use Rattle.elf_image.specs.declared.fault.ElfFault.{ElfFault}
use Rattle.elf_image.specs.declared.fault.ElfFault.TheVariants.{BadSegment, OutsideRam, Overlap}

-- a loadable segment that has a byte in memory
abbrev pub is_loading : ProgramHeader → Bool
is_loading header = (header.kind == 1) && not (header.memsz == 0)

-- more bytes in the file than in memory, or bytes past the end of a file of so many bytes
abbrev pub has_bad_size : ℕ → ProgramHeader → Bool
has_bad_size len header =
    nat_lt header.memsz header.filesz || not (header.filesz == 0) && nat_lt len (header.offset + header.filesz)

-- two segments have an address in common
abbrev pub overlaps : ProgramHeader → ProgramHeader → Bool
overlaps one other = nat_lt one.paddr (other.paddr + other.memsz) && nat_lt other.paddr (one.paddr + one.memsz)

-- a segment that may be loaded after earlier ones, or its first fault
unfoldable pub checked_segment : Span → ℕ → List ProgramHeader → ℕ → ProgramHeader → Result (Unit {0}) ElfFault
checked_segment ram len earlier index header = do
  refuse_if (has_bad_size len header) (BadSegment index)
  refuse_if (not (holds_all ram header.paddr header.memsz)) (OutsideRam index)
  refuse_if (list_any (overlaps header) earlier) (Overlap index)

-- the segments of a table that are loaded, the last one first, or the first fault
unfoldable pub segments_after :
    Span → ℕ → List ProgramHeader → ℕ → List ProgramHeader → Result (List ProgramHeader) ElfFault
segments_after ram len earlier index [] = Ok earlier
segments_after ram len earlier index (header ∷ headers) =
    if is_loading header
    then checked_segment ram len earlier index header >> segments_after ram len (header ∷ earlier) (index + 1) headers
    else segments_after ram len earlier (index + 1) headers
