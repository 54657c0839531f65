-- The image that an ELF file describes, or its first fault.
use Rattle.std.specs.Prelude.{ℕ, ◌+◌, ◌-◌, if◌then◌else◌, List, [], ◌∷◌, length, slice_index, Option, Some, None}
use Rattle.std.specs.Prelude.{Result}
use Rattle.std.specs.Prelude.{Ok}
use Rattle.hart_words.specs.declared.span.Span.{Span}
use Rattle.hart_words.specs.Memory.{is_within}
use Rattle.hart_words.specs.Results.{◌>>=◌}
use Rattle.elf_image.specs.declared.program_header.ProgramHeader.{ProgramHeader}
use Rattle.elf_image.specs.declared.fault.ElfFault.{ElfFault}
use Rattle.elf_image.specs.declared.fault.ElfError.{ElfError}
use Rattle.elf_image.specs.declared.fault.ElfError.TheVariants as errors
use Rattle.elf_image.specs.Headers.{checked_header, table_of}
use Rattle.elf_image.specs.Segments.{segments_after}

-- the fault that an error stands for; want of memory is none
abbrev pub elf_fault : ElfError → Option ElfFault
elf_fault (errors.Fault fault) = Some fault
elf_fault errors.NoMemory = None

-- bytes with those that a segment has in the file
abbrev pub with_segment : List ℕ → ProgramHeader → (ℕ → Option ℕ) → ℕ → Option ℕ
with_segment file header bytes address =
    if is_within header.paddr header.filesz address
    then Some (slice_index file (header.offset + (address - header.paddr)))
    else bytes address

-- the bytes that segments have in the file
unfoldable pub segment_bytes : List ℕ → List ProgramHeader → ℕ → Option ℕ
segment_bytes file [] = λ _. None
segment_bytes file (header ∷ headers) = with_segment file header (segment_bytes file headers)

-- the bytes of a file's segments, where they stand, and its entry point
unfoldable pub elf_of : Span → List ℕ → Result ((ℕ → Option ℕ) × ℕ) ElfFault
elf_of ram file = do
  header ← checked_header file
  segments ← segments_after ram (length file) [] 0 (table_of file header)
  Ok (segment_bytes file segments, header.entry)
