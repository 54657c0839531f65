-- What an image has of the segments of its file.
use Rattle.std.specs.Prelude.{◌≡◌, ℕ, ◌+◌, ◌<◌, ◌≤◌, Bool, true, false, List, length, slice_index, Option, Some, None}
use Rattle.std.specs.List.{All, filter}
use Rattle.hart_words.specs.declared.span.Span.{Span}
use Rattle.hart_words.specs.Memory.{is_within}
use Rattle.hart_words.specs.Spans.{LiesIn}
use Rattle.elf_image.specs.declared.program_header.ProgramHeader.{ProgramHeader}
use Rattle.elf_image.specs.Headers.{header_of, table_of}
use Rattle.elf_image.specs.Segments.{is_loading}

-- the segments that a file has loaded
abbrev pub loading_segments : List ℕ → List ProgramHeader
loading_segments file = filter is_loading (table_of file (header_of file))

-- the address is one of the segment's
abbrev pub is_segment_address : ProgramHeader → ℕ → Bool
is_segment_address header address = is_within header.paddr header.memsz address

-- Each byte of a segment is its byte in the file. Past those none stands, which means 0.
pub record HasSegment (ram : Span) (file : List ℕ) (bytes : ℕ → Option ℕ) (header : ProgramHeader) : Type 0 where
  pub filled : (k : ℕ) → k < header.filesz → bytes (header.paddr + k) ≡ Some (slice_index file (header.offset + k))
  pub empty : (k : ℕ) → header.filesz ≤ k → k < header.memsz → bytes (header.paddr + k) ≡ None
  pub in_file : (k : ℕ) → k < header.filesz → header.offset + k < length file
  pub in_ram : (k : ℕ) → k < header.memsz → LiesIn (header.paddr + k) ram

-- An image has each segment of its file, and no byte elsewhere, which means 0 too. The first pc is the entry point.
pub record HasSegments (ram : Span) (file : List ℕ) (image : (ℕ → Option ℕ) × ℕ) : Type 0 where
  pub segments : All (HasSegment ram file image.0) (loading_segments file)
  pub elsewhere :
      (address : ℕ) → All (λ header. is_segment_address header address ≡ false) (loading_segments file)
      → image.0 address ≡ None
  pub entry : image.1 ≡ (header_of file).entry

-- an address is one of both segments'
abbrev pub HaveInCommon : ProgramHeader → ProgramHeader → ℕ → Type 0
HaveInCommon one other address = (is_segment_address one address ≡ true) × (is_segment_address other address ≡ true)
