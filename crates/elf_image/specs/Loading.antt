-- What is held of the segments so far, and what one more does to it.
use Rattle.std.specs.Prelude.{◌≡◌, ℕ, ◌+◌, ◌<◌, ◌==◌, if◌then◌else◌, false, List, [], ◌∷◌, length, slice_index}
use Rattle.std.specs.Prelude.{Option, Some, None, Result, Ok, Err}
use Rattle.std.specs.List.{list_any}
use Rattle.std.specs.BTreeMap.{get}
use Rattle.std.specs.Ordering.{nat_cmp}
use Rattle.hart_words.specs.declared.span.Span.{Span}
use Rattle.hart_words.specs.Results.{FailsAs}
use Rattle.image_text.specs.Bytes.{byte_at}
use Rattle.elf_image.specs.declared.fault.ElfError.{ElfError}
use Rattle.elf_image.specs.declared.fault.ElfFault.{ElfFault}
use Rattle.elf_image.specs.declared.program_header.ProgramHeader.{ProgramHeader}
use Rattle.elf_image.specs.declared.segments.LoadedSegments.{LoadedSegments}
use Rattle.elf_image.specs.declared.segments.Segment.{Segment}
use Rattle.elf_image.specs.Segments.{overlaps, checked_segment}
use Rattle.elf_image.specs.Image.{segment_bytes, elf_fault}

-- the bytes that a segment has in the file
pub record IsFilePart (file : List ℕ) (header : ProgramHeader) (part : List ℕ) : Type 0 where
  pub len : length part ≡ header.filesz
  pub value : (k : ℕ) → k < header.filesz → slice_index part k ≡ slice_index file (header.offset + k)

-- the end of the segment that begins at an address
unfoldable pub segment_end : List ProgramHeader → ℕ → Option ℕ
segment_end [] address = None
segment_end (header ∷ headers) address =
    if address == header.paddr then Some (header.paddr + header.memsz) else segment_end headers address

-- each segment has a byte, and none that another has
unfoldable pub AreApart : List ProgramHeader → Type 0
AreApart [] = Unit {0}
AreApart (header ∷ headers) =
    (0 < header.memsz) × (list_any (overlaps header) headers ≡ false) × AreApart headers

-- the bytes and the ends of segments, the last one first
pub record HoldsSegments (file : List ℕ) (earlier : List ProgramHeader) (loaded : LoadedSegments) : Type 0 where
  pub bytes : byte_at loaded.pieces ≡ segment_bytes file earlier
  pub ends : (address : ℕ) → get nat_cmp loaded.ends address ≡ segment_end earlier address
  pub apart : AreApart earlier

-- the same with one segment more, where it is apart from the others
abbrev pub KeepsSegment : Segment → LoadedSegments → LoadedSegments → Type 0
KeepsSegment segment old new =
    (earlier : List ProgramHeader) → HoldsSegments segment.file.now earlier old
    → list_any (overlaps segment.header) earlier ≡ false
    → HoldsSegments segment.file.now (segment.header ∷ earlier) new

-- whether a segment may follow those so far
abbrev pub checked_after : Span → Segment → List ProgramHeader → Result (Unit {0}) ElfFault
checked_after ram segment earlier =
    checked_segment ram (length segment.file.now) earlier segment.index segment.header

-- the segment has no fault and is loaded, or it has the fault
abbrev pub LoadGives : Span → Segment → LoadedSegments → LoadedSegments → Result (Unit {0}) ElfError → Type 0
LoadGives ram segment old new (Ok done) =
    (earlier : List ProgramHeader) → HoldsSegments segment.file.now earlier old
    → (checked_after ram segment earlier ≡ Ok tt) × HoldsSegments segment.file.now (segment.header ∷ earlier) new
LoadGives ram segment old new (Err e) =
    (earlier : List ProgramHeader) → HoldsSegments segment.file.now earlier old
    → FailsAs (elf_fault e) (checked_after ram segment earlier)
