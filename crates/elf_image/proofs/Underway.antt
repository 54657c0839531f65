-- A program header table, loaded in part.
use Rattle.std.proofs.Common.{◌≡◌, ℕ, suc, ◌+◌, ◌-◌, ◌*◌, ◌%◌, ◌<◌, ◌≤◌, true, false, List, [], ◌∷◌, Ok, Err, Result}
use Rattle.std.proofs.Common.{refl, sym, arith, length, subst}
use Rattle.std.specs.Prelude.{◌==◌, Option, None, Some, not}
use Rattle.std.proofs.lemmas.Bool.Decides.{nat_tests}
use Rattle.hart_words.specs.declared.span.Span.{Span}
use Rattle.hart_words.specs.Results.{FailsAs}
use Rattle.elf_image.specs.declared.fault.ElfFault.{ElfFault}
use Rattle.elf_image.specs.declared.header.ElfHeader.{ElfHeader}
use Rattle.elf_image.specs.declared.program_header.ProgramHeader.{ProgramHeader}
use Rattle.elf_image.specs.declared.segments.LoadedSegments.{LoadedSegments}
use Rattle.elf_image.specs.Headers.{checked_header, header_of, has_cut_table, has_bad_table, is_riscv_executable}
use Rattle.elf_image.specs.Headers.{program_header_at, program_headers_at, table_of}
use Rattle.elf_image.specs.Segments.{is_loading, checked_segment, segments_after}
use Rattle.elf_image.specs.Image.{segment_bytes, elf_of}
use Rattle.elf_image.specs.Loading.{HoldsSegments}
use Rattle.elf_image.proofs.Checks.{passed}

-- the headers of a table from an index on
abbrev pub remaining : List ℕ → ElfHeader → ℕ → List ProgramHeader
remaining file header index = program_headers_at file (header.phoff + 56 * index) (header.phnum - index)

-- what is loaded, and what it leads to with the headers that are left
pub record IsUnderway (ram : Span) (file : List ℕ) (header : ElfHeader) (index : ℕ)
    (loaded : LoadedSegments) : Type 0 where
  pub earlier : List ProgramHeader
  pub holds : HoldsSegments file earlier loaded
  pub leads :
      segments_after ram (length file) earlier index (remaining file header index)
      ≡ segments_after ram (length file) [] 0 (table_of file header)

pub underway_none : (ram : Span) (file : List ℕ) (header : ElfHeader)
    (loaded : LoadedSegments) → HoldsSegments file [] loaded
    → IsUnderway ram file header 0 loaded
underway_none ram file header loaded holds =
    let start : header.phoff + 56 * 0 ≡ header.phoff = omega arith in
    let count : header.phnum - 0 ≡ header.phnum = omega arith in
    record { earlier = []; holds = holds; leads = rw (start, count) refl }

-- the next header, and those after it
next_header : (file : List ℕ) (header : ElfHeader) (index : ℕ) → index < header.phnum
    → remaining file header index
    ≡ program_header_at file (header.phoff + 56 * index) ∷ remaining file header (index + 1)
unfolding program_headers_at
next_header file header index below =
    let more : header.phnum - index ≡ suc (header.phnum - (index + 1)) = omega (arith, below) in
    let next : header.phoff + 56 * (index + 1) ≡ header.phoff + 56 * index + 56 = omega arith in
    rw (more, next) refl

-- a header that is passed over
pub underway_over : (ram : Span) (file : List ℕ) (header : ElfHeader) (index : ℕ) (loaded : LoadedSegments)
    → index < header.phnum → is_loading (program_header_at file (header.phoff + 56 * index)) ≡ false
    → IsUnderway ram file header index loaded → IsUnderway ram file header (index + 1) loaded
unfolding segments_after
underway_over ram file header index loaded below over underway =
    record {
      earlier = underway.earlier;
      holds = underway.holds;
      leads =
          (let step = rw (next_header file header index below, over) at underway.leads in step);
    }

-- a header that is loaded
pub underway_on : (ram : Span) (file : List ℕ) (header : ElfHeader) (index : ℕ) (old new : LoadedSegments)
    → index < header.phnum → is_loading (program_header_at file (header.phoff + 56 * index)) ≡ true
    → (underway : IsUnderway ram file header index old)
    → checked_segment ram (length file) underway.earlier index (program_header_at file (header.phoff + 56 * index))
    ≡ Ok tt
    → HoldsSegments file (program_header_at file (header.phoff + 56 * index) ∷ underway.earlier) new
    → IsUnderway ram file header (index + 1) new
unfolding segments_after
underway_on ram file header index old new below loading underway checked loaded =
    record {
      earlier = program_header_at file (header.phoff + 56 * index) ∷ underway.earlier;
      holds = loaded;
      leads =
          (let step = rw (next_header file header index below, loading, checked) at underway.leads in step);
    }

-- a header that has a fault
pub underway_refused : (ram : Span) (file : List ℕ) (header : ElfHeader) (index : ℕ) (loaded : LoadedSegments)
    → index < header.phnum → is_loading (program_header_at file (header.phoff + 56 * index)) ≡ true
    → (underway : IsUnderway ram file header index loaded) (fault : Option ElfFault)
    → FailsAs fault
    (checked_segment ram (length file) underway.earlier index (program_header_at file (header.phoff + 56 * index)))
    → FailsAs fault (segments_after ram (length file) [] 0 (table_of file header))
unfolding segments_after
underway_refused ram file header index loaded below loading underway None fails = tt
underway_refused ram file header index loaded below loading underway (Some fault) fails =
    let step = rw (next_header file header index below, loading, fails) at underway.leads in
    sym step

-- the whole table
pub underway_all : (ram : Span) (file : List ℕ) (header : ElfHeader) (index : ℕ) (loaded : LoadedSegments)
    → header.phnum ≤ index → (underway : IsUnderway ram file header index loaded)
    → segments_after ram (length file) [] 0 (table_of file header) ≡ Ok underway.earlier
unfolding segments_after program_headers_at
underway_all ram file header index loaded all underway =
    let none : header.phnum - index ≡ 0 = omega (arith, all) in
    sym (rw none at underway.leads)

-- an ELF header that has no fault
pub has_header : (file : List ℕ) (header : ElfHeader) → checked_header file ≡ Ok header
    → (header ≡ header_of file) × (has_cut_table (length file) header ≡ false) × (header.entry % 2 ≡ 0)
unfolding checked_header
has_header file header h =
    let long = passed _ _ _ _ h in
    let kind = passed (not (is_riscv_executable (header_of file))) _ _ _ long.1 in
    let table = passed (has_bad_table (header_of file)) _ _ _ kind.1 in
    let whole = passed (has_cut_table (length file) (header_of file)) _ _ _ table.1 in
    let even = passed _ _ _ _ whole.1 in
    let is : header_of file ≡ header = ok_same _ _ even.1 in (
      sym is,
      subst (λ (h : ElfHeader). has_cut_table (length file) h ≡ false) is whole.0,
      subst (λ (h : ElfHeader). h.entry % 2 ≡ 0) is (not_odd (header_of file).entry even.0),
    )
  where
    ok_same : (x y : ElfHeader) → ◌≡◌ {A = Result ElfHeader ElfFault} (Ok x) (Ok y) → x ≡ y
    ok_same x y h = cc

    not_odd : (n : ℕ) → (n % 2 == 1) ≡ false → n % 2 ≡ 0
    not_odd n h = grind (arith, nat_tests)

-- each program header lies in the file
pub table_inside : (file : List ℕ) (header : ElfHeader) (index : ℕ) → checked_header file ≡ Ok header
    → index < header.phnum → header.phoff + 56 * index + 56 ≤ length file
table_inside file header index checked below = by (has_header file header checked).1
  where
    by : has_cut_table (length file) header ≡ false → header.phoff + 56 * index + 56 ≤ length file
    by whole = grind (arith, nat_tests)

pub elf_is : (ram : Span) (file : List ℕ) (header : ElfHeader) (segments : List ProgramHeader)
    → checked_header file ≡ Ok header
    → segments_after ram (length file) [] 0 (table_of file header) ≡ Ok segments
    → elf_of ram file ≡ Ok (segment_bytes file segments, header.entry)
unfolding elf_of
elf_is ram file header segments checked all = rw (checked, all) refl

pub elf_refused : (ram : Span) (file : List ℕ) (fault : ElfFault) → checked_header file ≡ Err fault
    → elf_of ram file ≡ Err fault
unfolding elf_of
elf_refused ram file fault refused = rw refused refl

pub elf_segment_refused : (ram : Span) (file : List ℕ) (header : ElfHeader) (fault : Option ElfFault)
    → checked_header file ≡ Ok header → FailsAs fault (segments_after ram (length file) [] 0 (table_of file header))
    → FailsAs fault (elf_of ram file)
unfolding elf_of
elf_segment_refused ram file header None checked fails = tt
elf_segment_refused ram file header (Some fault) checked fails = rw (checked, fails) refl
