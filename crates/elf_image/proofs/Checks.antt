-- What is known of segments and of headers that have no fault.
use Rattle.std.proofs.Common.{◌≡◌, ℕ, Bool, true, false, List, Ok, Result, refl}
use Rattle.std.specs.Prelude.{not}
use Rattle.std.specs.List.{list_any}
use Rattle.hart_words.specs.declared.span.Span.{Span}
use Rattle.hart_words.specs.Spans.{holds_all}
use Rattle.hart_words.specs.Results.{◌>>◌, refuse_if}
use Rattle.elf_image.specs.declared.fault.ElfFault.{ElfFault}
use Rattle.elf_image.specs.declared.program_header.ProgramHeader.{ProgramHeader}
use Rattle.elf_image.specs.Segments.{has_bad_size, overlaps, checked_segment}

-- a test that does not refuse
pub passed : {A : Type 0} (test : Bool) (fault : ElfFault) (more : Result A ElfFault) (x : A)
    → (refuse_if test fault >> more) ≡ Ok x → (test ≡ false) × (more ≡ Ok x)
passed false fault more x h = (refl, h)
passed true fault more x h = cc

not_true : (b : Bool) → not b ≡ false → b ≡ true
not_true true h = refl
not_true false h = cc

-- a segment with no fault
pub record HasNoFault (ram : Span) (len : ℕ) (earlier : List ProgramHeader) (header : ProgramHeader) : Type 0 where
  pub size : has_bad_size len header ≡ false
  pub inside : holds_all ram header.paddr header.memsz ≡ true
  pub apart : list_any (overlaps header) earlier ≡ false

pub has_no_fault : (ram : Span) (len : ℕ) (earlier : List ProgramHeader) (index : ℕ) (header : ProgramHeader)
    → checked_segment ram len earlier index header ≡ Ok tt → HasNoFault ram len earlier header
unfolding checked_segment
has_no_fault ram len earlier index header h =
    let size = passed (has_bad_size len header) _ _ _ h in
    let inside = passed (not (holds_all ram header.paddr header.memsz)) _ _ _ size.1 in
    record { size = size.0; inside = not_true _ inside.0; apart = last (list_any (overlaps header) earlier) _ inside.1 }
  where
    last : (test : Bool) (fault : ElfFault) → refuse_if test fault ≡ Ok tt → test ≡ false
    last false fault h = refl
    last true fault h = cc
