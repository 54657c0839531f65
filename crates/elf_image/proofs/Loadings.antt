-- From the segments that were loaded to the bytes at each address.
use Rattle.std.proofs.Common.{◌≡◌, ℕ, ◌+◌, ◌-◌, ◌<◌, ◌≤◌, Bool, true, false, List, [], ◌∷◌, Ok, Err, Result, cond}
use Rattle.std.proofs.Common.{refl, sym, ◌∙◌, ap, arith, length, subst, inr}
use Rattle.std.specs.Prelude.{Option, None, Some, is_some, slice_index, if◌then◌else◌, IsTrue}
use Rattle.std.specs.List.{AllByRecursion, filter, list_any}
use Rattle.std.proofs.lemmas.Bool.Decides.{nat_tests}
use Rattle.std.proofs.lemmas.List.Elements.{All-from_recursion, recursion_from_All}
use Rattle.hart_words.specs.declared.span.Span.{Span}
use Rattle.hart_words.specs.Memory.{is_within}
use Rattle.hart_words.proofs.Stores.{within-true, within-false}
use Rattle.hart_words.specs.Spans.{LiesIn}
use Rattle.hart_words.specs.Results.{◌>>=◌, ◌>>◌}
use Rattle.elf_image.specs.declared.fault.ElfFault.{ElfFault}
use Rattle.elf_image.specs.declared.header.ElfHeader.{ElfHeader}
use Rattle.elf_image.specs.declared.program_header.ProgramHeader.{ProgramHeader}
use Rattle.elf_image.specs.Headers.{checked_header, table_of}
use Rattle.elf_image.specs.Segments.{is_loading, overlaps, checked_segment, segments_after}
use Rattle.elf_image.specs.Image.{with_segment, segment_bytes, elf_of}
use Rattle.elf_image.specs.Laws.{is_segment_address, HasSegment, HasSegments}
use Rattle.elf_image.proofs.Checks.{HasNoFault, has_no_fault}
use Rattle.elf_image.proofs.Overlaps.{or_left, or_right}
use Rattle.elf_image.proofs.Underway.{has_header}

-- a segment with what is known of it after earlier ones
pub record IsKept (ram : Span) (len : ℕ) (earlier : List ProgramHeader) (header : ProgramHeader) : Type 0 where
  pub fits : header.filesz ≤ header.memsz
  pub in_file : 0 < header.filesz → header.offset + header.filesz ≤ len
  pub low : ram.base ≤ header.paddr
  pub high : header.paddr + header.memsz ≤ ram.base + ram.size
  pub apart : list_any (overlaps header) earlier ≡ false

kept : (ram : Span) (len : ℕ) (earlier : List ProgramHeader) (header : ProgramHeader)
    → HasNoFault ram len earlier header → IsKept ram len earlier header
kept ram len earlier header none = record {
  fits = grind (arith, nat_tests, none.size);
  in_file = λ some. grind (arith, nat_tests, none.size, some);
  low = grind (arith, nat_tests, none.inside);
  high = grind (arith, nat_tests, none.inside);
  apart = none.apart;
}

-- each segment of a list, the last first, with those before it
AreKept : Span → ℕ → List ProgramHeader → Type 0
AreKept ram len [] = Unit {0}
AreKept ram len (header ∷ headers) = IsKept ram len headers header × AreKept ram len headers

-- one way through a table
then_ok : {A : Type 0} (first : Result (Unit {0}) ElfFault) (more : Result A ElfFault) (x : A)
    → (first >> more) ≡ Ok x → (first ≡ Ok tt) × (more ≡ Ok x)
then_ok (Ok done) more x h = (refl, h)
then_ok (Err fault) more x h = cc

ok_same : {A : Type 0} (x y : A) → ◌≡◌ {A = Result A ElfFault} (Ok x) (Ok y) → x ≡ y
ok_same x y h = cc

-- segments that are kept go on to be
all_kept : (ram : Span) (len : ℕ) (earlier : List ProgramHeader) (index : ℕ) (headers segments : List ProgramHeader)
    → segments_after ram len earlier index headers ≡ Ok segments → AreKept ram len earlier → AreKept ram len segments
unfolding segments_after AreKept
all_kept ram len earlier index [] segments h good = subst (AreKept ram len) (ok_same _ _ h) good
all_kept ram len earlier index (header ∷ headers) segments h good =
    by (λ before next h good. all_kept ram len before next headers segments h good) (is_loading header) h
  where
    by : ((before : List ProgramHeader) (next : ℕ) → segments_after ram len before next headers ≡ Ok segments
        → AreKept ram len before → AreKept ram len segments)
        → (loading : Bool)
        → (if loading
        then checked_segment ram len earlier index header
        >> segments_after ram len (header ∷ earlier) (index + 1) headers
        else segments_after ram len earlier (index + 1) headers) ≡ Ok segments
        → AreKept ram len segments
    by rest true h =
        let step = then_ok (checked_segment ram len earlier index header) _ _ h in
        rest (header ∷ earlier) (index + 1) step.1
        (kept ram len earlier header (has_no_fault ram len earlier index header step.0), good)
    by rest false h = rest earlier (index + 1) h good

-- what holds of each segment that was loaded holds of each loading header
outward : (P : ProgramHeader → Type 0) (ram : Span) (len : ℕ) (earlier : List ProgramHeader) (index : ℕ)
    (headers segments : List ProgramHeader)
    → segments_after ram len earlier index headers ≡ Ok segments → AllByRecursion P segments
    → AllByRecursion P earlier × AllByRecursion P (filter is_loading headers)
unfolding segments_after
outward P ram len earlier index [] segments h all = (subst (AllByRecursion P) (sym (ok_same _ _ h)) all, tt)
outward P ram len earlier index (header ∷ headers) segments h all =
    by (λ before next h. outward P ram len before next headers segments h all) (is_loading header) h
  where
    by : ((before : List ProgramHeader) (next : ℕ) → segments_after ram len before next headers ≡ Ok segments
        → AllByRecursion P before × AllByRecursion P (filter is_loading headers))
        → (loading : Bool)
        → (if loading
        then checked_segment ram len earlier index header
        >> segments_after ram len (header ∷ earlier) (index + 1) headers
        else segments_after ram len earlier (index + 1) headers) ≡ Ok segments
        → AllByRecursion P earlier
        × AllByRecursion P (cond loading (header ∷ filter is_loading headers) (filter is_loading headers))
    by rest true h =
        let step = then_ok (checked_segment ram len earlier index header) _ _ h in
        let both = rest (header ∷ earlier) (index + 1) step.1 in
        (both.0.1, (both.0.0, both.1))
    by rest false h = rest earlier (index + 1) h

-- and back
inward : (P : ProgramHeader → Type 0) (ram : Span) (len : ℕ) (earlier : List ProgramHeader) (index : ℕ)
    (headers segments : List ProgramHeader)
    → segments_after ram len earlier index headers ≡ Ok segments → AllByRecursion P earlier
    → AllByRecursion P (filter is_loading headers) → AllByRecursion P segments
unfolding segments_after
inward P ram len earlier index [] segments h before all = subst (AllByRecursion P) (ok_same _ _ h) before
inward P ram len earlier index (header ∷ headers) segments h before all =
    by (λ others next h some more. inward P ram len others next headers segments h some more) (is_loading header) h all
  where
    by : ((others : List ProgramHeader) (next : ℕ) → segments_after ram len others next headers ≡ Ok segments
        → AllByRecursion P others → AllByRecursion P (filter is_loading headers) → AllByRecursion P segments)
        → (loading : Bool)
        → (if loading
        then checked_segment ram len earlier index header
        >> segments_after ram len (header ∷ earlier) (index + 1) headers
        else segments_after ram len earlier (index + 1) headers) ≡ Ok segments
        → AllByRecursion P (cond loading (header ∷ filter is_loading headers) (filter is_loading headers))
        → AllByRecursion P segments
    by rest true h all =
        let step = then_ok (checked_segment ram len earlier index header) _ _ h in
        rest (header ∷ earlier) (index + 1) step.1 (all.0, before) all.1
    by rest false h all = rest earlier (index + 1) h before all

-- bytes at an address in a segment's part of the file, and elsewhere
segment_here : (file : List ℕ) (header : ProgramHeader) (bytes : ℕ → Option ℕ) (k : ℕ) → k < header.filesz
    → with_segment file header bytes (header.paddr + k) ≡ Some (slice_index file (header.offset + k))
segment_here file header bytes k below =
    let offset : header.paddr + k - header.paddr ≡ k = omega arith in
    rw (within-true header.paddr header.filesz k below, offset) refl

segment_aside : (file : List ℕ) (header : ProgramHeader) (bytes : ℕ → Option ℕ) (address : ℕ)
    → is_within header.paddr header.filesz address ≡ false → with_segment file header bytes address ≡ bytes address
segment_aside file header bytes address apart = rw apart refl

-- a smaller part has no address that the whole lacks
part_aside : (header : ProgramHeader) (address : ℕ) → header.filesz ≤ header.memsz
    → is_segment_address header address ≡ false
    → is_within header.paddr header.filesz address ≡ false
part_aside header address fits apart = grind (arith, nat_tests)

-- no segment has a byte at an address that is none of theirs
nothing_at : (ram : Span) (file : List ℕ) (len : ℕ) (headers : List ProgramHeader) (address : ℕ)
    → AreKept ram len headers → AllByRecursion (λ header. is_segment_address header address ≡ false) headers
    → segment_bytes file headers address ≡ None
unfolding segment_bytes AreKept
nothing_at ram file len [] address good apart = refl
nothing_at ram file len (header ∷ headers) address good apart =
    segment_aside file header (segment_bytes file headers) address (part_aside header address good.0.fits apart.0)
    ∙ nothing_at ram file len headers address good.1 apart.1

-- an address of a segment that is apart from another
apart_at : (one other : ProgramHeader) (k : ℕ) → overlaps one other ≡ false → k < one.memsz
    → is_segment_address other (one.paddr + k) ≡ false
apart_at one other k apart below = grind (arith, nat_tests)

apart_back : (one other : ProgramHeader) (k : ℕ) → overlaps one other ≡ false → k < other.memsz
    → is_segment_address one (other.paddr + k) ≡ false
apart_back one other k apart below = grind (arith, nat_tests)

aside_all : (header : ProgramHeader) (headers : List ProgramHeader) (k : ℕ) → list_any (overlaps header) headers ≡ false
    → k < header.memsz → AllByRecursion (λ other. is_segment_address other (header.paddr + k) ≡ false) headers
aside_all header [] k none below = tt
aside_all header (other ∷ others) k none below = (
  apart_at header other k (or_left (overlaps header other) _ none) below,
  aside_all header others k (or_right (overlaps header other) _ none) below,
)

-- one segment more leaves those that are apart from it
still : (ram : Span) (file : List ℕ) (bytes : ℕ → Option ℕ) (header : ProgramHeader) (others : List ProgramHeader)
    → header.filesz ≤ header.memsz → list_any (overlaps header) others ≡ false
    → AreKept ram (length file) others → AllByRecursion (HasSegment ram file bytes) others
    → AllByRecursion (HasSegment ram file (with_segment file header bytes)) others
unfolding AreKept
still ram file bytes header [] fits none good all = tt
still ram file bytes header (other ∷ others) fits none good all =
    (one, still ram file bytes header others fits (or_right (overlaps header other) _ none) good.1 all.1)
  where
    aside : (k : ℕ) → k < other.memsz
        → with_segment file header bytes (other.paddr + k) ≡ bytes (other.paddr + k)
    aside k below =
        segment_aside file header bytes (other.paddr + k)
        (part_aside header (other.paddr + k) fits
        (apart_back header other k (or_left (overlaps header other) _ none) below))

    one : HasSegment ram file (with_segment file header bytes) other
    one = record {
      filled = λ k below. aside k (omega (arith, below, good.0.fits)) ∙ all.0.filled k below;
      empty = λ k from below. aside k below ∙ all.0.empty k from below;
      in_file = all.0.in_file;
      in_ram = all.0.in_ram;
    }

-- each segment of those that are kept has its bytes
all_filled : (ram : Span) (file : List ℕ) (headers : List ProgramHeader) → AreKept ram (length file) headers
    → AllByRecursion (HasSegment ram file (segment_bytes file headers)) headers
unfolding segment_bytes AreKept
all_filled ram file [] good = tt
all_filled ram file (header ∷ headers) good = (
  one,
  still ram file (segment_bytes file headers) header headers good.0.fits good.0.apart good.1
      (all_filled ram file headers good.1),
)
  where
    one : HasSegment ram file (with_segment file header (segment_bytes file headers)) header
    one = record {
      filled = segment_here file header (segment_bytes file headers);
      empty =
          λ k from below.
          segment_aside file header (segment_bytes file headers) (header.paddr + k)
          (within-false header.paddr header.filesz (header.paddr + k) (inr (omega (arith, from))))
          ∙ nothing_at ram file (length file) headers (header.paddr + k) good.1
          (aside_all header headers k good.0.apart below);
      in_file = λ k below. omega (arith, good.0.in_file (omega (arith, below)), below);
      in_ram = λ k below. (omega (arith, good.0.low), omega (arith, good.0.high, below));
    }

within_ram : (header : ProgramHeader) (address : ℕ) (ram : Span) → header.filesz ≤ header.memsz
    → ram.base ≤ header.paddr → header.paddr + header.memsz ≤ ram.base + ram.size
    → is_within header.paddr header.filesz address ≡ true → LiesIn address ram
within_ram header address ram fits low high within =
    (grind (arith, nat_tests, fits, low, high, within), grind (arith, nat_tests, fits, low, high, within))

-- every byte of segments that are kept is in RAM
kept_inside : (ram : Span) (file : List ℕ) (len : ℕ) (headers : List ProgramHeader) (address : ℕ)
    → AreKept ram len headers → is_some (segment_bytes file headers address) ≡ true → LiesIn address ram
unfolding segment_bytes AreKept
kept_inside ram file len [] address good some = cc
kept_inside ram file len (header ∷ headers) address good some =
    by (kept_inside ram file len headers address good.1) (is_within header.paddr header.filesz address) refl some
  where
    by : (is_some (segment_bytes file headers address) ≡ true → LiesIn address ram)
        → (test : Bool) → is_within header.paddr header.filesz address ≡ test
        → is_some (if test then Some (slice_index file (header.offset + (address - header.paddr)))
        else segment_bytes file headers address) ≡ true
        → LiesIn address ram
    by rest true within some = within_ram header address ram good.0.fits good.0.low good.0.high within
    by rest false within some = rest some

pub bytes_inside : (ram : Span) (file : List ℕ) (headers segments : List ProgramHeader)
    → segments_after ram (length file) [] 0 headers ≡ Ok segments → (a : ℕ)
    → IsTrue (is_some (segment_bytes file segments a)) → LiesIn a ram
unfolding AreKept
bytes_inside ram file headers segments h a some =
    kept_inside ram file (length file) segments a (all_kept ram (length file) [] 0 headers segments h tt) some

-- the header and the segments of an image
image_parts : (ram : Span) (file : List ℕ) (image : (ℕ → Option ℕ) × ℕ) → elf_of ram file ≡ Ok image
    → (header : ElfHeader) × (segments : List ProgramHeader) × (checked_header file ≡ Ok header)
    × (segments_after ram (length file) [] 0 (table_of file header) ≡ Ok segments)
    × ((segment_bytes file segments, header.entry) ≡ image)
unfolding elf_of
image_parts ram file image h = by (checked_header file) refl h
  where
    then_segments : (header : ElfHeader) (checked : checked_header file ≡ Ok header)
        (result : Result (List ProgramHeader) ElfFault)
        → segments_after ram (length file) [] 0 (table_of file header) ≡ result
        → (result >>= (λ segments. Ok (segment_bytes file segments, header.entry))) ≡ Ok image
        → (header : ElfHeader) × (segments : List ProgramHeader) × (checked_header file ≡ Ok header)
        × (segments_after ram (length file) [] 0 (table_of file header) ≡ Ok segments)
        × ((segment_bytes file segments, header.entry) ≡ image)
    then_segments header checked (Ok segments) is h = (header, segments, checked, is, ok_same _ _ h)
    then_segments header checked (Err fault) is h = cc

    by : (result : Result ElfHeader ElfFault) → checked_header file ≡ result
        → (result >>= (λ header. segments_after ram (length file) [] 0 (table_of file header)
        >>= (λ segments. Ok (segment_bytes file segments, header.entry)))) ≡ Ok image
        → (header : ElfHeader) × (segments : List ProgramHeader) × (checked_header file ≡ Ok header)
        × (segments_after ram (length file) [] 0 (table_of file header) ≡ Ok segments)
        × ((segment_bytes file segments, header.entry) ≡ image)
    by (Ok header) checked h =
        then_segments header checked (segments_after ram (length file) [] 0 (table_of file header)) refl h
    by (Err fault) checked h = cc

pub has_segments : (ram : Span) (file : List ℕ) (image : (ℕ → Option ℕ) × ℕ) → elf_of ram file ≡ Ok image
    → HasSegments ram file image
unfolding AreKept
has_segments ram file image h =
    let parts = image_parts ram file image h in
    let header = parts.0 in
    let segments = parts.1 in
    let is = (has_header file header parts.2).0 in
    let loads =
    subst (λ (h : ElfHeader). segments_after ram (length file) [] 0 (table_of file h) ≡ Ok segments) is parts.3 in
    let good = all_kept ram (length file) [] 0 _ segments loads tt in
    let P : (ℕ → Option ℕ) × ℕ → Type 0 = λ i. HasSegments ram file i in
    subst P parts.4 (record {
      segments =
          All-from_recursion (HasSegment ram file (segment_bytes file segments)) _
          (outward (HasSegment ram file (segment_bytes file segments)) ram (length file) [] 0 _ segments loads
          (all_filled ram file segments good)).1;
      elsewhere =
          λ address none.
          nothing_at ram file (length file) segments address good
          (inward (λ header. is_segment_address header address ≡ false) ram (length file) [] 0 _ segments loads tt
          (recursion_from_All (λ header. is_segment_address header address ≡ false) _ none));
      entry = ap (λ h. h.entry) is;
    })
