-- The lines of memory that are written are read again.
use Rattle.std.proofs.Common.{◌≡◌, ℕ, zero, suc, ◌+◌, ◌-◌, ◌*◌, ◌<◌, ◌≤◌, Bool, true, false, List, [], ◌∷◌, ◌++◌, Ok}
use Rattle.std.proofs.Common.{Result, length}
use Rattle.std.proofs.Common.{refl, sym, ap, ◌∙◌, arith, append_assoc, get_or, map, ◌⊎◌, inl, inr, drop}
use Rattle.std.specs.Prelude.{◌%◌, ◌^◌, codes, if◌then◌else◌, ◌==◌, ◌&&◌, nat_lt}
use Rattle.std.specs.List.{concat, range_with_len, list_all}
use Rattle.std.specs.Int.{w64, to_be_bytes, from_be_bytes}
use Rattle.std.proofs.Math.Path.{fun_ext}
use Rattle.std.proofs.lemmas.Bool.{cases_lt}
use Rattle.std.proofs.lemmas.Bool.Decides.{nat_tests, Decides-eqb}
use Rattle.std.proofs.lemmas.List.FromFn.{get_or-map-range_with_len, length-map-range_with_len}
use Rattle.std.proofs.lemmas.List.{get_or_past, length-append}
use Rattle.std.proofs.lemmas.Nat.{from_be_bytes-to_be_bytes_8}
use Rattle.hex.specs.Hex.{encode_lower, lower_digits, IsBytes}
use Rattle.hex.proofs.HexLemmas.{length-encode_with}
use Rattle.hart_words.specs.declared.span.Span.{Span}
use Rattle.hart_words.specs.Memory.{Bytes}
use Rattle.hart_words.specs.Spans.{holds_all}
use Rattle.state_text.specs.declared.fault.StateFault.{StateFault}
use Rattle.state_text.specs.declared.memory.MemoryBlock.{MemoryBlock}
use Rattle.state_text.specs.Lines.{digits_of, block_line, end_line}
use Rattle.state_text.specs.Reading.{Remaining, is_next, after, choice_in, guess_of_bytes, guess_of_number, is_zero}
use Rattle.state_text.specs.Reading.{guess_of_block, block_in}
use Rattle.state_text.specs.Memory.{bytes_from, memory_lines, with_block, memory_end_in, memory_in}
use Rattle.state_text.proofs.Fronts.{stands_next}
use Rattle.state_text.proofs.Guesses.{small_bytes, bytes_again}
use Rattle.state_text.proofs.Blocks.{block_away, within_block}
use Rattle.state_text.proofs.LinesBack.{left_after, read_with, choice_first}

front_long : (address : ℕ) → length (codes "@" ++ (digits_of address ++ codes " ")) ≡ 18
front_long address =
    omega (
      arith,
      length-append (digits_of address) (codes " "),
      length-encode_with lower_digits
          (to_be_bytes w64 address),
    )

-- what is guessed of a block that was written
block_again : (address : ℕ) (bytes rest : List ℕ) → address < 2 ^ 64 → length bytes ≡ 16 → IsBytes bytes
    → guess_of_block (block_line address bytes ++ rest) ≡ record { address = address; bytes = bytes }
unfolding block_line guess_of_number
block_again address bytes rest fits len small =
    let split : block_line address bytes ++ rest
    ≡ codes "@" ++ (digits_of address ++ (codes " " ++ (encode_lower bytes ++ (codes "\n" ++ rest)))) =
    simp append_assoc in
    let beyond : block_line address bytes ++ rest
    ≡ (codes "@" ++ (digits_of address ++ codes " ")) ++ (encode_lower bytes ++ (codes "\n" ++ rest)) =
    simp append_assoc in
    let first =
    bytes_again (codes "@") (to_be_bytes w64 address) (codes " " ++ (encode_lower bytes ++
    (codes "\n" ++ rest))) 1 8 refl refl
    (small_bytes address) in
    let number : guess_of_number 1 (block_line address bytes ++ rest) ≡ address =
    ap (guess_of_number 1) split ∙ ap (from_be_bytes w64) first ∙ from_be_bytes-to_be_bytes_8 address fits in
    let second : guess_of_bytes 18 16 (block_line address bytes ++ rest) ≡ bytes =
    ap (guess_of_bytes 18 16) beyond
    ∙ bytes_again (codes "@" ++ (digits_of address ++ codes " ")) bytes (codes "\n" ++ rest) 18 16
    (front_long address) len small in
    pair number second
  where
    pair : {a : ℕ} {b : List ℕ} → a ≡ address → b ≡ bytes
        → ◌≡◌ {A = MemoryBlock} (record { address = a; bytes = b }) (record { address = address; bytes = bytes })
    pair p q = cc

abbrev line_of_block : MemoryBlock → List ℕ
line_of_block block = block_line block.address block.bytes

-- what is known of a block that is written
pub record IsBlock (ram : Span) (least : ℕ) (block : MemoryBlock) : Type 0 where
  pub len : length block.bytes ≡ 16
  pub small : IsBytes block.bytes
  pub some : is_zero block.bytes ≡ false
  pub whole : block.address % 16 ≡ 0
  pub rises : least ≤ block.address
  pub low : ram.base ≤ block.address
  pub high : block.address + 16 ≤ ram.base + ram.size

pub block_back : (ram : Span) (least : ℕ) (block : MemoryBlock) (left : Remaining) (rest : List ℕ) → IsBlock ram least block
    → left.text ≡ line_of_block block ++ rest → block_in ram least left ≡ read_with block left rest
unfolding block_in
block_back ram least block left rest is stands =
    let guess : guess_of_block left.text ≡ block =
    ap guess_of_block stands
    ∙ block_again block.address block.bytes rest (omega (arith, is.high, ram.below)) is.len is.small in
    let aligned : (block.address % 16 == 0) ≡ true = (Decides-eqb (block.address % 16) 0).1 is.whole in
    let rises : nat_lt block.address least ≡ false = grind (arith, nat_tests, is.rises) in
    let held : holds_all ram block.address 16 ≡ true = grind (arith, nat_tests, is.low, is.high) in
    let read : choice_in line_of_block (guess_of_block left.text ∷ []) left ≡ read_with block left rest =
    rw guess (choice_first line_of_block block [] left rest stands) in
    rw (read, is.some, aligned, rises, held) refl

-- each byte of a list is that of memory
small_at : (bytes : Bytes) (address : ℕ) → ((a : ℕ) → bytes a < 256) → IsBytes (bytes_from bytes address)
small_at bytes address small i = by (cases_lt i 16)
  where
    by : (i < 16) ⊎ (16 ≤ i) → get_or (bytes_from bytes address) i 0 < 256
    by (inl within) =
        rw (get_or-map-range_with_len bytes address 16 i (address + i) 0 within refl) (small (address + i))
    by (inr past) =
        rw (get_or_past (bytes_from bytes address) i 0 (omega (arith, length-map-range_with_len bytes address 16)))
        (omega arith)

and_zero : (n : ℕ) (more : Bool) → ((n == 0) && more) ≡ true → (n ≡ 0) × (more ≡ true)
and_zero n more h = by (n == 0) (Decides-eqb n 0).0 h
  where
    by : (test : Bool) → (test ≡ true → n ≡ 0) → (test && more) ≡ true → (n ≡ 0) × (more ≡ true)
    by true is h = (is refl, h)
    by false is h = absurd cc

-- memory above an address that has a block of zeros there
passed : (bytes final : Bytes) (address : ℕ) → ((a : ℕ) → a < address → bytes a ≡ final a)
    → ((a : ℕ) → address ≤ a → bytes a ≡ 0) → ((a : ℕ) → address ≤ a → a < address + 16 → final a ≡ 0)
    → (a : ℕ) → a < address + 16 → bytes a ≡ final a
passed bytes final address same zeros nothing a below =
    elim (cases_lt a address) [
      | inl before ↦ same a before
      | inr past ↦ zeros a past ∙ sym (nothing a past below)
    ]

-- the bytes of a block of zeros
zero_among : (bytes : Bytes) (a address count : ℕ)
    → list_all (λ byte. byte == 0) (map bytes (range_with_len address count)) ≡ true → address ≤ a → a < address + count
    → bytes a ≡ 0
zero_among bytes a address zero h low high = absurd (omega arith)
zero_among bytes a address (suc count) h low high =
    let both = and_zero (bytes address) (list_all (λ byte. byte == 0) (map bytes (range_with_len
    (address + 1) count))) h in
    elim (cases_lt address a) [
      | inl more ↦ zero_among bytes a (address + 1) count both.1 (omega arith) (omega arith)
      | inr same ↦ ap bytes {y = address} (omega arith) ∙ both.0
    ]

zero_there : (bytes : Bytes) (address : ℕ) → is_zero (bytes_from bytes address) ≡ true
    → (a : ℕ) → address ≤ a → a < address + 16 → bytes a ≡ 0
zero_there bytes address nothing a low high = zero_among bytes a address 16 nothing low high

-- memory so far, below an address, with the block there
grown : (bytes final : Bytes) (address : ℕ) → ((a : ℕ) → a < address → bytes a ≡ final a)
    → (a : ℕ) → a < address + 16
    → with_block (record { address = address; bytes = bytes_from final address }) bytes a ≡ final a
grown bytes final address same a below = by (cases_lt a address)
  where
    block : MemoryBlock
    block = record { address = address; bytes = bytes_from final address }

    len : length (bytes_from final address) ≡ 16
    len = length-map-range_with_len final address 16

    by : (a < address) ⊎ (address ≤ a)
        → with_block (record { address = address; bytes = bytes_from final address }) bytes a ≡ final a
    by (inl before) =
        block_away (record { address = address; bytes = bytes_from final address }) bytes a len (inl before)
        ∙ same a before
    by (inr at_least) =
        rw (within_block address (length (bytes_from final address)) a at_least (omega (arith, len, below)))
        (get_or-map-range_with_len final address 16 (a - address) a 0 (omega arith) (omega arith))

no_end : (address : ℕ) (bytes rest : List ℕ) (left : Remaining) → left.text ≡ block_line address bytes ++ rest
    → is_next end_line left ≡ false
unfolding block_line
no_end address bytes rest left stands = rw stands refl

line_long : (address : ℕ) (bytes : List ℕ) → 0 < length (block_line address bytes)
unfolding block_line
line_long address bytes = omega arith

-- so many blocks from an address on are read again
Recalls : Span → Bytes → ℕ → Type 0
Recalls ram final count =
    (most least : ℕ) (bytes : Bytes) (left : Remaining) (address : ℕ)
    → left.text ≡ concat (memory_lines final address count ++ end_line ∷ []) → length left.text < most
    → least ≤ address → address % 16 ≡ 0 → ram.base ≤ address → address + 16 * count ≡ ram.base + ram.size
    → ((a : ℕ) → a < address → bytes a ≡ final a) → ((a : ℕ) → address ≤ a → bytes a ≡ 0)
    → memory_in ram most least bytes left ≡ Ok final

abbrev done : Bytes → Result Bytes StateFault
done bytes = Ok bytes

ended : (bytes : Bytes) (left : Remaining) → left.text ≡ [] → memory_end_in bytes left ≡ done bytes
ended bytes left nothing = rw nothing refl

-- after the last block
last_back : (ram : Span) (final : Bytes) → ((a : ℕ) → ram.base + ram.size ≤ a → final a ≡ 0) → Recalls ram final 0
unfolding Recalls memory_in memory_lines
last_back ram final outside zero least bytes left address stands room rises whole low fits same zeros = absurd
    (omega arith)
last_back ram final outside (suc most) least bytes left address stands room rises whole low fits same zeros =
    let next : is_next end_line left ≡ true = stands_next end_line [] left stands in
    let nothing : (after end_line left).text ≡ [] = ap (drop 4) stands in
    let all : bytes ≡ final = fun_ext (λ a. everywhere a) in
    rw next (ended bytes (after end_line left) nothing ∙ ap done all)
  where
    everywhere : (a : ℕ) → bytes a ≡ final a
    everywhere a =
        elim (cases_lt a address) [
          | inl below ↦ same a below
          | inr past ↦ zeros a past ∙ sym (outside a (omega arith))
        ]

-- one block more, which is all zeros or has a line
block_more : (ram : Span) (final : Bytes) (count : ℕ) → ((a : ℕ) → final a < 256) → Recalls ram final count
    → (most least : ℕ) (bytes : Bytes) (left : Remaining) (address : ℕ) (test : Bool)
    → is_zero (bytes_from final address) ≡ test
    → left.text ≡ concat ((if test then memory_lines final (address + 16) count
    else block_line address (bytes_from final address) ∷ memory_lines final (address + 16) count) ++ end_line ∷ [])
    → length left.text < suc most → least ≤ address → address % 16 ≡ 0 → ram.base ≤ address
    → address + 16 * suc count ≡ ram.base + ram.size → ((a : ℕ) → a < address → bytes a ≡ final a)
    → ((a : ℕ) → address ≤ a → bytes a ≡ 0) → memory_in ram (suc most) least bytes left ≡ Ok final
unfolding Recalls memory_in
block_more ram final count small rest most least bytes left address true test stands room rises whole low fits same
    zeros =
    rest (suc most) least bytes left (address + 16) stands room (omega arith) (omega arith) (omega arith) (omega arith)
    (λ a below. passed bytes final address same zeros (zero_there final address test) a below)
    (λ a at_least. zeros a (omega arith))
block_more ram final count small rest most least bytes left address false test stands room rises whole low fits same
    zeros =
    let block : MemoryBlock = record { address = address; bytes = bytes_from final address } in
    let more = concat (memory_lines final (address + 16) count ++ end_line ∷ []) in
    let len = length-map-range_with_len final address 16 in
    let has : IsBlock ram least block = record {
      len = len;
      small = small_at final address small;
      some = test;
      whole = whole;
      rises = rises;
      low = low;
      high = omega arith;
    } in
    let read = block_back ram least block left more has stands in
    let not_end = no_end address (bytes_from final address) more left stands in
    let less : length more < most =
    omega (
      arith,
      ap length stands,
      length-append (line_of_block block) more,
      line_long address (bytes_from final address),
    ) in
    rw (not_end, read)
    (rest most (address + 16) (with_block block bytes) (left_after left 1 more) (address + 16) refl less (omega arith)
    (omega arith) (omega arith) (omega arith) (grown bytes final address same)
    (λ a beyond. block_away block bytes a len (inr beyond) ∙ zeros a (omega arith)))

recalls : (ram : Span) (final : Bytes) (count : ℕ) → ((a : ℕ) → final a < 256)
    → ((a : ℕ) → ram.base + ram.size ≤ a → final a ≡ 0) → Recalls ram final count
unfolding Recalls memory_lines
recalls ram final zero small outside = last_back ram final outside
recalls ram final (suc count) small outside =
    λ most least bytes left address stands room rises whole low fits same zeros.
    some_room (recalls ram final count small outside) most least bytes left address stands room rises whole low fits
    same zeros
  where
    some_room : Recalls ram final count → (most least : ℕ) (bytes : Bytes) (left : Remaining) (address : ℕ)
        → left.text ≡ concat (memory_lines final address (suc count) ++ end_line ∷ []) → length left.text < most
        → least ≤ address → address % 16 ≡ 0 → ram.base ≤ address → address + 16 * suc count ≡ ram.base + ram.size
        → ((a : ℕ) → a < address → bytes a ≡ final a) → ((a : ℕ) → address ≤ a → bytes a ≡ 0)
        → memory_in ram most least bytes left ≡ Ok final
    some_room rest zero least bytes left address stands room rises whole low fits same zeros = absurd (omega arith)
    some_room rest (suc most) least bytes left address stands room rises whole low fits same zeros =
        block_more ram final count small rest most least bytes left address (is_zero (bytes_from final address)) refl
        stands room rises whole low fits same zeros

pub memory_back : (ram : Span) (most least : ℕ) (bytes final : Bytes) (left : Remaining) (address count : ℕ)
    → ((a : ℕ) → final a < 256) → left.text ≡ concat (memory_lines final address count ++ end_line ∷ [])
    → length left.text < most → least ≤ address → address % 16 ≡ 0 → ram.base ≤ address
    → address + 16 * count ≡ ram.base + ram.size → ((a : ℕ) → a < address → bytes a ≡ final a)
    → ((a : ℕ) → address ≤ a → bytes a ≡ 0) → ((a : ℕ) → ram.base + ram.size ≤ a → final a ≡ 0)
    → memory_in ram most least bytes left ≡ Ok final
unfolding Recalls
memory_back ram most least bytes final left address count small stands room rises whole low fits same zeros outside =
    recalls ram final count small outside most least bytes left address stands room rises whole low fits same zeros
