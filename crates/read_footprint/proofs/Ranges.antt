-- Aligned ranges of bytes, of which some count: their halves, and numbers of bytes that all count.
use Rattle.std.proofs.Common.{◌≡◌, ◌⊎◌, inl, inr, ℕ, zero, suc, ◌+◌, ◌-◌, ◌*◌, ◌/◌, ◌%◌, ◌<◌, ◌≤◌, ◌^◌, Bool, true}
use Rattle.std.proofs.Common.{false, ◌==◌, ◌&&◌, ◌||◌, refl, ap, ◌∙◌, sym, subst, arith, lit<, Result, Ok, Err}
use Rattle.std.specs.Prelude.{nat_le, nat_lt, OnOk, OnErr}
use Rattle.std.specs.Bool.{Decides}
use Rattle.std.specs.Int.{bit_at}
use Rattle.std.proofs.Math.Nat.{div-one, div-div-eq-div-mul, mod-eq_of_lt, pow-le-pow_right, pow-suc}
use Rattle.std.proofs.lemmas.Nat.{div-add-mod', shr-shr}
use Rattle.std.proofs.lemmas.Nat.Bits.{bit_at_cat_low, bit_at_ones}
use Rattle.std.proofs.lemmas.Bool.{cases_lt, lt-leb, le-ltb, lt-ltb, le-leb, leb-true, ltb-true, eq-eqb, eqb-true}
use Rattle.hart_words.specs.declared.span.Span.{Span}
use Rattle.hart_words.specs.Memory.{Bytes, is_within, number_at, bytes_after_store}
use Rattle.hart_words.specs.Spans.{IsPlace}
use Rattle.hart_words.proofs.Stores.{stored-inside, stored-outside}
use Rattle.read_footprint.specs.Bits.{has_bit}
use Rattle.read_footprint.specs.Ranges.{AreCounted, counts}
use Rattle.read_footprint.specs.Sets.{ArePartlyMoved}
use Rattle.read_footprint.specs.declared.aligned_range.AlignedRange.{AlignedRange}
use Rattle.read_footprint.proofs.Places.{both_hold}

-- ---- halves

and_none : (b : Bool) → (b && false) ≡ false
and_none true = refl
and_none false = refl

or_none : (b : Bool) → (b || false) ≡ b
or_none true = refl
or_none false = refl

within_is : (pa len address : ℕ) → pa ≤ address → address < pa + len → is_within pa len address ≡ true
within_is pa len address from below = rw (le-leb pa address from, lt-ltb address (pa + len) below) refl

before_is : (pa len address : ℕ) → address < pa → is_within pa len address ≡ false
before_is pa len address before = rw (lt-leb pa address before) refl

past_is : (pa len address : ℕ) → pa + len ≤ address → is_within pa len address ≡ false
past_is pa len address past = rw (le-ltb address (pa + len) past) (and_none (nat_le pa address))

low_bit : (bits half k : ℕ) → k < half → has_bit (bits % 2 ^ half) k ≡ has_bit bits k
low_bit bits half k below =
    ap (λ bit. bit == 1)
    (sym (bit_at_cat_low (bits / 2 ^ half) half (bits % 2 ^ half) k below)
    ∙ ap (λ n. bit_at n k) (div-add-mod' bits (2 ^ half)))

high_bit : (bits half k : ℕ) → has_bit (bits / 2 ^ half) k ≡ has_bit bits (half + k)
high_bit bits half k = ap (λ bit. bit % 2 == 1) (shr-shr bits half k)

-- a byte of a range is one of its front half or of its back half
abbrev counted : ℕ → ℕ → ℕ → ℕ → Bool
counted pa len bits address = is_within pa len address && has_bit bits (address - pa)

pub halved : (pa len half bits address : ℕ) → len ≡ half + half
    → counted pa len bits address
    ≡ (counted pa half (bits % 2 ^ half) address || counted (pa + half) half (bits / 2 ^ half) address)
halved pa len half bits address twice = elim (cases_lt address pa) [
  | inl before ↦
      rw (
        before_is pa len address before,
        before_is pa half address before,
        before_is (pa + half) half address (omega (arith, before)),
      ) refl
  | inr from ↦ elim (cases_lt address (pa + half)) [
    | inl front ↦
        rw (
          within_is pa len address from (omega (arith, front, twice)),
          within_is pa half address from front,
          before_is (pa + half) half address front,
          low_bit bits half (address - pa) (omega (arith, from, front)),
        )
        (sym (or_none (has_bit bits (address - pa))))
    | inr following ↦ elim (cases_lt address (pa + len)) [
      | inl back ↦
          let place : half + (address - (pa + half)) ≡ address - pa = omega (arith, following) in
          rw (
            within_is pa len address from back,
            past_is pa half address following,
            within_is (pa + half) half address following (omega (arith, back, twice)),
            high_bit bits half (address - (pa + half)),
            place,
          ) refl
      | inr past ↦
          rw (
            past_is pa len address past,
            past_is pa half address following,
            past_is (pa + half) half address (omega (arith, past, twice)),
          ) refl
    ]
  ]
]

pub twice : (power more : ℕ) → more ≡ power + 1 → 2 ^ more ≡ 2 ^ power + 2 ^ power
twice power more is = let next : more ≡ suc power = omega (arith, is) in rw next (omega (arith, pow-suc 2 power))

-- the numbers of the halves of a range
pub record AreHalves (pa bits power : ℕ) : Type 0 where
  pub front : pa % 2 ^ power ≡ 0
  pub back : (pa + 2 ^ power) % 2 ^ power ≡ 0
  pub inside : pa + 2 ^ power < 2 ^ 64
  pub high : bits / 2 ^ 2 ^ power < 2 ^ 2 ^ power

pub are_halves : (pa bits power : ℕ) → power ≤ 5 → pa < 2 ^ 64 → pa % 2 ^ (power + 1) ≡ 0 → bits < 2 ^ 2 ^ (power + 1)
    → AreHalves pa bits power
are_halves pa bits zero at_most_5 small aligned fits =
    record {
      front =
          omega (arith, aligned);
      back =
          omega (arith, aligned);
      inside = omega (arith, small, aligned);
      high = omega (arith, fits);
    }
are_halves pa bits (suc zero) at_most_5 small aligned fits =
    record {
      front =
          omega (arith, aligned);
      back =
          omega (arith, aligned);
      inside = omega (arith, small, aligned);
      high = omega (arith, fits);
    }
are_halves pa bits (suc (suc zero)) at_most_5 small aligned fits =
    record {
      front =
          omega (arith, aligned);
      back =
          omega (arith, aligned);
      inside = omega (arith, small, aligned);
      high = omega (arith, fits);
    }
are_halves pa bits (suc (suc (suc zero))) at_most_5 small aligned fits =
    record {
      front =
          omega (arith, aligned);
      back =
          omega (arith, aligned);
      inside = omega (arith, small, aligned);
      high = omega (arith, fits);
    }
are_halves pa bits (suc (suc (suc (suc zero)))) at_most_5 small aligned fits =
    record {
      front =
          omega (arith, aligned);
      back =
          omega (arith, aligned);
      inside = omega (arith, small, aligned);
      high = omega (arith, fits);
    }
are_halves pa bits (suc (suc (suc (suc (suc zero))))) at_most_5 small aligned fits =
    record {
      front =
          omega (arith, aligned);
      back =
          omega (arith, aligned);
      inside = omega (arith, small, aligned);
      high = omega (arith, fits);
    }
are_halves pa bits (suc (suc (suc (suc (suc (suc power)))))) at_most_5 small aligned fits =
    absurd (omega (arith, at_most_5))

-- ---- a number of bytes that all count

pub full_bits : (len bits k : ℕ) → bits ≡ 2 ^ len - 1 → k < len → has_bit bits k ≡ true
full_bits len bits k are below = rw are (eq-eqb (bit_at (2 ^ len - 1) k) 1 (bit_at_ones len k below))

-- every byte of such a number counts
every_counts : (range : AlignedRange) → ((k : ℕ) → k < 2 ^ range.power → has_bit range.bits k ≡ true) → (address : ℕ)
    → range.pa ≤ address → address < range.pa + 2 ^ range.power → counts range address ≡ true
every_counts range all address from below =
    rw
    (within_is range.pa (2 ^ range.power) address from below, all (address - range.pa) (omega (arith, from, below)))
    refl

-- a byte that counts is one of the range
pub record IsOneOf (pa len address : ℕ) : Type 0 where
  pub from : pa ≤ address
  pub below : address < pa + len

pub one_of_range : (range : AlignedRange) (address : ℕ) → counts range address ≡ true
    → IsOneOf range.pa (2 ^ range.power) address
one_of_range range address is =
    let parts = both_hold (is_within range.pa (2 ^ range.power) address) (has_bit range.bits (address - range.pa)) is in
    let ends = both_hold (nat_le range.pa address) (nat_lt address (range.pa + 2 ^ range.power)) parts.0 in
    record { from = leb-true range.pa address ends.0; below = ltb-true address (range.pa + 2 ^ range.power) ends.1 }

-- how many bytes a number has
record IsNumberLength (pa len : ℕ) : Type 0 where
  page : pa % 4096 + len ≤ 4096
  nonempty : 1 ≤ len
  at_most_8 : len ≤ 8

number_length : (pa power : ℕ) → power ≤ 3 → pa % 2 ^ power ≡ 0 → IsNumberLength pa (2 ^ power)
number_length pa zero at_most_3 aligned = record { page = omega arith; nonempty = omega arith; at_most_8 = omega arith }
number_length pa (suc zero) at_most_3 aligned =
    record { page = omega (arith, aligned); nonempty = omega arith; at_most_8 = omega arith }
number_length pa (suc (suc zero)) at_most_3 aligned =
    record { page = omega (arith, aligned); nonempty = omega arith; at_most_8 = omega arith }
number_length pa (suc (suc (suc zero))) at_most_3 aligned =
    record { page = omega (arith, aligned); nonempty = omega arith; at_most_8 = omega arith }
number_length pa (suc (suc (suc (suc power)))) at_most_3 aligned = absurd (omega (arith, at_most_3))

-- where each byte of it lies in RAM, it is a place there
pub place_of : (ram : Span) (range : AlignedRange) → range.power ≤ 3 → range.pa % 2 ^ range.power ≡ 0
    → ((k : ℕ) → k < 2 ^ range.power → has_bit range.bits k ≡ true) → AreCounted ram range
    → IsPlace ram range.pa (2 ^ range.power)
place_of ram range at_most_3 aligned all counted =
    let len = 2 ^ range.power in
    let size = number_length range.pa range.power at_most_3 aligned in
    let last = range.pa + len - 1 in
    let first_in = counted range.pa (every_counts range all range.pa (omega arith) (omega (arith, size.nonempty))) in
    let last_in =
    counted last (every_counts range all last (omega (arith, size.nonempty)) (omega (arith, size.nonempty))) in
    let low =
    leb-true ram.base range.pa
    (both_hold (nat_le ram.base range.pa) (nat_lt range.pa (ram.base + ram.size)) first_in).0 in
    let high =
    ltb-true last (ram.base + ram.size)
    (both_hold (nat_le ram.base last) (nat_lt last (ram.base + ram.size)) last_in).1 in
    record {
      low = low;
      high = omega (arith, high, size.nonempty);
      narrow = omega (arith, high, size.nonempty, ram.below);
      page = size.page;
      nonempty = size.nonempty;
      at_most_8 = size.at_most_8;
    }

-- a number is the one that stands at so many bytes from an address on
pub record IsNumberAt (bytes : Bytes) (pa len number : ℕ) : Type 0 where
  pub is : number ≡ number_at bytes pa len
  pub small : (at : ℕ) → pa ≤ at → at < pa + len → bytes at < 256

-- without its lowest byte it stands at the next address
next_number : {bytes : Bytes} {pa len number : ℕ} → IsNumberAt bytes pa (suc len) number
    → IsNumberAt bytes (pa + 1) len (number / 256)
unfolding number_at
next_number {bytes} {pa} {len} {number} stands =
    let first = stands.small pa (omega arith) (omega arith) in
    let all : number ≡ bytes pa + 256 * number_at bytes (pa + 1) len = stands.is in
    record {
      is = omega (arith, first, all);
      small = λ at from below. stands.small at (omega (arith, from)) (omega (arith, below));
    }

lowest_byte : {bytes : Bytes} {pa len number : ℕ} → IsNumberAt bytes pa (suc len) number → number % 256 ≡ bytes pa
unfolding number_at
lowest_byte {bytes} {pa} {len} {number} stands =
    let first = stands.small pa (omega arith) (omega arith) in
    let all : number ≡ bytes pa + 256 * number_at bytes (pa + 1) len = stands.is in
    omega (arith, first, all)

-- bytes with the same number are the same
number_same : (len pa : ℕ) {one other : Bytes} {number : ℕ} → IsNumberAt one pa len number
    → IsNumberAt other pa len number → (at : ℕ) → IsOneOf pa len at → other at ≡ one at
number_same zero pa first second at within = absurd (omega (arith, within.from, within.below))
number_same (suc len) pa first second at within = elim (cases_lt pa at) [
  | inl later ↦
      number_same len (pa + 1) (next_number first) (next_number second) at
      (record { from = omega (arith, later); below = omega (arith, within.below) })
  | inr here ↦
      let is : at ≡ pa = omega (arith, within.from, here) in
      rw is (sym (lowest_byte second) ∙ lowest_byte first)
]

same_number : (len pa : ℕ) (one other : Bytes) → ((at : ℕ) → pa ≤ at → at < pa + len → other at ≡ one at)
    → number_at other pa len ≡ number_at one pa len
unfolding number_at
same_number zero pa one other same = refl
same_number (suc len) pa one other same =
    let first = same pa (omega arith) (omega arith) in
    let rest =
    same_number len (pa + 1) one other (λ at from below. same at (omega (arith, from)) (omega (arith, below))) in
    rw (first, rest) refl

pub numbers_decided : {one other : Bytes} {x y : ℕ} (range : AlignedRange)
    → ((k : ℕ) → k < 2 ^ range.power → has_bit range.bits k ≡ true)
    → IsNumberAt other range.pa (2 ^ range.power) x → IsNumberAt one range.pa (2 ^ range.power) y
    → Decides (x == y) ((address : ℕ) → counts range address ≡ true → other address ≡ one address)
numbers_decided {one} {other} {x} {y} range all second first = (
  (λ known_files address counts.
      let same : IsNumberAt other range.pa (2 ^ range.power) y =
      record { is = sym (eqb-true x y known_files) ∙ second.is; small = second.small } in
      number_same (2 ^ range.power) range.pa first same address (one_of_range range address counts)),
  (λ same. eq-eqb x y
      (second.is ∙ same_number (2 ^ range.power) range.pa one other
      (λ at from below. same at (every_counts range all at from below)) ∙ sym first.is)),
)

-- each byte of a number is a digit of it
digit : (len pa : ℕ) {bytes : Bytes} {number : ℕ} (k : ℕ) → IsNumberAt bytes pa len number → k < len
    → number / 256 ^ k % 256 ≡ bytes (pa + k)
digit zero pa k stands below = absurd (omega (arith, below))
digit (suc len) pa {number = number} zero stands below =
    let here : pa + 0 ≡ pa = omega arith in
    rw (div-one number, here) (lowest_byte stands)
digit (suc len) pa {number = number} (suc k) stands below =
    let place : pa + suc k ≡ pa + 1 + k = omega arith in
    let power : 256 ^ suc k ≡ 256 * 256 ^ k = omega (arith, pow-suc 256 k) in
    let less : number / 256 ^ suc k ≡ number / 256 / 256 ^ k =
    ap (λ d. number / d) power ∙ sym (div-div-eq-div-mul number 256 (256 ^ k)) in
    rw (less, place) (digit len (pa + 1) k (next_number stands) (omega (arith, below)))

-- a number that is put as it is in another memory
pub number_moved : {judged after : Bytes} {number : ℕ} (range : AlignedRange) (before : Bytes)
    → IsNumberAt judged range.pa (2 ^ range.power) number
    → after ≡ bytes_after_store range.pa (2 ^ range.power) number before
    → (address : ℕ) → IsOneOf range.pa (2 ^ range.power) address → after address ≡ judged address
number_moved {judged} {after} {number} range before stands becomes address within =
    let len = 2 ^ range.power in
    let place : range.pa + (address - range.pa) ≡ address = omega (arith, within.from) in
    let inside : address - range.pa < len = omega (arith, within.from, within.below) in
    let at : after (range.pa + (address - range.pa)) ≡ judged (range.pa + (address - range.pa)) =
    ap (λ bytes. bytes (range.pa + (address - range.pa))) becomes
    ∙ stored-inside range.pa len number (address - range.pa) before inside
    ∙ digit len range.pa (address - range.pa) stands inside in
    subst (λ at. after at ≡ judged at) place at

pub number_partly_moved : {judged before after : Bytes} {number : ℕ} (range : AlignedRange)
    → ((k : ℕ) → k < 2 ^ range.power → has_bit range.bits k ≡ true)
    → IsNumberAt judged range.pa (2 ^ range.power) number
    → after ≡ bytes_after_store range.pa (2 ^ range.power) number before
    → ArePartlyMoved (counts range) judged before after
number_partly_moved {before = before} {after} {number} range all stands becomes = record {
  either = λ address. elim (cases_lt address range.pa) [
    | inl below ↦ inl (stays address (inl below))
    | inr from ↦ elim (cases_lt address (range.pa + 2 ^ range.power)) [
      | inl below ↦ inr (number_moved range before stands becomes address (record { from = from; below = below }))
      | inr past ↦ inl (stays address (inr past))
    ]
  ];
  others = λ address unwanted. elim (cases_lt address range.pa) [
    | inl below ↦ stays address (inl below)
    | inr from ↦ elim (cases_lt address (range.pa + 2 ^ range.power)) [
      | inl within ↦ let never : false ≡ true = sym unwanted ∙ every_counts range all address from within in cc
      | inr past ↦ stays address (inr past)
    ]
  ];
}
  where
    stays : (address : ℕ) → (address < range.pa) ⊎ (range.pa + 2 ^ range.power ≤ address)
        → after address ≡ before address
    stays address outside =
        ap (λ bytes. bytes address) becomes
        ∙ stored-outside range.pa (2 ^ range.power) number address before outside

pub none_moved : (wanted : ℕ → Bool) (judged before after : Bytes) → after ≡ before
    → ArePartlyMoved wanted judged before after
none_moved wanted judged before after same =
    record {
      either =
          λ address. inl (ap (λ bytes. bytes address) same);
      others = λ address unwanted. ap (λ bytes. bytes address) same;
    }

-- ---- powers of two

pub one_shifted : (k : ℕ) → k < 64 → 1 * 2 ^ k % 2 ^ 64 ≡ 2 ^ k
one_shifted k below_64 =
    let below : 2 ^ k ≤ 2 ^ 63 = pow-le-pow_right {n = 2} (lit< tt) {j = 63} (omega (arith, below_64)) in
    let same : 1 * 2 ^ k ≡ 2 ^ k = omega arith in
    rw same (mod-eq_of_lt (omega (arith, below)))

pub half_at_most_32 : (power : ℕ) → power ≤ 5 → 2 ^ power ≤ 32
half_at_most_32 power at_most_5 = pow-le-pow_right {n = 2} (lit< tt) at_most_5

pub number_at_most_8 : (power : ℕ) → power ≤ 3 → 2 ^ power ≤ 8
number_at_most_8 power at_most_3 = pow-le-pow_right {n = 2} (lit< tt) at_most_3

pub halves_of : (range : AlignedRange) → 1 ≤ range.power → range.pa < 2 ^ 64
    → AreHalves range.pa range.bits (range.power - 1)
halves_of range nonempty small =
    let next : range.power - 1 + 1 ≡ range.power = omega (arith, nonempty) in
    are_halves range.pa range.bits (range.power - 1) (omega (arith, range.at_most_6)) small (rw next range.aligned)
    (rw next range.fits)

-- ---- what a write did

pub number_written : {E : Type 0} {judged before after : Bytes} {number : ℕ} (range : AlignedRange)
    (result : Result (Unit {0}) E) → ((k : ℕ) → k < 2 ^ range.power → has_bit range.bits k ≡ true)
    → IsNumberAt judged range.pa (2 ^ range.power) number
    → OnOk result (after ≡ bytes_after_store range.pa (2 ^ range.power) number before)
    → OnErr result (after ≡ before)
    → ArePartlyMoved (counts range) judged before after
number_written range (Ok done) all stands ok err = number_partly_moved range all stands ok
number_written {judged = judged} {before} {after} range (Err error) all stands ok err =
    none_moved (counts range) judged before after err

pub number_done : {judged after : Bytes} {number : ℕ} (range : AlignedRange) (before : Bytes)
    → IsNumberAt judged range.pa (2 ^ range.power) number
    → after ≡ bytes_after_store range.pa (2 ^ range.power) number before
    → (address : ℕ) → counts range address ≡ true → after address ≡ judged address
number_done range before stands becomes address wanted =
    number_moved range before stands becomes address (one_of_range range address wanted)
