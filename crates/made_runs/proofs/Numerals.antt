-- Numerals that are read back.
use Rattle.std.proofs.Common.{◌≡◌, ℕ, zero, suc, ◌+◌, ◌*◌, ◌/◌, ◌%◌, ◌^◌, ◌<◌, ◌≤◌, Bool, true, false, ◌&&◌, List, []}
use Rattle.std.proofs.Common.{◌∷◌, ◌++◌, map, get_or, length, ne_eqb, ◌==◌, Some, refl, ap, sym, ◌∙◌, arith, codes}
use Rattle.std.specs.Prelude.{decimal, slice_index, nat_le, nat_lt}
use Rattle.std.specs.Char.{digit_value, is_digit}
use Rattle.std.specs.Int.{bytes_high_first, byte_at}
use Rattle.std.specs.List.{All, list_all, range_with_len}
use Rattle.std.specs.Str.Parse.{AllDigits, digits_value, digits_value_after}
use Rattle.std.proofs.lemmas.Bool.{lt-ltb}
use Rattle.std.proofs.lemmas.Bool.Decides.{nat_tests}
use Rattle.std.proofs.lemmas.Fmt.{decimal_by_steps, decimal_is_IsNumeral, length-decimal-le}
use Rattle.std.proofs.lemmas.List.Elements.{All-append, All-cons, All-head, All-nil, All-tail, All-weaker}
use Rattle.std.proofs.lemmas.List.FromFn.{get_or-map-range_with_len, get_or-range_with_len}
use Rattle.std.proofs.Math.Arith.{mod-mul}
use Rattle.std.proofs.Math.Nat.{mod-eq_of_lt, pow-suc, pow-succ'}
use Rattle.std.proofs.lemmas.Nat.{mod_below}
use Rattle.hart_words.specs.Numbers.{digits_number, is_hexadecimal, number_of}
use Rattle.hex.specs.Hex.{encode_with, encode_lower, lower_digits}
use Rattle.made_runs.proofs.PlainLines.{IsField, IsPlainByte}

-- each is a byte
abbrev pub AllAre : List ℕ → Type 0
AllAre [] = Unit {0}
AllAre (byte ∷ bytes) = (byte < 256) × AllAre bytes

nibbles : map (λ d. digit_value (slice_index lower_digits d)) (range_with_len 0 16) ≡ range_with_len 0 16
nibbles = refl

nibble_back : (d : ℕ) → d < 16 → digit_value (slice_index lower_digits d) ≡ d
nibble_back d small =
    let here : 0 + d ≡ d = omega arith in
    sym (get_or-map-range_with_len (λ (n : ℕ). digit_value (slice_index lower_digits n)) 0 16 d d 0 small here)
    ∙ ap (λ (xs : List ℕ). get_or xs d 0) nibbles
    ∙ get_or-range_with_len 0 16 d 0 small ∙ here

-- two digits are a byte
pub pair_back : (b v : ℕ) → b < 256
    → (v * 16 + digit_value (slice_index lower_digits (b / 16))) * 16
    + digit_value (slice_index lower_digits (b % 16)) ≡ v * 256 + b
pair_back b v small =
    let high : b / 16 < 16 = omega arith in
    let low : b % 16 < 16 = omega arith in
    rw (nibble_back (b / 16) high, nibble_back (b % 16) low) (omega arith)

positive : (k : ℕ) → 0 < 256 ^ k
positive zero = omega arith
positive (suc k) = rw pow-suc (omega (arith, positive k))

byte_is : (k n : ℕ) → byte_at k n ≡ n / 256 ^ k % 256
byte_is zero n = let whole : n / 1 ≡ n = omega arith in ap (λ m. m % 256) (sym whole)
byte_is (suc k) n = refl

pub byte_small : (k n : ℕ) → byte_at k n < 256
byte_small k n = rw byte_is (mod_below (n / 256 ^ k) 256 (omega arith))

mixed : (v b p m : ℕ) → (v * 256 + b) * p + m ≡ v * (256 * p) + (b * p + m)
mixed v b p m = omega arith

value_back : (k n v : ℕ) → digits_value_after 16 v (encode_lower (bytes_high_first k n)) ≡ v * 256 ^ k + n % 256 ^ k
unfolding encode_with
value_back zero n v = omega arith
value_back (suc k) n v =
    let small : byte_at k n < 256 = byte_small k n in
    let more : 256 ^ suc k ≡ 256 * 256 ^ k = pow-succ' 256 k in
    let low : n % (256 * 256 ^ k) ≡ byte_at k n * 256 ^ k + n % 256 ^ k =
    mod-mul n (omega arith) (positive k) ∙ ap (λ m. m * 256 ^ k + n % 256 ^ k) (sym (byte_is k n)) in
    let target : v * 256 ^ suc k + n % 256 ^ suc k ≡ v * (256 * 256 ^ k) + (byte_at k n * 256 ^ k + n % 256 ^ k) =
    rw (more, low) refl in
    ap (λ (m : ℕ). digits_value_after 16 m (encode_lower (bytes_high_first k n))) (pair_back (byte_at k n) v small)
    ∙ value_back k n (v * 256 + byte_at k n)
    ∙ mixed v (byte_at k n) (256 ^ k) (n % 256 ^ k)
    ∙ sym target

pub digits_back : (bytes : List ℕ) → AllAre bytes → list_all (λ c. is_digit c 16) (encode_lower bytes) ≡ true
unfolding encode_with
digits_back [] small = refl
digits_back (b ∷ bytes) small =
    let high : b / 16 < 16 = omega (arith, small.0) in
    let low : b % 16 < 16 = omega arith in
    let one : nat_lt (b / 16) 16 ≡ true = grind (arith, nat_tests) in
    let two : nat_lt (b % 16) 16 ≡ true = grind (arith, nat_tests) in
    rw (nibble_back (b / 16) high, nibble_back (b % 16) low, one, two) (digits_back bytes small.1)

bytes_are : (k n : ℕ) → AllAre (bytes_high_first k n)
bytes_are zero n = tt
bytes_are (suc k) n = (byte_small k n, bytes_are k n)

some_digits : (byte : ℕ) (bytes : List ℕ) → (length (encode_lower (byte ∷ bytes)) == 0) ≡ false
unfolding encode_with
some_digits byte bytes = ne_eqb _ 0 (omega arith)

-- digits that are some, and nothing else, are read as their value
digits_read : (text : List ℕ) (value : ℕ) → (length text == 0) ≡ false → list_all (λ c. is_digit c 16) text ≡ true
    → digits_value 16 text ≡ value → digits_number 16 text ≡ Some value
unfolding digits_number
digits_read text value some digits is = rw (some, digits, is) refl

-- what is written in hexadecimal is read as the same number
pub hexadecimal_back : (k n : ℕ) → n < 256 ^ suc k
    → number_of (codes "0x" ++ encode_lower (bytes_high_first (suc k) n)) ≡ Some n
unfolding number_of
hexadecimal_back k n fits =
    let whole : 0 * 256 ^ suc k + n % 256 ^ suc k ≡ n = omega (arith, mod-eq_of_lt fits) in
    digits_read (encode_lower (bytes_high_first (suc k) n)) n (some_digits (byte_at k n) (bytes_high_first k n))
    (digits_back (bytes_high_first (suc k) n) (bytes_are (suc k) n)) (value_back (suc k) n 0 ∙ whole)

-- digits are plain
are_plain : map (λ d. nat_le 48 (slice_index lower_digits d) && nat_lt (slice_index lower_digits d) 128)
    (range_with_len 0 16) ≡ map (λ d. true) (range_with_len 0 16)
are_plain = refl

plain_by : (byte : ℕ) → (nat_le 48 byte && nat_lt byte 128) ≡ true → IsPlainByte byte
plain_by byte is = (grind (arith, nat_tests), grind (arith, nat_tests))

plain_digit : (d : ℕ) → d < 16 → IsPlainByte (slice_index lower_digits d)
plain_digit d small =
    let here : 0 + d ≡ d = omega arith in
    plain_by (slice_index lower_digits d) (
    sym
    (get_or-map-range_with_len
    (λ (n : ℕ). nat_le 48 (slice_index lower_digits n) && nat_lt (slice_index lower_digits n) 128) 0 16 d d true
    small here)
    ∙ ap (λ (xs : List Bool). get_or xs d true) are_plain
    ∙ get_or-map-range_with_len (λ (n : ℕ). true) 0 16 d d true small here)

pub encoded_plain : (bytes : List ℕ) → AllAre bytes → All IsPlainByte (encode_lower bytes)
unfolding encode_with
encoded_plain [] small = All-nil IsPlainByte
encoded_plain (b ∷ bytes) small =
    let high = slice_index lower_digits (b / 16) in
    let low = slice_index lower_digits (b % 16) in
    All-cons IsPlainByte high (low ∷ encode_lower bytes) (plain_digit (b / 16) (omega (arith, small.0)))
    (All-cons IsPlainByte low (encode_lower bytes) (plain_digit (b % 16) (omega arith)) (encoded_plain bytes small.1))

encoded_len : (k n : ℕ) → length (encode_lower (bytes_high_first k n)) ≡ 2 * k
unfolding encode_with
encoded_len zero n = refl
encoded_len (suc k) n = omega (arith, encoded_len k n)

-- the text of a number among the fields of a line
pub record IsNumeralOf (field : List ℕ) (value most : ℕ) : Type 0 where
  pub is_field : IsField field
  pub reads : number_of field ≡ Some value
  pub short : length field ≤ most

pub hexadecimal_is : (k n : ℕ) → n < 256 ^ suc k
    → IsNumeralOf (codes "0x" ++ encode_lower (bytes_high_first (suc k) n)) n (2 * k + 4)
hexadecimal_is k n fits =
    let digits : List ℕ = encode_lower (bytes_high_first (suc k) n) in
    record {
      is_field = record {
        nonempty = omega arith;
        plain =
            All-cons IsPlainByte 48 (120 ∷ digits) (omega arith, omega arith)
            (All-cons IsPlainByte 120 digits (omega arith, omega arith)
            (encoded_plain (bytes_high_first (suc k) n) (bytes_are (suc k) n)));
      };
      reads = hexadecimal_back k n fits;
      short = omega (arith, encoded_len (suc k) n);
    }

-- decimal digits
abbrev IsDecimalByte : ℕ → Type 0
IsDecimalByte byte = (48 ≤ byte) × (byte < 58)

decimal_bytes : (n : ℕ) → n < 2 ^ 64 → All IsDecimalByte (decimal n)
decimal_bytes =
    decimal_by_steps (λ (n : ℕ) (digits : List ℕ). All IsDecimalByte digits)
    (λ n small. All-cons IsDecimalByte (48 + n) [] (omega arith, omega (arith, small)) (All-nil IsDecimalByte))
    (λ n digits some more.
    let low : n % 10 < 10 = omega arith in
    All-append IsDecimalByte digits ((48 + n % 10) ∷ []) more
    (All-cons IsDecimalByte (48 + n % 10) [] (omega arith, omega arith) (All-nil IsDecimalByte)))

no_and : (test : Bool) → (test && false) ≡ false
no_and true = refl
no_and false = refl

not_hexadecimal : (text : List ℕ) → All IsDecimalByte text → is_hexadecimal text ≡ false
not_hexadecimal [] bytes = refl
not_hexadecimal (a ∷ []) bytes = no_and (a == 48)
not_hexadecimal (a ∷ b ∷ rest) bytes =
    let low : b < 58 = (All-head IsDecimalByte b rest (All-tail IsDecimalByte a (b ∷ rest) bytes)).1 in
    let small : (b == 120) ≡ false = ne_eqb b 120 (omega arith) in
    let large : (b == 88) ≡ false = ne_eqb b 88 (omega arith) in
    rw (small, large) (no_and (a == 48))

all_digits : (text : List ℕ) → AllDigits 10 text → list_all (λ c. is_digit c 10) text ≡ true
all_digits [] digits = refl
all_digits (c ∷ text) digits =
    let one : nat_lt (digit_value c) 10 ≡ true = lt-ltb (digit_value c) 10 digits.0 in rw one (all_digits text digits.1)

-- what is written in decimal is read as the same number
decimal_read : (text : List ℕ) (n : ℕ) → is_hexadecimal text ≡ false → (0 < length text) × AllDigits 10 text
    → digits_value 10 text ≡ n → number_of text ≡ Some n
unfolding number_of digits_number
decimal_read text n other numeral is =
    let nonempty : (length text == 0) ≡ false = ne_eqb (length text) 0 (omega (arith, numeral.0)) in
    rw (other, nonempty, all_digits text numeral.1, is) refl

pub decimal_is : (k n : ℕ) → 0 < k → n < 10 ^ k → n < 2 ^ 64 → IsNumeralOf (decimal n) n k
decimal_is k n some short small =
    let numeral = decimal_is_IsNumeral n small in
    record {
      is_field = record {
        nonempty = numeral.0.0;
        plain =
            All-weaker IsDecimalByte IsPlainByte (λ byte here. (here.0, omega (arith, here.1))) (decimal n)
            (decimal_bytes n small);
      };
      reads = decimal_read (decimal n) n (not_hexadecimal (decimal n) (decimal_bytes n small)) numeral.0 numeral.1;
      short = length-decimal-le k n some short small;
    }
