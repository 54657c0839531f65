-- Hexadecimal digits, taken by fours.
use Rattle.std.proofs.Common.{◌≡◌, ◌∙◌, ℕ, suc, ◌+◌, ◌-◌, ◌*◌, ◌^◌, ◌<◌, ◌≤◌, List, [], ◌∷◌, length, Bool, true, false}
use Rattle.std.proofs.Common.{sym, arith, refl, ap, Some, None, ◌&&◌, nat_lt, get_or, drop, take}
use Rattle.std.specs.Prelude.{if◌then◌else◌}
use Rattle.std.specs.List.{list_all}
use Rattle.std.specs.Char.{is_digit, digit_value}
use Rattle.std.proofs.Math.Nat.{mul_assoc, mul-le-mul_left, mul-le-mul_right, pow-le-pow_right, pow-suc}
use Rattle.std.proofs.lemmas.Bool.{ltb-true}
use Rattle.std.proofs.lemmas.List.{take_all}
use Rattle.hart_words.specs.Numbers.{digits_number, nibble}
use Rattle.hart_words.proofs.Pairs.{AreLeft, two_more, value_with}

-- ---- one digit

is_small : (test : Bool) (value : ℕ) → (test ≡ true → value < 16) → (if test then value else 65536) ≤ 65536
is_small true value is = let below : value < 16 = is refl in omega arith
is_small false value is = omega arith

pub nibble_small : (byte : ℕ) → nibble byte ≤ 65536
nibble_small byte = is_small (nat_lt (digit_value byte) 16) (digit_value byte) (ltb-true (digit_value byte) 16)

-- a byte whose value is small is a digit of that value
record IsNibble (value found : ℕ) : Type 0 where
  below : value < 16
  same : found ≡ value

is_nibble : (test : Bool) (value : ℕ) → (test ≡ true → value < 16) → (if test then value else 65536) < 65536
    → IsNibble value (if test then value else 65536)
is_nibble true value is small = record { below = is refl; same = refl }
is_nibble false value is small = absurd (omega arith)

digit_found : (byte : ℕ) → nibble byte < 65536 → IsNibble (digit_value byte) (nibble byte)
digit_found byte = is_nibble (nat_lt (digit_value byte) 16) (digit_value byte) (ltb-true (digit_value byte) 16)

-- ---- four more

abbrev four_of : ℕ → ℕ → ℕ → ℕ → ℕ
four_of a b c d = ((a * 16 + b) * 16 + c) * 16 + d

four_more : (a b c d value : ℕ) (more : List ℕ)
    → digit_value a < 16 → digit_value b < 16 → digit_value c < 16 → digit_value d < 16
    → value_with value (a ∷ b ∷ c ∷ d ∷ more)
    ≡ value_with (value * 65536 + four_of (digit_value a) (digit_value b) (digit_value c) (digit_value d)) more
four_more a b c d value more first second third fourth =
    let high : ℕ = digit_value a * 16 + digit_value b in
    let low : ℕ = digit_value c * 16 + digit_value d in
    let same : (value * 256 + high) * 256 + low
    ≡ value * 65536 + four_of (digit_value a) (digit_value b) (digit_value c) (digit_value d) = omega arith in
    two_more a b value (c ∷ d ∷ more) first second
    ∙ two_more c d (value * 256 + high) more third fourth
    ∙ ap (λ v. value_with v more) same

powers : (value p : ℕ) → (value + 1) * 65536 * p ≡ (value + 1) * (p * 16 * 16 * 16 * 16)
powers value p =
    let same : 65536 * p ≡ p * 16 * 16 * 16 * 16 = omega arith in
    mul_assoc (value + 1) 65536 p ∙ ap (λ x. (value + 1) * x) same

room_after : (value sum n : ℕ) → sum < 65536 → (value + 1) * 16 ^ suc (suc (suc (suc n))) ≤ 2 ^ 64
    → (value * 65536 + sum + 1) * 16 ^ n ≤ 2 ^ 64
room_after value sum n small room =
    let fewer : (value * 65536 + sum + 1) * 16 ^ n ≤ (value + 1) * 65536 * 16 ^ n =
    mul-le-mul_right (16 ^ n) (omega arith) in
    let two : 16 ^ suc (suc n) ≡ 16 ^ n * 16 * 16 = pow-suc 16 (suc n) ∙ ap (λ x. x * 16) (pow-suc 16 n) in
    let four : 16 ^ suc (suc (suc (suc n))) ≡ 16 ^ n * 16 * 16 * 16 * 16 =
    pow-suc 16 (suc (suc (suc n))) ∙ ap (λ x. x * 16) (pow-suc 16 (suc (suc n)) ∙ ap (λ x. x * 16) two) in
    let whole : (value + 1) * 16 ^ suc (suc (suc (suc n))) ≡ (value + 1) * 65536 * 16 ^ n =
    ap (λ x. (value + 1) * x) four ∙ sym (powers value (16 ^ n)) in
    omega arith

-- for the next four there is room
pub room_for_four : {digits rest : List ℕ} {value : ℕ} → 4 ≤ length rest → AreLeft digits rest value
    → (value + 1) * 65536 ≤ 2 ^ 64
room_for_four {rest = rest} {value = value} four left =
    let power : 16 ^ 4 ≤ 16 ^ length rest = pow-le-pow_right (omega arith) four in
    let fewer : (value + 1) * 16 ^ 4 ≤ (value + 1) * 16 ^ length rest = mul-le-mul_left (value + 1) power in
    let room : (value + 1) * 16 ^ length rest ≤ 2 ^ 64 = left.room in
    omega arith

four_after : (digits : List ℕ) (a b c d : ℕ) (more : List ℕ) (value sum : ℕ)
    → sum ≡ four_of (nibble a) (nibble b) (nibble c) (nibble d) → sum < 65536
    → AreLeft digits (a ∷ b ∷ c ∷ d ∷ more) value → AreLeft digits more (value * 65536 + sum)
four_after digits a b c d more value sum is small left =
    let first = digit_found a (omega arith) in
    let second = digit_found b (omega arith) in
    let third = digit_found c (omega arith) in
    let fourth = digit_found d (omega arith) in
    let same : sum ≡ four_of (digit_value a) (digit_value b) (digit_value c) (digit_value d) =
    rw (← first.same, ← second.same, ← third.same, ← fourth.same) is in
    record {
      whole =
          ap (λ s. value_with (value * 65536 + s) more) same
          ∙ sym (four_more a b c d value more first.below second.below third.below fourth.below) ∙ left.whole;
      room = room_after value sum (length more) small left.room;
    }

pub fours-next : (digits rest : List ℕ) (value n sum : ℕ) → 4 ≤ length rest → n ≡ length rest - 4
    → sum ≡ four_of (nibble (get_or rest 0 0)) (nibble (get_or rest 1 0)) (nibble (get_or rest 2 0))
    (nibble (get_or rest 3 0))
    → sum < 65536 → AreLeft digits rest value → AreLeft digits (take n (drop 4 rest)) (value * 65536 + sum)
fours-next digits [] value n sum four count is small left = absurd (omega arith)
fours-next digits (a ∷ []) value n sum four count is small left = absurd (omega arith)
fours-next digits (a ∷ b ∷ []) value n sum four count is small left = absurd (omega arith)
fours-next digits (a ∷ b ∷ c ∷ []) value n sum four count is small left = absurd (omega arith)
fours-next digits (a ∷ b ∷ c ∷ d ∷ more) value n sum four count is small left =
    let all : take n more ≡ more = take_all n more (omega arith) in
    rw all (four_after digits a b c d more value sum is small left)

-- ---- where one of the next four is no digit

all_four : (t u v w rest : Bool) (x : ℕ) → (t ≡ true → u ≡ true → v ≡ true → w ≡ true → ⊥)
    → (if t && (u && (v && (w && rest))) then Some x else None) ≡ None
all_four true true true true rest x not = absurd (not refl refl refl refl)
all_four true true true false rest x not = refl
all_four true true false w rest x not = refl
all_four true false v w rest x not = refl
all_four false u v w rest x not = refl

in_digit : (test : Bool) (value : ℕ) → test ≡ true → value < 16 → (if test then value else 65536) < 16
in_digit true value is below = below
in_digit false value is below = absurd cc

nibble_of_digit : (byte : ℕ) → is_digit byte 16 ≡ true → nibble byte < 16
nibble_of_digit byte is = in_digit (is_digit byte 16) (digit_value byte) is (ltb-true (digit_value byte) 16 is)

pub no_four : (digits rest : List ℕ) (value sum : ℕ) → 4 ≤ length rest
    → sum ≡ four_of (nibble (get_or rest 0 0)) (nibble (get_or rest 1 0)) (nibble (get_or rest 2 0))
    (nibble (get_or rest 3 0))
    → 65536 ≤ sum → AreLeft digits rest value → None ≡ digits_number 16 digits
no_four digits [] value sum four is large left = absurd (omega arith)
no_four digits (a ∷ []) value sum four is large left = absurd (omega arith)
no_four digits (a ∷ b ∷ []) value sum four is large left = absurd (omega arith)
no_four digits (a ∷ b ∷ c ∷ []) value sum four is large left = absurd (omega arith)
no_four digits (a ∷ b ∷ c ∷ d ∷ more) value sum four is large left =
    sym (all_four (is_digit a 16) (is_digit b 16) (is_digit c 16) (is_digit d 16)
    (list_all (λ c. is_digit c 16) more) _
    (λ first second third fourth.
    let one = nibble_of_digit a first in
    let two = nibble_of_digit b second in
    let three = nibble_of_digit c third in
    let four = nibble_of_digit d fourth in
    omega arith))
    ∙ left.whole
