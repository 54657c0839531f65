-- Hexadecimal digits, taken by twos.
use Rattle.std.proofs.Common.{◌≡◌, ◌∙◌, ℕ, suc, ◌+◌, ◌-◌, ◌*◌, ◌^◌, ◌<◌, ◌≤◌, List, [], ◌∷◌, length, Bool, true, false}
use Rattle.std.proofs.Common.{sym, arith, refl, ap, Option, Some, None, ◌&&◌, not, nat_lt, get_or, drop, take}
use Rattle.std.specs.Prelude.{if◌then◌else◌, ◌==◌}
use Rattle.std.specs.List.{list_all}
use Rattle.std.specs.Char.{is_digit, digit_value}
use Rattle.std.specs.Str.Parse.{digits_value_after}
use Rattle.std.proofs.Math.Nat.{mul_assoc, mul-le-mul_left, mul-le-mul_right, pow-le-pow_right, pow-suc}
use Rattle.std.proofs.lemmas.Bool.{lt-ltb, le-ltb}
use Rattle.std.proofs.lemmas.List.{take_all}
use Rattle.hart_words.specs.Numbers.{digits_number}

-- the value of a number's digits with these after them, where they are digits
abbrev pub value_with : ℕ → List ℕ → Option ℕ
value_with value rest = if list_all (λ c. is_digit c 16) rest then Some (digits_value_after 16 value rest) else None

-- with the digits that are left the value so far is that of all, for which there is room
pub record AreLeft (digits rest : List ℕ) (value : ℕ) : Type 0 where
  pub whole : value_with value rest ≡ digits_number 16 digits
  pub room : (value + 1) * 16 ^ length rest ≤ 2 ^ 64

-- ---- before the first

empty : (b all : Bool) (x : ℕ) → b ≡ true → None ≡ (if not b && all then Some x else None)
empty true all x is = refl
empty false all x is = absurd cc

some_more : (b all : Bool) (x : ℕ) → b ≡ false → (if all then Some x else None) ≡ (if not b && all then Some x else None)
some_more false all x is = refl
some_more true all x is = absurd cc

pub none_written : (digits : List ℕ) (test : Bool) → test ≡ (length digits == 0) → test ≡ true
    → None ≡ digits_number 16 digits
unfolding digits_number
none_written digits test is holds =
    empty (length digits == 0) (list_all (λ c. is_digit c 16) digits) (digits_value_after 16 0 digits) (sym is ∙ holds)

all_written : (digits : List ℕ) (test : Bool) → test ≡ (length digits == 0) → test ≡ false
    → value_with 0 digits ≡ digits_number 16 digits
unfolding digits_number
all_written digits test is holds =
    some_more (length digits == 0) (list_all (λ c. is_digit c 16) digits) (digits_value_after 16 0 digits)
    (sym is ∙ holds)

pub all_left : (digits : List ℕ) (test : Bool) → test ≡ (length digits == 0) → test ≡ false → length digits ≤ 16
    → AreLeft digits digits 0
all_left digits test is holds few =
    let most : 16 ^ length digits ≤ 16 ^ 16 = pow-le-pow_right (omega arith) few in
    record { whole = all_written digits test is holds; room = omega arith }

-- ---- two more

both : (t u rest : Bool) {x y : ℕ} → t ≡ true → u ≡ true → x ≡ y
    → (if t && (u && rest) then Some x else None) ≡ (if rest then Some y else None)
both true true rest first second is = ap (λ v. if rest then Some v else None) is
both true false rest first second is = absurd cc
both false u rest first second is = absurd cc

pub two_more : (a b value : ℕ) (more : List ℕ) → digit_value a < 16 → digit_value b < 16
    → value_with value (a ∷ b ∷ more) ≡ value_with (value * 256 + (digit_value a * 16 + digit_value b)) more
two_more a b value more first second =
    let same : (value * 16 + digit_value a) * 16 + digit_value b ≡ value * 256 + (digit_value a * 16 + digit_value b) =
    omega arith in
    both (is_digit a 16) (is_digit b 16) (list_all (λ c. is_digit c 16) more)
    (lt-ltb (digit_value a) 16 first) (lt-ltb (digit_value b) 16 second)
    (ap (λ v. digits_value_after 16 v more) same)

sixteens : (value p : ℕ) → (value + 1) * 256 * p ≡ (value + 1) * (p * 16 * 16)
sixteens value p =
    let same : 256 * p ≡ p * 16 * 16 = omega arith in
    mul_assoc (value + 1) 256 p ∙ ap (λ x. (value + 1) * x) same

room_after : (value sum n : ℕ) → sum < 256 → (value + 1) * 16 ^ suc (suc n) ≤ 2 ^ 64
    → (value * 256 + sum + 1) * 16 ^ n ≤ 2 ^ 64
room_after value sum n small room =
    let fewer : (value * 256 + sum + 1) * 16 ^ n ≤ (value + 1) * 256 * 16 ^ n =
    mul-le-mul_right (16 ^ n) (omega arith) in
    let power : 16 ^ suc (suc n) ≡ 16 ^ n * 16 * 16 =
    pow-suc 16 (suc n) ∙ ap (λ x. x * 16) (pow-suc 16 n) in
    let whole : (value + 1) * 16 ^ suc (suc n) ≡ (value + 1) * 256 * 16 ^ n =
    ap (λ x. (value + 1) * x) power ∙ sym (sixteens value (16 ^ n)) in
    omega arith

-- for the next two there is room
pub room_for_two : {digits rest : List ℕ} {value : ℕ} → 2 ≤ length rest → AreLeft digits rest value
    → (value + 1) * 256 ≤ 2 ^ 64
room_for_two {rest = rest} {value = value} two left =
    let power : 16 ^ 2 ≤ 16 ^ length rest = pow-le-pow_right (omega arith) two in
    let fewer : (value + 1) * 16 ^ 2 ≤ (value + 1) * 16 ^ length rest = mul-le-mul_left (value + 1) power in
    let room : (value + 1) * 16 ^ length rest ≤ 2 ^ 64 = left.room in
    omega arith

pub pairs-next : (digits rest : List ℕ) (value n high low sum : ℕ) → 2 ≤ length rest → n ≡ length rest - 2
    → high ≡ digit_value (get_or rest 0 0) → low ≡ digit_value (get_or rest 1 0) → high < 16 → low < 16
    → sum ≡ high * 16 + low → AreLeft digits rest value → AreLeft digits (take n (drop 2 rest)) (value * 256 + sum)
pairs-next digits [] value n high low sum two count first second high_is low_is is left = absurd (omega arith)
pairs-next digits (a ∷ []) value n high low sum two count first second high_is low_is is left = absurd (omega arith)
pairs-next digits (a ∷ b ∷ more) value n high low sum two count first second high_is low_is is left =
    let all : take n more ≡ more = take_all n more (omega arith) in
    let same : sum ≡ digit_value a * 16 + digit_value b = rw (← first, ← second) is in
    rw (all, same) (record {
      whole = sym (two_more a b value more (rw (← first) high_is) (rw (← second) low_is)) ∙ left.whole;
      room = room_after value (digit_value a * 16 + digit_value b) (length more) (omega arith) left.room;
    })

-- ---- where one of the next two is no digit

first_no_digit : (t u rest : Bool) (x : ℕ) → t ≡ false → (if t && (u && rest) then Some x else None) ≡ None
first_no_digit true u rest x is = absurd cc
first_no_digit false u rest x is = refl

second_no_digit : (t u rest : Bool) (x : ℕ) → u ≡ false → (if t && (u && rest) then Some x else None) ≡ None
second_no_digit true true rest x is = absurd cc
second_no_digit true false rest x is = refl
second_no_digit false u rest x is = refl

pub no_first : (digits rest : List ℕ) (value high : ℕ) → 2 ≤ length rest → high ≡ digit_value (get_or rest 0 0)
    → 16 ≤ high → AreLeft digits rest value → None ≡ digits_number 16 digits
no_first digits [] value high two is large left = absurd (omega arith)
no_first digits (a ∷ []) value high two is large left = absurd (omega arith)
no_first digits (a ∷ b ∷ more) value high two is large left =
    sym (first_no_digit (is_digit a 16) (is_digit b 16) (list_all (λ c. is_digit c 16) more) _
    (le-ltb (digit_value a) 16 (rw (← is) large)))
    ∙ left.whole

pub no_second : (digits rest : List ℕ) (value low : ℕ) → 2 ≤ length rest → low ≡ digit_value (get_or rest 1 0)
    → 16 ≤ low → AreLeft digits rest value → None ≡ digits_number 16 digits
no_second digits [] value low two is large left = absurd (omega arith)
no_second digits (a ∷ []) value low two is large left = absurd (omega arith)
no_second digits (a ∷ b ∷ more) value low two is large left =
    sym (second_no_digit (is_digit a 16) (is_digit b 16) (list_all (λ c. is_digit c 16) more) _
    (le-ltb (digit_value b) 16 (rw (← is) large)))
    ∙ left.whole

-- ---- at the end

alone : (t : Bool) (x : ℕ) → (if t then Some x else None) ≡ (if t && true then Some x else None)
alone true x = refl
alone false x = refl

pub one_left : (digits rest : List ℕ) (value digit : ℕ) (result : Option ℕ) → 1 ≤ length rest → length rest < 2
    → digit ≡ digit_value (get_or rest 0 0) → result ≡ (if nat_lt digit 16 then Some (value * 16 + digit) else None)
    → AreLeft digits rest value → result ≡ digits_number 16 digits
one_left digits [] value digit result some few is made left = absurd (omega arith)
one_left digits (a ∷ b ∷ more) value digit result some few is made left = absurd (omega arith)
one_left digits (a ∷ []) value digit result some few is made left =
    made ∙ ap (λ d. if nat_lt d 16 then Some (value * 16 + d) else None) is
    ∙ alone (is_digit a 16) (value * 16 + digit_value a) ∙ left.whole

pub none_left : (digits rest : List ℕ) (value : ℕ) → length rest < 1 → AreLeft digits rest value
    → Some value ≡ digits_number 16 digits
none_left digits [] value few left = left.whole
none_left digits (a ∷ more) value few left = absurd (omega arith)
