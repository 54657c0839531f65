-- The value of digits, kept up to 2^64.
use Rattle.std.proofs.Common.{◌≡◌, ℕ, ◌+◌, ◌*◌, ◌^◌, ◌<◌, ◌≤◌, min, take, length, List, true, get_or, arith, refl, inl}
use Rattle.std.proofs.Common.{inr, Bool, false, Some, None, if◌then◌else◌, ◌∙◌, suc, mul_comm, nat_lt, sym}
use Rattle.std.specs.List.{list_all}
use Rattle.std.specs.Char.{is_digit, digit_value}
use Rattle.std.specs.Str.Parse.{digits_value}
use Rattle.std.proofs.lemmas.List.Folds.{list_all_more}
use Rattle.std.proofs.lemmas.Int.Digits.{digits_value_more}
use Rattle.std.proofs.lemmas.Grind.{common_steps}
use Rattle.std.proofs.Math.Nat.{mul-le-mul_right, le-mul_of_pos_right, pow-le-pow_right, pow-suc}
use Rattle.std.proofs.lemmas.Nat.{mul-add-lt}
use Rattle.std.proofs.lemmas.Bool.Decides.{nat_tests}
use Rattle.std.proofs.lemmas.Bool.{cases_lt}

-- one more digit
pub min-scaled : (a r d most : ℕ) → 1 ≤ r → min (min a most * r + d) most ≡ min (a * r + d) most
min-scaled a r d most h = elim (cases_lt most a) [
  | inl over ↦
      let whole : most ≤ most * r = le-mul_of_pos_right most h in
      let larger : most * r ≤ a * r = mul-le-mul_right r (omega arith) in
      let is : min a most ≡ most = omega arith in
      rw is (omega arith)
  | inr under ↦
      let is : min a most ≡ a = omega arith in
      rw is refl
]

pub all_digits_more : (radix : ℕ) (ds : List ℕ) (i : ℕ) → i < length ds
    → list_all (λ c. is_digit c radix) (take i ds) ≡ true → is_digit (get_or ds i 0) radix ≡ true
    → list_all (λ c. is_digit c radix) (take (i + 1) ds) ≡ true
all_digits_more radix ds i h all here = grind (arith, common_steps, list_all_more (λ c. is_digit c radix) ds i 0 h)

pub value_more : (radix : ℕ) (ds : List ℕ) (i value : ℕ) → i < length ds → 1 ≤ radix
    → value ≡ min (digits_value radix (take i ds)) (2 ^ 64)
    → min (value * radix + digit_value (get_or ds i 0)) (2 ^ 64) ≡ min (digits_value radix (take (i + 1) ds)) (2 ^ 64)
value_more radix ds i value h some is =
    grind (
      arith,
      digits_value_more radix ds i h,
      min-scaled (digits_value radix (take i ds)) radix (digit_value (get_or ds i 0)) (2 ^ 64) some,
    )

-- a byte that is a digit, with its value
found : (b : Bool) (value digit : ℕ) → Some digit ≡ (if b then Some value else None) → (b ≡ true) × (digit ≡ value)
found true value digit h = (refl, cc)
found false value digit h = cc

-- one more digit keeps what is known of the digits so far
pub digit_more : (radix : ℕ) (ds : List ℕ) (i : ℕ) {value digit next : ℕ} → i < length ds → 1 ≤ radix
    → (list_all (λ c. is_digit c radix) (take i ds) ≡ true) × (value ≡ min (digits_value radix (take i ds)) (2 ^ 64))
    → Some digit ≡ (if is_digit (get_or ds i 0) radix then Some (digit_value (get_or ds i 0)) else None)
    → next ≡ min (value * radix + digit) (2 ^ 64)
    → (list_all (λ c. is_digit c radix) (take (i + 1) ds) ≡ true)
    × (next ≡ min (digits_value radix (take (i + 1) ds)) (2 ^ 64))
digit_more radix ds i {value} {digit} {next} h some before here is =
    let both = found (is_digit (get_or ds i 0) radix) (digit_value (get_or ds i 0)) digit here in
    let same : next ≡ min (value * radix + digit_value (get_or ds i 0)) (2 ^ 64) = rw (← both.1) is in
    (all_digits_more radix ds i h before.0 both.0, same ∙ value_more radix ds i value h some before.1)

-- such a digit is below the radix
digit_below : (radix byte digit : ℕ) → Some digit ≡ (if is_digit byte radix then Some (digit_value byte) else None)
    → digit < radix
digit_below radix byte digit here =
    let both = found (is_digit byte radix) (digit_value byte) digit here in
    let is : digit ≡ digit_value byte = both.1 in
    let test : nat_lt (digit_value byte) radix ≡ true = both.0 in
    rw is (grind (arith, nat_tests))

-- so many digits and one more are below the radix's next power
pub below_more : (radix : ℕ) (ds : List ℕ) (i value digit : ℕ) → value < radix ^ i
    → Some digit ≡ (if is_digit (get_or ds i 0) radix then Some (digit_value (get_or ds i 0)) else None)
    → value * radix + digit < radix ^ (i + 1)
below_more radix ds i value digit below here =
    let small : digit < radix = digit_below radix (get_or ds i 0) digit here in
    let next : i + 1 ≡ suc i = omega arith in
    rw (next, pow-suc radix i, mul_comm (radix ^ i) radix) (mul-add-lt value radix digit (radix ^ i) below small)

-- where the digits are few, one more has room
pub room : (radix : ℕ) (ds : List ℕ) (i : ℕ) {value digit : ℕ} → i < length ds → 1 ≤ radix → radix ^ length ds ≤ 2 ^ 64
    → value < radix ^ i
    → Some digit ≡ (if is_digit (get_or ds i 0) radix then Some (digit_value (get_or ds i 0)) else None)
    → value * radix + digit < 2 ^ 64
room radix ds i {value} {digit} more some short below here =
    let next : value * radix + digit < radix ^ (i + 1) = below_more radix ds i value digit below here in
    let most : radix ^ (i + 1) ≤ radix ^ length ds = pow-le-pow_right some (omega arith) in
    omega arith

-- one more digit's value, with nothing kept back
pub short_value_more : (radix : ℕ) (ds : List ℕ) (i value digit : ℕ) → i < length ds
    → value ≡ digits_value radix (take i ds)
    → Some digit ≡ (if is_digit (get_or ds i 0) radix then Some (digit_value (get_or ds i 0)) else None)
    → value * radix + digit ≡ digits_value radix (take (i + 1) ds)
short_value_more radix ds i value digit more is here =
    let both = found (is_digit (get_or ds i 0) radix) (digit_value (get_or ds i 0)) digit here in
    rw (both.1, is) (sym (digits_value_more radix ds i more))

-- and it is a digit
pub short_digits_more : (radix : ℕ) (ds : List ℕ) (i digit : ℕ) → i < length ds
    → list_all (λ c. is_digit c radix) (take i ds) ≡ true
    → Some digit ≡ (if is_digit (get_or ds i 0) radix then Some (digit_value (get_or ds i 0)) else None)
    → list_all (λ c. is_digit c radix) (take (i + 1) ds) ≡ true
short_digits_more radix ds i digit more all here =
    all_digits_more radix ds i more all
    (found (is_digit (get_or ds i 0) radix) (digit_value (get_or ds i 0)) digit here).0
