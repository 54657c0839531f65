-- A number shifted up to the top of a word and back down, with its sign.
use Rattle.hart_words.specs.WordLaws.{ExtendsSigns}
use Rattle.std.proofs.Common.{◌≡◌, ℕ, suc, ◌+◌, ◌-◌, ◌*◌, ◌/◌, ◌%◌, ◌^◌, ◌<◌, ◌≤◌, true, false, nat_lt, if◌then◌else◌}
use Rattle.std.proofs.Common.{arith, refl, sym, ap, ◌∙◌, inl, inr, pos, negsuc, ◌-ℤ◌, ◌⊎◌}
use Rattle.std.specs.Int.{w64, cast_signed, cast_unsigned, int_rem_euclid}
use Rattle.std.specs.Int.Signed.{shr_z}
use Rattle.std.proofs.lemmas.Bool.Decides.{nat_tests}
use Rattle.std.proofs.lemmas.Int.{ints, int_rem_euclid_is}
use Rattle.std.proofs.lemmas.Nat.{div-mul-add, mod-pow-add, pow-add, pow_pos, mod_below, mod-mul-add}
use Rattle.std.proofs.lemmas.Bool.{cases_lt}
use Rattle.std.proofs.Math.Nat.{mul-lt-mul_of_pos_right, mul-le-mul_right, mul-div_cancel, mul-mod_left}
use Rattle.std.proofs.Math.Nat.{le-mul_of_pos_right, pow-suc, mod-eq_of_lt, mod-mod}
use Rattle.hart_words.specs.Words.{sign_extended, residue}

-- a word is p times q, and q is twice h: the sign of a number below q is whether it is at least h
record IsSplit (p q h : ℕ) : Type 0 where
  positive : 0 < p
  whole : p * q ≡ 2 ^ 64
  half : p * h ≡ 2 ^ 63
  double : q ≡ h + h

below : (l p q h : ℕ) → IsSplit p q h → l < h
    → cast_unsigned w64 (shr_z (cast_signed w64 (l * p)) p) ≡ residue w64 (pos l)
below l p q h split lt =
    let less : l * p < h * p = mul-lt-mul_of_pos_right lt split.positive in
    let fits : l * p < 2 ^ 63 = omega (arith, less, split.half) in
    let small : l ≤ l * p = le-mul_of_pos_right l split.positive in
    let is : cast_signed w64 (l * p) ≡ pos (l * p) = omega (arith, ints) in
    let back : l * p / p ≡ l = mul-div_cancel l split.positive in
    rw (is, back) (omega arith)

negative : (n : ℕ) → 2 ^ 63 ≤ n → cast_signed w64 n ≡ negsuc (2 ^ 64 - suc n)
negative n h = let test : nat_lt n (2 ^ 63) ≡ false = grind (arith, nat_tests) in rw test refl

gap : (l p q d : ℕ) → 0 < p → p * q ≡ 2 ^ 64 → q ≡ d + suc l → 2 ^ 64 - suc (l * p) ≡ d * p + (p - 1)
gap l p q d some whole is = let all : p * (d + suc l) ≡ 2 ^ 64 = rw (← is) whole in omega arith

above : (l p q h : ℕ) → IsSplit p q h → h ≤ l → l < q
    → cast_unsigned w64 (shr_z (cast_signed w64 (l * p)) p) ≡ residue w64 (pos l -ℤ pos q)
above l p q h split le lt =
    let some = split.positive in
    let whole = split.whole in
    let half = split.half in
    let least : h * p ≤ l * p = mul-le-mul_right p le in
    let less : l * p < q * p = mul-lt-mul_of_pos_right lt some in
    let is : cast_signed w64 (l * p) ≡ negsuc (2 ^ 64 - suc (l * p)) = negative (l * p) (omega arith) in
    let apart : 2 ^ 64 - suc (l * p) ≡ (q - suc l) * p + (p - 1) = gap l p q (q - suc l) some whole (omega arith) in
    let back : ((q - suc l) * p + (p - 1)) / p ≡ q - suc l = div-mul-add (q - suc l) p (p - 1) (omega arith) in
    let small : q ≤ q * p = le-mul_of_pos_right q some in
    let narrow : q ≤ 2 ^ 64 = omega arith in
    let euclid : int_rem_euclid (pos l -ℤ pos q) (pos (2 ^ 64)) ≡ pos ((l + (2 ^ 64 - q)) % 2 ^ 64) =
    int_rem_euclid_is _ _ (2 ^ 64) 1 _ (omega arith) refl (omega (arith, ints)) in
    rw (is, apart, back, euclid) (omega arith)

by_sign : (l p q h : ℕ) → IsSplit p q h → l < q
    → cast_unsigned w64 (shr_z (cast_signed w64 (l * p)) p) ≡ residue w64 (if nat_lt l h then pos l else pos l -ℤ pos q)
by_sign l p q h split lt = elim (cases_lt l h) [
  | inl under ↦ let test : nat_lt l h ≡ true = grind (arith, nat_tests) in rw test (below l p q h split under)
  | inr over ↦
      let test : nat_lt l h ≡ false = grind (arith, nat_tests) in rw test (above l p q h split over lt)
]

doubled : (n : ℕ) → 1 ≤ n → 2 ^ n ≡ 2 ^ (n - 1) + 2 ^ (n - 1)
doubled n some = let e : suc (n - 1) ≡ n = omega arith in sym (ap (λ k. 2 ^ k) e) ∙ pow-suc 2 (n - 1) ∙ omega arith

split_at : (n k : ℕ) → 1 ≤ n → n + k ≡ 64 → IsSplit (2 ^ k) (2 ^ n) (2 ^ (n - 1))
split_at n k some all =
    let one : k + n ≡ 64 = omega arith in
    let other : k + (n - 1) ≡ 63 = omega arith in
    record {
      positive = pow_pos k;
      whole = sym (pow-add 2 k n) ∙ ap (λ e. 2 ^ e) one;
      half = sym (pow-add 2 k (n - 1)) ∙ ap (λ e. 2 ^ e) other;
      double = doubled n some;
    }

low_bits : (n k x : ℕ) → n + k ≡ 64 → x * 2 ^ k % 2 ^ 64 ≡ (x % 2 ^ n) * 2 ^ k
low_bits n k x all =
    let cut : x * 2 ^ k % 2 ^ (n + k) ≡ (x * 2 ^ k / 2 ^ k % 2 ^ n) * 2 ^ k + x * 2 ^ k % 2 ^ k =
    mod-pow-add (x * 2 ^ k) n k in
    let back : x * 2 ^ k / 2 ^ k ≡ x = mul-div_cancel x (pow_pos k) in
    let none : x * 2 ^ k % 2 ^ k ≡ 0 = mul-mod_left x (2 ^ k) in
    ap (λ e. x * 2 ^ k % 2 ^ e) (sym all) ∙ cut ∙ rw (back, none) (omega arith)

at_width : (n k x : ℕ) → 1 ≤ n → n + k ≡ 64
    → cast_unsigned w64 (shr_z (cast_signed w64 (x * 2 ^ k % 2 ^ 64)) (2 ^ k)) ≡ sign_extended n x
unfolding sign_extended
at_width n k x some all =
    rw (low_bits n k x all)
    (by_sign (x % 2 ^ n) (2 ^ k) (2 ^ n) (2 ^ (n - 1)) (split_at n k some all) (mod_below x (2 ^ n) (pow_pos n)))

pub shifted_back : (bits x : ℕ) → 1 ≤ bits → bits ≤ 64
    → cast_unsigned w64 (shr_z (cast_signed w64 (x * 2 ^ (64 - bits) % 2 ^ 64)) (2 ^ (64 - bits)))
    ≡ sign_extended bits x
shifted_back bits x some few = at_width bits (64 - bits) x some (omega arith)

-- the same by the number's low bits l, below q = 2 * h
kept : (l q h : ℕ) → q ≡ h + h → q ≤ 2 ^ 64 → l < h
    → (residue w64 (pos l) % q ≡ l % q) × ((residue w64 (pos l) < h) ⊎ (2 ^ 64 - h ≤ residue w64 (pos l)))
    × (residue w64 (pos l) < 2 ^ 64)
kept l q h double narrow lt =
    let is : residue w64 (pos l) ≡ l = omega arith in
    rw is (refl, inl lt, omega arith)

turned : (p q d : ℕ) → p ≡ d + 1 → p * q ≡ 2 ^ 64 → d * q + q ≡ 2 ^ 64
turned p q d e whole = let all : (d + 1) * q ≡ 2 ^ 64 = rw (← e) whole in omega arith

repeated : (l p q h : ℕ) → IsSplit p q h → q ≤ 2 ^ 64 → h ≤ l → l < q
    → (residue w64 (pos l -ℤ pos q) % q ≡ l % q)
    × ((residue w64 (pos l -ℤ pos q) < h) ⊎ (2 ^ 64 - h ≤ residue w64 (pos l -ℤ pos q)))
    × (residue w64 (pos l -ℤ pos q) < 2 ^ 64)
repeated l p q h split narrow le lt =
    let some = split.positive in
    let whole = split.whole in
    let double = split.double in
    let euclid : int_rem_euclid (pos l -ℤ pos q) (pos (2 ^ 64)) ≡ pos ((l + (2 ^ 64 - q)) % 2 ^ 64) =
    int_rem_euclid_is _ _ (2 ^ 64) 1 _ (omega arith) refl (omega (arith, ints)) in
    let rest : (p - 1) * q + q ≡ 2 ^ 64 = turned p q (p - 1) (omega arith) whole in
    let is : (l + (2 ^ 64 - q)) % 2 ^ 64 ≡ (p - 1) * q + l = omega arith in
    let low : ((p - 1) * q + l) % q ≡ l = mod-mul-add (p - 1) q l lt in
    let same : l % q ≡ l = mod-eq_of_lt lt in
    rw (euclid, is) (low ∙ sym same, inr (omega arith), omega arith)

by_bits : (l p q h : ℕ) → IsSplit p q h → l < q
    → (residue w64 (if nat_lt l h then pos l else pos l -ℤ pos q) % q ≡ l % q)
    × ((residue w64 (if nat_lt l h then pos l else pos l -ℤ pos q) < h)
    ⊎ (2 ^ 64 - h ≤ residue w64 (if nat_lt l h then pos l else pos l -ℤ pos q)))
    × (residue w64 (if nat_lt l h then pos l else pos l -ℤ pos q) < 2 ^ 64)
by_bits l p q h split lt =
    let small : q ≤ q * p = le-mul_of_pos_right q split.positive in
    let narrow : q ≤ 2 ^ 64 = omega (arith, small, split.whole) in
    elim (cases_lt l h) [
      | inl low ↦ let test : nat_lt l h ≡ true = grind (arith, nat_tests)
          in rw test (kept l q h split.double narrow low)
      | inr over ↦
          let test : nat_lt l h ≡ false = grind (arith, nat_tests) in
          rw test (repeated l p q h split narrow over lt)
    ]

pub extends_signs : ExtendsSigns
unfolding sign_extended
extends_signs n x some few =
    let k : n + (64 - n) ≡ 64 = omega arith in
    let below : x % 2 ^ n < 2 ^ n = mod_below x (2 ^ n) (pow_pos n) in
    let twice : x % 2 ^ n % 2 ^ n ≡ x % 2 ^ n = mod-mod x (2 ^ n) in
    let facts = by_bits (x % 2 ^ n) (2 ^ (64 - n)) (2 ^ n) (2 ^ (n - 1)) (split_at n (64 - n) some k) below in
    record { same = facts.0 ∙ twice; equal = facts.1; fits = facts.2 }
