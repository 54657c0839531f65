-- To the nearest, ties to even, a number is rounded as std's floats round it.
use Rattle.std.proofs.Common.{◌≡◌, ℕ, suc, ◌+◌, ◌-◌, ◌*◌, ◌/◌, ◌%◌, ◌^◌, ◌<◌, ◌≤◌, refl, sym, ap, ◌∙◌, subst}
use Rattle.std.proofs.Common.{arith, inl, inr, Bool, true, false, not, ◌==◌, if◌then◌else◌, cond}
use Rattle.std.proofs.Common.{mul_comm, mul_assoc, mul_right_comm, mul-pos, mul-div_cancel, add_assoc}
use Prim.Native.Nat.{compare, Ordering}
use lib.Dec.{T, is_le, compare_is_eq, leb→le, nleb→lt, eqb, eqb→eq, eqb_refl}
use Rattle.std.proofs.lemmas.Bool.{cases_lt, cases_eq, le-leb, lt-leb, le-ltb, eq-eqb, ne_eqb}
use Rattle.std.proofs.Math.Pow.{pow_pos}
use lib.Ieee.{Float, nan, inf, fin, prec, emax, low, up, down, size, nearest, odd, units, round, to_bits, hid, ones}
use lib.Ieee.{top}
use lib.Ieee.Fits.{round_is, down_pos}
use lib.Ieee.Exact.{HasValue, units_val}
use lib.Ieee.Nearest.{closest, closest_same, div_same}
use Rattle.float_rounding.specs.declared.format.Format.{Format}
use Rattle.float_rounding.specs.declared.format.Format.TheVariants.{Single, Double}
use Rattle.float_rounding.specs.declared.format.Outcome.{Outcome}
use Rattle.float_rounding.specs.declared.format.RoundingMode.TheVariants.{NearestEven}
use Rattle.float_rounding.specs.declared.format.Place.{Place}
use Rattle.float_rounding.specs.declared.format.Place.TheVariants.{Exact, BelowHalf, Half, AboveHalf}
use Rattle.float_rounding.specs.Formats.{fraction_bits, infinity, sign_bit, unit_exponent, units_at}
use Rattle.float_rounding.specs.Rounding.{place_of, goes_up, scale, magnitude, is_exact, is_tiny, signed, rounded}
use Rattle.float_rounding.specs.Laws.{std_format, NearestEvenIsStd}
use Rattle.float_rounding.proofs.Places as places
use Rattle.float_rounding.proofs.Scales.{by_whole, scale_fits, scale_full}
use Rattle.float_rounding.proofs.Steps.{split, units_cut, units_next, units_mono}
use Rattle.float_rounding.proofs.Nearest.{units_up}
use Rattle.float_rounding.proofs.Order.{packed_is, result_size}

prec_is : (f : Format) → prec (std_format f) ≡ suc (fraction_bits f)
prec_is Single = refl
prec_is Double = refl

low_is : (f : Format) → low (std_format f) ≡ unit_exponent f
low_is Single = refl
low_is Double = refl

hid_is : (f : Format) → hid (std_format f) ≡ 2 ^ fraction_bits f
hid_is Single = refl
hid_is Double = refl

infinity_is : (f : Format) → ones (std_format f) * hid (std_format f) ≡ infinity f
infinity_is Single = refl
infinity_is Double = refl

top_is : (f : Format) → top (std_format f) ≡ sign_bit f
top_is Single = refl
top_is Double = refl

bound_is : (f : Format)
    → 2 ^ (low (std_format f) + suc (emax (std_format f))) ≡ units_at (fraction_bits f) (infinity f)
bound_is Single = refl
bound_is Double = refl

-- ---- what `compare` says

Said : Ordering → ℕ → ℕ → Type 0
Said Ordering.lt a b = a < b
Said Ordering.eq a b = a ≡ b
Said Ordering.gt a b = b < a

said : (a b : ℕ) → Said (compare a b) a b
unfolding Said
said a b = by (compare a b) (leb→le a b) (nleb→lt a b) (eqb→eq a b)
    (λ (e : a ≡ b). subst (λ (x : ℕ). T (eqb a x)) e (eqb_refl a))
  where
    by : (o : Ordering) → (T (is_le o) → a ≤ b) → (T (not (is_le o)) → b < a) → (T (compare_is_eq o) → a ≡ b)
        → (a ≡ b → T (compare_is_eq o)) → Said o a b
    by Ordering.lt h k e n = elim (cases_lt a b) [ inl less ↦ less | inr more ↦ absurd (n (omega (arith, h tt))) ]
    by Ordering.eq h k e n = e tt
    by Ordering.gt h k e n = k tt

-- ---- both go to the nearest in the same way

at_place : (q r gap : ℕ) (negative : Bool) (x : Place) → place_of r gap ≡ x
    → q + (if goes_up NearestEven negative (q % 2 == 1) (place_of r gap) then 1 else 0)
    ≡ q + (if goes_up NearestEven negative (q % 2 == 1) x then 1 else 0)
at_place q r gap negative x is = ap
    (λ (y : Place). q + (if goes_up NearestEven negative (q % 2 == 1) y then 1 else 0)) is

none_more : (q : ℕ) → q ≡ q + 0
none_more q = omega arith

odd_more : (q : ℕ) → q + q % 2 ≡ q + (if q % 2 == 1 then 1 else 0)
odd_more q = elim (cases_eq (q % 2) 1) [
  | inl odd ↦ rw (eq-eqb (q % 2) 1 odd) (omega arith)
  | inr even ↦ rw (ne_eqb (q % 2) 1 even) (omega arith)
]

parted : (q r gap : ℕ) (negative : Bool) → 0 < gap → (o : Ordering) → Said o (r * 2) gap
    → nearest q o ≡ q + (if goes_up NearestEven negative (q % 2 == 1) (place_of r gap) then 1 else 0)
unfolding Said
parted q r gap negative some Ordering.lt h = elim (cases_eq r 0) [
  | inl none ↦ none_more q ∙ sym (at_place q r gap negative Exact (places.exact r gap none))
  | inr more ↦ none_more q
      ∙ sym (at_place q r gap negative BelowHalf (places.below r gap (omega arith) (omega arith)))
]
parted q r gap negative some Ordering.eq h =
    odd_more q ∙ sym (at_place q r gap negative Half (places.half r gap (omega arith) (omega arith)))
parted q r gap negative some Ordering.gt h =
    one_more q ∙ sym (at_place q r gap negative AboveHalf (places.above r gap (omega arith) (omega arith)))
  where
    one_more : (q : ℕ) → suc q ≡ q + 1
    one_more q = omega arith

-- the digits that are kept, rounded
kept : Bool → ℕ → ℕ → ℕ
kept negative num gap =
    num / gap + (if goes_up NearestEven negative (num / gap % 2 == 1) (place_of (num % gap) gap) then 1 else 0)

closest_is : (negative : Bool) (num gap : ℕ) → 0 < gap → closest num gap ≡ kept negative num gap
unfolding kept
closest_is negative num gap some =
    parted (num / gap) (num % gap) gap negative some (compare (num % gap * 2) gap) (said (num % gap * 2) gap)

-- std's rounding, in units
std_units : (f : Format) (s : Bool) (num den : ℕ) → 0 < den
    → round (std_format f) s num (den * 2 ^ unit_exponent f)
    ≡ units (std_format f) s (kept s num (den * 2 ^ scale (fraction_bits f) num den))
    (scale (fraction_bits f) num den)
std_units f s num den pos =
    let g = std_format f in
    let w = 2 ^ unit_exponent f in
    let k = scale (fraction_bits f) num den in
    let same_w : 2 ^ low g ≡ w = ap (λ (n : ℕ). 2 ^ n) (low_is f) in
    let cross : num * w * den ≡ num * (den * w) = mul_right_comm num w den ∙ mul_assoc num den w in
    let cross_k : num * w * (den * 2 ^ k) ≡ num * (den * w * 2 ^ k) = turned num w den (2 ^ k) in
    let drops : size (num * 2 ^ low g / (den * w)) - prec g ≡ k =
    (λ i. size (num * same_w i / (den * w)) - prec_is f i)
    ∙ ap (λ (n : ℕ). size n - suc (fraction_bits f))
    (div_same (num * w) (den * w) num den (mul-pos pos (pow_pos (unit_exponent f))) pos cross) in
    round_is g s num (den * w)
    ∙ ap (λ (z : ℕ). units g s (closest (num * 2 ^ low g) (den * w * 2 ^ z)) z) drops
    ∙ ap (λ (z : ℕ). units g s (closest (num * z) (den * w * 2 ^ k)) k) same_w
    ∙ ap (λ (z : ℕ). units g s z k)
    (closest_same (num * w) (den * w * 2 ^ k) num (den * 2 ^ k)
    (mul-pos (mul-pos pos (pow_pos (unit_exponent f))) (pow_pos k))
    (mul-pos pos (pow_pos k)) cross_k
    ∙ closest_is s num (den * 2 ^ k) (mul-pos pos (pow_pos k)))
  where
    turned : (n w d k : ℕ) → n * w * (d * k) ≡ n * (d * w * k)
    turned n w d k =
        mul_assoc n w (d * k)
        ∙ ap (λ (x : ℕ). n * x) (sym (mul_assoc w d k) ∙ ap (λ (x : ℕ). x * k) (mul_comm w d))

-- the rounded magnitude is so many units
magnitude_units : (p : ℕ) (s : Bool) (num den : ℕ)
    → units_at p (magnitude p NearestEven s num den) ≡ kept s num (den * 2 ^ scale p num den) * 2 ^ scale p num den
unfolding magnitude kept
magnitude_units p s num den =
    let k = scale p num den in
    let t = num / (den * 2 ^ k) in
    by k t (goes_up NearestEven s (t % 2 == 1) (place_of (num % (den * 2 ^ k)) (den * 2 ^ k))) (scale_fits p num den)
    (scale_full p num den)
  where
    by : (k t : ℕ) (b : Bool) → t < 2 ^ suc p → (0 < k → 2 ^ p ≤ t)
        → units_at p (k * 2 ^ p + t + (if b then 1 else 0)) ≡ (t + (if b then 1 else 0)) * 2 ^ k
    by k t true fits full = units_next p k t fits full
    by k t false fits full =
        ap (units_at p) (sym (none_more (k * 2 ^ p + t))) ∙ units_cut p k t fits full
        ∙ ap (λ (n : ℕ). n * 2 ^ k) (none_more t)

-- the bits of so many units
units_bits : (p bits : ℕ)
    → (size (units_at p bits) - suc p) * 2 ^ p + units_at p bits / 2 ^ (size (units_at p bits) - suc p) ≡ bits
units_bits p bits =
    let s = split p bits in
    let w = s.t * 2 ^ s.k in
    let is : units_at p bits ≡ w = ap (units_at p) s.is ∙ units_cut p s.k s.t s.small s.full in
    let back : w / 2 ^ s.k ≡ s.t = mul-div_cancel s.t (pow_pos s.k) in
    let drops : size w - suc p ≡ s.k =
    by_whole p w s.k (subst (λ (n : ℕ). n < 2 ^ suc p) (sym back) s.small)
    (λ some. subst (λ (n : ℕ). 2 ^ p ≤ n) (sym back) (s.full some)) in
    ap (λ (n : ℕ). (size n - suc p) * 2 ^ p + n / 2 ^ (size n - suc p)) is
    ∙ ap (λ (k : ℕ). k * 2 ^ p + w / 2 ^ k) drops
    ∙ ap (λ (n : ℕ). s.k * 2 ^ p + n) back
    ∙ sym s.is

-- std's bits of a number of units
std_bits : (f : Format) (x : Float) (s : Bool) (n : ℕ) → HasValue x s n (2 ^ low (std_format f))
    → to_bits (std_format f) x
    ≡ cond s (top (std_format f)) 0 + (size n - prec (std_format f)) * hid
    (std_format f) + n / 2 ^ (size n - prec (std_format f))
unfolding to_bits
std_bits f nan s n v = absurd v
std_bits f (inf t) s n v = absurd v
std_bits f (fin t m e) s n v =
    let g = std_format f in
    let whole : m * up e * 2 ^ low g / down e ≡ n = ap (λ (x : ℕ). x / down e) v.1 ∙ mul-div_cancel n (down_pos e) in
    (λ i. cond (v.0 i) (top g) 0 + (size (whole i) - prec g) * hid g + whole i / 2 ^ (size (whole i) - prec g))

finite_bits : (f : Format) (s : Bool) (m n k : ℕ) → m < infinity f → n * 2 ^ k ≡ units_at (fraction_bits f) m
    → to_bits (std_format f) (units (std_format f) s n k) ≡ signed f s m
finite_bits f s m n k few is =
    let p = fraction_bits f in
    let g = std_format f in
    let v = units_at p m in
    let below : n * 2 ^ k < 2 ^ (low g + suc (emax g)) =
    subst (λ (x : ℕ). n * 2 ^ k < x) (sym (bound_is f))
    (subst (λ (x : ℕ). x < units_at p (infinity f)) (sym is) (units_mono p m (infinity f) few)) in
    std_bits f (units g s n k) s (n * 2 ^ k) (units_val g s n k below)
    ∙ ap (λ (x : ℕ). cond s (top g) 0 + (size x - prec g) * hid g + x / 2 ^ (size x - prec g)) is
    ∙ (λ i. cond s (top_is f i) 0 + (size v - prec_is f i) * hid_is f i + v / 2 ^ (size v - prec_is f i))
    ∙ add_assoc (cond s (sign_bit f) 0) ((size v - suc p) * 2 ^ p) (v / 2 ^ (size v - suc p))
    ∙ ap (λ (x : ℕ). cond s (sign_bit f) 0 + x) (units_bits p m)
    ∙ with_sign f s m
  where
    with_sign : (f : Format) (s : Bool) (m : ℕ) → cond s (sign_bit f) 0 + m ≡ signed f s m
    with_sign f true m = refl
    with_sign f false m = omega arith

infinite_bits : (f : Format) (s : Bool) (m n k : ℕ) → infinity f ≤ m → n * 2 ^ k ≡ units_at (fraction_bits f) m
    → to_bits (std_format f) (units (std_format f) s n k) ≡ signed f s (infinity f)
unfolding units to_bits
infinite_bits f s m n k many is =
    let p = fraction_bits f in
    let g = std_format f in
    let over : 2 ^ (low g + suc (emax g)) ≤ n * 2 ^ k =
    subst (λ (x : ℕ). x ≤ n * 2 ^ k) (sym (bound_is f))
    (subst (λ (x : ℕ). units_at p (infinity f) ≤ x) (sym is) (units_up p (infinity f) m many)) in
    ap (λ (b : Bool). to_bits g (cond b (odd (suc (prec g)) s n k (low g)) (inf s)))
    (le-ltb (n * 2 ^ k) (2 ^ (low g + suc (emax g))) over)
    ∙ (λ i. cond s (top_is f i) 0 + infinity_is f i)
    ∙ with_sign f s
  where
    with_sign : (f : Format) (s : Bool) → cond s (sign_bit f) 0 + infinity f ≡ signed f s (infinity f)
    with_sign f true = refl
    with_sign f false = omega arith

sized : (f : Format) (s : Bool) (m n k : ℕ) → n * 2 ^ k ≡ units_at (fraction_bits f) m
    → signed f s (result_size f NearestEven s m) ≡ to_bits (std_format f) (units (std_format f) s n k)
sized f s m n k is = elim (cases_lt m (infinity f)) [
  | inl few ↦ rw (lt-leb (infinity f) m few) (sym (finite_bits f s m n k few is))
  | inr many ↦ rw (le-leb (infinity f) m (omega arith)) (sym (infinite_bits f s m n k (omega arith) is))
]

pub nearest_even_is_std : NearestEvenIsStd
unfolding rounded
nearest_even_is_std f s num den pos =
    let p = fraction_bits f in
    let k = scale p num den in
    let m = magnitude p NearestEven s num den in
    let n = kept s num (den * 2 ^ k) in
    ap (λ (o : Outcome). o.bits) (packed_is f NearestEven s m (is_exact p num den) (is_tiny p NearestEven s num den))
    ∙ sized f s m n k (sym (magnitude_units p s num den))
    ∙ ap (λ (x : Float). to_bits (std_format f) x) (sym (std_units f s num den pos))
