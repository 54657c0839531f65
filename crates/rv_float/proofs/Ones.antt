-- Minus zero as an addend, 1 as a factor and a divisor, roots of squares.
use Rattle.std.proofs.Common.{◌≡◌, ℕ, zero, suc, ◌+◌, ◌*◌, ◌/◌, ◌%◌, ◌^◌, ◌<◌, ◌≤◌, refl, sym, ap, ◌∙◌, subst}
use Rattle.std.proofs.Common.{arith}
use Rattle.std.proofs.Common.{inl, inr, Bool, true, false, ◌==◌, if◌then◌else◌}
use Rattle.std.proofs.Common.{mul_comm, zero-mul}
use Rattle.std.proofs.lemmas.Bool.{cases_lt, cases_eq, lt-ltb, eq-eqb, ne_eqb}
use Rattle.std.proofs.Math.Pow.{pow_pos}
use Rattle.std.specs.Float.Ieee.{size, root_below, root_twice}
use Rattle.float_rounding.specs.declared.format.Format.{Format}
use Rattle.float_rounding.specs.declared.format.Format.TheVariants.{Single, Double}
use Rattle.float_rounding.specs.declared.format.RoundingMode.{RoundingMode}
use Rattle.float_rounding.specs.declared.format.Outcome.{Outcome}
use Rattle.float_rounding.specs.Flags.{nothing}
use Rattle.float_rounding.specs.Formats.{Value, finite, infinite, quiet, signaling, value_of, magnitude_value}
use Rattle.float_rounding.specs.Formats.{units_at, fraction_bits, infinity, sign_bit, unit_exponent}
use Rattle.float_rounding.specs.Rounding.{rounded, signed}
use Rattle.float_rounding.proofs.Rounds.{same_value, zero_rounds}
use Rattle.float_rounding.proofs.Nearest.{values_stay, packed_finite}
use Rattle.float_rounding.proofs.Steps.{units_mono}
use Rattle.rv_float.specs.Arithmetic.{unlike, invalid, infinite_result, signals, product_of, multiplied}
use Rattle.rv_float.specs.Sums.{is_down, sum_of, total_of, added, endless, undefined}
use Rattle.rv_float.specs.Sums.{fused_of, fused}
use Rattle.rv_float.specs.Quotients.{quotient_of, divided, root_of, rooted}
use Rattle.rv_float.specs.Comparisons.{is_nan}
use Rattle.rv_float.specs.Laws.{one, minus_zero, AgreeButForZeros, MinusZeroAddsNothing, OneMultipliesNothing}
use Rattle.rv_float.specs.Laws.{OneDividesNothing, IsNumber, RootsOfSquares}
use Rattle.rv_float.proofs.Aligned.{like, above, level, scaled}
use Rattle.rv_float.proofs.Ordered as ordered
use Rattle.rv_float.proofs.Roots.{less_by_square, twice_is}

one_is : (f : Format) → value_of f (one f) ≡ finite false (2 ^ unit_exponent f)
unfolding value_of
one_is Single = refl
one_is Double = refl

minus_zero_is : (f : Format) → value_of f (minus_zero f) ≡ finite true 0
unfolding value_of
minus_zero_is Single = refl
minus_zero_is Double = refl

infinity_some : (f : Format) → 0 < infinity f
infinity_some Single = omega arith
infinity_some Double = omega arith

-- a rounded zero is a zero
zero_is : (f : Format) (mode : RoundingMode) (negative : Bool) (den : ℕ) → 0 < den
    → rounded f mode negative 0 den ≡ record { bits = signed f negative 0; flags = nothing }
zero_is f mode negative den pos =
    zero_rounds f mode negative den pos ∙ packed_finite f mode negative 0 true (infinity_some f)

zero_rest : (f : Format) (negative : Bool) → signed f negative 0 % sign_bit f ≡ 0
zero_rest Single true = refl
zero_rest Single false = refl
zero_rest Double true = refl
zero_rest Double false = refl

finite_product : (f : Format) (mode : RoundingMode) (s : Bool) (m den : ℕ) → 0 < den
    → AgreeButForZeros f (sum_of f mode s m true (0 * den) den) (rounded f mode s m den)
finite_product f mode true m den pos =
    inl (like f mode true m true (0 * den) den refl ∙ ap (λ (n : ℕ). rounded f mode true n den) (omega arith))
finite_product f mode false m den pos = elim (cases_eq m 0) [
  | inl none ↦
      let a = level f mode false m true (0 * den) den refl (omega arith) ∙ zero_is f mode (is_down mode) den pos in
      let b = ap (λ (n : ℕ). rounded f mode false n den) none ∙ zero_is f mode false den pos in
      inr (
        ap (λ (o : Outcome). o.flags) (a) ∙ sym (ap (λ (o : Outcome). o.flags) b),
        ap (λ (o : Outcome). o.bits % sign_bit f) a ∙ zero_rest f (is_down mode),
        ap (λ (o : Outcome). o.bits % sign_bit f) b ∙ zero_rest f false,
      )
  | inr some ↦
      inl (above f mode false m true (0 * den) den refl (omega arith)
      ∙ ap (λ (n : ℕ). rounded f mode false n den) (omega arith))
]

by_test : (f : Format) (mode : RoundingMode) (signal b : Bool) (s : Bool)
    → fused_of f mode signal (if b then undefined else endless s)
    (finite true 0) ≡ (if b then invalid f else infinite_result f s)
by_test f mode signal true s = refl
by_test f mode signal false s = refl

add_minus_zero : (f : Format) (mode : RoundingMode) (x y : Value)
    → AgreeButForZeros f (fused f mode x y (finite true 0)) (product_of f mode x y)
unfolding fused
add_minus_zero f mode (finite s a) (finite t b) = finite_product f mode (unlike s t) (a * b) (2 ^ unit_exponent f)
    (pow_pos (unit_exponent f))
add_minus_zero f mode (finite s a) (infinite t) = inl (by_test f mode false (a == 0) (unlike s t))
add_minus_zero f mode (finite s a) quiet = inl refl
add_minus_zero f mode (finite s a) signaling = inl refl
add_minus_zero f mode (infinite s) (finite t b) = inl (by_test f mode false (b == 0) (unlike s t))
add_minus_zero f mode (infinite s) (infinite t) = inl refl
add_minus_zero f mode (infinite s) quiet = inl refl
add_minus_zero f mode (infinite s) signaling = inl refl
add_minus_zero f mode quiet (finite t b) = inl refl
add_minus_zero f mode quiet (infinite t) = inl refl
add_minus_zero f mode quiet quiet = inl refl
add_minus_zero f mode quiet signaling = inl refl
add_minus_zero f mode signaling (finite t b) = inl refl
add_minus_zero f mode signaling (infinite t) = inl refl
add_minus_zero f mode signaling quiet = inl refl
add_minus_zero f mode signaling signaling = inl refl

pub minus_zero_adds_nothing : MinusZeroAddsNothing
unfolding multiplied
minus_zero_adds_nothing f mode a b =
    subst (λ (z : Value). AgreeButForZeros f (fused f mode (value_of f a) (value_of f b) z)
    (product_of f mode (value_of f a) (value_of f b)))
    (sym (minus_zero_is f)) (add_minus_zero f mode (value_of f a) (value_of f b))

-- ---- 1 as a factor

unlike_plus : (s : Bool) → unlike s false ≡ s
unlike_plus true = refl
unlike_plus false = refl

finite_one : (f : Format) (mode : RoundingMode) (s : Bool) (a : ℕ) (t : Bool) (b w : ℕ) → 0 < w
    → sum_of f mode (unlike s false) (a * w) t (b * w) w ≡ sum_of f mode s a t b 1
finite_one f mode s a t b w some =
    ap (λ (x : Bool). sum_of f mode x (a * w) t (b * w) w) (unlike_plus s)
    ∙ ap (λ (n : ℕ). sum_of f mode s (a * w) t (b * w) n) (one_times w)
    ∙ scaled f mode s a t b 1 w (omega arith) some
  where
    one_times : (w : ℕ) → w ≡ 1 * w
    one_times w = omega arith

factor_one : (f : Format) (mode : RoundingMode) (x z : Value)
    → fused f mode x (finite false (2 ^ unit_exponent f)) z ≡ total_of f mode x z
unfolding fused
factor_one f mode (finite s a) (finite t b) = finite_one f mode s a t b (2 ^ unit_exponent f)
    (pow_pos (unit_exponent f))
factor_one f mode (finite s a) (infinite t) = refl
factor_one f mode (finite s a) quiet = refl
factor_one f mode (finite s a) signaling = refl
factor_one f mode (infinite s) z = infinite_one f mode s z (2 ^ unit_exponent f) (pow_pos (unit_exponent f))
  where
    tested : (f : Format) (mode : RoundingMode) (s : Bool) (z : Value)
        → fused_of f mode (signals z) (endless s) z ≡ total_of f mode (infinite s) z
    tested f mode s (finite t b) = refl
    tested f mode s (infinite t) = refl
    tested f mode s quiet = refl
    tested f mode s signaling = refl

    infinite_one : (f : Format) (mode : RoundingMode) (s : Bool) (z : Value) (w : ℕ) → 0 < w
        → fused_of f mode (signals z) (if w == 0 then undefined else endless (unlike s false)) z ≡ total_of f mode
        (infinite s) z
    infinite_one f mode s z w some =
        ap (λ (b : Bool). fused_of f mode (signals z) (if b then undefined else endless (unlike s false)) z)
        (ne_eqb w 0 (λ e. omega arith))
        ∙ ap (λ (x : Bool). fused_of f mode (signals z) (endless x) z) (unlike_plus s) ∙ tested f mode s z
factor_one f mode quiet (finite t b) = refl
factor_one f mode quiet (infinite t) = refl
factor_one f mode quiet quiet = refl
factor_one f mode quiet signaling = refl
factor_one f mode signaling (finite t b) = refl
factor_one f mode signaling (infinite t) = refl
factor_one f mode signaling quiet = refl
factor_one f mode signaling signaling = refl

pub one_multiplies_nothing : OneMultipliesNothing
unfolding added
one_multiplies_nothing f mode a c =
    ap (λ (y : Value). fused f mode (value_of f a) y (value_of f c)) (one_is f)
    ∙ factor_one f mode (value_of f a) (value_of f c)

-- ---- 1 as a divisor

unit_value : (f : Format) (mode : RoundingMode) (s : Bool) (x w : ℕ) → 0 < w → x < infinity f
    → rounded f mode s (units_at (fraction_bits f) x * w) w ≡ record { bits = signed f s x; flags = nothing }
unit_value f mode s x w some few =
    ap (λ (n : ℕ). rounded f mode s (units_at (fraction_bits f) x * w) n) (one_times w)
    ∙ sym (same_value f mode s (units_at (fraction_bits f) x) 1 w (omega arith) some)
    ∙ values_stay f mode s x few
  where
    one_times : (w : ℕ) → w ≡ 1 * w
    one_times w = omega arith

by_one : (f : Format) (mode : RoundingMode) (s : Bool) (x w : ℕ) → w ≡ 2 ^ unit_exponent f → 0 < w → x ≤ infinity f
    → quotient_of f mode (magnitude_value f s x) (finite false w) ≡ record { bits = signed f s x; flags = nothing }
by_one f mode s x w is some few = elim (cases_lt x (infinity f)) [
  | inl less ↦
      ap (λ (v : Value). quotient_of f mode v (finite false w)) (ordered.is_finite f s x less)
      ∙ rw (ne_eqb w 0 (λ e. omega arith))
      (ap (λ (b : Bool). rounded f mode b (units_at (fraction_bits f) x * 2 ^ unit_exponent f) w) (unlike_plus s)
      ∙ ap (λ (n : ℕ). rounded f mode s (units_at (fraction_bits f) x * n) w) (sym is)
      ∙ unit_value f mode s x w some less)
  | inr more ↦
      let same : x ≡ infinity f = omega arith in
      ap (λ (v : Value). quotient_of f mode v (finite false w)) (ordered.is_infinite f s x same)
      ∙ ap (λ (b : Bool). infinite_result f b) (unlike_plus s)
      ∙ ap (λ (n : ℕ). record { bits = signed f s n; flags = nothing }) (sym same)
]

-- a number's sign and other bits are the number
pub rejoined : (f : Format) (a : ℕ) → a < 2 * sign_bit f → signed f (a / sign_bit f % 2 == 1) (a % sign_bit f) ≡ a
rejoined f a fits = elim (cases_eq (a / sign_bit f % 2) 1) [
  | inl set ↦ rw (eq-eqb (a / sign_bit f % 2) 1 set) (with_bit f a fits set)
  | inr clear ↦ rw (ne_eqb (a / sign_bit f % 2) 1 clear) (without f a fits clear)
]
  where
    with_bit : (f : Format) (a : ℕ) → a < 2 * sign_bit f → a / sign_bit f % 2 ≡ 1 → sign_bit f + a % sign_bit f ≡ a
    with_bit Single a fits set = omega arith
    with_bit Double a fits set = omega arith

    without : (f : Format) (a : ℕ) → a < 2 * sign_bit f → (a / sign_bit f % 2 ≡ 1 → ⊥) → a % sign_bit f ≡ a
    without Single a fits clear =
        elim (cases_lt a (2 ^ 31)) [ inl less ↦ omega arith | inr more ↦ absurd (clear (omega arith)) ]
    without Double a fits clear =
        elim (cases_lt a (2 ^ 63)) [ inl less ↦ omega arith | inr more ↦ absurd (clear (omega arith)) ]

pub number_size : (f : Format) (a : ℕ) → IsNumber f a → a % sign_bit f ≤ infinity f
unfolding value_of
number_size f a is = elim (cases_lt (infinity f) (a % sign_bit f)) [
  | inl over ↦
      let e : is_nan (magnitude_value f (a / sign_bit f % 2 == 1) (a % sign_bit f)) ≡ true =
      ordered.nan_is f (a / sign_bit f % 2 == 1) (a % sign_bit f) ∙ lt-ltb (infinity f) (a % sign_bit f) over in
      absurd (differ (sym e ∙ is.number))
  | inr fits ↦ omega arith
]
  where
    differ : true ≡ false → ⊥
    differ e = cc

pub one_divides_nothing : OneDividesNothing
unfolding divided value_of
one_divides_nothing f mode a is =
    ap (λ (y : Value). quotient_of f mode (value_of f a) y) (one_is f)
    ∙ by_one f mode (a / sign_bit f % 2 == 1) (a % sign_bit f) (2 ^ unit_exponent f) refl (pow_pos (unit_exponent f))
    (number_size f a is)
    ∙ ap (λ (n : ℕ). record { bits = n; flags = nothing }) (rejoined f a is.fits)

-- ---- roots of squares

square_twice : (n v : ℕ) → n ≡ v * v → root_twice n ≡ 2 * v
square_twice n v is =
    let t = twice_is n in
    let r = root_below (size n) n in
    let a : r < v + 1 = less_by_square r (v + 1) (omega (arith, t.below)) in
    let b : v < r + 1 = less_by_square v (r + 1) (omega (arith, t.above)) in
    let e : r ≡ v = omega arith in
    t.exact (ap (λ (k : ℕ). k * k) e ∙ sym is) ∙ ap (λ (k : ℕ). 2 * k) e

no_bits : (p bits : ℕ) → units_at p bits ≡ 0 → bits ≡ 0
no_bits p bits none = elim (cases_eq bits 0) [
  | inl e ↦ e
  | inr some ↦ absurd (omega (arith, units_mono p 0 bits (omega arith)))
]

no_root : (v : ℕ) → v * v ≡ 0 → v ≡ 0
no_root zero e = refl
no_root (suc v) e = absurd (omega arith)

pub roots_of_squares : RootsOfSquares
unfolding rooted
roots_of_squares f mode a bits units is few square =
    let v = units_at (fraction_bits f) bits in
    let w = 2 ^ unit_exponent f in
    ap (root_of f mode) is
    ∙ elim (cases_eq units 0) [
      | inl none ↦
          let zero_v : v ≡ 0 = no_root v (sym square ∙ ap (λ (n : ℕ). n * w) none ∙ zero-mul w) in
          rw (eq-eqb units 0 none)
          (ap (λ (n : ℕ). record { bits = n; flags = nothing }) (sym (no_bits (fraction_bits f) bits zero_v)))
      | inr some ↦
          rw (ne_eqb units 0 some)
          (ap (λ (n : ℕ). rounded f mode false n 2) (square_twice (units * w) v square ∙ mul_comm 2 v)
          ∙ unit_value f mode false bits 2 (omega arith) few)
    ]
