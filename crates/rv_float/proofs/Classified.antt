-- The class of a value, by its bits.
use Rattle.std.proofs.Common.{◌≡◌, ℕ, ◌+◌, ◌/◌, ◌%◌, ◌^◌, ◌<◌, ◌≤◌, refl, ap, ◌∙◌, subst, arith}
use Rattle.std.proofs.Common.{inl, inr, Bool, true, false, if◌then◌else◌, mul-one}
use Rattle.std.proofs.lemmas.Bool.{cases_lt, lt-ltb, le-ltb, eq-eqb, ne_eqb}
use Rattle.std.proofs.lemmas.Nat.{pow_pos}
use Rattle.float_rounding.specs.declared.format.Format.{Format}
use Rattle.float_rounding.specs.Formats.{Value, finite, infinite, quiet, signaling, units_at, magnitude_value}
use Rattle.float_rounding.specs.Formats.{infinity, fraction_bits}
use Rattle.float_rounding.proofs.Places.{quotient, remainder}
use Rattle.float_rounding.proofs.Steps.{units_mono}
use Rattle.rv_float.specs.declared.classes.Class.TheVariants.{NegativeInfinity, NegativeNormal, NegativeSubnormal}
use Rattle.rv_float.specs.declared.classes.Class.TheVariants.{NegativeZero}
use Rattle.rv_float.specs.declared.classes.Class.TheVariants.{PositiveZero, PositiveSubnormal, PositiveNormal}
use Rattle.rv_float.specs.declared.classes.Class.TheVariants.{PositiveInfinity}
use Rattle.rv_float.specs.declared.classes.Class.TheVariants.{SignalingNan, QuietNan}
use Rattle.rv_float.specs.Arithmetic.{signals}
use Rattle.rv_float.specs.Comparisons.{is_nan}
use Rattle.rv_float.specs.Classes.{class_of}
use Rattle.rv_float.proofs.Ordered.{is_finite, is_infinite, nothing}

pub signaling_class : (f : Format) (v : Value) → signals v ≡ true → class_of f v ≡ SignalingNan
signaling_class f (finite s a) e = cc
signaling_class f (infinite s) e = cc
signaling_class f quiet e = cc
signaling_class f signaling e = refl

pub quiet_class : (f : Format) (v : Value) → is_nan v ≡ true → signals v ≡ false → class_of f v ≡ QuietNan
quiet_class f (finite s a) e d = cc
quiet_class f (infinite s) e d = cc
quiet_class f quiet e d = refl
quiet_class f signaling e d = cc

pub infinite_class : (f : Format) (s : Bool) (x : ℕ) → x ≡ infinity f
    → class_of f (magnitude_value f s x) ≡ (if s then NegativeInfinity else PositiveInfinity)
infinite_class f s x same = ap (class_of f) (is_infinite f s x same)

some_units : (p x : ℕ) → 0 < x → 0 < units_at p x
some_units p x some = subst (λ (n : ℕ). n < units_at p x) (nothing p) (units_mono p 0 x some)

least_normal : (p : ℕ) → units_at p (2 ^ p) ≡ 2 ^ p
least_normal p =
    let w = 2 ^ p in
    let one : w / w ≡ 1 = by_self w (pow_pos p) in
    let none : w % w ≡ 0 = rest_of w (pow_pos p) in
    rw (le-ltb w w (omega arith), one, none) (mul-one (w + 0) ∙ omega arith)
  where
    by_self : (w : ℕ) → 0 < w → w / w ≡ 1
    by_self w some = quotient w w 1 0 (omega arith) some

    rest_of : (w : ℕ) → 0 < w → w % w ≡ 0
    rest_of w some = remainder w w 1 0 (omega arith) some

pub zero_class : (f : Format) (s : Bool) (x : ℕ) → x < infinity f → x ≡ 0
    → class_of f (magnitude_value f s x) ≡ (if s then NegativeZero else PositiveZero)
zero_class f s x few none =
    let a : units_at (fraction_bits f) x ≡ 0 = ap (units_at (fraction_bits f)) none ∙ nothing (fraction_bits f) in
    ap (class_of f) (is_finite f s x few) ∙ rw (eq-eqb (units_at (fraction_bits f) x) 0 a) refl

pub subnormal_class : (f : Format) (s : Bool) (x : ℕ) → x < infinity f → 0 < x → x < 2 ^ fraction_bits f
    → class_of f (magnitude_value f s x) ≡ (if s then NegativeSubnormal else PositiveSubnormal)
subnormal_class f s x few some small =
    let p = fraction_bits f in
    let a : 0 < units_at p x = some_units p x some in
    let b : units_at p x < 2 ^ p = subst (λ (n : ℕ). units_at p x < n) (least_normal p)
    (units_mono p x (2 ^ p) small) in
    ap (class_of f) (is_finite f s x few)
    ∙ rw (ne_eqb (units_at p x) 0 (λ e. omega arith), lt-ltb (units_at p x) (2 ^ p) b) refl

pub normal_class : (f : Format) (s : Bool) (x : ℕ) → x < infinity f → 2 ^ fraction_bits f ≤ x
    → class_of f (magnitude_value f s x) ≡ (if s then NegativeNormal else PositiveNormal)
normal_class f s x few large =
    let p = fraction_bits f in
    let some : 0 < x = omega (arith, pow_pos p) in
    let a : 0 < units_at p x = some_units p x some in
    let b : 2 ^ p ≤ units_at p x = elim (cases_lt (2 ^ p) x) [
      | inl less ↦ omega (arith, subst (λ (n : ℕ). n < units_at p x) (least_normal p) (units_mono p (2 ^ p) x less))
      | inr same ↦ let e : x ≡ 2 ^ p = omega arith in omega (arith, ap (units_at p) e, least_normal p)
    ] in
    ap (class_of f) (is_finite f s x few)
    ∙ rw (ne_eqb (units_at p x) 0 (λ e. omega arith), le-ltb (units_at p x) (2 ^ p) b) refl
