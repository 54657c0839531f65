-- Minima and maxima by a test.
use Rattle.std.proofs.Common.{◌≡◌, ℕ, ◌≤ℤ◌, Bool, true, false, if◌then◌else◌, ℤ, refl, inl, inr, arith, min, max}
use Rattle.std.specs.Prelude.{int_lt}
use Rattle.std.specs.Int.Signed.{≤ℤ_refl}
use Rattle.std.proofs.lemmas.Bool.{cases_lt}
use Rattle.std.proofs.lemmas.Int.{ints}
use Rattle.rv_decode.specs.declared.operation.Width.{Width}
use Rattle.rv_atomic.specs.Operations.{signed_at, combination_of}
use Rattle.rv_atomic.specs.Extremes.{AreExtremes, IsEither}

either : (b : Bool) (x y : ℕ) → IsEither x y (if b then y else x)
either true x y = inr refl
either false x y = inl refl

less : (u v : ℤ) → true ≡ int_lt u v → u ≤ℤ v
less u v e = grind (arith, ints)

not_less_then : (u v : ℤ) → false ≡ int_lt u v → v ≤ℤ u
not_less_then u v e = grind (arith, ints)

not_greater : (f : ℕ → ℤ) (b : Bool) (x y : ℕ) → b ≡ int_lt (f y) (f x)
    → (f (if b then y else x) ≤ℤ f x) × (f (if b then y else x) ≤ℤ f y)
not_greater f true x y e = (less _ _ e, ≤ℤ_refl (f y))
not_greater f false x y e = (≤ℤ_refl (f x), not_less_then _ _ e)

not_less : (f : ℕ → ℤ) (b : Bool) (x y : ℕ) → b ≡ int_lt (f x) (f y)
    → (f x ≤ℤ f (if b then y else x)) × (f y ≤ℤ f (if b then y else x))
not_less f true x y e = (less _ _ e, ≤ℤ_refl (f y))
not_less f false x y e = (≤ℤ_refl (f x), not_less_then _ _ e)

either_min : (x y : ℕ) → IsEither x y (min x y)
either_min x y = elim (cases_lt y x) [ inl under ↦ inr (omega arith) | inr over ↦ inl (omega arith) ]

either_max : (x y : ℕ) → IsEither x y (max x y)
either_max x y = elim (cases_lt x y) [ inl under ↦ inr (omega arith) | inr over ↦ inl (omega arith) ]

pub extremes : (width : Width) (x y : ℕ) → AreExtremes width x y
unfolding combination_of
extremes width x y =
    let least = not_greater (signed_at width) (int_lt (signed_at width y) (signed_at width x)) x y refl in
    let greatest = not_less (signed_at width) (int_lt (signed_at width x) (signed_at width y)) x y refl in
    record {
      min_either = either (int_lt (signed_at width y) (signed_at width x)) x y;
      min_first = least.0;
      min_second = least.1;
      max_either = either (int_lt (signed_at width x) (signed_at width y)) x y;
      max_first = greatest.0;
      max_second = greatest.1;
      minu_either = either_min x y;
      minu_first = omega arith;
      minu_second = omega arith;
      maxu_either = either_max x y;
      maxu_first = omega arith;
      maxu_second = omega arith;
    }
