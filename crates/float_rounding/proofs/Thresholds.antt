-- Each mode rounds up from some place between two neighbours on.
use Rattle.std.proofs.Common.{◌≡◌, ℕ, ◌*◌, ◌<◌, ◌≤◌, refl, sym, ap, ◌∙◌, arith}
use Rattle.std.proofs.Common.{inl, inr, Bool, true, false, not, nat_le, if◌then◌else◌}
use Rattle.std.proofs.lemmas.Bool.{cases_eq, cases_order}
use Rattle.float_rounding.specs.declared.format.RoundingMode.{RoundingMode}
use Rattle.float_rounding.specs.declared.format.RoundingMode.TheVariants.{NearestEven, TowardZero, Down, Up}
use Rattle.float_rounding.specs.declared.format.RoundingMode.TheVariants.{NearestMaxMagnitude}
use Rattle.float_rounding.specs.declared.format.Place.{Place}
use Rattle.float_rounding.specs.declared.format.Place.TheVariants.{Exact, BelowHalf, Half, AboveHalf}
use Rattle.float_rounding.specs.Rounding.{place_of, goes_up}
use Rattle.float_rounding.specs.Laws.{mirrored}
use Rattle.float_rounding.proofs.Places as places

unfoldable pub rank : Place → ℕ
rank Exact = 0
rank BelowHalf = 1
rank Half = 2
rank AboveHalf = 3

unfoldable pub threshold : RoundingMode → Bool → Bool → ℕ
threshold NearestEven negative odd = if odd then 2 else 3
threshold TowardZero negative odd = 4
threshold Down negative odd = if negative then 1 else 4
threshold Up negative odd = if negative then 4 else 1
threshold NearestMaxMagnitude negative odd = 2

pub goes_from : (mode : RoundingMode) (negative odd : Bool) (place : Place)
    → goes_up mode negative odd place ≡ nat_le (threshold mode negative odd) (rank place)
unfolding rank threshold
goes_from NearestEven negative true Exact = refl
goes_from NearestEven negative true BelowHalf = refl
goes_from NearestEven negative true Half = refl
goes_from NearestEven negative true AboveHalf = refl
goes_from NearestEven negative false Exact = refl
goes_from NearestEven negative false BelowHalf = refl
goes_from NearestEven negative false Half = refl
goes_from NearestEven negative false AboveHalf = refl
goes_from TowardZero negative odd Exact = refl
goes_from TowardZero negative odd BelowHalf = refl
goes_from TowardZero negative odd Half = refl
goes_from TowardZero negative odd AboveHalf = refl
goes_from Down true odd Exact = refl
goes_from Down true odd BelowHalf = refl
goes_from Down true odd Half = refl
goes_from Down true odd AboveHalf = refl
goes_from Down false odd Exact = refl
goes_from Down false odd BelowHalf = refl
goes_from Down false odd Half = refl
goes_from Down false odd AboveHalf = refl
goes_from Up true odd Exact = refl
goes_from Up true odd BelowHalf = refl
goes_from Up true odd Half = refl
goes_from Up true odd AboveHalf = refl
goes_from Up false odd Exact = refl
goes_from Up false odd BelowHalf = refl
goes_from Up false odd Half = refl
goes_from Up false odd AboveHalf = refl
goes_from NearestMaxMagnitude negative odd Exact = refl
goes_from NearestMaxMagnitude negative odd BelowHalf = refl
goes_from NearestMaxMagnitude negative odd Half = refl
goes_from NearestMaxMagnitude negative odd AboveHalf = refl

same_threshold : (mode : RoundingMode) (negative odd : Bool)
    → threshold (mirrored mode) (not negative) odd ≡ threshold mode negative odd
unfolding threshold
same_threshold NearestEven negative odd = refl
same_threshold TowardZero negative odd = refl
same_threshold Down true odd = refl
same_threshold Down false odd = refl
same_threshold Up true odd = refl
same_threshold Up false odd = refl
same_threshold NearestMaxMagnitude negative odd = refl

pub goes_mirrored : (mode : RoundingMode) (negative odd : Bool) (place : Place)
    → goes_up mode negative odd place ≡ goes_up (mirrored mode) (not negative) odd place
goes_mirrored mode negative odd place =
    goes_from mode negative odd place
    ∙ ap (λ (n : ℕ). nat_le n (rank place)) (sym (same_threshold mode negative odd))
    ∙ sym (goes_from (mirrored mode) (not negative) odd place)

-- where a number stands, as a rank
pub data Ranked (rest gap r : ℕ) : Type 0 where
  at_lower : r ≡ 0 → rest ≡ 0 → Ranked rest gap r
  low : r ≡ 1 → 0 < rest → 2 * rest < gap → Ranked rest gap r
  middle : r ≡ 2 → 0 < rest → 2 * rest ≡ gap → Ranked rest gap r
  high : r ≡ 3 → 0 < rest → gap < 2 * rest → Ranked rest gap r

pub ranked : (rest gap : ℕ) → Ranked rest gap (rank (place_of rest gap))
unfolding rank
ranked rest gap = elim (cases_eq rest 0) [
  | inl none ↦ at_lower (ap rank (places.exact rest gap none)) none
  | inr some ↦
      let pos : 0 < rest = omega arith in
      elim (cases_order (2 * rest) gap) [
        | inl same ↦ middle (ap rank (places.half rest gap pos same)) pos same
        | inr (inl less) ↦ low (ap rank (places.below rest gap pos less)) pos less
        | inr (inr more) ↦ high (ap rank (places.above rest gap pos more)) pos more
      ]
]

pub rank_order : (rest rest' gap r r' : ℕ) → Ranked rest gap r → Ranked rest' gap r' → rest ≤ rest' → r ≤ r'
rank_order rest rest' gap r r' (at_lower a b) y h = omega arith
rank_order rest rest' gap r r' (low a b c) (at_lower d e) h = omega arith
rank_order rest rest' gap r r' (low a b c) (low d e f) h = omega arith
rank_order rest rest' gap r r' (low a b c) (middle d e f) h = omega arith
rank_order rest rest' gap r r' (low a b c) (high d e f) h = omega arith
rank_order rest rest' gap r r' (middle a b c) (at_lower d e) h = omega arith
rank_order rest rest' gap r r' (middle a b c) (low d e f) h = omega arith
rank_order rest rest' gap r r' (middle a b c) (middle d e f) h = omega arith
rank_order rest rest' gap r r' (middle a b c) (high d e f) h = omega arith
rank_order rest rest' gap r r' (high a b c) (at_lower d e) h = omega arith
rank_order rest rest' gap r r' (high a b c) (low d e f) h = omega arith
rank_order rest rest' gap r r' (high a b c) (middle d e f) h = omega arith
rank_order rest rest' gap r r' (high a b c) (high d e f) h = omega arith

unfoldable pub up_of : Bool → ℕ
up_of b = if b then 1 else 0
