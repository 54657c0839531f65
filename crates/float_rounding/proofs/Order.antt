-- Rounding keeps order, and the opposite of a number is rounded to the opposite by the mirrored mode.
use Rattle.std.proofs.Common.{◌≡◌, ℕ, suc, ◌+◌, ◌-◌, ◌*◌, ◌/◌, ◌%◌, ◌^◌, ◌<◌, ◌≤◌, refl, sym, ap, ◌∙◌, subst}
use Rattle.std.proofs.Common.{arith}
use Rattle.std.proofs.Common.{◌⊎◌, inl, inr, Bool, true, false, not, nat_le, nat_lt, ◌==◌, if◌then◌else◌}
use Rattle.std.proofs.Common.{mul_comm, mul-pos, lt_of_le_of_lt, le_trans}
use Rattle.std.proofs.lemmas.Bool.{cases_lt, cases_Bool, le-leb, lt-leb}
use Rattle.float_rounding.specs.declared.format.Format.{Format}
use Rattle.float_rounding.specs.declared.format.Format.TheVariants.{Single, Double}
use Rattle.float_rounding.specs.declared.format.Flags.{Flags}
use Rattle.float_rounding.specs.declared.format.Outcome.{Outcome}
use Rattle.float_rounding.specs.declared.format.RoundingMode.{RoundingMode}
use Rattle.float_rounding.specs.declared.format.RoundingMode.TheVariants.{NearestEven, TowardZero, Down, Up}
use Rattle.float_rounding.specs.declared.format.RoundingMode.TheVariants.{NearestMaxMagnitude}
use Rattle.float_rounding.specs.Flags.{overflow, imprecision}
use Rattle.float_rounding.specs.Formats.{fraction_bits, infinity, units_at}
use Rattle.float_rounding.specs.Rounding.{place_of, scale, magnitude, is_exact, is_tiny, beyond}
use Rattle.float_rounding.specs.Rounding.{signed, packed, rounded}
use Rattle.float_rounding.specs.Laws.{LiesBetween, OrderStays, mirrored, OppositesMirror}
use Rattle.float_rounding.proofs.Rounds.{same_bits, scaled_cut}
use Rattle.float_rounding.proofs.Lawful.{neighbours}
use Rattle.float_rounding.proofs.Thresholds.{rank, threshold, ranked, rank_order, up_of, goes_mirrored}
use Rattle.float_rounding.proofs.Nearest.{bits_under, either, by_rank, fraction_some}

up_order : (t r r' : ℕ) → r ≤ r' → up_of (nat_le t r) ≤ up_of (nat_le t r')
unfolding up_of
up_order t r r' h = elim (cases_lt r t) [
  | inl less ↦ rw (lt-leb t r less) (omega arith)
  | inr more ↦ rw (le-leb t r (omega arith), le-leb t r' (omega arith)) (omega arith)
]

same_lower : (p : ℕ) (mode : RoundingMode) (negative : Bool) (num num' den lower : ℕ) → LiesBetween p num den lower
    → LiesBetween p num' den lower
    → num ≤ num' → magnitude p mode negative num den ≤ magnitude p mode negative num' den
same_lower p mode negative num num' den lower one other h =
    let a = units_at p lower * den in
    let gap = units_at p (lower + 1) * den - a in
    let less : num - a ≤ num' - a = omega arith in
    let ranks : rank (place_of (num - a) gap) ≤ rank (place_of (num' - a) gap) =
    rank_order (num - a) (num' - a) gap _ _ (ranked (num - a) gap) (ranked (num' - a) gap) less in
    omega (
      arith,
      by_rank p mode negative num den lower one,
      by_rank p mode negative num' den lower other,
      up_order (threshold mode negative (lower % 2 == 1)) (rank (place_of (num - a) gap))
          (rank (place_of (num' - a) gap)) ranks,
    )

like_den : (p : ℕ) (mode : RoundingMode) (negative : Bool) (num num' den : ℕ) → 0 < p → 0 < den → num ≤ num'
    → magnitude p mode negative num den ≤ magnitude p mode negative num' den
like_den p mode negative num num' den some pos h =
    let n = neighbours p num den some pos in
    let n' = neighbours p num' den some pos in
    let under : n.0 < n'.0 + 1 = bits_under p n.0 (n'.0 + 1) den
    (lt_of_le_of_lt (le_trans n.1.not_above h) n'.1.next_above) in
    elim (cases_lt n.0 n'.0) [
      | inl less ↦ elim (either p mode negative num den n.0 n.1) [
        | inl e ↦ elim (either p mode negative num' den n'.0 n'.1) [ inl e' ↦ omega arith | inr e' ↦ omega arith ]
        | inr e ↦ elim (either p mode negative num' den n'.0 n'.1) [ inl e' ↦ omega arith | inr e' ↦ omega arith ]
      ]
      | inr more ↦
          let same : n'.0 ≡ n.0 = omega arith in
          same_lower p mode negative num num' den n.0 n.1 (subst (λ (l : ℕ). LiesBetween p num' den l) same n'.1) h
    ]

pub magnitude_order : (p : ℕ) (mode : RoundingMode) (negative : Bool) (num den num' den' : ℕ) → 0 < p → 0 < den
    → 0 < den'
    → num * den' ≤ num' * den → magnitude p mode negative num den ≤ magnitude p mode negative num' den'
magnitude_order p mode negative num den num' den' some pos pos' h =
    let a : magnitude p mode negative num den ≡ magnitude p mode negative (num * den') (den * den') =
    same_bits p mode negative num den (num * den') (den * den') (scaled_cut p num den den' pos pos') in
    let b : magnitude p mode negative num' den' ≡ magnitude p mode negative (num' * den) (den' * den) =
    same_bits p mode negative num' den' (num' * den) (den' * den) (scaled_cut p num' den' den pos' pos) in
    let c : magnitude p mode negative (num' * den) (den' * den) ≡ magnitude p mode negative (num' * den)
    (den * den') =
    ap (λ (n : ℕ). magnitude p mode negative (num' * den) n) (mul_comm den' den) in
    omega (arith, like_den p mode negative (num * den') (num' * den) (den * den') some (mul-pos pos pos') h)

-- the size of a result
abbrev pub result_size : (f : Format) (mode : RoundingMode) (negative : Bool) (m : ℕ) → ℕ
result_size f mode negative m = if nat_le (infinity f) m then beyond f mode negative else m

infinity_some : (f : Format) → 0 < infinity f
infinity_some Single = omega arith
infinity_some Double = omega arith

beyond_is : (f : Format) (mode : RoundingMode) (negative : Bool)
    → (beyond f mode negative ≡ infinity f) ⊎ (beyond f mode negative ≡ infinity f - 1)
beyond_is f NearestEven negative = inl refl
beyond_is f TowardZero negative = inr refl
beyond_is f Down true = inl refl
beyond_is f Down false = inr refl
beyond_is f Up true = inr refl
beyond_is f Up false = inl refl
beyond_is f NearestMaxMagnitude negative = inl refl

size_order : (f : Format) (mode : RoundingMode) (negative : Bool) (m m' : ℕ) → m ≤ m'
    → result_size f mode negative m ≤ result_size f mode negative m'
size_order f mode negative m m' h = elim (cases_lt m (infinity f)) [
  | inl few ↦ elim (cases_lt m' (infinity f)) [
    | inl few' ↦ rw (lt-leb (infinity f) m few, lt-leb (infinity f) m' few') h
    | inr many' ↦ rw (lt-leb (infinity f) m few, le-leb (infinity f) m' (omega arith))
        (elim (beyond_is f mode negative) [ inl e ↦ omega arith | inr e ↦ omega arith ])
  ]
  | inr many ↦ rw (le-leb (infinity f) m (omega arith), le-leb (infinity f) m' (omega arith)) (omega arith)
]

size_fits : (f : Format) (mode : RoundingMode) (negative : Bool) (m : ℕ) → result_size f mode negative m ≤ infinity f
size_fits f mode negative m = elim (cases_lt m (infinity f)) [
  | inl few ↦ rw (lt-leb (infinity f) m few) (omega arith)
  | inr many ↦ rw (le-leb (infinity f) m (omega arith))
      (elim (beyond_is f mode negative) [ inl e ↦ omega arith | inr e ↦ omega arith ])
]

abbrev pub result_flags : (f : Format) (m : ℕ) (exact tiny : Bool) → Flags
result_flags f m exact tiny = if nat_le (infinity f) m then overflow else imprecision (not exact) tiny

pub packed_is : (f : Format) (mode : RoundingMode) (negative : Bool) (m : ℕ) (exact tiny : Bool)
    → packed f mode negative m exact
    tiny ≡ record { bits = signed f negative (result_size f mode negative m); flags = result_flags f m exact tiny }
packed_is f mode negative m exact tiny = elim (cases_Bool (nat_le (infinity f) m))
    [ inl over ↦ rw over refl | inr under ↦ rw under refl ]

signed_order : (f : Format) (negative : Bool) (a b : ℕ) → a ≤ b → signed f negative a ≤ signed f negative b
signed_order f true a b h = omega arith
signed_order f false a b h = h

pub order_stays : OrderStays
unfolding rounded
order_stays f mode negative num den num' den' pos pos' h =
    let p = fraction_bits f in
    let m = magnitude p mode negative num den in
    let m' = magnitude p mode negative num' den' in
    let e : (rounded f mode negative num den).bits ≡ signed f negative (result_size f mode negative m) =
    ap (λ (o : Outcome). o.bits)
    (packed_is f mode negative m (is_exact p num den) (is_tiny p mode negative num den)) in
    let e' : (rounded f mode negative num' den').bits ≡ signed f negative (result_size f mode negative m') =
    ap (λ (o : Outcome). o.bits)
    (packed_is f mode negative m' (is_exact p num' den') (is_tiny p mode negative num' den')) in
    omega (
      arith,
      signed_order f negative (result_size f mode negative m) (result_size f mode negative m')
          (size_order f mode negative m m'
          (magnitude_order p mode negative num den num' den' (fraction_some f) pos pos' h)),
    )

-- ---- opposites

same_magnitude : (p : ℕ) (mode : RoundingMode) (negative : Bool) (num den : ℕ)
    → magnitude p mode negative num den ≡ magnitude p (mirrored mode) (not negative) num den
unfolding magnitude
same_magnitude p mode negative num den =
    let k = scale p num den in
    let gap = den * 2 ^ k in
    ap (λ (b : Bool). k * 2 ^ p + num / gap + (if b then 1 else 0))
    (goes_mirrored mode negative (num / gap % 2 == 1) (place_of (num % gap) gap))

same_tiny : (p : ℕ) (mode : RoundingMode) (negative : Bool) (num den : ℕ)
    → is_tiny p mode negative num den ≡ is_tiny p (mirrored mode) (not negative) num den
unfolding is_tiny
same_tiny p mode negative num den = ap (λ (n : ℕ). nat_lt n (2 ^ suc p))
    (same_magnitude p mode negative (2 * num) den)

same_beyond : (f : Format) (mode : RoundingMode) (negative : Bool)
    → beyond f mode negative ≡ beyond f (mirrored mode) (not negative)
same_beyond f NearestEven negative = refl
same_beyond f TowardZero negative = refl
same_beyond f Down true = refl
same_beyond f Down false = refl
same_beyond f Up true = refl
same_beyond f Up false = refl
same_beyond f NearestMaxMagnitude negative = refl

pub opposites : OppositesMirror
unfolding rounded
opposites f mode negative num den =
    let p = fraction_bits f in
    let m = magnitude p mode negative num den in
    let exact = is_exact p num den in
    let tiny = is_tiny p mode negative num den in
    record {
      size = result_size f mode negative m;
      fits = size_fits f mode negative m;
      flags = result_flags f m exact tiny;
      first = packed_is f mode negative m exact tiny;
      second = (λ i. packed f (mirrored mode) (not negative) (sym (same_magnitude p mode negative num den) i) exact
          (sym (same_tiny p mode negative num den) i))
          ∙ packed_is f (mirrored mode) (not negative) m exact tiny
          ∙ ap (λ (b : ℕ). record {
            bits = signed f (not negative) (if nat_le (infinity f) m then b else m);
            flags =
                result_flags f m exact tiny;
          }) (sym (same_beyond f mode negative));
    }
