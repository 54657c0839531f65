-- What follows from rounding to a neighbour: own values stay, none lies between, none is nearer, order stays.
use Rattle.std.proofs.Common.{◌≡◌, ◌≢◌, ℕ, ◌+◌, ◌-◌, ◌*◌, ◌%◌, ◌<◌, ◌≤◌, refl, sym, ap, ◌∙◌}
use Rattle.std.proofs.Common.{arith}
use Rattle.std.proofs.Common.{◌⊎◌, inl, inr, Bool, true, false, nat_le, ◌==◌}
use Rattle.std.proofs.Common.{if◌then◌else◌}
use Rattle.std.proofs.Common.{mul-le-mul_right, mul-one}
use Rattle.std.proofs.Common.{lt_of_le_of_lt, lt_of_not-le, not-le_of_lt}
use Rattle.std.proofs.lemmas.Bool.{cases_lt, cases_eq, cases_order, le-leb, lt-leb, eq-eqb, ne_eqb}
use Rattle.float_rounding.specs.declared.format.Format.{Format}
use Rattle.float_rounding.specs.declared.format.Format.TheVariants.{Single, Double}
use Rattle.float_rounding.specs.declared.format.RoundingMode.{RoundingMode}
use Rattle.float_rounding.specs.declared.format.RoundingMode.TheVariants.{NearestEven, TowardZero, Down, Up}
use Rattle.float_rounding.specs.declared.format.RoundingMode.TheVariants.{NearestMaxMagnitude}
use Rattle.float_rounding.specs.declared.format.Place.{Place}
use Rattle.float_rounding.specs.declared.format.Place.TheVariants.{Exact}
use Rattle.float_rounding.specs.Flags.{nothing}
use Rattle.float_rounding.specs.Formats.{fraction_bits, infinity, units_at}
use Rattle.float_rounding.specs.Rounding.{place_of, goes_up, is_at_lower, magnitude, is_exact, is_tiny, signed}
use Rattle.float_rounding.specs.Rounding.{packed, rounded}
use Rattle.float_rounding.specs.Laws.{distance, LiesBetween, NoneBetween, IsNearest, NoneNearer, ValuesStay}
use Rattle.float_rounding.proofs.Places as places
use Rattle.float_rounding.proofs.Steps.{units_mono}
use Rattle.float_rounding.proofs.Lawful.{neighbours}
use Rattle.float_rounding.proofs.Thresholds.{rank, threshold, goes_from, Ranked, at_lower, low, middle, high, ranked}
use Rattle.float_rounding.proofs.Thresholds.{up_of}

-- bits that are not above are a magnitude that is not
pub units_up : (p a b : ℕ) → a ≤ b → units_at p a ≤ units_at p b
units_up p a b h = elim (cases_lt a b) [
  | inl less ↦ omega (arith, units_mono p a b less)
  | inr same ↦ let e : a ≡ b = omega arith in omega (arith, ap (units_at p) e)
]

pub times_up : (p a b den : ℕ) → a ≤ b → units_at p a * den ≤ units_at p b * den
times_up p a b den h = mul-le-mul_right den (units_up p a b h)

-- bits whose magnitude is below are below
pub bits_under : (p a b den : ℕ) → units_at p a * den < units_at p b * den → a < b
bits_under p a b den h = lt_of_not-le (λ (g : b ≤ a). not-le_of_lt h (times_up p b a den g))

up_is : (b : Bool) → (up_of b ≡ 0) ⊎ (up_of b ≡ 1)
unfolding up_of
up_is true = inr refl
up_is false = inl refl

-- the lower neighbour or the next one
pub either : (p : ℕ) (mode : RoundingMode) (negative : Bool) (num den lower : ℕ) → LiesBetween p num den lower
    → (magnitude p mode negative num den ≡ lower) ⊎ (magnitude p mode negative num den ≡ lower + 1)
unfolding up_of
either p mode negative num den lower is =
    let rest = num - units_at p lower * den in
    let gap = units_at p (lower + 1) * den - units_at p lower * den in
    elim (up_is (goes_up mode negative (lower % 2 == 1) (place_of rest gap))) [
      | inl none ↦ inl (is.chosen mode negative ∙ ap (λ (n : ℕ). lower + n) none ∙ omega arith)
      | inr one ↦ inr (is.chosen mode negative ∙ ap (λ (n : ℕ). lower + n) one)
    ]

pub none_between : NoneBetween
none_between p mode negative num den bits some pos =
    let n = neighbours p num den some pos in
    let lower = n.0 in
    let is = n.1 in
    let two = either p mode negative num den lower is in (
      λ over.
          let next : lower < bits = bits_under p lower bits den (lt_of_le_of_lt is.not_above over) in
          elim two [ inl e ↦ omega arith | inr e ↦ omega arith ],
      λ under.
          let before : bits < lower + 1 = bits_under p bits (lower + 1) den (omega (arith, is.next_above)) in
          elim two [ inl e ↦ omega arith | inr e ↦ omega arith ],
    )

-- ---- values of the format

stays : (mode : RoundingMode) (negative odd : Bool) → goes_up mode negative odd Exact ≡ false
stays NearestEven negative odd = refl
stays TowardZero negative odd = refl
stays Down negative odd = refl
stays Up negative odd = refl
stays NearestMaxMagnitude negative odd = refl

pub value_bits : (p : ℕ) (mode : RoundingMode) (negative : Bool) (num den bits : ℕ) → 0 < p → 0 < den
    → num ≡ units_at p bits * den
    → (magnitude p mode negative num den ≡ bits) × (is_exact p num den ≡ true)
value_bits p mode negative num den bits some pos is =
    let n = neighbours p num den some pos in
    let lower = n.0 in
    let between = n.1 in
    let under : lower < bits + 1 = bits_under p lower (bits + 1) den
    (omega (arith, between.not_above, is, times_step p bits den pos)) in
    let over : bits < lower + 1 = bits_under p bits (lower + 1) den (omega (arith, between.next_above, is)) in
    let same : lower ≡ bits = omega arith in
    let rest = num - units_at p lower * den in
    let gap = units_at p (lower + 1) * den - units_at p lower * den in
    let none : rest ≡ 0 = omega (arith, is, ap (λ (n : ℕ). units_at p n * den) same) in
    let exact : place_of rest gap ≡ Exact = places.exact rest gap none in (
      between.chosen mode negative
          ∙ ap (λ (x : Place). lower + (if goes_up mode negative (lower % 2 == 1) x then 1 else 0)) exact
          ∙ ap (λ (b : Bool). lower + (if b then 1 else 0)) (stays mode negative (lower % 2 == 1))
          ∙ omega arith,
      between.unchanged ∙ ap is_at_lower exact,
    )
  where
    times_step : (p bits den : ℕ) → 0 < den → units_at p bits * den < units_at p (bits + 1) * den
    times_step p bits den pos =
        let next : (units_at p bits + 1) * den ≤ units_at p (bits + 1) * den =
        mul-le-mul_right den (omega (arith, units_mono p bits (bits + 1) (omega arith))) in
        omega arith

pub fraction_some : (f : Format) → 0 < fraction_bits f
fraction_some Single = omega arith
fraction_some Double = omega arith

pub packed_finite : (f : Format) (mode : RoundingMode) (negative : Bool) (bits : ℕ) (tiny : Bool) → bits < infinity f
    → packed f mode negative bits true tiny ≡ record { bits = signed f negative bits; flags = nothing }
packed_finite f mode negative bits tiny few = rw (lt-leb (infinity f) bits few) refl

pub values_stay : ValuesStay
unfolding rounded
values_stay f mode negative bits few =
    let p = fraction_bits f in
    let num = units_at p bits in
    let v = value_bits p mode negative num 1 bits (fraction_some f) (omega arith) (sym (mul-one num)) in
    (λ i. packed f mode negative (v.0 i) (v.1 i) (is_tiny p mode negative num 1))
    ∙ packed_finite f mode negative bits (is_tiny p mode negative num 1) few

-- ---- the nearest

-- how a mode to the nearest chooses
data Choice (lower rest gap m : ℕ) : Type 0 where
  lower_one : m ≡ lower → 2 * rest ≤ gap → Choice lower rest gap m
  upper_one : m ≡ lower + 1 → gap ≤ 2 * rest → Choice lower rest gap m

above_all : (t r : ℕ) → r < t → up_of (nat_le t r) ≡ 0
unfolding up_of
above_all t r h = ap (λ (b : Bool). if b then 1 else 0) (lt-leb t r h)

reached : (t r : ℕ) → t ≤ r → up_of (nat_le t r) ≡ 1
unfolding up_of
reached t r h = ap (λ (b : Bool). if b then 1 else 0) (le-leb t r h)

pub thresholds : (mode : RoundingMode) (negative odd : Bool) → (mode ≡ NearestEven) ⊎ (mode ≡ NearestMaxMagnitude)
    → (2 ≤ threshold mode negative odd) × (threshold mode negative odd ≤ 3)
unfolding threshold
thresholds NearestEven negative true h = (omega arith, omega arith)
thresholds NearestEven negative false h = (omega arith, omega arith)
thresholds NearestMaxMagnitude negative odd h = (omega arith, omega arith)
thresholds TowardZero negative odd (inl e) = cc
thresholds TowardZero negative odd (inr e) = cc
thresholds Down negative odd (inl e) = cc
thresholds Down negative odd (inr e) = cc
thresholds Up negative odd (inl e) = cc
thresholds Up negative odd (inr e) = cc

-- what is chosen, by the rank
pub by_rank : (p : ℕ) (mode : RoundingMode) (negative : Bool) (num den lower : ℕ) → LiesBetween p num den lower
    → magnitude p mode negative num den
    ≡ lower + up_of (nat_le (threshold mode negative (lower % 2 == 1))
    (rank (place_of (num - units_at p lower * den) (units_at p (lower + 1) * den - units_at p lower * den))))
unfolding up_of
by_rank p mode negative num den lower is =
    is.chosen mode negative
    ∙ ap (λ (b : Bool). lower + (if b then 1 else 0))
    (goes_from mode negative (lower % 2 == 1)
    (place_of (num - units_at p lower * den) (units_at p (lower + 1) * den - units_at p lower * den)))

chooses : (t lower rest gap r m : ℕ) → 2 ≤ t → t ≤ 3 → rest < gap → Ranked rest gap r → m ≡ lower + up_of (nat_le t r)
    → Choice lower rest gap m
chooses t lower rest gap r m two three small (at_lower a b) is = lower_one
    (omega (arith, above_all t r (omega arith))) (omega arith)
chooses t lower rest gap r m two three small (low a b c) is = lower_one (omega (arith, above_all t r (omega arith)))
    (omega arith)
chooses t lower rest gap r m two three small (middle a b c) is = elim (cases_lt r t) [
  | inl less ↦ lower_one (omega (arith, above_all t r less)) (omega arith)
  | inr more ↦ upper_one (omega (arith, reached t r (omega arith))) (omega arith)
]
chooses t lower rest gap r m two three small (high a b c) is = upper_one (omega (arith, reached t r (omega arith)))
    (omega arith)

-- where other bits stand, and how far their value is
data Spot (bits lower rest gap d : ℕ) : Type 0 where
  under : bits < lower → rest < d → Spot bits lower rest gap d
  level : bits ≡ lower → d ≡ rest → Spot bits lower rest gap d
  next : bits ≡ lower + 1 → d + rest ≡ gap → Spot bits lower rest gap d
  over : lower + 1 < bits → gap < d + rest → Spot bits lower rest gap d

times_strict : (p a b den : ℕ) → 0 < den → a < b → units_at p a * den < units_at p b * den
times_strict p a b den pos h =
    let step : (units_at p a + 1) * den ≤ units_at p b * den = mul-le-mul_right den
    (omega (arith, units_mono p a b h)) in
    omega arith

spot : (p num den lower bits : ℕ) → 0 < den → LiesBetween p num den lower
    → Spot bits lower (num - units_at p lower * den) (units_at p (lower + 1) * den - units_at p lower * den)
    (distance p bits num den)
spot p num den lower bits pos is = elim (cases_order bits lower) [
  | inl same ↦ level same (omega (arith, is.not_above, ap (λ (n : ℕ). units_at p n * den) same))
  | inr (inl less) ↦ under less (omega (arith, is.not_above, times_strict p bits lower den pos less))
  | inr (inr more) ↦ elim (cases_order bits (lower + 1)) [
    | inl same ↦ next same (omega (arith, is.not_above, is.next_above, ap (λ (n : ℕ). units_at p n * den) same))
    | inr (inl less) ↦ absurd (omega arith)
    | inr (inr far) ↦ over far
        (omega (arith, is.not_above, is.next_above, times_strict p (lower + 1) bits den pos far))
  ]
]

at_level : (bits lower rest gap d : ℕ) → Spot bits lower rest gap d → bits ≡ lower → d ≡ rest
at_level bits lower rest gap d (under a b) e = absurd (omega arith)
at_level bits lower rest gap d (level a b) e = b
at_level bits lower rest gap d (next a b) e = absurd (omega arith)
at_level bits lower rest gap d (over a b) e = absurd (omega arith)

at_next : (bits lower rest gap d : ℕ) → Spot bits lower rest gap d → bits ≡ lower + 1 → d + rest ≡ gap
at_next bits lower rest gap d (under a b) e = absurd (omega arith)
at_next bits lower rest gap d (level a b) e = absurd (omega arith)
at_next bits lower rest gap d (next a b) e = b
at_next bits lower rest gap d (over a b) e = absurd (omega arith)

-- none is nearer than the one that is chosen
near_lower : (bits lower rest gap d : ℕ) → Spot bits lower rest gap d → 2 * rest ≤ gap → rest ≤ d
near_lower bits lower rest gap d (under a b) h = omega arith
near_lower bits lower rest gap d (level a b) h = omega arith
near_lower bits lower rest gap d (next a b) h = omega arith
near_lower bits lower rest gap d (over a b) h = omega arith

near_upper : (bits lower rest gap d : ℕ) → Spot bits lower rest gap d → gap ≤ 2 * rest → gap ≤ d + rest
near_upper bits lower rest gap d (under a b) h = omega arith
near_upper bits lower rest gap d (level a b) h = omega arith
near_upper bits lower rest gap d (next a b) h = omega arith
near_upper bits lower rest gap d (over a b) h = omega arith

-- another one is as near only at a tie
tie_lower : (bits lower rest gap d : ℕ) → Spot bits lower rest gap d → bits ≢ lower → 2 * rest ≤ gap → d ≡ rest
    → 2 * rest ≡ gap
tie_lower bits lower rest gap d (under a b) differs h e = absurd (omega arith)
tie_lower bits lower rest gap d (level a b) differs h e = absurd (differs a)
tie_lower bits lower rest gap d (next a b) differs h e = omega arith
tie_lower bits lower rest gap d (over a b) differs h e = absurd (omega arith)

tie_upper : (bits lower rest gap d : ℕ) → Spot bits lower rest gap d → bits ≢ lower + 1 → gap ≤ 2 * rest
    → d + rest ≡ gap
    → (2 * rest ≡ gap) × (bits < lower + 1)
tie_upper bits lower rest gap d (under a b) differs h e = absurd (omega arith)
tie_upper bits lower rest gap d (level a b) differs h e = (omega arith, omega arith)
tie_upper bits lower rest gap d (next a b) differs h e = absurd (differs a)
tie_upper bits lower rest gap d (over a b) differs h e = absurd (omega arith)

tie_rank : (rest gap r : ℕ) → Ranked rest gap r → 0 < gap → 2 * rest ≡ gap → r ≡ 2
tie_rank rest gap r (at_lower a b) some e = absurd (omega arith)
tie_rank rest gap r (low a b c) some e = absurd (omega arith)
tie_rank rest gap r (middle a b c) some e = a
tie_rank rest gap r (high a b c) some e = absurd (omega arith)

even_tie : (negative : Bool) (lower r m : ℕ) → r ≡ 2
    → m ≡ lower + up_of (nat_le (threshold NearestEven negative (lower % 2 == 1)) r) → m % 2 ≡ 0
unfolding threshold
even_tie negative lower r m two is = elim (cases_eq (lower % 2) 1) [
  | inl odd ↦
      let t : threshold NearestEven negative (lower % 2 == 1) ≡ 2 = ap
      (λ (b : Bool). threshold NearestEven negative b) (eq-eqb (lower % 2) 1 odd) in
      omega (arith, is, reached (threshold NearestEven negative (lower % 2 == 1)) r (omega arith))
  | inr even ↦
      let t : threshold NearestEven negative (lower % 2 == 1) ≡ 3 = ap
      (λ (b : Bool). threshold NearestEven negative b) (ne_eqb (lower % 2) 1 even) in
      omega (arith, is, above_all (threshold NearestEven negative (lower % 2 == 1)) r (omega arith))
]

greater_tie : (negative odd : Bool) (lower r m : ℕ) → r ≡ 2
    → m ≡ lower + up_of (nat_le (threshold NearestMaxMagnitude negative odd) r) → m ≡ lower + 1
unfolding threshold
greater_tie negative odd lower r m two is = omega
    (arith, is, reached (threshold NearestMaxMagnitude negative odd) r (omega arith))

module _ (p : ℕ) (mode : RoundingMode) (negative : Bool) (num den bits lower : ℕ) (pos : 0 < den)
    (is : LiesBetween p num den lower)
    (nearest : (mode ≡ NearestEven) ⊎ (mode ≡ NearestMaxMagnitude)) where
  m : ℕ
  m = magnitude p mode negative num den

  rest : ℕ
  rest = num - units_at p lower * den

  gap : ℕ
  gap = units_at p (lower + 1) * den - units_at p lower * den

  small : rest < gap
  unfolding rest gap
  small = omega (arith, is.not_above, is.next_above)

  m_is : m ≡ lower + up_of (nat_le (threshold mode negative (lower % 2 == 1)) (rank (place_of rest gap)))
  unfolding m rest gap
  m_is = by_rank p mode negative num den lower is

  choice : Choice lower rest gap m
  choice =
      let t = thresholds mode negative (lower % 2 == 1) nearest in
      chooses (threshold mode negative (lower % 2 == 1)) lower rest gap (rank (place_of rest gap)) m t.0 t.1 small
      (ranked rest gap) m_is

  here : Spot m lower rest gap (distance p m num den)
  unfolding m rest gap
  here = spot p num den lower m pos is

  there : Spot bits lower rest gap (distance p bits num den)
  unfolding rest gap
  there = spot p num den lower bits pos is

  closest : distance p m num den ≤ distance p bits num den
  closest = elim choice [
    | lower_one e h ↦
        let a = at_level m lower rest gap (distance p m num den) here e in
        let b = near_lower bits lower rest gap (distance p bits num den) there h in
        omega arith
    | upper_one e h ↦
        let a = at_next m lower rest gap (distance p m num den) here e in
        let b = near_upper bits lower rest gap (distance p bits num den) there h in
        omega arith
  ]

  tie : bits ≢ m → distance p bits num den ≡ distance p m num den → (2 * rest ≡ gap) × (m ≡ lower + 1 → bits < m)
  tie differs same = elim choice [
    | lower_one e h ↦
        let a = at_level m lower rest gap (distance p m num den) here e in (
          tie_lower bits lower rest gap (distance p bits num den) there (λ f. differs (f ∙ sym e)) h (same ∙ a),
          λ f.
              absurd (omega arith),
        )
    | upper_one e h ↦
        let a = at_next m lower rest gap (distance p m num den) here e in
        let d : distance p bits num den + rest ≡ gap = ap (λ (n : ℕ). n + rest) same ∙ a in
        let t = tie_upper bits lower rest gap (distance p bits num den) there (λ f. differs (f ∙ sym e)) h d in
        (t.0, λ f. omega (arith, t.1))
  ]

  two : 2 * rest ≡ gap → rank (place_of rest gap) ≡ 2
  two e = tie_rank rest gap (rank (place_of rest gap)) (ranked rest gap) (omega (arith, small)) e

  pub is_nearest : IsNearest p mode negative num den bits
  unfolding m
  is_nearest = record {
    none_nearer = closest;
    to_even = λ e differs same.
        let r = two (tie differs same).0 in
        even_tie negative lower (rank (place_of rest gap)) m r
        (m_is ∙ ap (λ (x : RoundingMode). lower + up_of
        (nat_le (threshold x negative (lower % 2 == 1)) (rank (place_of rest gap)))) e);
    to_greater = λ e differs same.
        let t = tie differs same in
        let r = two t.0 in
        t.1 (greater_tie negative (lower % 2 == 1) lower (rank (place_of rest gap)) m r
        (m_is ∙ ap (λ (x : RoundingMode). lower + up_of
        (nat_le (threshold x negative (lower % 2 == 1)) (rank (place_of rest gap)))) e));
  }

pub none_nearer : NoneNearer
none_nearer p mode negative num den bits some pos nearest =
    let n = neighbours p num den some pos in
    is_nearest p mode negative num den bits n.0 pos n.1 nearest
