-- What rounding depends on: the value of the fraction, and of it what stands for it.
use Rattle.std.proofs.Common.{◌≡◌, ℕ, suc, ◌+◌, ◌-◌, ◌*◌, ◌/◌, ◌%◌, ◌^◌, ◌<◌, ◌≤◌, refl, sym, ap, ◌∙◌, subst}
use Rattle.std.proofs.Common.{arith}
use Rattle.std.proofs.Common.{inl, inr, Bool, true, nat_lt, pow-suc, mul-one, mul-le-mul_right}
use Rattle.std.proofs.Common.{mul-lt-mul_of_pos_right, mul_assoc, mul_comm, mul_right_comm, mul_left_comm}
use Rattle.std.proofs.Common.{lt_of_not-le, not-le_of_lt}
use Rattle.std.proofs.Common.{div-lt_iff_lt-mul, mul-pos, div-add-mod'}
use Rattle.std.proofs.lemmas.Bool.{lt-ltb}
use Rattle.std.proofs.lemmas.Nat.{mod_below}
use Rattle.std.proofs.Math.Pow.{pow-add, pow_pos, pow_mono}
use Rattle.float_rounding.specs.declared.format.Format.{Format}
use Rattle.float_rounding.specs.declared.format.RoundingMode.{RoundingMode}
use Rattle.float_rounding.specs.declared.format.Place.{Place}
use Rattle.float_rounding.specs.declared.format.Place.TheVariants.{Exact}
use Rattle.float_rounding.specs.Formats.{fraction_bits}
use Rattle.float_rounding.specs.Rounding.{place_of, is_at_lower, scale, chosen_bits, magnitude, is_exact, is_tiny}
use Rattle.float_rounding.specs.Rounding.{packed, rounded}
use Rattle.float_rounding.specs.Cuts.{IsCut}
use Rattle.float_rounding.specs.Sticky.{IsNear, Rounds}
use Rattle.float_rounding.proofs.Places.{Alike, alike, quotient, remainder}
use Rattle.float_rounding.proofs.Places as places
use Rattle.float_rounding.proofs.Scales.{scale_is, scale_fits, scale_full}

-- and the results that follow
pub bits_are : (p : ℕ) (mode : RoundingMode) (negative : Bool) (num den k lower : ℕ) (place : Place)
    → IsCut p num den k lower place
    → magnitude p mode negative num den ≡ chosen_bits p mode negative k lower place
unfolding magnitude
bits_are p mode negative num den k lower place is =
    subst
    (λ (j : ℕ). chosen_bits p mode negative j (num / (den * 2 ^ j))
    (place_of (num % (den * 2 ^ j)) (den * 2 ^ j)) ≡ chosen_bits p mode negative k lower place)
    (sym is.scales)
    (ap (λ (n : ℕ). chosen_bits p mode negative k n (place_of (num % (den * 2 ^ k)) (den * 2 ^ k))) is.lowers
    ∙ ap (λ (x : Place). chosen_bits p mode negative k lower x) is.places)

pub exact_is : (p num den k lower : ℕ) (place : Place) → IsCut p num den k lower place
    → is_exact p num den ≡ is_at_lower place
unfolding is_exact
exact_is p num den k lower place is =
    subst (λ (j : ℕ). is_at_lower (place_of (num % (den * 2 ^ j)) (den * 2 ^ j)) ≡ is_at_lower place) (sym is.scales)
    (ap is_at_lower is.places)

-- two fractions that are cut alike
pub record CutAlike (p num den num' den' : ℕ) : Type 0 where
  pub k : ℕ
  pub lower : ℕ
  pub place : Place
  pub one : IsCut p num den k lower place
  pub other : IsCut p num' den' k lower place

pub same_bits : (p : ℕ) (mode : RoundingMode) (negative : Bool) (num den num' den' : ℕ) → CutAlike p num den num' den'
    → magnitude p mode negative num den ≡ magnitude p mode negative num' den'
same_bits p mode negative num den num' den' a =
    bits_are p mode negative num den a.k a.lower a.place a.one
    ∙ sym (bits_are p mode negative num' den' a.k a.lower a.place a.other)

pub same_exact : (p num den num' den' : ℕ) → CutAlike p num den num' den' → is_exact p num den ≡ is_exact p num' den'
same_exact p num den num' den' a =
    exact_is p num den a.k a.lower a.place a.one ∙ sym (exact_is p num' den' a.k a.lower a.place a.other)

-- a fraction in other terms
pub scaled_cut : (p num den s : ℕ) → 0 < den → 0 < s → CutAlike p num den (num * s) (den * s)
scaled_cut p num den s pos some =
    let k = scale p num den in
    let gap = den * 2 ^ k in
    let lower = num / gap in
    let rest = num % gap in
    let gap_pos : 0 < gap = mul-pos pos (pow_pos k) in
    let wide : den * s * 2 ^ k ≡ gap * s = mul_right_comm den s (2 ^ k) in
    let parts : lower * gap + rest ≡ num = div-add-mod' num gap in
    let is : num * s ≡ lower * (gap * s) + rest * s = ap (λ (n : ℕ). n * s) (sym parts) ∙ spread lower gap rest s in
    let small : rest * s < gap * s = mul-lt-mul_of_pos_right (mod_below num gap gap_pos) some in
    let q : num * s / (den * s * 2 ^ k) ≡ lower =
    ap (λ (n : ℕ). num * s / n) wide ∙ quotient (num * s) (gap * s) lower (rest * s) is small in
    let r : place_of (num * s % (den * s * 2 ^ k)) (den * s * 2 ^ k) ≡ place_of rest gap =
    ap (λ (n : ℕ). place_of (num * s % n) n) wide
    ∙ ap (λ (n : ℕ). place_of n (gap * s)) (remainder (num * s) (gap * s) lower (rest * s) is small)
    ∙ places.scaled rest gap s some in
    record {
      k = k;
      lower = lower;
      place = place_of rest gap;
      one = record { scales = refl; lowers = refl; places = refl };
      other = record {
        scales = scale_is p (num * s) (den * s) k (subst (λ (n : ℕ). n < 2 ^ suc p) (sym q) (scale_fits p num den))
            (λ some. subst (λ (n : ℕ). 2 ^ p ≤ n) (sym q) (scale_full p num den some));
        lowers = q;
        places = r;
      };
    }
  where
    spread : (q g r s : ℕ) → (q * g + r) * s ≡ q * (g * s) + r * s
    spread q g r s = omega arith

-- digits enough to round by are two more than are kept
deep : (p m e c : ℕ) → 2 ^ (p + 2) ≤ m → e + 2 ≤ c + scale p (m * 2 ^ e) (2 ^ c)
deep p m e c many =
    let k = scale p (m * 2 ^ e) (2 ^ c) in
    let fits : m * 2 ^ e < 2 ^ suc p * (2 ^ c * 2 ^ k) =
    (div-lt_iff_lt-mul (mul-pos (pow_pos c) (pow_pos k))).0 (scale_fits p (m * 2 ^ e) (2 ^ c)) in
    let high : 2 ^ (p + 2) * 2 ^ e ≤ m * 2 ^ e = mul-le-mul_right (2 ^ e) many in
    let one : 2 ^ (p + 2) * 2 ^ e ≡ 2 ^ (p + 2 + e) = sym (pow-add 2 (p + 2) e) in
    let two : 2 ^ suc p * (2 ^ c * 2 ^ k) ≡ 2 ^ (suc p + (c + k)) =
    ap (λ (n : ℕ). 2 ^ suc p * n) (sym (pow-add 2 c k)) ∙ sym (pow-add 2 (suc p) (c + k)) in
    let under : p + 2 + e < suc p + (c + k) = below_of_pow (p + 2 + e) (suc p + (c + k)) (omega arith) in
    omega arith
  where
    below_of_pow : (i j : ℕ) → 2 ^ i < 2 ^ j → i < j
    below_of_pow i j h = lt_of_not-le (λ (g : j ≤ i). not-le_of_lt h (pow_mono g))

-- what stands for a fraction is cut as the fraction is
near_cut : (p m e c d num : ℕ) → 0 < d → IsNear m (2 ^ e * d) num → 2 ^ (p + 2) ≤ m
    → CutAlike p (m * 2 ^ e) (2 ^ c) num (2 ^ c * d)
near_cut p m e c d num pos near many =
    let k = scale p (m * 2 ^ e) (2 ^ c) in
    let room : e + 2 ≤ c + k = deep p m e c many in
    let j = c + k - e - 2 in
    let h = 2 ^ j in
    let four : 4 * h ≡ 2 ^ (2 + j) = sym (pow-add 2 2 j) in
    let whole : 2 ^ c * 2 ^ k ≡ 2 ^ e * (4 * h) =
    sym (pow-add 2 c k) ∙ ap (λ (n : ℕ). 2 ^ n) (parted room) ∙ pow-add 2 e (2 + j)
    ∙ ap (λ (n : ℕ). 2 ^ e * n) (sym four) in
    let whole' : 2 ^ c * d * 2 ^ k ≡ 2 ^ e * d * (4 * h) =
    mul_right_comm (2 ^ c) d (2 ^ k) ∙ ap (λ (n : ℕ). n * d) whole ∙ mul_right_comm (2 ^ e) (4 * h) d in
    let a = alike m (2 ^ e) h (m * 2 ^ e) (pow_pos e) (pow_pos j) (inl refl) in
    let b = alike m (2 ^ e * d) h num (mul-pos (pow_pos e) pos) (pow_pos j) (inr near) in
    let q : m * 2 ^ e / (2 ^ c * 2 ^ k) ≡ m / (4 * h) = ap (λ (n : ℕ). m * 2 ^ e / n) whole ∙ a.quotients in
    let q' : num / (2 ^ c * d * 2 ^ k) ≡ m / (4 * h) = ap (λ (n : ℕ). num / n) whole' ∙ b.quotients in
    let r : place_of (m * 2 ^ e % (2 ^ c * 2 ^ k)) (2 ^ c * 2 ^ k) ≡ place_of (m % (4 * h)) (4 * h) =
    ap (λ (n : ℕ). place_of (m * 2 ^ e % n) n) whole ∙ a.places in
    let r' : place_of (num % (2 ^ c * d * 2 ^ k)) (2 ^ c * d * 2 ^ k) ≡ place_of (m % (4 * h)) (4 * h) =
    ap (λ (n : ℕ). place_of (num % n) n) whole' ∙ b.places in
    record {
      k = k;
      lower = m / (4 * h);
      place = place_of (m % (4 * h)) (4 * h);
      one = record { scales = refl; lowers = q; places = r };
      other = record {
        scales = scale_is p num (2 ^ c * d) k
            (subst (λ (n : ℕ). n < 2 ^ suc p) (q ∙ sym q') (scale_fits p (m * 2 ^ e) (2 ^ c)))
            (λ some. subst (λ (n : ℕ). 2 ^ p ≤ n) (q ∙ sym q') (scale_full p (m * 2 ^ e) (2 ^ c) some));
        lowers = q';
        places = r';
      };
    }
  where
    parted : e + 2 ≤ c + scale p (m * 2 ^ e) (2 ^ c)
        → c + scale p (m * 2 ^ e) (2 ^ c) ≡ e + (2 + (c + scale p (m * 2 ^ e) (2 ^ c) - e - 2))
    parted room = omega arith

rounds_cut : (p m e c d num : ℕ) → 0 < d → Rounds p m (2 ^ e * d) num → CutAlike p (m * 2 ^ e) (2 ^ c) num (2 ^ c * d)
rounds_cut p m e c d num pos (inl same) =
    subst (λ (n : ℕ). CutAlike p (m * 2 ^ e) (2 ^ c) n (2 ^ c * d)) (mul_assoc m (2 ^ e) d ∙ same)
    (scaled_cut p (m * 2 ^ e) (2 ^ c) d (pow_pos c) pos)
rounds_cut p m e c d num pos (inr near) = near_cut p m e c d num pos near.0 near.1

double_unit : (e d : ℕ) → 2 ^ suc e * d ≡ 2 * (2 ^ e * d)
double_unit e d = ap (λ (n : ℕ). n * d) (pow-suc 2 e ∙ mul_comm (2 ^ e) 2) ∙ mul_assoc 2 (2 ^ e) d

pub double : (m e : ℕ) → 2 * (m * 2 ^ e) ≡ m * 2 ^ suc e
double m e = mul_left_comm 2 m (2 ^ e) ∙ ap (λ (n : ℕ). m * n) (mul_comm 2 (2 ^ e) ∙ sym (pow-suc 2 e))

twice : (p m e d num : ℕ) → Rounds p m (2 ^ e * d) num → Rounds p m (2 ^ suc e * d) (2 * num)
twice p m e d num (inl same) = inl
    (ap (λ (n : ℕ). m * n) (double_unit e d) ∙ mul_left_comm m 2 (2 ^ e * d) ∙ ap (λ (n : ℕ). 2 * n) same)
twice p m e d num (inr near) =
    let u : 2 ^ suc e * d ≡ 2 * (2 ^ e * d) = double_unit e d in
    let v : m * (2 ^ suc e * d) ≡ 2 * (m * (2 ^ e * d)) = ap (λ (n : ℕ). m * n) u ∙ mul_left_comm m 2 (2 ^ e * d) in
    inr ((near.0.0, omega (arith, near.0.1), omega (arith, near.0.2)), near.1)

-- a significand that stands for a fraction, with two digits more than are kept, rounds as it
pub rounds : (f : Format) (mode : RoundingMode) (negative : Bool) (m e c d num : ℕ) → 0 < d
    → Rounds (fraction_bits f) m (2 ^ e * d) num
    → rounded f mode negative (m * 2 ^ e) (2 ^ c) ≡ rounded f mode negative num (2 ^ c * d)
unfolding rounded is_tiny
rounds f mode negative m e c d num pos stands =
    let p = fraction_bits f in
    let here = rounds_cut p m e c d num pos stands in
    let there = rounds_cut p m (suc e) c d (2 * num) pos (twice p m e d num stands) in
    let two : 2 * (m * 2 ^ e) ≡ m * 2 ^ suc e = double m e in
    let bits = same_bits p mode negative (m * 2 ^ e) (2 ^ c) num (2 ^ c * d) here in
    let exact = same_exact p (m * 2 ^ e) (2 ^ c) num (2 ^ c * d) here in
    let tiny : magnitude p mode negative (2 * (m * 2 ^ e)) (2 ^ c) ≡ magnitude p mode negative (2 * num) (2 ^ c * d) =
    ap (λ (n : ℕ). magnitude p mode negative n (2 ^ c)) two
    ∙ same_bits p mode negative (m * 2 ^ suc e) (2 ^ c) (2 * num) (2 ^ c * d) there in
    (λ i. packed f mode negative (bits i) (exact i) (nat_lt (tiny i) (2 ^ suc p)))

pub rounds_one : (f : Format) (mode : RoundingMode) (negative : Bool) (m e c num : ℕ)
    → Rounds (fraction_bits f) m (2 ^ e) num
    → rounded f mode negative (m * 2 ^ e) (2 ^ c) ≡ rounded f mode negative num (2 ^ c)
rounds_one f mode negative m e c num stands =
    rounds f mode negative m e c 1 num (omega arith)
    (subst (λ (u : ℕ). Rounds (fraction_bits f) m u num) (sym (mul-one (2 ^ e))) stands)
    ∙ ap (λ (n : ℕ). rounded f mode negative num n) (mul-one (2 ^ c))

-- and a fraction rounds as its value does
pub same_value : (f : Format) (mode : RoundingMode) (negative : Bool) (num den s : ℕ) → 0 < den → 0 < s
    → rounded f mode negative num den ≡ rounded f mode negative (num * s) (den * s)
unfolding rounded is_tiny
same_value f mode negative num den s pos some =
    let p = fraction_bits f in
    let bits = same_bits p mode negative num den (num * s) (den * s) (scaled_cut p num den s pos some) in
    let exact = same_exact p num den (num * s) (den * s) (scaled_cut p num den s pos some) in
    let tiny : magnitude p mode negative (2 * num) den ≡ magnitude p mode negative (2 * (num * s)) (den * s) =
    same_bits p mode negative (2 * num) den (2 * num * s) (den * s) (scaled_cut p (2 * num) den s pos some)
    ∙ ap (λ (n : ℕ). magnitude p mode negative n (den * s)) (mul_assoc 2 num s) in
    (λ i. packed f mode negative (bits i) (exact i) (nat_lt (tiny i) (2 ^ suc p)))

-- zero
zero_cut : (p den : ℕ) → 0 < den → IsCut p 0 den 0 0 Exact
zero_cut p den pos =
    let gap = den * 2 ^ 0 in
    let is : 0 ≡ 0 * gap + 0 = omega arith in
    let some : 0 < gap = mul-pos pos (pow_pos 0) in
    let lower : 0 / gap ≡ 0 = quotient 0 gap 0 0 is some in
    record {
      scales = scale_is p 0 den 0 (subst (λ (n : ℕ). n < 2 ^ suc p) (sym lower) (pow_pos (suc p)))
          (λ (none : 0 < 0). absurd (omega arith));
      lowers = lower;
      places = places.exact (0 % gap) gap (remainder 0 gap 0 0 is some);
    }

pub zero_bits : (p : ℕ) (mode : RoundingMode) (negative : Bool) (den : ℕ) → 0 < den
    → magnitude p mode negative 0 den ≡ 0
zero_bits p mode negative den pos = bits_are p mode negative 0 den 0 0 Exact (zero_cut p den pos) ∙ omega arith

pub zero_rounds : (f : Format) (mode : RoundingMode) (negative : Bool) (den : ℕ) → 0 < den
    → rounded f mode negative 0 den ≡ packed f mode negative 0 true true
unfolding rounded is_tiny
zero_rounds f mode negative den pos =
    let p = fraction_bits f in
    let bits = zero_bits p mode negative den pos in
    let exact : is_exact p 0 den ≡ true = exact_is p 0 den 0 0 Exact (zero_cut p den pos) in
    let tiny : nat_lt (magnitude p mode negative 0 den) (2 ^ suc p) ≡ true =
    ap (λ (n : ℕ). nat_lt n (2 ^ suc p)) bits ∙ lt-ltb 0 (2 ^ suc p) (pow_pos (suc p)) in
    (λ i. packed f mode negative (bits i) (exact i) (tiny i))

pub zero_value : (f : Format) (mode : RoundingMode) (negative : Bool) (one other : ℕ) → 0 < one → 0 < other
    → rounded f mode negative 0 one ≡ rounded f mode negative 0 other
zero_value f mode negative one other p q = zero_rounds f mode negative one p
    ∙ sym (zero_rounds f mode negative other q)

-- what the code computes
pub by_code : (f : Format) (mode : RoundingMode) (negative : Bool) (p m e den bits twice limit : ℕ) (exact : Bool)
    → p ≡ fraction_bits f
    → bits ≡ magnitude p mode negative (m * 2 ^ (e + 0)) den
    → exact ≡ is_exact p (m * 2 ^ (e + 0)) den
    → twice ≡ magnitude p mode negative (m * 2 ^ (e + 1)) den
    → limit ≡ 2 ^ suc p
    → packed f mode negative bits exact (nat_lt twice limit) ≡ rounded f mode negative (m * 2 ^ e) den
unfolding rounded is_tiny
by_code f mode negative p m e den bits twice limit exact same b x t l =
    let n : m * 2 ^ (e + 1) ≡ 2 * (m * 2 ^ e) = ap (λ (n : ℕ). m * 2 ^ n) (omega arith) ∙ sym (double m e) in
    let t' : twice ≡ magnitude p mode negative (2 * (m * 2 ^ e)) den =
    t ∙ ap (λ (n : ℕ). magnitude p mode negative n den) n in
    let same_e : m * 2 ^ (e + 0) ≡ m * 2 ^ e = ap (λ (n : ℕ). m * 2 ^ n) (omega arith) in
    let b' = b ∙ ap (λ (n : ℕ). magnitude p mode negative n den) same_e in
    let x' = x ∙ ap (λ (n : ℕ). is_exact p n den) same_e in
    (λ i. packed f mode negative (b' i) (x' i) (nat_lt (t' i) (l i)))
    ∙ (λ i. packed f mode negative (magnitude (same i) mode negative (m * 2 ^ e) den)
    (is_exact (same i) (m * 2 ^ e) den) (is_tiny (same i) mode negative (m * 2 ^ e) den))
