-- Numbers stand on a line, in their order.
use Rattle.std.proofs.Common.{◌≡◌, ℕ, ◌+◌, ◌-◌, ◌/◌, ◌%◌, ◌<◌, ◌≤◌, refl, sym, ap, ◌∙◌}
use Rattle.std.proofs.Common.{arith}
use Rattle.std.proofs.Common.{◌⊎◌, inl, inr, Bool, true, false, not, nat_lt, ◌==◌, ◌||◌, ◌&&◌}
use Rattle.std.proofs.lemmas.Bool.{cases_lt, cases_order, lt-ltb, le-ltb}
use Rattle.float_rounding.specs.declared.format.Format.{Format}
use Rattle.float_rounding.specs.declared.format.Outcome.{Outcome}
use Rattle.float_rounding.specs.Formats.{value_of, infinity, sign_bit}
use Rattle.float_rounding.specs.Rounding.{signed}
use Rattle.rv_float.specs.Comparisons.{is_below, bits_below, answer, less, at_most, equal}
use Rattle.rv_float.specs.Laws.{IsNumber, NumbersAreOrdered}
use Rattle.rv_float.proofs.Ordered.{ordered}
use Rattle.rv_float.proofs.Ones.{number_size, rejoined}

-- magnitudes to both sides of m
line : ℕ → Bool → ℕ → ℕ
line m true x = m - x
line m false x = m + x

on_line : (m : ℕ) (s t : Bool) (x y : ℕ) → x ≤ m → y ≤ m → bits_below s x t y ≡ nat_lt (line m s x) (line m t y)
unfolding line
on_line m true true x y a b = elim (cases_lt y x) [
  | inl less ↦ lt-ltb y x less ∙ sym (lt-ltb (m - x) (m - y) (omega arith))
  | inr more ↦ le-ltb y x (omega arith) ∙ sym (le-ltb (m - x) (m - y) (omega arith))
]
on_line m true false x y a b = elim (cases_lt 0 x) [
  | inl some ↦
      ap (λ (z : Bool). z || nat_lt 0 y) (lt-ltb 0 x some) ∙ sym (lt-ltb (m - x) (m + y) (omega arith))
  | inr none ↦ ap (λ (z : Bool). z || nat_lt 0 y) (le-ltb 0 x (omega arith)) ∙ elim (cases_lt 0 y) [
    | inl some ↦ lt-ltb 0 y some ∙ sym (lt-ltb (m - x) (m + y) (omega arith))
    | inr none' ↦ le-ltb 0 y (omega arith) ∙ sym (le-ltb (m - x) (m + y) (omega arith))
  ]
]
on_line m false true x y a b = sym (le-ltb (m + x) (m - y) (omega arith))
on_line m false false x y a b = elim (cases_lt x y) [
  | inl less ↦ lt-ltb x y less ∙ sym (lt-ltb (m + x) (m + y) (omega arith))
  | inr more ↦ le-ltb x y (omega arith) ∙ sym (le-ltb (m + x) (m + y) (omega arith))
]

-- where a number's bits stand
point : Format → ℕ → ℕ
point f a = line (infinity f) (a / sign_bit f % 2 == 1) (a % sign_bit f)

below_is : (f : Format) (a b : ℕ) → IsNumber f a → IsNumber f b
    → is_below (value_of f a) (value_of f b) ≡ nat_lt (point f a) (point f b)
unfolding value_of point
below_is f a b x y =
    let m = number_size f a x in
    let n = number_size f b y in
    ordered f (a / sign_bit f % 2 == 1) (b / sign_bit f % 2 == 1) (a % sign_bit f) (b % sign_bit f) m n
    ∙ on_line (infinity f) (a / sign_bit f % 2 == 1) (b / sign_bit f % 2 == 1) (a % sign_bit f) (b % sign_bit f) m n

at_most_is : (f : Format) (a b : ℕ) → IsNumber f a → IsNumber f b
    → at_most f a b ≡ answer (not (nat_lt (point f b) (point f a)))
unfolding at_most
at_most_is f a b x y = rw (x.number, y.number) (ap (λ (z : Bool). answer (not z)) (below_is f b a y x))

less_is : (f : Format) (a b : ℕ) → IsNumber f a → IsNumber f b → less f a b ≡ answer (nat_lt (point f a) (point f b))
unfolding less
less_is f a b x y = rw (x.number, y.number) (ap answer (below_is f a b x y))

equal_is : (f : Format) (a b : ℕ) → IsNumber f a → IsNumber f b
    → equal f a b ≡ answer (not (nat_lt (point f a) (point f b)) && not (nat_lt (point f b) (point f a)))
unfolding equal
equal_is f a b x y =
    rw (x.number, y.number) (λ i. answer (not (below_is f a b x y i) && not (below_is f b a y x i)))

-- ---- what an answer says

apart : answer false ≡ answer true → ⊥
apart e = let n : 0 ≡ 1 = ap (λ (o : Outcome). o.bits) e in absurd (omega (arith, n))

said_at_most : (p q : ℕ) → answer (not (nat_lt q p)) ≡ answer true → p ≤ q
said_at_most p q e = elim (cases_lt q p) [
  | inl less ↦ absurd (apart (ap (λ (z : Bool). answer (not z)) (sym (lt-ltb q p less)) ∙ e))
  | inr more ↦ omega arith
]

at_most_said : (p q : ℕ) → p ≤ q → answer (not (nat_lt q p)) ≡ answer true
at_most_said p q h = ap (λ (z : Bool). answer (not z)) (le-ltb q p h)

said_less : (p q : ℕ) → answer (nat_lt p q) ≡ answer true → p < q
said_less p q e = elim (cases_lt p q) [
  | inl less ↦ less
  | inr more ↦ absurd (apart (ap answer (sym (le-ltb p q (omega arith))) ∙ e))
]

equal_said : (p q : ℕ) → p ≡ q → answer (not (nat_lt p q) && not (nat_lt q p)) ≡ answer true
equal_said p q same = λ i. answer (not (le-ltb p q (omega arith) i) && not (le-ltb q p (omega arith) i))

said_equal : (p q : ℕ) → answer (not (nat_lt p q) && not (nat_lt q p)) ≡ answer true → p ≡ q
said_equal p q e = elim (cases_order p q) [
  | inl same ↦ same
  | inr (inl less) ↦ absurd
      (apart (ap (λ (z : Bool). answer (not z && not (nat_lt q p))) (sym (lt-ltb p q less)) ∙ e))
  | inr (inr more) ↦
      absurd (apart ((λ i. answer (not (sym (le-ltb p q (omega arith)) i) && not (sym (lt-ltb q p more) i))) ∙ e))
]

-- two numbers at one point have the same bits, or are zeros
same_point : (m : ℕ) (s t : Bool) (x y : ℕ) → x ≤ m → y ≤ m → line m s x ≡ line m t y
    → ((s ≡ t) × (x ≡ y)) ⊎ ((x ≡ 0) × (y ≡ 0))
unfolding line
same_point m true true x y a b e = inl (refl, omega arith)
same_point m true false x y a b e = inr (omega arith, omega arith)
same_point m false true x y a b e = inr (omega arith, omega arith)
same_point m false false x y a b e = inl (refl, omega arith)

zero_point : (m : ℕ) (s : Bool) (x : ℕ) → x ≡ 0 → line m s x ≡ m
unfolding line
zero_point m true x none = omega arith
zero_point m false x none = omega arith

same_bits : (f : Format) (a b : ℕ) → IsNumber f a → IsNumber f b → point f a ≡ point f b
    → (a ≡ b) ⊎ ((a % sign_bit f ≡ 0) × (b % sign_bit f ≡ 0))
unfolding point
same_bits f a b x y e =
    elim (same_point (infinity f) (a / sign_bit f % 2 == 1) (b / sign_bit f % 2 == 1) (a % sign_bit f)
    (b % sign_bit f) (number_size f a x) (number_size f b y) e) [
      | inl same ↦ inl (sym (rejoined f a x.fits) ∙ (λ i. signed f (same.0 i) (same.1 i)) ∙ rejoined f b y.fits)
      | inr zeros ↦ inr zeros
    ]

zeros_meet : (f : Format) (a b : ℕ) → a % sign_bit f ≡ 0 → b % sign_bit f ≡ 0 → point f a ≡ point f b
unfolding point
zeros_meet f a b x y =
    zero_point (infinity f) (a / sign_bit f % 2 == 1) (a % sign_bit f) x
    ∙ sym (zero_point (infinity f) (b / sign_bit f % 2 == 1) (b % sign_bit f) y)

pub numbers_are_ordered : NumbersAreOrdered
numbers_are_ordered f a b c x y z = record {
  reflexive = at_most_is f a a x x ∙ at_most_said (point f a) (point f a) (omega arith);
  antisymmetric = λ d e.
      let p = said_at_most (point f a) (point f b) (sym (at_most_is f a b x y) ∙ d) in
      let q = said_at_most (point f b) (point f a) (sym (at_most_is f b a y x) ∙ e) in
      equal_is f a b x y ∙ equal_said (point f a) (point f b) (omega arith);
  transitive = λ d e.
      let p = said_at_most (point f a) (point f b) (sym (at_most_is f a b x y) ∙ d) in
      let q = said_at_most (point f b) (point f c) (sym (at_most_is f b c y z) ∙ e) in
      at_most_is f a c x z ∙ at_most_said (point f a) (point f c) (omega arith);
  total = elim (cases_lt (point f b) (point f a)) [
    | inl less ↦ inr (at_most_is f b a y x ∙ at_most_said (point f b) (point f a) (omega arith))
    | inr more ↦ inl (at_most_is f a b x y ∙ at_most_said (point f a) (point f b) (omega arith))
  ];
  strict = λ d.
      let p = said_less (point f a) (point f b) (sym (less_is f a b x y) ∙ d) in
      at_most_is f b a y x ∙ ap (λ (w : Bool). answer (not w)) (lt-ltb (point f a) (point f b) p);
  only_zeros = λ d. same_bits f a b x y (said_equal (point f a) (point f b) (sym (equal_is f a b x y) ∙ d));
  zeros = λ d e. equal_is f a b x y ∙ equal_said (point f a) (point f b) (zeros_meet f a b d e);
}
