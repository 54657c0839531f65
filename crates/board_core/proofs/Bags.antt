-- Lists without their order.
use Rattle.std.proofs.Common.{◌≡◌, ◌⊎◌, inl, inr, ℕ, zero, suc, ◌+◌, ◌<◌, ◌≤◌, Bool, true, false, ◌&&◌, ◌||◌, ◌==◌}
use Rattle.std.proofs.Common.{nat_lt, List, [], ◌∷◌, ◌++◌, refl, sym, ap, ◌∙◌, subst, arith}
use Rattle.std.specs.List.{Contains, list_any}
use Rattle.std.proofs.lemmas.Bool.Decides.{nat_tests}
use Rattle.board_core.specs.Bags.{Has, Names, SameBag, is_numbered, as_number, count, is_pair, times, weigh}

pub weigh-append : {X : Type 0} (h : X → ℕ) (one other : List X) → weigh h (one ++ other) ≡ weigh h one + weigh h other
weigh-append h [] other = omega arith
weigh-append h (pair ∷ one) other = omega (arith, weigh-append h one other)

pub weigh_push : {X : Type 0} (h : X → ℕ) (pairs : List X) (pair : X)
    → weigh h (pairs ++ pair ∷ []) ≡ weigh h pairs + h pair
weigh_push h pairs pair = omega (arith, weigh-append h pairs (pair ∷ []))

-- what weighs no more pair by pair weighs no more in all
pub weigh_le : {X : Type 0} (h k : X → ℕ) (pairs : List X) → ((pair : X) → h pair ≤ k pair)
    → weigh h pairs ≤ weigh k pairs
weigh_le h k [] each = omega arith
weigh_le h k (pair ∷ pairs) each = omega (arith, each pair, weigh_le h k pairs each)

-- two weights added up
pub weigh_sum : {X : Type 0} (h k : X → ℕ) (pairs : List X)
    → weigh (λ pair. h pair + k pair) pairs ≡ weigh h pairs + weigh k pairs
weigh_sum h k [] = omega arith
weigh_sum h k (pair ∷ pairs) = omega (arith, weigh_sum h k pairs)

pub one_if : (test : Bool) → test ≡ true → as_number test ≡ 1
one_if true is = refl
one_if false is = absurd cc

pub zero_if : (test : Bool) → test ≡ false → as_number test ≡ 0
zero_if true is = absurd cc
zero_if false is = refl

pub if_le : (one other : Bool) → (one ≡ true → other ≡ true) → as_number one ≤ as_number other
if_le true true then_other = omega arith
if_le true false then_other = absurd (let no_case = then_other refl in cc)
if_le false true then_other = omega arith
if_le false false then_other = omega arith

-- a test that follows from another passes no less
pub count_le : {X : Type 0} (one other : X → Bool) (pairs : List X)
    → ((pair : X) → one pair ≡ true → other pair ≡ true) → count one pairs ≤ count other pairs
count_le one other pairs then_other =
    weigh_le (λ pair. as_number (one pair)) (λ pair. as_number (other pair)) pairs
    (λ pair. if_le (one pair) (other pair) (then_other pair))

pub count-append : {X : Type 0} (test : X → Bool) (one other : List X)
    → count test (one ++ other) ≡ count test one + count test other
count-append test one other = weigh-append (λ pair. as_number (test pair)) one other

pub count_push : {X : Type 0} (test : X → Bool) (pairs : List X) (pair : X)
    → count test (pairs ++ pair ∷ []) ≡ count test pairs + as_number (test pair)
count_push test pairs pair = weigh_push (λ pair. as_number (test pair)) pairs pair

-- the tests of two numbers
pub both_true : (a b : Bool) → (a && b) ≡ true → (a ≡ true) × (b ≡ true)
both_true true true is = (refl, refl)
both_true true false is = absurd cc
both_true false b is = absurd cc

pub equal_if : (x y : ℕ) → (x == y) ≡ true → x ≡ y
equal_if x y is = grind (arith, nat_tests)

pub equal_test : (x y : ℕ) → x ≡ y → (x == y) ≡ true
equal_test x y is = grind (arith, nat_tests)

pub is_pair-true : (one other : ℕ × ℕ) → is_pair one other ≡ true → one ≡ other
is_pair-true (a, b) (c, d) is =
    let parts = both_true (a == c) (b == d) is in
    let first : a ≡ c = equal_if a c parts.0 in
    let second : b ≡ d = equal_if b d parts.1 in
    ap (λ x. (x, b)) first ∙ ap (λ y. (c, y)) second

and_true : (a b : Bool) → a ≡ true → b ≡ true → (a && b) ≡ true
and_true true true one other = refl
and_true true false one other = absurd cc
and_true false b one other = absurd cc

pub is_pair-same : (pair : ℕ × ℕ) → is_pair pair pair ≡ true
is_pair-same (a, b) = and_true (a == a) (b == b) (equal_test a a refl) (equal_test b b refl)

-- a pair that stands there and passes the test is counted
pub counted : (test : ℕ × ℕ → Bool) (pairs : List (ℕ × ℕ)) (pair : ℕ × ℕ) → Has pairs pair → test pair ≡ true
    → 0 < count test pairs
counted test pairs pair has passes =
    omega (
      arith,
      has,
      count_le (is_pair pair) test pairs (λ other is. sym (ap test (is_pair-true pair other is)) ∙ passes),
    )

pub Has-push : (pairs : List (ℕ × ℕ)) (pair : ℕ × ℕ) → Has (pairs ++ pair ∷ []) pair
Has-push pairs pair =
    omega (arith, count_push (is_pair pair) pairs pair, one_if (is_pair pair pair) (is_pair-same pair))

pub Has-left : (one other : List (ℕ × ℕ)) (pair : ℕ × ℕ) → Has one pair → Has (one ++ other) pair
Has-left one other pair has = omega (arith, count-append (is_pair pair) one other, has)

pub Has-right : (one other : List (ℕ × ℕ)) (pair : ℕ × ℕ) → Has other pair → Has (one ++ other) pair
Has-right one other pair has = omega (arith, count-append (is_pair pair) one other, has)

some_part : (a b c : ℕ) → a ≡ b + c → 0 < a → (0 < b) ⊎ (0 < c)
some_part a zero c is some = inr (omega (arith, is, some))
some_part a (suc b) c is some = inl (omega arith)

pub Has-append_cases : (one other : List (ℕ × ℕ)) (pair : ℕ × ℕ) → Has (one ++ other) pair
    → Has one pair ⊎ Has other pair
Has-append_cases one other pair has =
    some_part (times pair (one ++ other)) (times pair one) (times pair other) (count-append (is_pair pair) one other)
    has

only : (test : Bool) → 0 < as_number test + 0 → test ≡ true
only true some = refl
only false some = absurd (omega (arith, some))

pub Has-one : (pair other : ℕ × ℕ) → Has (other ∷ []) pair → pair ≡ other
Has-one pair other has = is_pair-true pair other (only (is_pair pair other) has)

pub Has-push_cases : (pairs : List (ℕ × ℕ)) (last pair : ℕ × ℕ) → Has (pairs ++ last ∷ []) pair
    → Has pairs pair ⊎ (pair ≡ last)
Has-push_cases pairs last pair has =
    elim (Has-append_cases pairs (last ∷ []) pair has) [ inl before ↦ inl before | inr at ↦ inr (Has-one pair last at) ]

-- where something passes the test, some pair does
pub some_counted : (test : ℕ × ℕ → Bool) (pairs : List (ℕ × ℕ)) → 0 < count test pairs
    → (pair : ℕ × ℕ) × Has pairs pair × (test pair ≡ true)
some_counted test [] some = absurd (omega (arith, some))
some_counted test (pair ∷ pairs) some = by (test pair) refl (some_counted test pairs)
  where
    later : (found : ℕ × ℕ) × Has pairs found × (test found ≡ true)
        → (found : ℕ × ℕ) × Has (pair ∷ pairs) found × (test found ≡ true)
    later found = (found.0, Has-right (pair ∷ []) pairs found.0 found.1, found.2)

    by : (passes : Bool) → test pair ≡ passes
        → (0 < count test pairs → (found : ℕ × ℕ) × Has pairs found × (test found ≡ true))
        → (found : ℕ × ℕ) × Has (pair ∷ pairs) found × (test found ≡ true)
    by true is more = (pair, Has-left (pair ∷ []) pairs pair (Has-push [] pair), is)
    by false is more = later (more (omega (arith, some, zero_if (test pair) is)))

-- the test of a list by its count
any_count : (test : ℕ × ℕ → Bool) (pairs : List (ℕ × ℕ)) → list_any test pairs ≡ nat_lt 0 (count test pairs)
any_count test [] = refl
any_count test (pair ∷ pairs) = by (test pair) (any_count test pairs)
  where
    by : (passes : Bool) → list_any test pairs ≡ nat_lt 0 (count test pairs)
        → (passes || list_any test pairs) ≡ nat_lt 0 (as_number passes + count test pairs)
    by true more = let low : 0 < 1 + count test pairs = omega arith in grind (arith, nat_tests)
    by false more = let same : 0 + count test pairs ≡ count test pairs = omega arith in rw same more

pub any-some : (test : ℕ × ℕ → Bool) (pairs : List (ℕ × ℕ)) → 0 < count test pairs → list_any test pairs ≡ true
any-some test pairs some = any_count test pairs ∙ (grind (arith, nat_tests))

pub any-none : (test : ℕ × ℕ → Bool) (pairs : List (ℕ × ℕ)) → count test pairs ≡ 0 → list_any test pairs ≡ false
any-none test pairs none = any_count test pairs ∙ ap (λ n. nat_lt 0 n) none

pub count_of_any : (test : ℕ × ℕ → Bool) (pairs : List (ℕ × ℕ)) → list_any test pairs ≡ true → 0 < count test pairs
count_of_any test pairs any =
    let is : nat_lt 0 (count test pairs) ≡ true = sym (any_count test pairs) ∙ any in grind (arith, nat_tests)

pub count_of_none : (test : ℕ × ℕ → Bool) (pairs : List (ℕ × ℕ)) → list_any test pairs ≡ false → count test pairs ≡ 0
count_of_none test pairs none =
    let is : nat_lt 0 (count test pairs) ≡ false = sym (any_count test pairs) ∙ none in grind (arith, nat_tests)

-- a number that a pair has
pub Names-left : (one other : List (ℕ × ℕ)) (number : ℕ) → Names one number → Names (one ++ other) number
Names-left one other number names = omega (arith, count-append (is_numbered number) one other, names)

pub Names-push : (pairs : List (ℕ × ℕ)) (worker number : ℕ) → Names (pairs ++ (worker, number) ∷ []) number
Names-push pairs worker number =
    omega (
      arith,
      count_push (is_numbered number) pairs (worker, number),
      one_if (number == number) (equal_test number number refl),
    )

-- what is counted is an element, and an element is counted
pub has_contained : (pairs : List (ℕ × ℕ)) (pair : ℕ × ℕ) → Has pairs pair → Contains pairs pair
has_contained [] pair has = absurd (omega (arith, has))
has_contained (first ∷ pairs) pair has =
    elim (Has-append_cases (first ∷ []) pairs pair has) [
      | inl here ↦ (0, omega arith, sym (Has-one pair first here))
      | inr later ↦ let found = has_contained pairs pair later in (suc found.0, omega (arith, found.1), found.2)
    ]

pub contained_has : (pairs : List (ℕ × ℕ)) (pair : ℕ × ℕ) → Contains pairs pair → Has pairs pair
contained_has [] pair (k, low, is) = absurd (omega (arith, low))
contained_has (first ∷ pairs) pair (zero, low, is) =
    Has-left (first ∷ []) pairs pair
    (let P : ℕ × ℕ → Type 0 = λ p. Has (p ∷ []) pair in subst P (sym is) (Has-push [] pair))
contained_has (first ∷ pairs) pair (suc k, low, is) =
    Has-right (first ∷ []) pairs pair (contained_has pairs pair (k, omega (arith, low), is))

-- where a pair stands, the list is what is before it, and it, and what is after
record Parted (pairs : List (ℕ × ℕ)) (pair : ℕ × ℕ) : Type 0 where
  before : List (ℕ × ℕ)
  following : List (ℕ × ℕ)
  is : pairs ≡ before ++ pair ∷ following

parted : (pairs : List (ℕ × ℕ)) (pair : ℕ × ℕ) → Has pairs pair → Parted pairs pair
parted [] pair has = absurd (omega (arith, has))
parted (first ∷ pairs) pair has =
    elim (Has-append_cases (first ∷ []) pairs pair has) [
      | inl here ↦ record { before = []; following = pairs; is = ap (λ x. x ∷ pairs) (sym (Has-one pair first here)) }
      | inr later ↦
          let rest = parted pairs pair later in
          record { before = first ∷ rest.before; following = rest.following; is = ap (λ more. first ∷ more) rest.is }
    ]

weigh_parted : (h : ℕ × ℕ → ℕ) (before following : List (ℕ × ℕ)) (pair : ℕ × ℕ)
    → weigh h (before ++ pair ∷ following) ≡ h pair + weigh h (before ++ following)
weigh_parted h before following pair =
    omega (arith, weigh-append h before (pair ∷ following), weigh-append h before following)

pub bag_from_times : (one other : List (ℕ × ℕ)) → ((pair : ℕ × ℕ) → times pair one ≡ times pair other)
    → SameBag one other
bag_from_times [] [] same h = refl
bag_from_times [] (pair ∷ other) same h =
    absurd (omega (arith, same pair, Has-left (pair ∷ []) other pair (Has-push [] pair)))
bag_from_times (pair ∷ one) other same h =
    let there : Has other pair = omega (arith, same pair, Has-left (pair ∷ []) one pair (Has-push [] pair)) in
    let parts = parted other pair there in
    let rest : (q : ℕ × ℕ) → times q one ≡ times q (parts.before ++ parts.following) =
    λ q. omega (
      arith,
      same q,
      ap (times q) parts.is,
      weigh_parted (λ p. as_number (is_pair q p)) parts.before
          parts.following pair,
    ) in
    omega (
      arith,
      bag_from_times one (parts.before ++ parts.following) rest h,
      ap (weigh h) parts.is,
      weigh_parted h parts.before parts.following pair,
    )

pub bag_times : (one other : List (ℕ × ℕ)) → SameBag one other → (pair : ℕ × ℕ) → times pair one ≡ times pair other
bag_times one other bag pair = bag (λ p. as_number (is_pair pair p))
