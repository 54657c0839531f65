-- Lists without their order. Nothing is said here of what the elements are.
use Rattle.std.specs.Prelude.{◌≡◌, ℕ, ◌+◌, ◌<◌, Bool, true, false, ◌&&◌, ◌==◌, List, [], ◌∷◌}

-- the weights of the elements, added up
abbrev pub weigh : {X : Type 0} → (X → ℕ) → List X → ℕ
weigh h [] = 0
weigh h (x ∷ xs) = h x + weigh h xs

-- however weighed, both weigh the same: each element stands in one as often as in the other
abbrev pub SameBag : {X : Type 0} → List X → List X → Type 0
SameBag {X} one other = (h : X → ℕ) → weigh h one ≡ weigh h other

-- 1 where the test holds, and else 0
abbrev pub as_number : Bool → ℕ
as_number true = 1
as_number false = 0

-- how many of the elements pass the test
abbrev pub count : {X : Type 0} → (X → Bool) → List X → ℕ
count test xs = weigh (λ x. as_number (test x)) xs

-- both have the same parts
abbrev pub is_pair : ℕ × ℕ → ℕ × ℕ → Bool
is_pair one other = (one.0 == other.0) && (one.1 == other.1)

-- how often the pair stands in the list
abbrev pub times : ℕ × ℕ → List (ℕ × ℕ) → ℕ
times pair pairs = count (is_pair pair) pairs

-- the pair stands in the list
abbrev pub Has : List (ℕ × ℕ) → ℕ × ℕ → Type 0
Has pairs pair = 0 < times pair pairs

-- the pair has this number
abbrev pub is_numbered : ℕ → ℕ × ℕ → Bool
is_numbered number pair = pair.1 == number

-- the number is that of some pair
abbrev pub Names : List (ℕ × ℕ) → ℕ → Type 0
Names pairs number = 0 < count (is_numbered number) pairs
