-- The table of hexadecimal digits has each byte's value.
use Rattle.std.proofs.Common.{◌≡◌, ℕ, zero, suc, ◌+◌, ◌<◌, Bool, true, ◌&&◌, List, [], ◌∷◌, length, get_or, nat_eq}
use Rattle.std.proofs.Common.{refl, arith}
use Rattle.std.proofs.lemmas.Bool.{and_parts}
use Rattle.std.proofs.lemmas.Bool.Decides.{nat_tests}
use Rattle.hart_words.specs.Numbers.{nibble}
use Rattle.hart_words.specs.declared.numbers.TheConstants.{NIBBLES}

-- whether these are the values of the bytes from `first` on
abbrev are_values : ℕ → List ℕ → Bool
are_values first [] = true
are_values first (value ∷ values) = nat_eq value (nibble first) && are_values (suc first) values

same : (a b : ℕ) → nat_eq a b ≡ true → a ≡ b
same a b h = grind (arith, nat_tests)

value_in : (first : ℕ) (values : List ℕ) (i byte : ℕ) → byte ≡ i + first → i < length values
    → are_values first values ≡ true → get_or values i 0 ≡ nibble byte
value_in first [] i byte at h all = absurd (omega arith)
value_in first (value ∷ values) zero byte at h all =
    let is : byte ≡ first = omega arith in
    rw is (same value (nibble first) (and_parts _ _ all).0)
value_in first (value ∷ values) (suc i) byte at h all =
    value_in (suc first) values i byte (omega arith) (omega arith)
    (and_parts (nat_eq value (nibble first)) _ all).1

pub nibble_value : (byte : ℕ) → byte < 256 → get_or NIBBLES byte 0 ≡ nibble byte
nibble_value byte h = value_in 0 NIBBLES byte byte (omega arith) h refl
