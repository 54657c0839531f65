-- The bytes of a number in the opposite order.
use Rattle.std.proofs.Common.{◌≡◌, ℕ, zero, suc, ◌/◌, ◌%◌, ◌<◌, ◌^◌, List, [], ◌∷◌, map, reverse, get_or, refl, ap}
use Rattle.std.proofs.Common.{◌∙◌, arith}
use Rattle.std.proofs.lemmas.Nat.{le_bytes_8, from_le_bytes-to_le_bytes_8}
use Rattle.std.specs.Int.{w64, from_be_bytes, from_le_bytes, to_le_bytes, swap_bytes}
use Rattle.rv_bits.specs.Laws.{ReversalsUndo}
use Rattle.rv_bits.specs.Results.{bits_result}

eight : (a b c d e f g h : ℕ)
    → from_be_bytes w64 (a ∷ b ∷ c ∷ d ∷ e ∷ f ∷ g ∷ h ∷ [])
    ≡ from_le_bytes w64 (h ∷ g ∷ f ∷ e ∷ d ∷ c ∷ b ∷ a ∷ [])
eight a b c d e f g h = omega arith

pub swapped : (x : ℕ) → swap_bytes w64 x ≡ from_le_bytes w64 (reverse (to_le_bytes w64 x))
swapped x = eight _ _ _ _ _ _ _ _

pub mapped_below : (f : ℕ → ℕ) → ((n : ℕ) → f n < 256) → (numbers : List ℕ) (i : ℕ) → get_or (map f numbers) i 0 < 256
mapped_below f below [] i = omega arith
mapped_below f below (number ∷ numbers) zero = below number
mapped_below f below (number ∷ numbers) (suc i) = mapped_below f below numbers i

remainder_below : (n : ℕ) → n % 256 < 256
remainder_below n = omega arith

pub are_bytes : (x i : ℕ) → get_or (reverse (to_le_bytes w64 x)) i 0 < 256
are_bytes x =
    mapped_below (λ n. n % 256) remainder_below
    (x / 256 ^ 7 ∷ x / 256 ^ 6 ∷ x / 256 ^ 5 ∷ x / 256 ^ 4 ∷ x / 256 ^ 3 ∷ x / 256 ^ 2 ∷ x / 256 ∷ x ∷ [])

pub undo : ReversalsUndo
unfolding bits_result
undo a b c fits =
    let bytes = reverse (to_le_bytes w64 a) in
    let back : to_le_bytes w64 (from_le_bytes w64 bytes) ≡ bytes =
    le_bytes_8 bytes (from_le_bytes w64 bytes) refl (are_bytes a) refl in
    ap (λ same. from_le_bytes w64 (reverse same)) back ∙ from_le_bytes-to_le_bytes_8 a fits
