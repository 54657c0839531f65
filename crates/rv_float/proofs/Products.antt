-- Products of significands and powers.
use Rattle.std.proofs.Common.{◌≡◌, ℕ, ◌+◌, ◌*◌, ◌^◌, sym, ap, ◌∙◌, mul_assoc, mul_left_comm}
use Rattle.std.proofs.Math.Pow.{pow-add}

pub product_is : (m n j k : ℕ) → m * n * 2 ^ (j + k) ≡ m * 2 ^ j * (n * 2 ^ k)
product_is m n j k =
    ap (λ (z : ℕ). m * n * z) (pow-add 2 j k) ∙ mul_assoc m n (2 ^ j * 2 ^ k)
    ∙ ap (λ (z : ℕ). m * z) (mul_left_comm n (2 ^ j) (2 ^ k)) ∙ sym (mul_assoc m (2 ^ j) (n * 2 ^ k))

pub raised : (m k u : ℕ) → m * 2 ^ (k + u) ≡ m * 2 ^ k * 2 ^ u
raised m k u = ap (λ (z : ℕ). m * z) (pow-add 2 k u) ∙ sym (mul_assoc m (2 ^ k) (2 ^ u))
