-- The sign extension of an even number is even.
use Rattle.std.proofs.Common.{◌≡◌, ℕ, ◌%◌, ◌^◌, arith}
use Rattle.hart_words.specs.Words.{sign_extended}
use Rattle.hart_words.proofs.Extended.{extends_signs}

pub even_of_13 : (x : ℕ) → x % 2 ≡ 0 → sign_extended 13 x % 2 ≡ 0
even_of_13 x even =
    let same : sign_extended 13 x % 2 ^ 13 ≡ x % 2 ^ 13 = (extends_signs 13 x (omega arith) (omega arith)).same in
    omega arith

pub even_of_21 : (x : ℕ) → x % 2 ≡ 0 → sign_extended 21 x % 2 ≡ 0
even_of_21 x even =
    let same : sign_extended 21 x % 2 ^ 21 ≡ x % 2 ^ 21 = (extends_signs 21 x (omega arith) (omega arith)).same in
    omega arith
