-- A number that is joined of two.
use Rattle.std.proofs.Common.{◌≡◌, ℕ, zero, suc, ◌+◌, ◌-◌, ◌*◌, ◌%◌, ◌^◌, ◌<◌, ◌≤◌, ap, subst, arith, lit<}
use Rattle.std.proofs.Math.Nat.{mod-eq_of_lt, pow-le-pow_right}
use Rattle.std.proofs.lemmas.Nat.{mul-add-lt, pow-add}
use Rattle.hart_words.specs.Memory.{Bytes, number_at}
use Rattle.hart_words.proofs.Powers.{bits_of_bytes}
use Rattle.mem_access.specs.Accesses.{joined_value}

-- it has the bits of both
pub joined_fits : (len more low high : ℕ) → low < 2 ^ (8 * len) → high < 2 ^ (8 * more)
    → low + high * 2 ^ (8 * len) < 2 ^ (8 * (len + more))
joined_fits len more low high l h =
    let both : 8 * (len + more) ≡ 8 * len + 8 * more = omega arith in
    let got : high * 2 ^ (8 * len) + low < 2 ^ (8 * len) * 2 ^ (8 * more) =
    mul-add-lt high (2 ^ (8 * len)) low (2 ^ (8 * more)) h l in
    rw (both, pow-add 2 (8 * len) (8 * more)) (omega (arith, got))

-- eight bytes hold it
pub joined_below : (len low high : ℕ) → len < 8 → low < 2 ^ (8 * len) → high < 2 ^ (8 * (8 - len))
    → low + high * 2 ^ (8 * len) < 2 ^ 64
joined_below len low high few l h =
    let eight : 8 * (len + (8 - len)) ≡ 64 = omega arith in
    let P : ℕ → Type 0 = λ n. low + high * 2 ^ (8 * len) < 2 ^ n in
    subst P eight (joined_fits len (8 - len) low high l h)

-- so nothing is shifted out
pub shifted_whole : (len low high : ℕ) → len < 8 → low < 2 ^ (8 * len) → high < 2 ^ (8 * (8 - len))
    → high * 2 ^ (8 * len) % 2 ^ 64 ≡ high * 2 ^ (8 * len)
shifted_whole len low high few l h = mod-eq_of_lt (omega (arith, joined_below len low high few l h))

pub joined_is : (len low high : ℕ) → low + high * 2 ^ (8 * len) ≡ joined_value len low high
joined_is len low high = rw (bits_of_bytes len) (omega arith)

-- the high bytes have room
pub high_fits : (len more high : ℕ) → len + more ≤ 8 → high < 2 ^ (8 * more) → high < 2 ^ (8 * (8 - len))
high_fits len more high few h =
    let wide : 2 ^ (8 * more) ≤ 2 ^ (8 * (8 - len)) = pow-le-pow_right (lit< tt) (omega (arith, few)) in
    omega (arith, wide, h)

-- a number is its first byte with those that come after it
pub first_joined : (bytes : Bytes) (pa len : ℕ) → 1 ≤ len
    → joined_value 1 (bytes pa) (number_at bytes (pa + 1) (len - 1)) ≡ number_at bytes pa len
unfolding number_at
first_joined bytes pa zero some = absurd (omega (arith, some))
first_joined bytes pa (suc len) some =
    let less : suc len - 1 ≡ len = omega arith in
    ap (λ n. bytes pa + 256 * number_at bytes (pa + 1) n) less

pub one_byte : (bytes : Bytes) (pa : ℕ) → bytes pa ≡ number_at bytes pa 1
unfolding number_at
one_byte bytes pa = omega arith
