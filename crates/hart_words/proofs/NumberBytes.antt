-- A number read byte by byte, from its highest byte down.
use Rattle.std.proofs.Common.{◌≡◌, ℕ, suc, ◌+◌, ◌*◌, ◌^◌, ◌<◌, ◌≤◌, arith}
use Rattle.std.proofs.Math.Nat.{pow-suc}
use Rattle.hart_words.specs.Memory.{Bytes, number_at}
use Rattle.hart_words.proofs.Powers.{seven_bytes}

-- a number with one more byte below it
pub number_more : (pa k n : ℕ) (bytes : Bytes) → n ≡ k + 1
    → number_at bytes pa n ≡ number_at bytes (pa + 1) k * 256 + bytes pa
unfolding number_at
number_more pa k n bytes is = let next : n ≡ suc k = omega arith in rw next (omega arith)

-- a number of fewer bytes, with one more, fits
pub number_grows : (n b k : ℕ) → n < 256 ^ k → b < 256 → n * 256 + b < 256 ^ (k + 1)
number_grows n b k below small =
    let next : k + 1 ≡ suc k = omega arith in
    rw (next, pow-suc 256 k) (omega arith)

pub number_fits : (n b k : ℕ) → n < 256 ^ k → b < 256 → k ≤ 7 → n * 256 + b < 2 ^ 64
number_fits n b k below small few =
    let most = seven_bytes k few in
    omega (arith, most)
