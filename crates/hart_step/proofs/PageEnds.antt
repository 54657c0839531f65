-- A mask has no byte after the end of a page that is 64 bytes away or farther.
use Rattle.std.proofs.Common.{◌≡◌, ℕ, ◌/◌, ◌%◌, ◌^◌, ◌<◌, ◌≤◌, ◌==◌, Bool, true, false, not, ◌&&◌, refl, ap, ◌∙◌, lit<}
use Rattle.std.proofs.Common.{arith}
use Rattle.std.proofs.Math.Nat.{pow-le-pow_right}
use Rattle.std.proofs.lemmas.Nat.{div_below, pow_pos}
use Rattle.hart_step.specs.PlainRows.{bytes_to_page_end, lies_in_two_pages}

none_past : (mask here : ℕ) → mask < 2 ^ 64 → 64 ≤ here → mask / 2 ^ here ≡ 0
none_past mask here few far =
    let more : 2 ^ 64 ≤ 2 ^ here = pow-le-pow_right {n = 2} (lit< tt) far in
    let none : mask / 2 ^ here < 1 = div_below mask (2 ^ here) 1 (pow_pos here) (omega (arith, few, more)) in
    omega (arith, none)

both_off : (some : Bool) → (some && not true) ≡ false
both_off true = refl
both_off false = refl

pub none_after : (address mask : ℕ) → mask < 2 ^ 64 → 64 ≤ bytes_to_page_end address
    → lies_in_two_pages address mask ≡ false
unfolding lies_in_two_pages
none_after address mask few far =
    let here = bytes_to_page_end address in
    ap (λ high. not (mask % 2 ^ here == 0) && not (high == 0)) (none_past mask here few far)
    ∙ both_off (not (mask % 2 ^ here == 0))
