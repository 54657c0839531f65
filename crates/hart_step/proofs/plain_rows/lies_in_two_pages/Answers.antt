use Rattle.std.proofs.Common.{◌≡◌, ℕ, ◌/◌, ◌%◌, ◌^◌, ◌<◌, ◌≤◌, Bool, true, false, ◌&&◌, refl, arith, lit<}
use Rattle.std.specs.Prelude.{not, ◌==◌}
use Rattle.std.proofs.Math.Nat.{pow-le-pow_right}
use Rattle.std.proofs.lemmas.Nat.{div_below, pow_pos}
use Rattle.hart_step.specs.PlainRows.{lies_in_two_pages, bytes_to_page_end}
use Rattle.hart_step.proofs.plain_rows.lies_in_two_pages.Goals as goal

never : (test : Bool) → false ≡ (test && false)
never true = refl
never false = refl

-- a mask of 64 bits has none after the page's end, where that is 64 bytes away or more
none_after : (mask here : ℕ) → mask < 2 ^ 64 → 64 ≤ here
    → false ≡ (not (mask % 2 ^ here == 0) && not (mask / 2 ^ here == 0))
none_after mask here fits far =
    let wide : 2 ^ 64 ≤ 2 ^ here = pow-le-pow_right {n = 2} (lit< tt) {i = 64} {j = here} far in
    let small : mask / 2 ^ here < 1 = div_below mask (2 ^ here) 1 (pow_pos here) (omega arith) in
    let none : mask / 2 ^ here ≡ 0 = omega arith in
    rw none (never (not (mask % 2 ^ here == 0)))

pub returns-then-here-ge64 : goal.returns-then-here-ge64
unfolding lies_in_two_pages
returns-then-here-ge64 c =
    none_after c.args.mask (bytes_to_page_end c.args.address) c.ranges.mask.fits c.if-here-ge64.true
