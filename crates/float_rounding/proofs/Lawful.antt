-- The laws of rounding.
use Rattle.std.proofs.Common.{◌≡◌, ℕ, suc, ◌+◌, ◌-◌, ◌*◌, ◌/◌, ◌%◌, ◌^◌, ◌<◌, refl, sym, ap, ◌∙◌}
use Rattle.std.proofs.Common.{arith}
use Rattle.std.proofs.Common.{◌==◌, if◌then◌else◌, mul_assoc, mul_comm, mul-pos}
use Rattle.std.proofs.Common.{div-add-mod', pow-suc}
use Rattle.std.proofs.lemmas.Nat.{mod_below, pow_pos}
use Rattle.float_rounding.specs.Formats.{units_at}
use Rattle.float_rounding.specs.Rounding.{place_of, is_at_lower, goes_up, scale}
use Rattle.float_rounding.specs.Laws.{RoundsToANeighbour}
use Rattle.float_rounding.specs.Cuts.{IsCut}
use Rattle.float_rounding.proofs.Rounds.{bits_are, exact_is}
use Rattle.float_rounding.proofs.Scales.{scale_fits, scale_full}
use Rattle.float_rounding.proofs.Steps.{units_cut, units_next}

parity : (p k t : ℕ) → 0 < p → (k * 2 ^ p + t) % 2 ≡ t % 2
parity p k t some = by (p - 1) (omega arith)
  where
    by : (q : ℕ) → suc q ≡ p → (k * 2 ^ p + t) % 2 ≡ t % 2
    by q e =
        let even : k * 2 ^ p ≡ k * 2 ^ q * 2 = ap (λ (n : ℕ). k * 2 ^ n) (sym e) ∙ ap (λ (n : ℕ). k * n) (pow-suc 2 q)
        ∙ sym (mul_assoc k (2 ^ q) 2) in
        omega arith

own_cut : (p num den : ℕ)
    → IsCut p num den (scale p num den) (num / (den * 2 ^ scale p num den))
    (place_of (num % (den * 2 ^ scale p num den)) (den * 2 ^ scale p num den))
own_cut p num den = record { scales = refl; lowers = refl; places = refl }

pub neighbours : RoundsToANeighbour
neighbours p num den some pos =
    let k = scale p num den in
    let gap = den * 2 ^ k in
    let t = num / gap in
    let parts : t * gap + num % gap ≡ num = div-add-mod' num gap in
    let rest : num % gap < gap = mod_below num gap (mul-pos pos (pow_pos k)) in
    let here : units_at p (k * 2 ^ p + t) * den ≡ t * gap =
    ap (λ (n : ℕ). n * den) (units_cut p k t (scale_fits p num den) (scale_full p num den)) ∙ turned t (2 ^ k) den in
    let next : units_at p (k * 2 ^ p + t + 1) * den ≡ (t + 1) * gap =
    ap (λ (n : ℕ). n * den) (units_next p k t (scale_fits p num den) (scale_full p num den))
    ∙ turned (t + 1) (2 ^ k) den in
    let more : (t + 1) * gap ≡ t * gap + gap = plus_one t gap in
    let left : num % gap ≡ num - units_at p (k * 2 ^ p + t) * den = omega arith in
    let wide : gap ≡ units_at p (k * 2 ^ p + t + 1) * den - units_at p (k * 2 ^ p + t) * den = omega arith in (
      k * 2 ^ p + t,
      record {
        not_above = omega arith;
        next_above = omega arith;
        chosen = λ mode negative.
            bits_are p mode negative num den k t (place_of (num % gap) gap) (own_cut p num den)
            ∙ (λ i. k * 2 ^ p + t + (if goes_up mode negative (sym (parity p k t some) i == 1)
            (place_of (left i) (wide i)) then 1 else 0));
        unchanged = exact_is p num den k t (place_of (num % gap) gap) (own_cut p num den)
            ∙ (λ i. is_at_lower (place_of (left i) (wide i)));
      },
    )
  where
    turned : (t w d : ℕ) → t * w * d ≡ t * (d * w)
    turned t w d = mul_assoc t w d ∙ ap (λ (n : ℕ). t * n) (mul_comm w d)

    plus_one : (t g : ℕ) → (t + 1) * g ≡ t * g + g
    plus_one t g = omega arith
