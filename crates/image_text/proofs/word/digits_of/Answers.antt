use Rattle.std.proofs.Common.{◌≡◌, ◌<◌, ◌≤◌, ◌^◌, ℕ, length, take, get_or, refl, arith, List, [], ◌∷◌, lit<}
use Rattle.std.proofs.Common.{length-take, true}
use Rattle.std.proofs.Math.Nat.{pow-le-pow_right}
use Rattle.std.specs.Char.{digit_value}
use Rattle.std.specs.Str.Parse.{AllDigits, digits_value}
use Rattle.std.proofs.lemmas.Int.Digits.{digits_value-lt, digits_value_more, digits_more}
use Rattle.std.proofs.lemmas.List.{take_all}
use Rattle.std.proofs.lemmas.Bool.Decides.{nat_tests}
use Rattle.image_text.specs.Image.{are_digits}
use Rattle.image_text.proofs.word.digits_of.Goals as goal

-- digits fewer than 16 leave room for one more
room : (ds : List ℕ) (i : ℕ) → i < length ds → length ds ≤ 16 → AllDigits 16 (take i ds)
    → digits_value 16 (take i ds) < 16 ^ 15
room ds i below short digits =
    let small : digits_value 16 (take i ds) < 16 ^ length (take i ds) = digits_value-lt 16 (take i ds) digits in
    let count : length (take i ds) ≤ 15 = omega (arith, length-take i ds) in
    let most : 16 ^ length (take i ds) ≤ 16 ^ 15 = pow-le-pow_right (lit< tt) count in
    omega arith

pub overflow_mul-value : goal.overflow_mul-value
overflow_mul-value c =
    let r =
    room c.args.digits.now c.loop-digit.digit-index c.loop-digit-test.true c.requires
    c.loop-digit.invariant.digits in
    omega (arith, r, c.loop-digit.invariant.value)

pub overflow_add-value : goal.overflow_add-value
overflow_add-value c =
    let r =
    room c.args.digits.now c.loop-digit.digit-index c.loop-digit-test.true c.requires
    c.loop-digit.invariant.digits in
    omega (arith, r, c.loop-digit.invariant.value, c.in_ok-place.ensures.value, c.from-in-loop-digit.ensures)

pub loop-digit-preserved : goal.loop-digit-preserved
loop-digit-preserved c =
    let digit = c.in_ok-place.ensures.value in
    let code = c.from.ensures in
    let below : digit_value (get_or c.args.digits.now c.loop-digit.digit-index 0) < 16 = rw (← code) digit.0 in
    record {
      digits = digits_more 16 _ _ c.loop-digit-test.true c.loop-digit.invariant.digits below;
      value =
          rw (
            digits_value_more 16 c.args.digits.now c.loop-digit.digit-index c.loop-digit-test.true,
            ← c.loop-digit.invariant.value,
            ← code,
            c.from-in-loop-digit.ensures,
            digit.1,
          ) refl;
    }

-- digits pass the test
pass : (ds : List ℕ) → AllDigits 16 ds → are_digits ds ≡ true
pass [] _ = refl
pass (c ∷ cs) h = let rest : are_digits cs ≡ true = pass cs h.1 in grind (arith, nat_tests, h.0)

pub returns-clause-small : goal.returns-clause-small
returns-clause-small c =
    let whole : take c.loop-digit.digit-index c.args.digits.now ≡ c.args.digits.now =
    take_all _ _ c.loop-digit-test.false in
    rw (c.loop-digit.invariant.value, whole)
    (digits_value-lt 16 c.args.digits.now (rw whole at c.loop-digit.invariant.digits))

pub returns-clause-value : goal.returns-clause-value
returns-clause-value c =
    let whole : take c.loop-digit.digit-index c.args.digits.now ≡ c.args.digits.now =
    take_all _ _ c.loop-digit-test.false in
    let digits : are_digits c.args.digits.now ≡ true = pass _ (rw whole at c.loop-digit.invariant.digits) in
    let value = rw whole at c.loop-digit.invariant.value in
    rw (digits, value) refl
