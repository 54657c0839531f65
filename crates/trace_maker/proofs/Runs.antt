-- What a row more makes of the registers, and of what is known before it.
use Rattle.std.proofs.Common.{◌≡◌, ◌≢◌, ℕ, ◌+◌, ◌*◌, ◌%◌, ◌^◌, bit_xor, arith, add-one, refl, ap, sym, ◌∙◌, ne_eqb}
use Rattle.std.proofs.Math.Nat.{mod-add-mod}
use Rattle.trace_maker.specs.Rows.{first_row, immediate_of, made_row, turn_of, turn_row, turn_place, x1_after, x3_after}
use Rattle.trace_maker.specs.Runs.{IsBefore, turns_before}
use Rattle.trace_maker.specs.declared.run.Run.{Run}

pub x1_goes_on : (number turn : ℕ) → x1_after number (turn + 1) ≡ (x1_after number turn + immediate_of number) % 2 ^ 64
unfolding x1_after
x1_goes_on number turn =
    let more : (turn + 1) * immediate_of number ≡ turn * immediate_of number + immediate_of number = omega arith in
    ap (λ n. n % 2 ^ 64) more ∙ sym (mod-add-mod (turn * immediate_of number) (2 ^ 64) (immediate_of number))

pub x3_goes_on : (number turn : ℕ)
    → x3_after number (turn + 1) ≡ bit_xor (x3_after number turn) (x1_after number (turn + 1))
unfolding x3_after
x3_goes_on number turn = rw add-one refl

pub before_first : (number : ℕ) → IsBefore (record { number = number; x1 = 0; x3 = 0 }) 0
unfolding x1_after x3_after
before_first number = record {
  x1 = (let none : 0 * immediate_of number ≡ 0 = omega arith in rw none refl);
  x3 = refl;
}

-- a row within a turn changes no register
pub before_same : (run : Run) (order : ℕ) → turns_before (order + 1) ≡ turns_before order → IsBefore run order
    → IsBefore run (order + 1)
before_same run order e before = record { x1 = rw e before.x1; x3 = rw e before.x3 }

-- the first row of a turn adds the immediate
pub before_next : (old new : Run) (order : ℕ) → turns_before (order + 1) ≡ turns_before order + 1
    → new.number ≡ old.number → new.x1 ≡ (old.x1 + immediate_of old.number) % 2 ^ 64 → new.x3 ≡ bit_xor old.x3 new.x1
    → IsBefore old order → IsBefore new (order + 1)
before_next old new order e same x1 x3 before =
    let one : new.x1 ≡ x1_after new.number (turns_before order + 1) =
    x1 ∙ ap (λ n. (n + immediate_of old.number) % 2 ^ 64) before.x1
    ∙ sym (x1_goes_on old.number (turns_before order))
    ∙ ap (λ n. x1_after n (turns_before order + 1)) (sym same) in
    let three : new.x3 ≡ x3_after new.number (turns_before order + 1) =
    x3 ∙ ap (λ n. bit_xor n new.x1) before.x3
    ∙ ap (λ n. bit_xor (x3_after old.number (turns_before order)) n)
    (one ∙ ap (λ n. x1_after n (turns_before order + 1)) same)
    ∙ sym (x3_goes_on old.number (turns_before order))
    ∙ ap (λ n. x3_after n (turns_before order + 1)) (sym same) in
    record { x1 = rw e one; x3 = rw e three }

pub made_first : (number order : ℕ) → order ≡ 0 → first_row ≡ made_row number order
unfolding made_row
made_first number order e = rw e refl

-- the row of a turn, where the registers are those after it
pub made_later : (run : Run) (number order place : ℕ) → run.number ≡ number → order ≢ 0 → place ≡ turn_place order
    → IsBefore run (order + 1) → turn_row run.number run.x1 run.x3 order place ≡ made_row number order
unfolding made_row
made_later run number order place same some at before =
    let began : turns_before (order + 1) ≡ turn_of order = omega arith in
    let x1 : run.x1 ≡ x1_after number (turn_of order) =
    before.x1 ∙ ap (λ n. x1_after run.number n) began ∙ ap (λ n. x1_after n (turn_of order)) same in
    let x3 : run.x3 ≡ x3_after number (turn_of order) =
    before.x3 ∙ ap (λ n. x3_after run.number n) began ∙ ap (λ n. x3_after n (turn_of order)) same in
    rw (same, x1, x3, at, ne_eqb order 0 some) refl
