use Rattle.std.proofs.Common.{◌≡◌, ◌+◌, ◌-◌, ◌<◌, arith, refl, sym, ◌∙◌, lit<}
use Rattle.hart_words.specs.Memory.{number_at}
use Rattle.hart_words.proofs.Powers.{bits_of_bytes}
use Rattle.page_image.proofs.Stored.{number_at-more, number_grows, number_fits, one_more}
use Rattle.page_layers.proofs.numbers.number_of.Goals as goal

pub loop-k-init : goal.loop-k-init
unfolding number_at
loop-k-init g c =
    let none : c.args.len - c.from-k.result ≡ 0 = omega arith in
    record {
      number =
          rw none refl;
      small =
          rw none (lit< tt);
      within = omega arith;
      each = λ at from below. absurd (omega (arith, from, below));
    }

pub overflow_mul-number : goal.overflow_mul-number
overflow_mul-number g c =
    let fits =
    number_fits c.loop-k.number 0 (c.args.len - c.loop-k.k) c.loop-k.invariant.small (lit< tt) (omega arith) in
    record { fits = omega (arith, fits) }

pub overflow_add-number : goal.overflow_add-number
overflow_add-number g c =
    let byte : c.from.result < 256 = omega (arith, c.byte.type_inv) in
    let fits =
    number_fits c.loop-k.number c.from.result (c.args.len - c.loop-k.k) c.loop-k.invariant.small byte
    (omega arith) in
    record { fits = fits }

pub loop-k-preserved : goal.loop-k-preserved
loop-k-preserved g c =
    let byte : c.from.result < 256 = omega (arith, c.byte.type_inv) in
    let bytes = g.B.ByteAt.bytes c.args.bytes.now in
    let place : c.args.pa + (c.loop-k.k - 1) + 1 ≡ c.args.pa + c.loop-k.k = omega arith in
    let left : c.args.len - (c.loop-k.k - 1) ≡ c.args.len - c.loop-k.k + 1 = omega arith in
    let more =
    number_at-more (c.args.pa + (c.loop-k.k - 1)) (c.args.len - c.loop-k.k) (c.args.len - (c.loop-k.k - 1)) bytes
    left in
    let read : bytes (c.args.pa + (c.loop-k.k - 1)) ≡ c.from.result = sym (c.from.ensures ∙ c.byte.ensures) in
    let same = c.loop-k.invariant.number in
    record {
      number = rw (more, place, read, ← same) refl;
      small =
          rw left (number_grows c.loop-k.number c.from.result (c.args.len - c.loop-k.k) c.loop-k.invariant.small byte);
      within = omega arith;
      each =
          λ at from below. one_more bytes (c.args.pa + (c.loop-k.k - 1)) c.from.result at read byte from
          (λ later. c.loop-k.invariant.each at (omega (arith, place, later)) below);
    }

pub returns-clause-fits : goal.returns-clause-fits
returns-clause-fits g c =
    let all : c.args.len - c.loop-k.k ≡ c.args.len = omega arith in
    rw (← bits_of_bytes c.args.len, ← all) c.loop-k.invariant.small

pub returns-clause-small : goal.returns-clause-small
returns-clause-small g c = λ at from below. c.loop-k.invariant.each at (omega (arith, from)) below
