use Rattle.std.proofs.Common.{◌+◌, ◌*◌, ap, sym, ◌∙◌, arith}
use Rattle.read_footprint.proofs.LowMemory.{fits_more, listed, number_more, number_none, small_more, small_rest}
use Rattle.segment_tests.proofs.footprints.Low.+number.Goals as goal

pub returns-then-len-eq0-clause-value : goal.returns-then-len-eq0-clause-value
returns-then-len-eq0-clause-value t c =
    sym (number_none (listed c.args.self.now.bytes.items) c.args.pa c.args.len c.if-len-eq0.true)

pub overflow_mul-result : goal.overflow_mul-result
overflow_mul-result t c =
    let small = small_rest c.number.result c.args.len c.requires.at_most_8 c.number.ensures.fits in
    record { fits = omega (arith, small) }

pub overflow_add-result : goal.overflow_add-result
overflow_add-result t c =
    let small = small_rest c.number.result c.args.len c.requires.at_most_8 c.number.ensures.fits in
    record { fits = omega (arith, small, c.from.ensures, c.byte.type_inv) }

pub returns-clause-value : goal.returns-clause-value
returns-clause-value t c =
    ap (λ b. b + 256 * c.number.result) (c.from.ensures ∙ c.byte.ensures)
    ∙ ap (λ n. listed c.args.self.now.bytes.items c.args.pa + 256 * n) c.number.ensures.value
    ∙ sym (number_more (listed c.args.self.now.bytes.items) c.args.pa c.args.len c.if-len-eq0.false)

pub returns-clause-fits : goal.returns-clause-fits
returns-clause-fits t c =
    fits_more c.from.result c.number.result c.args.len (omega (arith, c.from.ensures, c.byte.type_inv))
    c.if-len-eq0.false c.number.ensures.fits

pub returns-clause-small : goal.returns-clause-small
returns-clause-small t c =
    λ at from below. small_more (listed c.args.self.now.bytes.items) c.args.pa at
    (omega (arith, c.byte.ensures, c.byte.type_inv)) from
    (λ following. c.number.ensures.small at following (omega (arith, below)))
