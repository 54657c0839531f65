use Rattle.std.proofs.Common.{◌≤◌, ◌+◌, ◌*◌, ◌^◌, arith, refl}
use Rattle.hart_words.proofs.Pairs.{all_left, no_first, no_second, none_left, none_written, one_left, pairs-next}
use Rattle.hart_words.proofs.Pairs.{room_for_two}
use Rattle.hart_words.proofs.Fours.{fours-next, no_four, room_for_four}
use Rattle.hart_words.proofs.numbers.short_hexadecimal.Goals as goal
use Rattle.hart_words.proofs.numbers.short_hexadecimal.Goals.{then-high-ge16-via-then-high-ge16, then-high-ge16-via-else-high-ge16+then-low-ge16}

pub returns-then-is_empty : goal.returns-then-is_empty
returns-then-is_empty c = none_written c.args.digits.now c.is_empty.result c.is_empty.ensures c.if-is_empty.true

pub loop-fours-init : goal.loop-fours-init
loop-fours-init c =
    all_left c.args.digits.now c.is_empty.result c.is_empty.ensures c.if-is_empty.false c.requires

pub loop-fours-preserved : goal.loop-fours-preserved
loop-fours-preserved c =
    rw c.from.ensures
    (fours-next c.args.digits.now c.loop-fours.fours.now c.loop-fours.value _ c.four_digits-four.result
    c.in-len4-up.len_at_least refl c.four_digits-four.ensures c.if-four-ge-NO_NIBBLE.false c.loop-fours.invariant)

pub returns-then-four-ge-NO_NIBBLE : goal.returns-then-four-ge-NO_NIBBLE
returns-then-four-ge-NO_NIBBLE c =
    no_four c.args.digits.now c.loop-fours.fours.now c.loop-fours.value c.four_digits-four.result
    c.in-len4-up.len_at_least c.four_digits-four.ensures c.if-four-ge-NO_NIBBLE.true c.loop-fours.invariant

pub overflow_mul-value : goal.overflow_mul-value
overflow_mul-value c =
    let room : (c.loop-fours.value + 1) * 65536 ≤ 2 ^ 64 =
    room_for_four c.in-len4-up.len_at_least c.loop-fours.invariant in
    omega arith

pub overflow_add-value : goal.overflow_add-value
overflow_add-value c =
    let room : (c.loop-fours.value + 1) * 65536 ≤ 2 ^ 64 =
    room_for_four c.in-len4-up.len_at_least c.loop-fours.invariant in
    omega arith

pub loop-rest-preserved : goal.loop-rest-preserved
loop-rest-preserved c =
    pairs-next c.args.digits.now c.loop-rest.rest.now c.loop-rest.value _ c.value_of_byte-high.result
    c.value_of_byte-low.result c.from-in-len2-up.result c.in-len2-up.len_at_least refl c.value_of_byte-high.ensures
    c.value_of_byte-low.ensures c.if-high-ge16.false c.if-low-ge16.false c.from-in-len2-up.ensures c.loop-rest.invariant

pub returns-then-high-ge16 : goal.returns-then-high-ge16
returns-then-high-ge16 c =
    elim c.then-high-ge16.branch [
      | then-high-ge16-via-then-high-ge16 w ↦
          no_first c.args.digits.now c.loop-rest.rest.now c.loop-rest.value c.value_of_byte-high.result
          c.in-len2-up.len_at_least c.value_of_byte-high.ensures w.if-high-ge16.true c.loop-rest.invariant
      | then-high-ge16-via-else-high-ge16+then-low-ge16 w ↦
          no_second c.args.digits.now c.loop-rest.rest.now c.loop-rest.value c.value_of_byte-low.result
          c.in-len2-up.len_at_least c.value_of_byte-low.ensures w.if-low-ge16.true c.loop-rest.invariant
    ]

pub overflow_mul-value-in-len2-up : goal.overflow_mul-value-in-len2-up
overflow_mul-value-in-len2-up c =
    let room : (c.loop-rest.value + 1) * 256 ≤ 2 ^ 64 =
    room_for_two c.in-len2-up.len_at_least c.loop-rest.invariant in
    omega arith

pub overflow_add-value-in-len2-up : goal.overflow_add-value-in-len2-up
overflow_add-value-in-len2-up c =
    let room : (c.loop-rest.value + 1) * 256 ≤ 2 ^ 64 =
    room_for_two c.in-len2-up.len_at_least c.loop-rest.invariant in
    omega arith

pub returns-in-len1 : goal.returns-in-len1
returns-in-len1 c =
    one_left c.args.digits.now c.loop-rest.rest.now c.loop-rest.value c.value_of_byte.result c.with_digit.result
    c.in-len1.len_at_least c.in-len1.len_below c.value_of_byte.ensures c.with_digit.ensures c.loop-rest.invariant

pub returns-in_default-rest-2 : goal.returns-in_default-rest-2
returns-in_default-rest-2 c =
    none_left c.args.digits.now c.loop-rest.rest.now c.loop-rest.value (omega arith) c.loop-rest.invariant
