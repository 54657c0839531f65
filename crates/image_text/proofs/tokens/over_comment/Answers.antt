use Rattle.std.proofs.Common.{◌∙◌, ap, arith}
use Rattle.image_text.specs.Tokens.{runs}
use Rattle.image_text.proofs.TokenLemmas.{opens_long, opens_line_at, opens_block_at, opens_open_at}
use Rattle.image_text.proofs.tokens.over_comment.Goals as goal

pub split_at-requires : goal.split_at-requires
split_at-requires c = opens_long _ c.requires.opens

pub returns-then-rest-eq47 : goal.returns-then-rest-eq47
returns-then-rest-eq47 c =
    let split = c.split_at.ensures in
    let front = opens_line_at c.args.rest.line c.args.rest.text.now c.requires.opens c.if-rest-eq47.true in
    let following = rw split.back at c.after_line.ensures.rest in (
      front ∙ ap (runs c.args.rest.line) following,
      (
        omega (arith, split.back_len, c.after_line.ensures.len),
        omega (arith, split.back_len, c.after_line.ensures.len),
      ),
    )

pub returns-in-Some : goal.returns-in-Some
returns-in-Some c =
    let split = c.split_at.ensures in
    let block = c.in-Some.ensures in
    let front =
    opens_block_at c.args.rest.line c.args.rest.text.now c.requires.opens c.if-rest-eq47.false
    (rw split.back at block.0) in
    (front ∙ (rw split.back at block.1), (omega (arith, split.back_len, block.2), block.3))

pub returns-in-None : goal.returns-in-None
returns-in-None c =
    let split = c.split_at.ensures in
    let never = rw split.back at c.in-None.ensures in
    let front = opens_open_at c.args.rest.line c.args.rest.text.now c.requires.opens c.if-rest-eq47.false never in
    (rw split.front front, (omega (arith, split.back_len), omega arith))
