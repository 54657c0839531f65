use Rattle.std.proofs.Common.{◌∙◌, sym, arith}
use Rattle.image_text.proofs.TokenLemmas.{block_end, block_has, block_long, block_has_more, block_more, block_none}
use Rattle.image_text.proofs.tokens.after_block.Goals as goal

pub split_at-requires : goal.split_at-requires
split_at-requires c = block_long _ (sym c.closes_comment.ensures ∙ c.if-closes_comment.true)

pub loop-first-preserved : goal.loop-first-preserved
loop-first-preserved c =
    let split = c.in-Some.ensures.cases in
    let goes_on = rw split.0 at (sym c.closes_comment.ensures ∙ c.if-closes_comment.false) in
    record {
      kept = c.loop-first.invariant.kept ∙ rw (split.0, c.line_after.ensures.value) (block_more _ _ _ goes_on);
      closes = c.loop-first.invariant.closes ∙ rw split.0 (block_has_more _ _ goes_on);
      len = omega (arith, split.1);
      room = omega (arith, split.1, c.line_after.ensures.bound);
    }

pub returns-then-closes_comment : goal.returns-then-closes_comment
returns-then-closes_comment c =
    let closes = sym c.closes_comment.ensures ∙ c.if-closes_comment.true in
    let done = c.loop-first.invariant in
    let rest = c.split_at.ensures in (
      done.closes ∙ block_has _ closes,
      done.kept ∙ rw rest.back (block_end _ _ closes),
      omega (arith, rest.back_len),
      omega (arith, rest.back_len),
    )

pub returns : goal.returns
returns c = c.loop-first.invariant.closes ∙ block_none _ c.in_default.ensures.cases
