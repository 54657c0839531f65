use Rattle.std.proofs.Common.{◌∙◌, ◌++◌, ap}
use Rattle.state_text.proofs.Underway.{block_put}
use Rattle.state_text.proofs.writing.put_block.Goals as goal

pub returns-then-not-is_zero-clause-text : goal.returns-then-not-is_zero-clause-text
returns-then-not-is_zero-clause-text c =
    c.put.ensures.bytes ∙ ap (λ line. c.args.piece.now ++ line) (c.as_slice.ensures ∙ c.block_line.ensures.line
    ∙ block_put c.args.address _ _ c.is_zero.result c.block_at-bytes.ensures c.is_zero.ensures c.if-not-is_zero.true)
