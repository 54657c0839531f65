use Rattle.std.proofs.Common.{◌≡◌, ◌+◌, ◌<◌, ◌^◌, ◌≤◌, length}
use Rattle.image_text.specs.Tokens.{has_close, BlockComment, tokens_from}
use Rattle.image_text.proofs.tokens.after_block.Given as goal

abbrev pub invariant-loop-first : goal.invariant-loop-first
invariant-loop-first l = record {
  kept : tokens_from l.line BlockComment l.comment ≡ tokens_from l.rest.line BlockComment l.rest.text.now;
  closes : has_close l.comment ≡ has_close l.rest.text.now;
  len : length l.rest.text.now ≤ length l.comment;
  room : l.rest.line + length l.rest.text.now < 2 ^ 64;
}

abbrev pub decreases-loop-first : goal.decreases-loop-first
decreases-loop-first l = length l.rest.text.now
