use Rattle.std.proofs.Common.{◌≡◌, ◌≤◌, length}
use Rattle.image_text.specs.Tokens.{LineComment, uncommented}
use Rattle.image_text.proofs.tokens.after_line.Given as goal

abbrev pub invariant-loop-first : goal.invariant-loop-first
invariant-loop-first l = record {
  rest : uncommented LineComment l.comment ≡ uncommented LineComment l.rest;
  len : length l.rest ≤ length l.comment;
}

abbrev pub decreases-loop-first : goal.decreases-loop-first
decreases-loop-first l = length l.rest
