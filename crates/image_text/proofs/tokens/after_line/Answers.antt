use Rattle.std.proofs.Common.{◌∙◌, arith}
use Rattle.image_text.proofs.TokenLemmas.{line_more, line_end, line_none}
use Rattle.image_text.proofs.tokens.after_line.Goals as goal

pub loop-first-preserved : goal.loop-first-preserved
loop-first-preserved c =
    let split = c.in-Some.ensures.cases in
    record {
      rest =
          c.loop-first.invariant.rest ∙ rw split.0 (line_more _ _ c.if-first-eq10.false);
      len = omega (arith, split.1);
    }

pub returns-then-first-eq10-clause-rest : goal.returns-then-first-eq10-clause-rest
returns-then-first-eq10-clause-rest c =
    let split = c.in-Some.ensures.cases in
    c.loop-first.invariant.rest ∙ rw (split.0, c.if-first-eq10.true) (line_end _)

pub returns-in_default-clause-rest : goal.returns-in_default-clause-rest
returns-in_default-clause-rest c = c.loop-first.invariant.rest ∙ line_none _ c.in_default.ensures.cases
