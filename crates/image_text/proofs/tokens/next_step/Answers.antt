use Rattle.std.proofs.Common.{◌∙◌, sym, arith}
use Rattle.image_text.proofs.TokenLemmas.{plain_none, blank_step, run_tokens, run_more}
use Rattle.image_text.proofs.tokens.next_step.Goals as goal

pub returns-in_default : goal.returns-in_default
returns-in_default c = plain_none _ _ c.in_default.ensures.cases

pub returns-then-is_blank_byte : goal.returns-then-is_blank_byte
returns-then-is_blank_byte c =
    let split = c.in-Some.ensures.cases in
    let blank = sym c.is_blank_byte.ensures ∙ c.if-is_blank_byte.true in
    let line = c.line_after.ensures in (
      rw (split.0, line.value) (blank_step c.args.rest.line c.in-Some.first.now c.in-Some.after.now blank),
      (omega (arith, split.1), omega (arith, split.1, line.bound)),
    )

pub returns : goal.returns
returns c =
    let first = c.in-Some.ensures.cases in
    let split = c.split_at.ensures in
    let blank = sym c.is_blank_byte.ensures ∙ c.if-is_blank_byte.false in
    let opens = rw first.0 at (sym c.begins_comment.ensures ∙ c.if-begins_comment.false) in
    let run = run_tokens c.args.rest.line c.in-Some.first.now c.in-Some.after.now blank opens in
    let more = run_more c.in-Some.first.now c.in-Some.after.now blank opens in
    let count = rw first.0 at c.run_length.ensures.value in (
      rw (split.front, split.back, count, first.0) run,
      (omega (arith, split.back_len, more, count), omega (arith, split.back_len)),
    )
