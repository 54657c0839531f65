use Rattle.std.proofs.Common.{◌∙◌, sym, arith}
use Rattle.image_text.proofs.TokenLemmas.{run_none, run_ends_blank, run_ends_opens, run_more}
use Rattle.image_text.proofs.tokens.run_length.Goals as goal

pub loop-first-preserved : goal.loop-first-preserved
loop-first-preserved c =
    let split = c.in-Some.ensures.cases in
    let blank = sym c.is_blank_byte.ensures ∙ c.if-is_blank_byte.false in
    let opens = rw split.0 at (sym c.begins_comment.ensures ∙ c.if-begins_comment.false) in
    let more = run_more c.in-Some.first.now c.in-Some.after.now blank opens in
    let counted = rw (split.0, more) at c.loop-first.invariant.counted in
    record { counted = omega (arith, counted); within = omega (arith, split.1) }

pub returns-then-is_blank_byte-clause-value : goal.returns-then-is_blank_byte-clause-value
returns-then-is_blank_byte-clause-value c =
    let ends =
    run_ends_blank c.in-Some.first.now c.in-Some.after.now
    (sym c.is_blank_byte.ensures ∙ c.if-is_blank_byte.true) in
    let counted = rw (c.in-Some.ensures.cases.0, ends) at c.loop-first.invariant.counted in
    omega (arith, counted)

pub returns-then-begins_comment-clause-value : goal.returns-then-begins_comment-clause-value
returns-then-begins_comment-clause-value c =
    let blank = sym c.is_blank_byte.ensures ∙ c.if-is_blank_byte.false in
    let opens = rw c.in-Some.ensures.cases.0 at (sym c.begins_comment.ensures ∙ c.if-begins_comment.true) in
    let ends = run_ends_opens c.in-Some.first.now c.in-Some.after.now blank opens in
    let counted = rw (c.in-Some.ensures.cases.0, ends) at c.loop-first.invariant.counted in
    omega (arith, counted)

pub returns-clause-value : goal.returns-clause-value
returns-clause-value c =
    let none = run_none c.loop-first.rest.now c.in_default.ensures.cases in
    omega (arith, none, c.loop-first.invariant.counted)
