use Rattle.std.proofs.Common.{rules}
use Rattle.judge_words.proofs.Spans.{span_in-no_colon}
use Rattle.judge_words.proofs.values.read_span.Goals as goal

pub returns-in_err-base : goal.returns-in_err-base
returns-in_err-base c = let none = span_in-no_colon c.args.text.now (search rules) in search (rules, none)
