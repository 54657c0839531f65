use Rattle.std.proofs.Common.{arith, sym}
use Rattle.std.proofs.lemmas.Fmt.{decimal_digit}
use Rattle.state_text.proofs.line.numeral_of.Goals as goal

pub returns : goal.returns
returns c = sym (decimal_digit c.args.harts (omega (arith, c.requires)))
