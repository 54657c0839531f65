use Rattle.std.proofs.Common.{take}
use Rattle.csv_line.proofs.FirstLines.{plain_no_return, plain_is_shareable}
use Rattle.csv_line.proofs.first_line.plain_line.Goals as goal

pub ended_line-requires-clause-returns : goal.ended_line-requires-clause-returns
ended_line-requires-clause-returns c = plain_no_return (take c.args.end c.args.text.now) c.requires.plain

pub ended_line-requires-clause-shareable : goal.ended_line-requires-clause-shareable
ended_line-requires-clause-shareable c =
    λ yes. plain_is_shareable (take c.args.end c.args.text.now) c.requires.plain (c.is_unmarked-is_shared.ensures yes)
