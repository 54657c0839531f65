use Rattle.std.proofs.Common.{◌∙◌, ap, get_or}
use Rattle.rv_compressed.specs.declared.patterns.TheConstants.{FIRST_ROWS}
use Rattle.rv_compressed.proofs.Groups.{first_small, same_expansion}
use Rattle.rv_compressed.proofs.patterns.first_row.Goals as goal

pub returns-clause-small : goal.returns-clause-small
returns-clause-small c = rw c.from-2.ensures (first_small c.from.result)

pub returns-clause-passed : goal.returns-clause-passed
returns-clause-passed c =
    same_expansion c.args.parcel c.from-2.result
    (c.from-2.ensures ∙ ap (λ place. get_or FIRST_ROWS place 0) c.from.ensures)
