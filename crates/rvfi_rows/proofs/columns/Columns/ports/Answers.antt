use Rattle.std.proofs.Common.{◌∙◌, ap, arith}
use Rattle.rvfi_rows.specs.Columns.{port_columns, ports_of}
use Rattle.rvfi_rows.specs.Placed.{placed_from}
use Rattle.rvfi_rows.proofs.PortRows.{highest_below, known_many}
use Rattle.rvfi_rows.proofs.columns.Columns.ports.Goals as goal

pub returns-clause-number : goal.returns-clause-number
returns-clause-number c =
    let columns = c.self.inside.columns.items in
    c.len.ensures ∙ c.self.inside.ports.ok.0
    ∙ known_many c.self.inside.ports.items (ports_of columns) (λ port. placed_from 0 (port_columns port columns))
    c.self.invariant
    ∙ ap (λ columns. ports_of columns.named) c.self.view_is

pub returns-clause-at_most_4 : goal.returns-clause-at_most_4
returns-clause-at_most_4 c = omega (arith, returns-clause-number c, highest_below c.args.self.now.named)

pub overflow_cast-result : goal.overflow_cast-result
overflow_cast-result c = omega (arith, returns-clause-number c, highest_below c.args.self.now.named)
