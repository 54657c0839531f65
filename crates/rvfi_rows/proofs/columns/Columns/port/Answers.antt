use Rattle.std.proofs.Common.{◌≡◌, ◌<◌, ◌∙◌, ap, arith, length, subst, sym}
use Rattle.rvfi_rows.specs.Columns.{port_columns, ports_of}
use Rattle.rvfi_rows.specs.Placed.{placed_from}
use Rattle.rvfi_rows.proofs.PortRows.{known_at, known_many}
use Rattle.rvfi_rows.proofs.columns.Columns.port.Goals as goal

pub index-requires : goal.index-requires
index-requires c =
    let columns = c.self.inside.columns.items in
    let many : length c.self.inside.ports.items ≡ ports_of c.args.self.now.named =
    known_many c.self.inside.ports.items (ports_of columns) (λ port. placed_from 0 (port_columns port columns))
    c.self.invariant
    ∙ ap (λ columns. ports_of columns.named) c.self.view_is in
    omega (arith, c.requires, c.self.inside.ports.ok.0, many)

pub returns : goal.returns
returns c =
    let columns = c.self.inside.columns.items in
    let within : c.args.port < ports_of columns =
    subst (λ columns. c.args.port < ports_of columns.named) (sym c.self.view_is) c.requires in
    ap (λ known. known.placed.items) c.index.ensures
    ∙ known_at c.self.inside.ports.items (ports_of columns) (λ port. placed_from 0 (port_columns port columns))
    c.args.port c.index.result.now c.self.invariant within
    ∙ ap (λ columns. placed_from 0 (port_columns c.args.port columns.named)) c.self.view_is
