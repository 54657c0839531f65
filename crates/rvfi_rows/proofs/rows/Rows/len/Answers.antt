use Rattle.std.proofs.Common.{◌≡◌, ◌∙◌, length, rules, sym}
use Rattle.rvfi_rows.proofs.KeptRows.{kept-length}
use Rattle.rvfi_rows.proofs.rows.Rows.len.Goals as goal

pub returns-clause-count : goal.returns-clause-count
returns-clause-count c =
    let as_many : c.len.result ≡ length c.args.self.now.rows.items = search rules in
    as_many ∙ sym (kept-length c.args.self.now.signals.items c.args.self.now.rows.items c.args.self.now.values.items)
