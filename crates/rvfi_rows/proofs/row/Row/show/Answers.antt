use Rattle.std.proofs.Common.{refl}
use Rattle.rvfi_rows.proofs.ShownBits.{by_its_bits}
use Rattle.rvfi_rows.proofs.row.Row.show.Goals as goal

pub returns : goal.returns
returns c = by_its_bits _ c.args.shown c.args.self.now.values refl refl
