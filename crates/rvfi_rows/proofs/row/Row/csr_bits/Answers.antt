use Rattle.std.proofs.lemmas.Nat.{shr_below}
use Rattle.rvfi_rows.proofs.CsrBits.{has_csr_bits}
use Rattle.rvfi_rows.proofs.row.Row.csr_bits.Goals as goal

pub returns : goal.returns
returns c =
    let row = c.args.self.now in
    record { bits = has_csr_bits row; no_others = shr_below row.shown 88 23 row.within }
