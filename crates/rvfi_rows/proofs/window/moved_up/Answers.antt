use Rattle.std.proofs.Common.{arith}
use Rattle.hart_words.proofs.Powers.{seven_bytes}
use Rattle.rvfi_rows.proofs.window.moved_up.Goals as goal

pub pow-requires : goal.pow-requires
pow-requires c =
    let most = seven_bytes c.args.away (omega arith) in
    omega arith
