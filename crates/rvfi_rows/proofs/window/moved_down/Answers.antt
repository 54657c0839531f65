use Rattle.std.proofs.Common.{arith}
use Rattle.hart_words.proofs.Powers.{eight_bytes, some_bytes}
use Rattle.rvfi_rows.proofs.window.moved_down.Goals as goal

pub pow-requires : goal.pow-requires
pow-requires c =
    let most = eight_bytes c.args.away (omega arith) in
    omega arith

pub nonzero_div-result : goal.nonzero_div-result
nonzero_div-result c =
    let least = some_bytes c.args.away in
    omega arith
