use Rattle.rvfi_rows.proofs.Among.{signals-next}
use Rattle.rvfi_rows.specs.Rows.{signals_of}
use Rattle.rvfi_rows.proofs.rows.known_signals.Goals as goal

pub loop-index-init : goal.loop-index-init
unfolding signals_of
loop-index-init c = λ signal among. absurd cc

pub loop-index-preserved : goal.loop-index-preserved
loop-index-preserved c =
    signals-next c.args.columns.now c.loop-index.index _ c.loop-index.signals.items c.put_signal.new.signals.items
    c.loop-index-test.true c.in_ok-put_signal.ensures.kept c.in_ok-put_signal.ensures.has c.loop-index.invariant
