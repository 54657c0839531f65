use Rattle.mem_access.proofs.Unset.{unset-next}
use Rattle.mem_access.proofs.place.is_unset.Goals as goal

pub loop-entry-preserved : goal.loop-entry-preserved
loop-entry-preserved c =
    unset-next c.args.entries.now c.loop-entry.entry-index c.loop-entry.configured _ c.loop-entry-test.true
    c.loop-entry.invariant
