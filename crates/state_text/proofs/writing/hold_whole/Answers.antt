use Rattle.std.proofs.Common.{subst}
use Rattle.std.proofs.lemmas.List.{take_all}
use Rattle.std.proofs.lemmas.List.Elements.{All-more}
use Rattle.state_text.specs.Laws.{IsWhole}
use Rattle.state_text.proofs.writing.hold_whole.Goals as goal

pub loop-core-preserved : goal.loop-core-preserved
loop-core-preserved c =
    All-more IsWhole c.args.cores.now c.loop-core.core-index c.core-item.result c.loop-core-test.true
    c.loop-core.invariant (subst IsWhole c.core-item.is c.hold_numbers.ensures)

pub returns : goal.returns
returns c =
    rw (take_all c.loop-core.core-index c.args.cores.now c.loop-core-test.false) at c.loop-core.invariant
