use Rattle.std.proofs.Common.{All, take}
use Rattle.state_text.specs.Laws.{IsWhole}
use Rattle.state_text.proofs.writing.hold_whole.Given as goal

abbrev pub invariant-loop-core : goal.invariant-loop-core
invariant-loop-core l = All IsWhole (take l.core-index l.cores)
