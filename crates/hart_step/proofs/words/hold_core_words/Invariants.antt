use Rattle.std.proofs.Common.{All, take}
use Rattle.hart_step.specs.Harts.{CoreHoldsWords}
use Rattle.hart_step.proofs.words.hold_core_words.Given as goal

-- the registers of the harts so far hold words
abbrev pub invariant-loop-core : goal.invariant-loop-core
invariant-loop-core l = All CoreHoldsWords (take l.core-index l.cores)
