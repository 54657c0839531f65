use Rattle.std.proofs.Common.{◌<◌, ◌^◌, All, take}
use Rattle.hart_step.proofs.words.are_words.Given as goal

-- the values so far are words
abbrev pub invariant-loop-value : goal.invariant-loop-value
invariant-loop-value l = All (λ value. value < 2 ^ 64) (take l.value-index l.values)
