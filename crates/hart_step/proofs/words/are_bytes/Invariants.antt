use Rattle.std.proofs.Common.{◌<◌, ◌^◌, All, take}
use Rattle.hart_step.proofs.words.are_bytes.Given as goal

-- the configurations so far are bytes
abbrev pub invariant-loop-entry : goal.invariant-loop-entry
invariant-loop-entry l = All (λ entry. entry.cfg < 2 ^ 8) (take l.entry-index l.entries)
