use Rattle.std.proofs.Common.{ℕ, ◌+◌, ◌^◌, ◌<◌, ◌≤◌, List, length}
use Rattle.std.specs.Prelude.{Result}
use Rattle.hart_words.specs.declared.accesses.Read.{Read}
use Rattle.hart_words.specs.declared.accesses.Write.{Write}
use Rattle.hart_words.specs.declared.privilege.Cause.{Cause}
use Rattle.hart_words.specs.Actions.{Notes}
use Rattle.sv39_walk.specs.Walk.{walk_for}
use Rattle.sv39_walk.proofs.walk.walk.Given as goal

-- what the walk from the present table notes, after what was noted, the whole walk notes
abbrev pub invariant-loop-bits : goal.invariant-loop-bits
invariant-loop-bits g l = record {
  levels : l.table.level ≤ 2;
  bound : l.table.number < 2 ^ 44;
  reads : length l.seen + l.table.level ≤ length l.fn.seen + l.fn.first.level;
  sets : length l.sets < 4;
  walk :
      (value : Result ℕ Cause) (s1 : List Read) (w1 : List Write)
      → Notes
      (walk_for (g.W.WalkMem.is_readable l.fn.w) (g.W.WalkMem.is_settable l.fn.w) l.fn.request l.table)
      value l.seen s1 l.sets w1 (g.W.WalkMem.bytes l.fn.w)
      → Notes
      (walk_for (g.W.WalkMem.is_readable l.fn.w) (g.W.WalkMem.is_settable l.fn.w) l.fn.request l.fn.first)
      value l.fn.seen s1 l.fn.sets w1 (g.W.WalkMem.bytes l.fn.w);
}

abbrev pub decreases-loop-bits : goal.decreases-loop-bits
decreases-loop-bits g l = l.table.level
