use Rattle.std.proofs.Common.{◌≡◌}
use Rattle.rvfi_rows.proofs.segments.reuse_rows.Given as goal

-- no segment changes
abbrev pub invariant-loop-index : goal.invariant-loop-index
invariant-loop-index l = l.segments ≡ l.initial.segments
