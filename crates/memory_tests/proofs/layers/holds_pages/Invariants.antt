use Rattle.std.proofs.Common.{◌≡◌, ◌%◌}
use Rattle.memory_tests.proofs.layers.holds_pages.Given as goal

-- the next address is one of a page
abbrev pub invariant-loop-page : goal.invariant-loop-page
invariant-loop-page g l = l.from % 4096 ≡ 0
