use Rattle.std.proofs.Common.{◌≡◌, ◌==◌, take}
use Rattle.std.specs.List.{list_all}
use Rattle.mem_access.proofs.place.is_unset.Given as goal

-- no bit was met so far where none of the entries so far is configured
abbrev pub invariant-loop-entry : goal.invariant-loop-entry
invariant-loop-entry l = (l.configured == 0) ≡ list_all (λ entry. entry.cfg == 0) (take l.entry-index l.entries)
