use Rattle.std.proofs.Common.{◌≡◌, ◌++◌, take}
use Rattle.hart_words.proofs.accesses.Wrote.put_all.Given as goal

abbrev pub invariant-loop-write : goal.invariant-loop-write
invariant-loop-write l = l.self ≡ l.fn.self ++ take l.write-index l.writes
