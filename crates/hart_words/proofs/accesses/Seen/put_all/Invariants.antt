use Rattle.std.proofs.Common.{◌≡◌, ◌++◌, take}
use Rattle.hart_words.proofs.accesses.Seen.put_all.Given as goal

abbrev pub invariant-loop-read : goal.invariant-loop-read
invariant-loop-read l = l.self ≡ l.fn.self ++ take l.read-index l.reads
