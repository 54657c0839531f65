use Rattle.std.proofs.Common.{◌≡◌, ℕ, ◌<◌, get_or, length}
use Rattle.csr_file.specs.Registers.{no_entry}
use Rattle.csr_file.specs.Values.{entry_after_write}
use Rattle.csr_file.proofs.csrs.Csrs.write_configurations.Given as goal

-- the entries so far, in an array that keeps its length
abbrev pub invariant-loop-i : goal.invariant-loop-i
invariant-loop-i l = record {
  whole : length l.written ≡ 16;
  done : (k : ℕ) → k < l.i → get_or l.written k no_entry ≡ entry_after_write l.fn.self l.fn.first l.fn.value k;
}
