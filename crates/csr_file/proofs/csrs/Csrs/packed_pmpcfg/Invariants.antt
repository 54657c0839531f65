use Rattle.std.proofs.Common.{◌≡◌, ℕ, ◌+◌, ◌<◌, get_or, length}
use Rattle.csr_file.specs.Values.{configuration_of}
use Rattle.csr_file.proofs.csrs.Csrs.packed_pmpcfg.Given as goal

-- the configurations so far, in an array that keeps its length
abbrev pub invariant-loop-i : goal.invariant-loop-i
invariant-loop-i l = record {
  whole : length l.bytes ≡ 8;
  done : (k : ℕ) → k < l.i → get_or l.bytes k 0 ≡ configuration_of l.self (l.first + k);
}
