use Rattle.std.proofs.Common.{◌≡◌, ℕ, ◌<◌, get_or, length}
use Rattle.csr_file.specs.declared.stored_csr.TheConstants.{STORED_CSRS}
use Rattle.csr_file.specs.declared.stored_csr.StoredCsr.TheVariants.{Mstatus}
use Rattle.csr_file.specs.Profiles.{fixed_bits}
use Rattle.csr_file.specs.Table.{stored_csrs}
use Rattle.csr_file.proofs.csrs.fixed_values.Given as goal

-- the bits so far, in an array that keeps its length
abbrev pub invariant-loop-i : goal.invariant-loop-i
invariant-loop-i l = record {
  whole : length l.values ≡ STORED_CSRS;
  done : (k : ℕ) → k < l.i → get_or l.values k 0 ≡ fixed_bits l.profile (get_or stored_csrs k Mstatus);
}
