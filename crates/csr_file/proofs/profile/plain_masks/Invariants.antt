use Rattle.std.proofs.Common.{◌≡◌, ℕ, ◌<◌, get_or, length}
use Rattle.csr_file.specs.declared.stored_csr.TheConstants.{STORED_CSRS}
use Rattle.csr_file.specs.declared.stored_csr.StoredCsr.TheVariants.{Mstatus}
use Rattle.csr_file.specs.Profiles.{plain_mask}
use Rattle.csr_file.specs.Table.{stored_csrs}
use Rattle.csr_file.proofs.profile.plain_masks.Given as goal

-- the masks so far, in an array that keeps its length
abbrev pub invariant-loop-i : goal.invariant-loop-i
invariant-loop-i l = record {
  whole : length l.masks ≡ STORED_CSRS;
  done : (k : ℕ) → k < l.i → get_or l.masks k 0 ≡ plain_mask (get_or stored_csrs k Mstatus);
}
