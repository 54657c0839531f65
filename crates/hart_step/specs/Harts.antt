-- That the registers of a hart hold words.
use Rattle.std.specs.Prelude.{ℕ, ◌^◌, ◌<◌, All}
use Rattle.hart_words.specs.Registers.{register_of}
use Rattle.csr_file.specs.declared.stored_csr.StoredCsr.{StoredCsr}
use Rattle.csr_file.specs.Registers.{at}
use Rattle.hart_step.specs.declared.state.Core.{Core}

-- the registers of a hart hold words: so it is with every hart
pub record CoreHoldsWords (core : Core) : Type 0 where
  pub pc : core.pc < 2 ^ 64
  pub registers : (number : ℕ) → register_of core.registers number < 2 ^ 64
  pub csrs : (stored : StoredCsr) → at core.csrs stored < 2 ^ 64
  pub configurations : All (λ entry. entry.cfg < 2 ^ 8) core.csrs.entries
