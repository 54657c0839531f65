use Rattle.mem_access.proofs.address_space.AddressSpace.+number_after_sets.Given as goal

abbrev pub decreases-number_after_sets : goal.decreases-number_after_sets
decreases-number_after_sets g l = l.len
