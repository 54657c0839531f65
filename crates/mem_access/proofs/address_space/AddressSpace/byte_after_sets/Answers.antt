use Rattle.std.proofs.Common.{sym, ◌∙◌}
use Rattle.mem_access.proofs.Joined.{one_byte}
use Rattle.mem_access.proofs.address_space.AddressSpace.byte_after_sets.Goals as goal

pub returns-in-None : goal.returns-in-None
returns-in-None g c =
    let bytes = g.M.PhysMem.bytes c.args.self.now.mem.now in
    c.read.ensures.value ∙ sym (one_byte bytes c.args.pa) ∙ sym (c.in-None.ensures bytes)
