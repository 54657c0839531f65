use Rattle.mem_access.proofs.Looks.{value_device, value_memory}
use Rattle.mem_access.proofs.address_space.AddressSpace.value_at.Goals as goal

pub returns-then-place-clause-value : goal.returns-then-place-clause-value
returns-then-place-clause-value g c = value_device c.args.place c.args.len c.if-place.true

pub returns-clause-value : goal.returns-clause-value
returns-clause-value g c =
    value_memory c.args.place c.args.len c.if-place.false c.number.ensures.value c.put.ensures
