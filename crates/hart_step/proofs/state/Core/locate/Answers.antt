use Rattle.std.proofs.Common.{refl}
use Rattle.mem_access.specs.declared.place.Atomicity.TheVariants.{Plain, Reserved}
use Rattle.hart_step.proofs.Ways.{located_store}
use Rattle.hart_step.proofs.state.Core.locate.Goals as goal

pub returns-in-Store-clause-located : goal.returns-in-Store-clause-located
returns-in-Store-clause-located g c =
    located_store c.args.self.now c.args.request.now Plain c.in-Store.is refl c.found_without_value.ensures
    c.store_places.ensures.located

pub returns-in-StoreConditional-clause-located : goal.returns-in-StoreConditional-clause-located
returns-in-StoreConditional-clause-located g c =
    located_store c.args.self.now c.args.request.now Reserved c.in-StoreConditional.is refl
    c.found_without_value-in-StoreConditional.ensures c.store_places-in-StoreConditional.ensures.located
