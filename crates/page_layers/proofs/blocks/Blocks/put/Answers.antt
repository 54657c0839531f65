use Rattle.std.proofs.Common.{◌/◌, ◌^◌, ◌<◌, ◌∙◌, arith, sym, ap, refl, is_some}
use Rattle.std.specs.Option.{option_copied_mut}
use Rattle.page_layers.specs.Blocks.{block_at}
use Rattle.page_layers.proofs.BlockMaps.{SetsBlock, block_set, found_there, none_there, number_put, numbers_stay}
use Rattle.page_layers.proofs.blocks.Blocks.put.Goals as goal

pub returns-in-Some-clause-was_there : goal.returns-in-Some-clause-was_there
returns-in-Some-clause-was_there c =
    let found = sym c.get_mut.ensures.value ∙ ap option_copied_mut c.in-Some.is in
    sym (ap is_some (found_there c.args.self.now (c.args.pa / 64) _ (omega (arith, c.ranges.pa.fits)) found))

pub returns-in-Some-clause-stays : goal.returns-in-Some-clause-stays
returns-in-Some-clause-stays c =
    let found = sym c.get_mut.ensures.value ∙ ap option_copied_mut c.in-Some.is in
    let small : c.args.pa / 64 < 2 ^ 64 = omega (arith, c.ranges.pa.fits) in
    let updates = (c.get_mut.follows.holds c.put.new.self).3 (rw found refl) in
    numbers_stay c.args.self.now _ (c.args.pa / 64) _ c.put.new.self
    (found_there c.args.self.now (c.args.pa / 64) _ small found)
    (block_set c.args.self.now _ (c.args.pa / 64) c.put.new.self small updates.0)

pub returns-in-Some-clause-bytes : goal.returns-in-Some-clause-bytes
returns-in-Some-clause-bytes c = λ base.
    let found = sym c.get_mut.ensures.value ∙ ap option_copied_mut c.in-Some.is in
    let small : c.args.pa / 64 < 2 ^ 64 = omega (arith, c.ranges.pa.fits) in
    let updates = (c.get_mut.follows.holds c.put.new.self).3 (rw found refl) in
    let set : SetsBlock (block_at c.args.self.now) _ (c.args.pa / 64) c.put.new.self =
    record { sets = block_set c.args.self.now _ (c.args.pa / 64) c.put.new.self small updates.0 } in
    number_put base c.args.pa c.args.len c.args.value c.requires.block set
    (found_there c.args.self.now (c.args.pa / 64) _ small found) c.put.ensures

pub returns-in-None-clause-was_there : goal.returns-in-None-clause-was_there
returns-in-None-clause-was_there c =
    let found = sym c.get_mut.ensures.value ∙ ap option_copied_mut c.in-None.is in
    sym (ap is_some (none_there c.args.self.now (c.args.pa / 64) (omega (arith, c.ranges.pa.fits)) found))
