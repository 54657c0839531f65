use Rattle.std.proofs.Common.{ap, sym, ◌∙◌, refl, ◌&&◌}
use Rattle.std.specs.Prelude.{nat_le, nat_lt}
use Rattle.std.specs.Option.{option_copied_mut}
use Rattle.row_origin.specs.declared.places.Places.{Places}
use Rattle.row_origin.proofs.Placed.{block_filled, block_put, found_at}
use Rattle.row_origin.proofs.places.Places.fill_known.Goals as goal

pub returns-in-Some-clause-filled : goal.returns-in-Some-clause-filled
returns-in-Some-clause-filled c = λ known.
    let found = sym c.get_mut.ensures.value ∙ ap option_copied_mut c.in-Some.is in
    let updates = (c.get_mut.follows.holds c.fill.new.self).3 (rw found refl) in
    let after : Places = record { blocks = c.get_mut.follows.lender c.fill.new.self } in
    λ q place. block_filled c.args.self.now after c.args.number c.args.row q place c.in-Some.block.now c.fill.new.self
    (λ p. nat_le c.args.from p && nat_lt p c.args.to)
    (λ p. found_at c.args.self.now c.args.number p _ found) c.fill.ensures
    (block_put c.args.self.now after c.args.number c.fill.new.self updates.0)

pub returns-in-None-clause-absent : goal.returns-in-None-clause-absent
returns-in-None-clause-absent c = λ known place.
    sym
    (found_at c.args.self.now c.args.number place _ (sym c.get_mut.ensures.value ∙ ap option_copied_mut c.in-None.is))
