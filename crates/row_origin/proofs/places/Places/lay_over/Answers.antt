use Rattle.std.proofs.Common.{◌∙◌, refl, sym, subst, arith, ap, length}
use Rattle.std.specs.Map.Iter.{deref_pair}
use Rattle.std.proofs.lemmas.Map.Iter.{rest_more}
use Rattle.row_origin.proofs.Laid.{AreApart, AreFound, all_laid, block_fits, first_found, none_laid, one_laid}
use Rattle.row_origin.proofs.Laid.{others_apart, others_found}
use Rattle.row_origin.proofs.Placed.{block_laid, found_at}
use Rattle.row_origin.proofs.places.Places.lay_over.Goals as goal

pub loop-number-init : goal.loop-number-init
loop-number-init c =
    let rest = c.into_iter-number-iterator.ensures.into_iter_gives ∙ c.iter-number-items.ensures.rest in
    record {
      can_go = tt;
      ends = tt;
      found = subst (AreFound c.args.later.now) (sym rest) c.iter-number-items.ensures.found;
      apart = subst AreApart (sym rest) c.iter-number-items.ensures.unique;
      room = omega (arith, ap length rest, c.requires.room);
      rows = none_laid c.args.later.now c.args.self.now c.args.self.now c.args.base _ rest (λ q p. refl);
    }

pub lay_over-requires : goal.lay_over-requires
lay_over-requires c =
    let first = rest_more deref_pair _ _ _ _ c.in-Some.is c.next.ensures.steps in
    block_fits c.args.later.now c.args.base c.in-Some.number.now c.in-Some.rows.now c.requires.fits
    (first_found c.args.later.now _ _ _ _ first c.loop-number.invariant.found)

pub put-requires : goal.put-requires
put-requires c =
    let first = rest_more deref_pair _ _ _ _ c.in-Some.is c.next.ensures.steps in
    omega (arith, ap length first, c.loop-number.invariant.room)

pub loop-number-preserved : goal.loop-number-preserved
loop-number-preserved c =
    let first = rest_more deref_pair _ _ _ _ c.in-Some.is c.next.ensures.steps in
    let found = first_found c.args.later.now _ _ _ _ first c.loop-number.invariant.found in
    record {
      can_go = tt;
      ends = tt;
      found = others_found c.args.later.now _ _ _ _ first c.loop-number.invariant.found;
      apart = others_apart _ _ _ _ first c.loop-number.invariant.apart;
      room = omega (arith, ap length first, c.loop-number.invariant.room, c.put.ensures.room);
      rows =
          one_laid c.args.later.now c.args.self.now c.loop-number.self c.put.new.self c.args.base
          c.in-Some.number.now c.in-Some.rows.now _ _ first c.loop-number.invariant.apart
          c.loop-number.invariant.rows
          (block_laid c.args.base c.args.later.now c.loop-number.self c.put.new.self c.in-Some.number.now
          c.in-Some.rows.now c.block-block.result c.lay_over.new.self
          (λ p. found_at c.args.later.now c.in-Some.number.now p _ found) c.block-block.ensures
          c.lay_over.ensures c.put.ensures.rows);
    }

pub returns : goal.returns
returns c =
    all_laid c.args.later.now c.args.self.now c.loop-number.self c.args.base c.loop-number.number-iterator
    c.in-None.ensures.steps.0 c.loop-number.invariant.rows
