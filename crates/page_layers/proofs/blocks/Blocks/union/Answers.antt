use Rattle.std.proofs.Common.{◌∙◌, inl, inr, sym, subst}
use Rattle.std.specs.Map.Iter.{deref_pair}
use Rattle.std.proofs.lemmas.Map.Iter.{rest_more}
use Rattle.page_layers.proofs.BlockMaps.{AreFound, IsMerged, entries_done, entry_done, first_found, later_found}
use Rattle.page_layers.proofs.BlockMaps.{SetsBlock, merge_begins, merged_here, merged_still}
use Rattle.page_layers.specs.Blocks.{block_at}
use Rattle.page_layers.proofs.blocks.Blocks.union.Goals as goal

pub loop-number-init : goal.loop-number-init
loop-number-init c =
    let rest = c.into_iter-number-iterator.ensures.into_iter_gives ∙ c.iter-number-items.ensures.rest in
    record {
      can_go = tt;
      ends = tt;
      found = subst (AreFound c.args.self.now) (sym rest) c.iter-number-items.ensures.found;
      done =
          merge_begins c.args.self.now c.args.others.now c.reserve.new.self c.into_iter-number-iterator.result rest
          (c.reserve.ensures ∙ c.in_ok-all.ensures.cases);
    }

pub loop-number-preserved : goal.loop-number-preserved
loop-number-preserved c =
    let first = rest_more deref_pair _ _ _ _ c.in-Some.is c.next.ensures.steps in
    let found = first_found c.args.self.now _ _ _ _ first c.loop-number.invariant.found in
    let set : SetsBlock (block_at c.loop-number.all) (block_at c.set.new.self) c.in-Some.number.now
    c.in-Some.block.now = record { sets = c.in_ok-set.ensures.ok } in
    let here = merged_here c.args.self.now c.args.others.now c.loop-number.all c.set.new.self found set in
    record {
      can_go = tt;
      ends = tt;
      found = later_found c.args.self.now _ _ _ _ first c.loop-number.invariant.found;
      done =
          λ q. entry_done (IsMerged c.args.self.now c.args.others.now c.set.new.self) first here q
          (elim (c.loop-number.invariant.done q) [
            | inl left ↦ inl left
            | inr was ↦
                inr
                (merged_still c.args.self.now c.args.others.now c.loop-number.all c.set.new.self set here q was)
          ]);
    }

pub returns : goal.returns
returns c =
    λ number. entries_done (IsMerged c.args.self.now c.args.others.now c.loop-number.all)
    c.loop-number.number-iterator c.in-None.ensures.steps.0 number (c.loop-number.invariant.done number)
