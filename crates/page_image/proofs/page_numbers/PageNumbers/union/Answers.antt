use Rattle.std.proofs.Common.{◌∙◌, ap, nat_cmp}
use Rattle.std.specs.Prelude.{◌||◌}
use Rattle.std.specs.BTreeMap.{is_at}
use Rattle.std.specs.List.{list_any}
use Rattle.std.specs.Map.Iter.{deref}
use Rattle.std.proofs.lemmas.Map.Iter.{rest_more}
use Rattle.page_image.specs.PageNumbers.{has_number}
use Rattle.page_image.proofs.Numbers.{one_more}
use Rattle.page_image.proofs.page_numbers.PageNumbers.union.Goals as goal

pub loop-number-init : goal.loop-number-init
unfolding has_number
loop-number-init c =
    let keys = c.into_iter-number-iterator.ensures.into_iter_gives ∙ c.iter-number-items.ensures.rest in
    record {
      can_go = tt;
      ends = tt;
      added = λ q. ap (λ numbers. list_any (is_at (nat_cmp q)) numbers || has_number c.in_ok-all.all q) keys
          ∙ ap (λ b. has_number c.args.self.now q || b) (c.in_ok-all.ensures q);
    }

pub loop-number-preserved : goal.loop-number-preserved
loop-number-preserved c =
    let first = rest_more deref _ _ _ _ c.in-Some.is c.next.ensures.steps in
    record {
      can_go = tt;
      ends = tt;
      added = one_more _ _ _ _ _ _ c.in_ok-add.ensures.ok first c.loop-number.invariant.added;
    }
