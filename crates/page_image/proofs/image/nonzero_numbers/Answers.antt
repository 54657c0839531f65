use Rattle.std.proofs.Common.{Some, ◌≡◌, ◌∙◌, true, ap, inl, inr, sym}
use Rattle.std.specs.Prelude.{nat_eq}
use Rattle.std.specs.HashMap.{get}
use Rattle.std.specs.Map.Iter.{deref_pair}
use Rattle.std.proofs.lemmas.Map.Iter.{rest_more}
use Rattle.page_image.specs.PageNumbers.{has_number}
use Rattle.page_image.specs.Pages.{IsNonzero, page_at, page_of}
use Rattle.page_image.proofs.Entries.{entry_done, first_entry, later_entries}
use Rattle.page_image.proofs.NextPages.{Adds, IsTested, added_here, added_sound, added_still, tested_nonzero, tested_zero}
use Rattle.page_image.proofs.image.nonzero_numbers.Goals as goal

pub loop-number-preserved-in-Continue-1 : goal.loop-number-preserved-in-Continue-1
loop-number-preserved-in-Continue-1 c =
    let pages = c.args.pages.now in
    let first = rest_more deref_pair _ _ _ _ c.in-Some.is c.next.ensures.steps in
    let kept = first_entry (get nat_eq pages) first c.loop-number.invariant.found in
    let test : IsTested pages c.in-Some.number.now c.page.result.now c.is_zero.result =
    record { kept = ap page_of kept ∙ ap Some (sym c.page.ensures); decides = c.is_zero.ensures } in
    let put : Adds c.loop-number.nonzero c.add.new.self c.in-Some.number.now = record { adds = c.in_ok-add.ensures.ok } in
    record {
      can_go = tt;
      ends = tt;
      found = later_entries (get nat_eq pages) first c.loop-number.invariant.found;
      sound = added_sound (λ q. IsNonzero (page_at pages q)) put (tested_nonzero test c.if-not-is_zero.true)
          c.loop-number.invariant.sound;
      done = λ q. entry_done (λ q. IsNonzero (page_at pages q) → has_number c.add.new.self q ≡ true) first
          (λ _. added_here put) q
          (elim (c.loop-number.invariant.done q) [
            | inl left ↦ inl left
            | inr was ↦ inr (λ nonzero. added_still put q (was nonzero))
          ]);
    }

pub loop-number-preserved : goal.loop-number-preserved
loop-number-preserved c =
    let pages = c.args.pages.now in
    let first = rest_more deref_pair _ _ _ _ c.in-Some.is c.next.ensures.steps in
    let kept = first_entry (get nat_eq pages) first c.loop-number.invariant.found in
    let test : IsTested pages c.in-Some.number.now c.page.result.now c.is_zero.result =
    record { kept = ap page_of kept ∙ ap Some (sym c.page.ensures); decides = c.is_zero.ensures } in
    record {
      can_go = tt;
      ends = tt;
      found = later_entries (get nat_eq pages) first c.loop-number.invariant.found;
      sound = c.loop-number.invariant.sound;
      done = λ n. entry_done (λ q. IsNonzero (page_at pages q) → has_number c.loop-number.nonzero q ≡ true) first
          (λ nonzero. absurd (tested_zero test c.if-not-is_zero.false nonzero)) n (c.loop-number.invariant.done n);
    }
