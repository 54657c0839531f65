use Rattle.std.proofs.Common.{rules, Some, ◌≡◌, ◌∙◌, refl, nat_cmp}
use Rattle.std.specs.Prelude.{nat_eq}
use Rattle.std.specs.BTreeMap as tree
use Rattle.std.specs.HashMap.{get}
use Rattle.std.specs.Map.{lookup}
use Rattle.std.specs.Map.Iter.{deref_pair}
use Rattle.std.proofs.lemmas.Cmp.{nat_cmp_total}
use Rattle.std.proofs.lemmas.Map.Iter.{rest_more, btree_map_turn}
use Rattle.page_image.proofs.Filling.{IsMade, one_more, all_made, page_byte, piece_byte}
use Rattle.page_image.proofs.image.PageImage.pages_of.Goals as goal

pub loop-number-preserved-in_ok-insert : goal.loop-number-preserved-in_ok-insert
loop-number-preserved-in_ok-insert c =
    let same : c.into_iter-number-iterator.result ≡ c.iter-number-items.result = search rules in
    let start = same ∙ c.iter-number-items.ensures.rest in
    let ordered = c.iter-number-items.ensures.ordered in
    let first = rest_more deref_pair _ _ _ _ c.in-Some.is c.next.ensures.steps in
    let turn =
    btree_map_turn deref_pair c.loop-number.yielded c.into_iter-number-iterator.result
    c.loop-number.number-iterator c.next.new.self c.next.result (c.in-Some.number, c.in-Some.page)
    c.loop-number.yielded_by c.in-Some.is c.next.ensures.steps {R = nat_cmp} nat_cmp_total c.pages.result.now start
    ordered in
    let found : tree.get nat_cmp c.args.pieces.now.pages c.in-Some.number.now ≡ Some c.in-Some.page.now =
    rw (← c.pages.ensures) turn.1 in
    let made : IsMade (get nat_eq c.loop-number.pages) (get nat_eq c.insert.new.self)
    (λ q. lookup (tree.is_at (nat_cmp q)) c.loop-number.number-iterator)
    (λ q. lookup (tree.is_at (nat_cmp q)) c.next.new.self) (tree.get nat_cmp c.args.pieces.now.pages)
    c.in-Some.number.now c.in_ok-of.field-0 c.in-Some.page.now =
    record { put = c.in_ok-insert.ensures.updates.0; taken = λ q. rw first refl; found = found } in
    λ q k below. one_more page_byte piece_byte k made
    (rw (c.in_ok-of.ensures, c.of-page.ensures) (rw c.deref.ensures at (c.plain.ensures.value k below)))
    (λ q. c.loop-number.invariant q k below) q

pub returns : goal.returns
returns c =
    all_made c.loop-number.pages c.args.pieces.now (λ q k below. rw c.in-None.ensures.steps.0 at (c.loop-number.invariant q k below))
