use Rattle.std.proofs.Common.{rules, refl, sym, ◌∙◌}
use Rattle.image_text.specs.Bytes.{has_page}
use Rattle.image_text.proofs.Pages.{unchanged, added_page, none_at, none_from_test}
use Rattle.image_text.proofs.pieces.Pieces.ready.Goals as goal

pub returns-then-contains_key-clause-ready : goal.returns-then-contains_key-clause-ready
unfolding has_page
returns-then-contains_key-clause-ready c = search rules

pub returns-in_err-page-clause-same : goal.returns-in_err-page-clause-same
returns-in_err-page-clause-same c = refl

pub returns-in_err-insert-clause-same : goal.returns-in_err-insert-clause-same
returns-in_err-insert-clause-same c = unchanged _ _ c.in_err-insert.ensures.err

pub returns-clause-same : goal.returns-clause-same
returns-clause-same c =
    let absent = none_from_test _ (sym c.contains_key.ensures ∙ c.if-contains_key.false) in
    let empty = c.in_ok-page.ensures.ok in
    added_page _ _ c.args.number c.in_ok-page.page c.in_ok-insert.ensures.updates.0 absent
    (λ k. rw empty (none_at _ 4096 k))

pub returns-clause-ready : goal.returns-clause-ready
unfolding has_page
returns-clause-ready c = rw c.in_ok-insert.ensures.updates.1 refl
