use Rattle.std.proofs.Common.{[], ◌∷◌, Some, refl, lit<}
use Rattle.row_origin.specs.Trails.{Trail, facts_of}
use Rattle.row_origin.proofs.LastOf.{count_on}
use Rattle.segment_tests.proofs.origins.later_rows.Goals as goal

pub returns : goal.returns
returns c =
    let trail : Trail = Some (facts_of c.sum.result 0) ∷ Some (facts_of c.sum-2.result 1)
    ∷ Some (facts_of c.store.result 0) ∷ [] in
    count_on c.add-3.new.self trail 3
    (c.in_ok-add-3.ensures.ok _
    (c.in_ok-add-2.ensures.ok _ (c.in_ok-add.ensures.ok [] c.empty-last.ensures refl) refl) refl)
    (lit< tt)
