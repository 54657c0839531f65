use Rattle.std.proofs.Common.{◌≡◌, ◌∙◌, ◌++◌, ◌∷◌, [], List, ap, map, refl, ℕ}
use Rattle.std.specs.Prelude.{slice_index}
use Rattle.rvfi_rows.proofs.Values.{places_below, values_there}
use Rattle.rvfi_rows.specs.Cells.{values_at}
use Rattle.rvfi_rows.proofs.KeptRows.{IsPushed, full_more, kept_more, theirs_more}
use Rattle.rvfi_rows.proofs.rows.Rows.push.Goals as goal

pub invariant_of-self-2 : goal.invariant_of-self-2
invariant_of-self-2 c =
    let before = c.args.self.now in
    let values = values_at c.args.row.now.values before.signals.items in
    let rows_are : c.push_reserved.new.self.items ≡ before.rows.items ++ c.args.kept ∷ [] =
    c.push_reserved.ensures.items ∙ ap (λ rows. rows ++ c.args.kept ∷ []) c.in_ok-reserve-2.ensures.items in
    let values_are : c.put_values.new.values.items ≡ before.values.items ++ values =
    (rw c.deref.ensures.value at c.put_values.ensures)
    ∙ ap (λ (list : List ℕ). list ++ map (λ place. slice_index c.args.row.now.values place) before.places.items)
    c.in_ok-reserve.ensures.items
    ∙ ap (λ (more : List ℕ). before.values.items ++ more)
    (values_there before.places.items c.args.row.now.values before.signals.items before.placed) in
    let pushed : IsPushed before.signals.items before.rows.items c.push_reserved.new.self.items before.values.items
    c.put_values.new.values.items c.args.row.now.values c.args.kept =
    record { rows_are = rows_are; values_are = values_are } in
    record {
      full = full_more pushed before.full;
      theirs = theirs_more pushed before.theirs c.requires;
      placed = before.placed;
      found = before.found;
    }

pub returns-clause-pushed : goal.returns-clause-pushed
returns-clause-pushed c =
    let before = c.args.self.now in
    let values = values_at c.args.row.now.values before.signals.items in
    let rows_are : c.push_reserved.new.self.items ≡ before.rows.items ++ c.args.kept ∷ [] =
    c.push_reserved.ensures.items ∙ ap (λ rows. rows ++ c.args.kept ∷ []) c.in_ok-reserve-2.ensures.items in
    let values_are : c.put_values.new.values.items ≡ before.values.items ++ values =
    (rw c.deref.ensures.value at c.put_values.ensures)
    ∙ ap (λ (list : List ℕ). list ++ map (λ place. slice_index c.args.row.now.values place) before.places.items)
    c.in_ok-reserve.ensures.items
    ∙ ap (λ (more : List ℕ). before.values.items ++ more)
    (values_there before.places.items c.args.row.now.values before.signals.items before.placed) in
    let pushed : IsPushed before.signals.items before.rows.items c.push_reserved.new.self.items before.values.items
    c.put_values.new.values.items c.args.row.now.values c.args.kept =
    record { rows_are = rows_are; values_are = values_are } in
    kept_more pushed before.full refl

pub put_values-requires-clause-below : goal.put_values-requires-clause-below
put_values-requires-clause-below c = λ i.
    rw c.deref.ensures.value
    (places_below c.args.self.now.places.items c.args.self.now.signals.items c.args.self.now.placed i)
