use Rattle.std.proofs.Common.{◌≡◌, ◌∙◌, List, None, Option, Some, ap, option_map, sym, ℕ}
use Rattle.rvfi_rows.specs.declared.cell.Cell.{Cell}
use Rattle.rvfi_rows.specs.declared.column.PlacedColumn.{PlacedColumn}
use Rattle.rvfi_rows.specs.Placed.{cell_at, valid_at}
use Rattle.rvfi_rows.proofs.cells.valid_shown.Goals as goal

-- the column of `valid` is the one whose cells are read
of_valid : {valid : Option Cell} {first : Option PlacedColumn} (found : Option Cell)
    (fields : List (List ℕ)) → valid ≡ found → option_map (λ cell. cell.placed) valid ≡ first
    → valid_at (option_map (λ cell. cell.placed) found) fields ≡ valid_at first fields
of_valid found fields is first =
    ap (λ place. valid_at place fields)
    (ap (option_map (λ (cell : Cell). cell.placed)) (sym is) ∙ first)

pub returns-in-None : goal.returns-in-None
returns-in-None c = of_valid None c.args.fields.now c.in-None.is c.args.known.now.first

pub returns-in-None-untrimmed : goal.returns-in-None-untrimmed
returns-in-None-untrimmed c =
    ap (cell_at c.in-Some.one.placed) c.in-None-untrimmed.ensures
    ∙ of_valid (Some c.in-Some.one) c.args.fields.now c.in-Some.is c.args.known.now.first

pub returns-in-Some-untrimmed : goal.returns-in-Some-untrimmed
returns-in-Some-untrimmed c =
    c.shown.ensures ∙ ap (cell_at c.in-Some.one.placed) c.in-Some-untrimmed.ensures
    ∙ of_valid (Some c.in-Some.one) c.args.fields.now c.in-Some.is c.args.known.now.first
