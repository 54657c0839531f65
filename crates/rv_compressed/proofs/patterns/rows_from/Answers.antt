use Rattle.std.proofs.Common.{◌∙◌, ◌-◌, ◌≡◌, ap, arith, drop, length-drop, take}
use Rattle.std.proofs.lemmas.List.{take_all}
use Rattle.rv_compressed.specs.declared.patterns.TheConstants.{PATTERNS}
use Rattle.rv_compressed.specs.Table.{expansion_by}
use Rattle.rv_compressed.proofs.patterns.rows_from.Goals as goal

pub returns : goal.returns
returns c =
    let first = c.first_row.result in
    let rest = drop first PATTERNS in
    let all : take (32 - first) rest ≡ rest =
    take_all (32 - first) rest (omega (arith, length-drop first PATTERNS)) in
    ap (λ rows. expansion_by rows c.args.parcel) all ∙ c.first_row.ensures.passed
