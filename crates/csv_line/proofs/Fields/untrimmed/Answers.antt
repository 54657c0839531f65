use Rattle.std.proofs.Common.{◌≡◌, ◌∙◌, List, None, Option, Some, option_map, refl, ℕ}
use Rattle.std.specs.Borrow.{Bor}
use Rattle.csv_line.specs.Fields.{trimmed_of}
use Rattle.csv_line.proofs.Trimmed.{trimmed_at}
use Rattle.csv_line.proofs.Fields.untrimmed.Goals as goal

at_once : (found : Option (Bor (List ℕ)))
    → option_map (λ field. trimmed_of field.now) found ≡ option_map trimmed_of (option_map (λ field. field.now) found)
at_once None = refl
at_once (Some field) = refl

pub returns : goal.returns
returns c = at_once c.get.result ∙ trimmed_at _ _ _ _ c.self.view_is c.get.ensures.value
