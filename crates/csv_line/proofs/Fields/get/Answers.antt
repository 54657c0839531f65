use Rattle.std.proofs.Common.{◌∙◌, ap, None, Some}
use Rattle.csv_line.proofs.Trimmed.{trimmed_at}
use Rattle.csv_line.proofs.Fields.get.Goals as goal

pub returns-in-None : goal.returns-in-None
returns-in-None c = trimmed_at _ _ _ None c.self.view_is c.in-None.ensures.value

pub returns-in-Some : goal.returns-in-Some
returns-in-Some c =
    ap Some c.trim.ensures ∙ trimmed_at _ _ _ (Some c.in-Some.field.now) c.self.view_is c.in-Some.ensures.value
