use Rattle.page_image.proofs.PageBytes.{none_decided}
use Rattle.page_image.proofs.page.Page.same_bytes.Goals as goal

pub returns-in-Some-other : goal.returns-in-Some-other
returns-in-Some-other c =
    none_decided c.args.one c.args.other c.in-Some-other.other _ c.in-None.is c.in-Some-other.is c.is_zero.ensures
