use Rattle.page_image.proofs.PageBytes.{zeros_decided}
use Rattle.page_image.proofs.page.Page.is_zero.Goals as goal

pub returns : goal.returns
returns c = zeros_decided c.args.self.now _ _ c.zeros.ensures c.same_as.ensures
