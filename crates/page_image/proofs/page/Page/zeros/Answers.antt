use Rattle.std.proofs.Common.{refl}
use Rattle.image_text.proofs.Pages.{zeros_are_bytes}
use Rattle.page_image.proofs.PageBytes.{zero_page}
use Rattle.page_image.proofs.page.Page.zeros.Goals as goal

pub returns : goal.returns
returns c = zero_page _ refl

pub invariant_of-result-clause-small : goal.invariant_of-result-clause-small
invariant_of-result-clause-small c = zeros_are_bytes 4096
