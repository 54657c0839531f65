use Rattle.std.proofs.Common.{None, Some}
use Rattle.page_image.proofs.NextPages.{found_by_number, listed_nonzero, unlisted_zero}
use Rattle.page_image.proofs.image.PageImage.next_page.Goals as goal

pub returns-in-Some : goal.returns-in-Some
returns-in-Some c =
    found_by_number _ _ (Some c.in-Some.number) c.requires (
      c.in-Some.ensures.skips.0,
      c.in-Some.ensures.skips.1,
      λ q low below. unlisted_zero c.args.self.now q (c.in-Some.ensures.skips.2 q low below),
    )
    (listed_nonzero c.args.self.now _ c.in-Some.ensures.has)

pub returns-in-None : goal.returns-in-None
returns-in-None c =
    found_by_number _ _ None c.requires (λ q low below. unlisted_zero c.args.self.now q (c.in-None.ensures.skips q low below))
    tt
