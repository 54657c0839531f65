use Rattle.std.proofs.Common.{◌≡◌, ◌+◌, arith}
use Rattle.page_image.proofs.NearPages.{found_near}
use Rattle.page_image.proofs.image.PageImage.near_page.Goals as goal

pub returns : goal.returns
returns c =
    let image = c.args.self.now in
    let here : image.lowest + c.in_ok-place.place ≡ c.args.number =
    omega (arith, c.in_ok-place.ensures.0, c.in_ok-place.ensures.1) in
    found_near image.pages image.lowest c.args.number c.in_ok-place.place c.deref.result.now image.near.items
    c.get.result c.deref.ensures.value here image.placed c.get.ensures.lookup.3
