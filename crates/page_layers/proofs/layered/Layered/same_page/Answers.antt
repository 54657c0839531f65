use Rattle.std.proofs.Common.{◌≡◌, ◌/◌, ap, arith, option_copied}
use Rattle.page_layers.proofs.SameBlocks.{HasPage, far_page}
use Rattle.page_layers.proofs.layered.Layered.same_page.Goals as goal

pub returns-in-None-clause-known_files : goal.returns-in-None-clause-known_files
returns-in-None-clause-known_files c = λ known_files number in_page pa here.
    let place : pa / 4096 ≡ c.args.page = grind (arith, in_page, here) in
    let has : HasPage c.args.self.now.image.now c.args.page (option_copied c.page.result) =
    record { bytes = c.page.ensures } in
    let others_has : HasPage c.args.other.now.image.now c.args.page (option_copied c.page-in-None.result) =
    record { bytes = c.page-in-None.ensures } in
    (far_page c.args.self.now c.args.other.now _ c.in-None.ensures has others_has c.same_bytes.ensures).0 known_files
    pa place

pub returns-in-None-clause-same : goal.returns-in-None-clause-same
returns-in-None-clause-same c = λ same.
    let has : HasPage c.args.self.now.image.now c.args.page (option_copied c.page.result) =
    record { bytes = c.page.ensures } in
    let others_has : HasPage c.args.other.now.image.now c.args.page (option_copied c.page-in-None.result) =
    record { bytes = c.page-in-None.ensures } in
    (far_page c.args.self.now c.args.other.now _ c.in-None.ensures has others_has c.same_bytes.ensures).1
    (λ pa here. ap (λ bytes. bytes pa) same)
