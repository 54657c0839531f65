use Rattle.std.proofs.Common.{ap, ◌∙◌, option_copied, lit<}
use Rattle.page_image.specs.Bytes.{byte_of}
use Rattle.page_image.specs.Pages.{page_byte, byte_or_zero}
use Rattle.page_layers.proofs.Reading.{in_one_page, number_of_page, zero_of_page}
use Rattle.page_layers.proofs.layered.image_number.Goals as goal

pub returns-in-Some-clause-value : goal.returns-in-Some-clause-value
returns-in-Some-clause-value c =
    c.number.ensures.value
    ∙ number_of_page c.args.pa c.args.len (page_byte c.in-Some.page.now) (byte_of c.args.image.now) c.requires.page
    (λ at in_page. c.page.ensures at in_page ∙ ap (λ page. byte_or_zero (option_copied page) at) c.in-Some.is)

pub returns-in-None-clause-value : goal.returns-in-None-clause-value
returns-in-None-clause-value c =
    zero_of_page c.args.pa c.args.len (byte_of c.args.image.now) c.requires.page
    (λ at in_page. c.page.ensures at in_page ∙ ap (λ page. byte_or_zero (option_copied page) at) c.in-None.is)

pub returns-in-Some-clause-small : goal.returns-in-Some-clause-small
returns-in-Some-clause-small c = λ at from below.
    let is =
    c.page.ensures at (in_one_page c.args.pa c.args.len at c.requires.page from below)
    ∙ ap (λ page. byte_or_zero (option_copied page) at) c.in-Some.is in
    rw is (c.number.ensures.small at from below)

pub returns-in-None-clause-small : goal.returns-in-None-clause-small
returns-in-None-clause-small c = λ at from below.
    let is =
    c.page.ensures at (in_one_page c.args.pa c.args.len at c.requires.page from below)
    ∙ ap (λ page. byte_or_zero (option_copied page) at) c.in-None.is in
    rw is (lit< tt)
