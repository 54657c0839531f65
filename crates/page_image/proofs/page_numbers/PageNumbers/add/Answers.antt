use Rattle.page_image.specs.PageNumbers.{has_number}
use Rattle.page_image.proofs.Numbers.{number_put}
use Rattle.page_image.proofs.page_numbers.PageNumbers.add.Goals as goal

pub returns-clause-ok : goal.returns-clause-ok
unfolding has_number
returns-clause-ok c = number_put _ _ _ c.in_ok-insert.ensures.updates.0
