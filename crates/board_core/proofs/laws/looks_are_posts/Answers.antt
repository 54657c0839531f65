use Rattle.board_core.proofs.Machines.{posted_looks}
use Rattle.board_core.proofs.laws.looks_are_posts.Goals as goal

pub returns : goal.returns
returns c = posted_looks
