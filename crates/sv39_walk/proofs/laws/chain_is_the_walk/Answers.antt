use Rattle.sv39_walk.proofs.Chains.{chain-IsWalk, chain-none, walk-unique}
use Rattle.sv39_walk.proofs.laws.chain_is_the_walk.Goals as goal

pub returns-clause-walk : goal.returns-clause-walk
returns-clause-walk c = chain-IsWalk

pub returns-clause-unique : goal.returns-clause-unique
returns-clause-unique c = walk-unique

pub returns-clause-none : goal.returns-clause-none
returns-clause-none c = chain-none
