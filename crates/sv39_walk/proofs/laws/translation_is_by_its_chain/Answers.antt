use Rattle.sv39_walk.proofs.Walks.{translation-by_chain}
use Rattle.sv39_walk.proofs.laws.translation_is_by_its_chain.Goals as goal

pub returns : goal.returns
returns c = λ readable bytes satp flags va access. translation-by_chain readable bytes satp flags va access
