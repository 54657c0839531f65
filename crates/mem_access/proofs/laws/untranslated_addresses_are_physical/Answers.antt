use Rattle.mem_access.proofs.Physical.{fetch_physical, load_physical, store_physical}
use Rattle.mem_access.proofs.laws.untranslated_addresses_are_physical.Goals as goal

pub returns-clause-fetch : goal.returns-clause-fetch
returns-clause-fetch c = fetch_physical

pub returns-clause-load : goal.returns-clause-load
returns-clause-load c = load_physical

pub returns-clause-store : goal.returns-clause-store
returns-clause-store c = store_physical
