use Rattle.mem_access.proofs.Granted.{fetch_granted, load_granted, store_granted}
use Rattle.mem_access.proofs.laws.accesses_are_permitted.Goals as goal

pub returns-clause-fetch : goal.returns-clause-fetch
returns-clause-fetch c = fetch_granted

pub returns-clause-load : goal.returns-clause-load
returns-clause-load c = load_granted

pub returns-clause-store : goal.returns-clause-store
returns-clause-store c = store_granted
