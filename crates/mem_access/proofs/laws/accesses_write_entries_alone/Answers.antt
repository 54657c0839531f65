use Rattle.mem_access.proofs.Sets.{fetch_sets_alone, load_sets_alone, store_sets_alone}
use Rattle.mem_access.proofs.laws.accesses_write_entries_alone.Goals as goal

pub returns-clause-fetch : goal.returns-clause-fetch
returns-clause-fetch c = fetch_sets_alone

pub returns-clause-load : goal.returns-clause-load
returns-clause-load c = load_sets_alone

pub returns-clause-store : goal.returns-clause-store
returns-clause-store c = store_sets_alone
