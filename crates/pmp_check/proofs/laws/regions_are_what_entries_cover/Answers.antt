use Rattle.pmp_check.proofs.Covering.{region_of-Covers}
use Rattle.pmp_check.proofs.laws.regions_are_what_entries_cover.Goals as goal

pub returns : goal.returns
returns c = region_of-Covers
