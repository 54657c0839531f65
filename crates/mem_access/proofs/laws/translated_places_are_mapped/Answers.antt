use Rattle.mem_access.proofs.Kept.{places_mapped}
use Rattle.mem_access.proofs.Mapped.{place_mapped}
use Rattle.mem_access.proofs.laws.translated_places_are_mapped.Goals as goal

pub returns-clause-one : goal.returns-clause-one
returns-clause-one c = place_mapped

pub returns-clause-parts : goal.returns-clause-parts
returns-clause-parts c = places_mapped
