use Rattle.segment_judge.proofs.RamAlone.{lies_in_ram, touches_ram_alone}
use Rattle.segment_judge.proofs.laws.judgements_touch_ram_alone.Goals as goal

pub returns-clause-accesses : goal.returns-clause-accesses
returns-clause-accesses g c = λ ram cores rows. touches_ram_alone rows ram cores

pub returns-clause-noted : goal.returns-clause-noted
returns-clause-noted g c = lies_in_ram
