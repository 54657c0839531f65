use Rattle.memory_tests.specs.declared.walks.Tables.{Tables}
use Rattle.sv39_walk.proofs.Slots.{ThreeEntries, first_entry, second_entry, third_entry}
use Rattle.memory_tests.proofs.walks.TablesWalkMem.entry.Goals as goal

-- the entries of the tables
abbrev entries_of : Tables → ThreeEntries
entries_of t = record { root = t.root; middle = t.middle; last = t.last; hidden = t.hidden }

pub returns-in-2147483656 : goal.returns-in-2147483656
returns-in-2147483656 c =
    first_entry (entries_of c.args.self.now) c.in-2147483656.is c.if-pa-self.false c.word.ensures.same
    c.word.ensures.fits

pub returns-in-2147487760 : goal.returns-in-2147487760
returns-in-2147487760 c =
    second_entry (entries_of c.args.self.now) c.in-2147487760.is c.if-pa-self.false
    c.word-in-2147487760.ensures.same c.word-in-2147487760.ensures.fits

pub returns-in-2147491864 : goal.returns-in-2147491864
returns-in-2147491864 c =
    third_entry (entries_of c.args.self.now) c.in-2147491864.is c.if-pa-self.false
    c.word-in-2147491864.ensures.same c.word-in-2147491864.ensures.fits
