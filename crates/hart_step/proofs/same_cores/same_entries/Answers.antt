use Rattle.std.proofs.Common.{rules, ◌≡◌, Decides, ◌==◌, ◌&&◌}
use Rattle.std.proofs.lemmas.Slice.Eq.{slice_eq-Decides}
use Rattle.hart_words.specs.declared.privilege.PmpEntry.{PmpEntry}
use Rattle.hart_step.proofs.same_cores.same_entries.Goals as goal

entry_decides : (one other : PmpEntry) → Decides ((one.cfg == other.cfg) && (one.addr == other.addr)) (one ≡ other)
entry_decides one other = search rules

pub returns : goal.returns
returns c = slice_eq-Decides entry_decides _ _ _ c.eq.ensures
