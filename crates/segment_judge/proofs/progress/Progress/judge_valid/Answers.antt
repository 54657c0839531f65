use Rattle.std.proofs.Common.{◌+◌, ◌∙◌, ap, sym}
use Rattle.rvfi_rows.specs.Cells.{shown_in}
use Rattle.segment_judge.proofs.Noted.{noted_agreed, noted_different}
use Rattle.segment_judge.proofs.Progressed.{judges_agreed, judges_differing, still_judges}
use Rattle.segment_judge.proofs.SetSteps.{performed_reads, performed_writes}
use Rattle.segment_judge.proofs.Within.{reads_narrow, writes_narrow}
use Rattle.segment_judge.proofs.progress.Progress.judge_valid.Goals as goal

pub add-requires-clause-reads : goal.add-requires-clause-reads
add-requires-clause-reads g c =
    let harts = c.args.self.now.harts in
    reads_narrow (g.M.PhysMem.ram harts.mem) c.step_into.new.stepped.seen
    (performed_reads (g.M.PhysMem.ram harts.mem) harts.cores.items _ c.requires.can_judge.can_step.maps
    c.in_ok-step_into.ensures.stepped)

pub add-requires-clause-writes : goal.add-requires-clause-writes
add-requires-clause-writes g c =
    let harts = c.args.self.now.harts in
    writes_narrow (g.M.PhysMem.ram harts.mem) c.step_into.new.stepped.wrote
    (performed_writes (g.M.PhysMem.ram harts.mem) harts.cores.items _ c.requires.can_judge.can_step.maps
    c.in_ok-step_into.ensures.stepped)

pub returns-in_ok-note_difference-in-Some-clause-judges : goal.returns-in_ok-note_difference-in-Some-clause-judges
returns-in_ok-note_difference-in-Some-clause-judges g c = λ accesses.
    judges_differing g.M.PhysMem.bytes c.args.self.now _ {shown = shown_in c.args.row.now}
    {expected = c.step_into.new.stepped.expected} {seen = c.step_into.new.stepped.seen}
    {wrote = c.step_into.new.stepped.wrote} accesses
    (record {
      done = c.in_ok-step_into.ensures.stepped;
      added = c.in_ok-add.ensures.rows;
      rows = c.with_row-self.ensures.rows;
    })
    (sym c.in-Some.ensures)

pub returns-in_ok-note_row-in-None-clause-judges : goal.returns-in_ok-note_row-in-None-clause-judges
returns-in_ok-note_row-in-None-clause-judges g c = λ accesses.
    judges_agreed g.M.PhysMem.bytes c.args.self.now _ {shown = shown_in c.args.row.now}
    {expected = c.step_into.new.stepped.expected} {seen = c.step_into.new.stepped.seen}
    {wrote = c.step_into.new.stepped.wrote} accesses
    (record {
      done = c.in_ok-step_into.ensures.stepped;
      added = c.in_ok-add.ensures.rows;
      rows = c.with_row-self-in-None.ensures.rows;
    }) c.with_row-self-in-None.ensures.valid
    (sym c.in-None.ensures)

pub returns-in_ok-note_difference-in-Some-clause-can_judge : goal.returns-in_ok-note_difference-in-Some-clause-can_judge
returns-in_ok-note_difference-in-Some-clause-can_judge g c =
    let harts = c.args.self.now.harts in
    let maps = c.requires.can_judge.can_step.maps in
    still_judges g.M.PhysMem.ram c.requires.can_judge c.step_into.ensures.can c.step_into.ensures.ram
    (record { read = c.in_ok-add.ensures.read; wrote = c.in_ok-add.ensures.wrote })
    (performed_reads (g.M.PhysMem.ram harts.mem) harts.cores.items _ maps c.in_ok-step_into.ensures.stepped)
    (performed_writes (g.M.PhysMem.ram harts.mem) harts.cores.items _ maps c.in_ok-step_into.ensures.stepped)

pub returns-in_ok-note_row-in-None-clause-can_judge : goal.returns-in_ok-note_row-in-None-clause-can_judge
returns-in_ok-note_row-in-None-clause-can_judge g c =
    let harts = c.args.self.now.harts in
    let maps = c.requires.can_judge.can_step.maps in
    still_judges g.M.PhysMem.ram c.requires.can_judge c.step_into.ensures.can c.step_into.ensures.ram
    (record { read = c.in_ok-add.ensures.read; wrote = c.in_ok-add.ensures.wrote })
    (performed_reads (g.M.PhysMem.ram harts.mem) harts.cores.items _ maps c.in_ok-step_into.ensures.stepped)
    (performed_writes (g.M.PhysMem.ram harts.mem) harts.cores.items _ maps c.in_ok-step_into.ensures.stepped)

pub note_difference-requires : goal.note_difference-requires
note_difference-requires g c =
    let harts = c.args.self.now.harts in
    reads_narrow (g.M.PhysMem.ram harts.mem) c.step_into.new.stepped.seen
    (performed_reads (g.M.PhysMem.ram harts.mem) harts.cores.items _ c.requires.can_judge.can_step.maps
    c.in_ok-step_into.ensures.stepped)

pub note_row-requires : goal.note_row-requires
note_row-requires g c =
    let harts = c.args.self.now.harts in
    writes_narrow (g.M.PhysMem.ram harts.mem) c.step_into.new.stepped.wrote
    (performed_writes (g.M.PhysMem.ram harts.mem) harts.cores.items _ c.requires.can_judge.can_step.maps
    c.in_ok-step_into.ensures.stepped)

pub returns-in_ok-note_difference-in-Some-clause-notes : goal.returns-in_ok-note_difference-in-Some-clause-notes
returns-in_ok-note_difference-in-Some-clause-notes g c = λ origin trail.
    noted_different {bytes_of = g.M.PhysMem.bytes}
    {facts = record {
      hart = c.hart.result;
      expected = c.step_into.new.stepped.expected;
      reads = c.step_into.new.stepped.seen;
      wrote = c.step_into.new.stepped.wrote;
    }} origin c.args.self.now _ (shown_in c.args.row.now) _ c.in-Some.difference trail
    (record { done = c.in_ok-step_into.ensures.stepped; hart = c.hart.ensures })
    (sym c.in-Some.ensures) (c.in_ok-note_difference-in-Some.ensures origin trail)

pub returns-in_ok-note_row-in-None-clause-notes : goal.returns-in_ok-note_row-in-None-clause-notes
returns-in_ok-note_row-in-None-clause-notes g c = λ origin trail.
    noted_agreed {bytes_of = g.M.PhysMem.bytes}
    {facts = record {
      hart = c.hart-in-None.result;
      expected = c.step_into.new.stepped.expected;
      reads = c.step_into.new.stepped.seen;
      wrote = c.step_into.new.stepped.wrote;
    }} origin c.args.self.now _ (shown_in c.args.row.now) trail
    (record { done = c.in_ok-step_into.ensures.stepped; hart = c.hart-in-None.ensures })
    (sym c.in-None.ensures)
    (λ kept counted. c.in_ok-note_row-in-None.ensures origin trail kept
    (ap (λ n. n + 1) counted ∙ sym c.with_row-self-in-None.ensures.rows))
