use Rattle.std.proofs.Common.{ap, ◌∙◌, arith}
use Rattle.outside_ports.specs.Ports.{file_of}
use Rattle.trace_lines.specs.Cursors.{lines_from_cursor}
use Rattle.trace_lines.proofs.Fronts.{front_full, back_full, front_ended, back_ended}
use Rattle.trace_lines.proofs.line_cursor.LineCursor.take_lines.Goals as goal

pub returns-in-Some-clause-piece : goal.returns-in-Some-clause-piece
returns-in-Some-clause-piece g c file known_files =
    let takes = rw c.in-Some.is at c.in_ok-end.ensures.takes in
    let here = ap (λ files. file_of files c.args.name.now) c.taking.invariant.known_files ∙ known_files in
    front_ended c.args.asked (omega arith) (takes file here) (c.taking.invariant.left file known_files)

pub returns-in-Some-clause-rest : goal.returns-in-Some-clause-rest
returns-in-Some-clause-rest g c file known_files =
    let takes = rw c.in-Some.is at c.in_ok-end.ensures.takes in
    let here = ap (λ files. file_of files c.args.name.now) c.taking.invariant.known_files ∙ known_files in
    back_ended c.args.asked (omega arith) (takes file here) (c.taking.invariant.left file known_files)

pub returns-clause-piece : goal.returns-clause-piece
returns-clause-piece g c file known_files =
    front_full c.args.asked c.taking.lines (lines_from_cursor file c.taking.self)
    (lines_from_cursor file c.args.self.now) (omega arith) (c.taking.invariant.left file known_files)

pub returns-clause-rest : goal.returns-clause-rest
returns-clause-rest g c file known_files =
    back_full c.args.asked c.taking.lines (lines_from_cursor file c.taking.self)
    (lines_from_cursor file c.args.self.now) (omega arith) (c.taking.invariant.left file known_files)
