use Rattle.std.proofs.Common.{◌-◌, arith}
use Rattle.trace_lines.specs.Cursors.{buffered_bytes, unread_in, more_in}
use Rattle.trace_lines.proofs.Parts.{left_long, left_line, left_past, left_none, left_last}
use Rattle.trace_lines.proofs.Cursors.{left_at_end, left_past_most, last_at_end, length-held}
use Rattle.trace_lines.proofs.line_cursor.LineCursor.known.Goals as goal

pub returns-then-place-gt-LONGEST-clause-next : goal.returns-then-place-gt-LONGEST-clause-next
returns-then-place-gt-LONGEST-clause-next c file =
    let self = c.args.self.now in
    left_long (more_in file self) self.number self.searched (buffered_bytes self) (unread_in file self) c.requires
    c.if-place-gt-LONGEST.true

pub returns-then-place-held-clause-next : goal.returns-then-place-held-clause-next
returns-then-place-held-clause-next c file =
    let self = c.args.self.now in
    left_line (more_in file self) self.number self.searched (buffered_bytes self) (unread_in file self) c.requires
    (omega (arith, length-held self)) c.if-place-gt-LONGEST.false

pub returns-in-TooLarge-clause-next : goal.returns-in-TooLarge-clause-next
returns-in-TooLarge-clause-next c file =
    let self = c.args.self.now in
    left_past_most file self _ c.in-TooLarge.is
    (left_past self.number self.searched (buffered_bytes self) c.requires (omega (arith, length-held self))
    c.if-place-gt-LONGEST.false)

pub returns-in-End-clause-next : goal.returns-in-End-clause-next
returns-in-End-clause-next c file =
    let self = c.args.self.now in
    left_at_end file self _ c.in-End.is (left_none self.number (buffered_bytes self) (omega (arith, length-held self)))

pub returns-in-End-2-clause-next : goal.returns-in-End-2-clause-next
returns-in-End-2-clause-next c file =
    let self = c.args.self.now in
    last_at_end file self _ (c.len.result - self.at) c.in-End-2.is
    (left_last self.number (c.len.result - self.at) (buffered_bytes self) c.requires
    (omega (arith, length-held self)) c.if-place-gt-LONGEST.false (omega arith) (omega (arith, length-held self)))
