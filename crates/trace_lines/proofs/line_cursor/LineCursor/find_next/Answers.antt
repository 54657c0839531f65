use Rattle.trace_lines.proofs.line_cursor.LineCursor.find_next.Goals as goal

pub returns-in-Some-clause-next : goal.returns-in-Some-clause-next
returns-in-Some-clause-next g c file known_files =
    (c.in-Some.ensures.next file, c.reading.invariant.left file known_files)
