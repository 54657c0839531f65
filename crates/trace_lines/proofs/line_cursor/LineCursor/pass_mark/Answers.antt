use Rattle.std.proofs.Common.{◌≡◌, ◌++◌, ap, ◌∙◌, sym, arith, drop, take}
use Rattle.trace_lines.specs.Cursors.{unread_in, more_in}
use Rattle.trace_lines.specs.Lines.{has_mark, lines_from, text_parts_of}
use Rattle.trace_lines.proofs.Marks.{IsAtFront, left_marked, left_unmarked, enough_read}
use Rattle.trace_lines.proofs.line_cursor.LineCursor.pass_mark.Goals as goal

pub returns-then-begins_with_mark-clause-left : goal.returns-then-begins_with_mark-clause-left
returns-then-begins_with_mark-clause-left c file holds =
    let self = c.args.self.now in
    let text : self.bytes.items ++ unread_in file self ≡ take self.most file =
    ap (λ n. drop n self.bytes.items ++ unread_in file self) (sym c.requires.at) ∙ holds.text in
    let front : IsAtFront self.most file (more_in file self) self.number (self.bytes.items ++ unread_in file self) =
    record { first = c.requires.number; more_is = holds.more; text_is = text } in
    left_marked self.bytes.items (unread_in file self) front
    (c.if-begins_with_mark.ensures ∙ ap has_mark c.deref.ensures.value)

pub returns-else-begins_with_mark-clause-left : goal.returns-else-begins_with_mark-clause-left
returns-else-begins_with_mark-clause-left c file holds =
    let self = c.args.self.now in
    let text : self.bytes.items ++ unread_in file self ≡ take self.most file =
    ap (λ n. drop n self.bytes.items ++ unread_in file self) (sym c.requires.at) ∙ holds.text in
    let front : IsAtFront self.most file (more_in file self) self.number (self.bytes.items ++ unread_in file self) =
    record { first = c.requires.number; more_is = holds.more; text_is = text } in
    let enough =
    enough_read self.following self.place self.most file self.bytes.items
    (λ unread. omega (arith, c.requires.enough unread, self.bytes.ok.0)) in
    ap (λ n. lines_from (more_in file self) self.number
    (text_parts_of (drop n self.bytes.items ++ unread_in file self)))
    c.requires.at
    ∙ left_unmarked self.bytes.items (unread_in file self) front
    (c.if-begins_with_mark.ensures ∙ ap has_mark c.deref.ensures.value) enough
