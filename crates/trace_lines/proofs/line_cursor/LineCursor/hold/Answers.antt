use Rattle.std.proofs.Common.{◌≡◌, ◌++◌, take, refl, subst, arith}
use Rattle.std.proofs.lemmas.Grind.{common_steps}
use Rattle.outside_ports.specs.Ports.{Reads}
use Rattle.trace_lines.specs.Cursors.{buffered_bytes}
use Rattle.trace_lines.proofs.Chunks.{text_more}
use Rattle.trace_lines.proofs.line_cursor.LineCursor.hold.Goals as goal

pub returns-else-kept-count-clause-reads : goal.returns-else-kept-count-clause-reads
returns-else-kept-count-clause-reads c file reads =
    let self = c.args.self.now in
    let items : c.extend_from_slice.new.self.items ≡ buffered_bytes self ++ take c.min-kept.result self.chunk.items =
    grind (arith, common_steps, c.in_ok-extend_from_slice.ensures.items) in
    let all : c.args.count ≡ c.min-kept.result = omega arith in
    let kept : Reads file self.place self.chunk.items c.min-kept.result =
    subst (Reads file self.place self.chunk.items) all reads in
    record {
      text = text_more (buffered_bytes self) self.following self.most c.requires.unread (omega arith) kept items;
      more = refl;
    }
