use Rattle.std.proofs.Common.{map, subst, sym}
use Rattle.std.specs.List.{All}
use Rattle.std.proofs.lemmas.List.Elements.{All-push}
use Rattle.rvfi_rows.specs.Segments.{ReadsPlace, segment_lines}
use Rattle.rvfi_rows.proofs.unread.Unread.read.Goals as goal

pub loop-preserved : goal.loop-preserved
loop-preserved c =
    let Reads = ReadsPlace (map segment_lines c.args.self.now.segments.now) in
    subst (All Reads) (sym c.in_ok-push.ensures.items)
    (All-push Reads c.loop.done.items _ c.loop.invariant c.in_ok-read_at.ensures.reads)
