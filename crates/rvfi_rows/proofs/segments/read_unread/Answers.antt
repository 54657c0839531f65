use Rattle.std.proofs.Common.{◌<◌, ◌≤◌, ◌∙◌, arith, length, subst, sym, take}
use Rattle.std.specs.List.{All}
use Rattle.std.proofs.lemmas.List.{take_all, take_more_set}
use Rattle.std.proofs.lemmas.List.Elements.{All-push}
use Rattle.std.proofs.Math.Seq.{map-set_same}
use Rattle.rvfi_rows.specs.Segments.{IsRead, segment_lines}
use Rattle.rvfi_rows.proofs.segments.read_unread.Goals as goal

pub loop-place-preserved : goal.loop-place-preserved
loop-place-preserved c =
    let at = c.loop-place in
    let now = c.read.new.self in
    let Reads = IsRead c.args.columns.now in
    let within : at.place < length at.segments = omega (arith, c.loop-place-test.true, at.auto.segments) in
    record {
      lines =
          map-set_same segment_lines at.segments at.place now c.index-segments-place.result c.read.ensures.lines
          ∙ at.invariant.lines;
      read = subst (All Reads) (sym (take_more_set at.segments at.place now within))
          (All-push Reads (take at.place at.segments) now at.invariant.read c.in_ok-read.ensures.read);
    }

pub returns-clause-read : goal.returns-clause-read
returns-clause-read c =
    let at = c.loop-place in
    let all : length at.segments ≤ at.place = omega (arith, c.loop-place-test.false, at.auto.segments) in
    subst (All (IsRead c.args.columns.now)) (take_all at.place at.segments all) at.invariant.read
