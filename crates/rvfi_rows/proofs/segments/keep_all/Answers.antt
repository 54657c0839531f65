use Rattle.std.proofs.Common.{◌∙◌, map, refl}
use Rattle.std.proofs.Math.Seq.{map-set_same}
use Rattle.std.specs.Vec.Iter.{into_iter_items}
use Rattle.rvfi_rows.specs.Segments.{segment_lines}
use Rattle.rvfi_rows.proofs.Places.{first_read, reads_place}
use Rattle.rvfi_rows.proofs.segments.keep_all.Goals as goal

pub loop-one-init : goal.loop-one-init
loop-one-init c = record {
  lines = refl;
  left = rw c.into_iter-one-iterator.ensures.into_iter_gives.0 c.requires;
}

pub keep-requires : goal.keep-requires
keep-requires c =
    let at = c.loop-one in
    let first =
    first_read (map segment_lines c.args.segments.now) c.in-Some.one (into_iter_items at.one-iterator)
    (into_iter_items c.next.new.self) c.in-Some.ensures.steps.0 at.invariant.left in
    reads_place at.segments c.args.segments.now c.in-Some.one c.index-segments-place.result c.if-place-segments.true
    at.invariant.lines first.0

pub loop-one-preserved-then-place-segments : goal.loop-one-preserved-then-place-segments
loop-one-preserved-then-place-segments c =
    let at = c.loop-one in
    record {
      lines =
          map-set_same segment_lines at.segments c.in-Some.one.place c.keep.new.self c.index-segments-place.result
          c.keep.ensures.lines ∙ at.invariant.lines;
      left =
          (first_read (map segment_lines c.args.segments.now) c.in-Some.one (into_iter_items at.one-iterator)
          (into_iter_items c.next.new.self) c.in-Some.ensures.steps.0 at.invariant.left).1;
    }

pub loop-one-preserved : goal.loop-one-preserved
loop-one-preserved c =
    let at = c.loop-one in
    record {
      lines = at.invariant.lines;
      left =
          (first_read (map segment_lines c.args.segments.now) c.in-Some.one (into_iter_items at.one-iterator)
          (into_iter_items c.next.new.self) c.in-Some.ensures.steps.0 at.invariant.left).1;
    }

pub returns : goal.returns
returns c = c.loop-one.invariant.lines
