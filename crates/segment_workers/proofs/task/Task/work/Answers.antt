use Rattle.std.proofs.Common.{◌<◌, length, ap, ◌∙◌, arith}
use Rattle.segment_judge.specs.declared.found.Found.{Found}
use Rattle.segment_judge.specs.Founds.{IsLawfulFound}
use Rattle.verdict_board.specs.Seats.{view_of}
use Rattle.verdict_board.specs.Views.{lead}
use Rattle.segment_workers.proofs.Accounts.{finds_more, none_more}
use Rattle.segment_workers.proofs.Gathering.{drawn_has, has_none_left, less_left}
use Rattle.segment_workers.proofs.task.Task.work.Goals as goal

pub find-requires-clause-drawn : goal.find-requires-clause-drawn
find-requires-clause-drawn g c κs within =
    drawn_has (view_of c.loop-seg.seat) (view_of c.claim.new.seat) c.in-Some.seg c.in-Some.ensures.drawn.1.0

pub loop-seg-smaller : goal.loop-seg-smaller
loop-seg-smaller g c =
    let before = view_of c.loop-seg.seat in
    let drawn = c.in-Some.ensures.drawn in
    let low : c.in-Some.seg < length c.args.self.now.segments.now = omega (arith, drawn.0, c.args.self.now.theirs) in
    less_left (length c.args.self.now.segments.now) c.in-Some.seg (lead before) before.draws
    (view_of c.find.new.seat).draws
    (c.in_ok-what.ensures.finds.draws_are ∙ ap (λ view. view.draws) drawn.1.0) low drawn.1.1

pub loop-seg-preserved : goal.loop-seg-preserved
loop-seg-preserved g c =
    let Lawful =
    IsLawfulFound c.args.self.now.keeps_history g.M.PhysMem.bytes g.M.PhysMem.ram c.args.self.now.columns.now
    c.args.self.now.segments.now
    c.args.self.now.guesses.now in
    let n = length c.args.self.now.segments.now in
    let seg = c.in-Some.seg in
    let so_far = c.loop-seg.invariant in
    let drawn = c.in-Some.ensures.drawn in
    let found : Found _ = record { seg = seg; what = c.in_ok-what.what } in
    let low : seg < n = omega (arith, drawn.0, c.args.self.now.theirs) in
    let before = view_of c.loop-seg.seat in
    record {
      at = c.in_ok-what.ensures.at;
      one = ap length (c.in_ok-what.ensures.same.0 ∙ c.in-Some.ensures.same.0) ∙ so_far.one;
      seats = c.in_ok-what.ensures.same.1 ∙ c.in-Some.ensures.same.1 ∙ so_far.seats;
      accounts =
          rw c.in_ok-push.ensures.items
          (finds_more Lawful n before (view_of c.claim.new.seat) (view_of c.find.new.seat) c.loop-seg.founds.items found
          so_far.accounts drawn.1.0 c.in_ok-what.ensures.same c.in_ok-what.ensures.finds
          (record { below = low; lawful = c.in_ok-what.ensures.lawful }));
    }

pub returns : goal.returns
returns g c =
    let Lawful =
    IsLawfulFound c.args.self.now.keeps_history g.M.PhysMem.bytes g.M.PhysMem.ram c.args.self.now.columns.now
    c.args.self.now.segments.now
    c.args.self.now.guesses.now in
    let n = length c.args.self.now.segments.now in
    let so_far = c.loop-seg.invariant in
    let before = view_of c.loop-seg.seat in
    let now = view_of c.claim.new.seat in
    let none = c.in_default.ensures.none in
    let n_is = so_far.at.segments_is ∙ c.args.self.now.theirs in
    record {
      at = c.in_default.ensures.at;
      done_is = ap length c.in_default.ensures.same.0 ∙ so_far.one;
      seats_is = c.in_default.ensures.same.1 ∙ so_far.seats;
      passed = has_none_left n before now n_is none;
      accounts = none_more Lawful n before now c.loop-seg.founds.items n_is so_far.accounts none;
    }
