use Rattle.std.proofs.Common.{◌≡◌, ◌+◌, ℕ, [], ◌∷◌, length, length-append, ap, subst, arith, vec_len}
use Rattle.std.specs.Vec.Iter.{into_iter_items}
use Rattle.segment_workers.specs.Works.{HaveDone}
use Rattle.segment_judge.specs.Founds.{IsLawfulFound}
use Rattle.segment_workers.proofs.Accounts.{both_done}
use Rattle.segment_workers.proofs.Gathering.{first_did, last_did}
use Rattle.segment_workers.proofs.task.Task.gather.Goals as goal

pub join-requires-clause-other : goal.join-requires-clause-other
join-requires-clause-other g c =
    (first_did _ c.in-Some-work.work c.in_ok-work.work (into_iter_items c.loop-work.work-iterator)
    (into_iter_items c.next.new.self)
    c.in-Some-work.ensures.steps.0 c.in_ok-work.was c.loop-work.invariant.left).0.at

pub loop-work-init : goal.loop-work-init
loop-work-init g c =
    let given = c.into_iter-work-iterator.ensures.into_iter_gives in
    let did =
    last_did _ c.in-Some.work c.in_ok-all-in-Some.all c.args.works.items c.pop.new.self.items
    c.in-Some.ensures.items c.in_ok-all-in-Some.was c.requires.done in
    record {
      joined = did.0;
      left = rw given.0 did.1;
      len = omega (arith, given.1, c.pop.new.self.ok, ap length given.0);
      all =
          omega (
            arith,
            ap length given.0,
            c.args.works.ok,
            ap length c.in-Some.ensures.items,
            length-append c.pop.new.self.items (c.in-Some.work ∷ []),
          );
    }

pub loop-work-preserved : goal.loop-work-preserved
loop-work-preserved g c =
    let at = c.loop-work in
    let steps = c.in-Some-work.ensures.steps in
    let Lawful =
    IsLawfulFound c.args.self.now.keeps_history g.M.PhysMem.bytes g.M.PhysMem.ram c.args.self.now.columns.now
    c.args.self.now.segments.now
    c.args.self.now.guesses.now in
    let did =
    first_did _ c.in-Some-work.work c.in_ok-work.work (into_iter_items at.work-iterator)
    (into_iter_items c.next.new.self) steps.0 c.in_ok-work.was at.invariant.left in
    record {
      joined =
          rw (length-append at.yielded (c.in-Some-work.work ∷ []))
          (both_done Lawful (length c.args.self.now.segments.now) c.args.self.now.board.now (vec_len c.args.works)
          (length at.yielded + 1) at.all c.in_ok-work.work
          (record { founds = c.append.new.self; seat = c.join.new.seat }) at.invariant.joined did.0 c.join.ensures.at
          c.join.ensures.joined c.in_ok-append.ensures.items);
      left = did.1;
      len = omega (arith, at.invariant.len, steps.1, ap length steps.0);
      all = omega (arith, at.invariant.all, ap length steps.0, length-append at.yielded (c.in-Some-work.work ∷ []));
    }

pub returns : goal.returns
returns g c =
    let at = c.loop-work in
    let none = c.in-None-work.ensures.steps in
    let all : length at.yielded + 1 ≡ vec_len c.args.works =
    omega (arith, at.invariant.all, at.invariant.len, none.0) in
    let Lawful =
    IsLawfulFound c.args.self.now.keeps_history g.M.PhysMem.bytes g.M.PhysMem.ram c.args.self.now.columns.now
    c.args.self.now.segments.now
    c.args.self.now.guesses.now in
    let P : ℕ → Type 0 =
    λ done. HaveDone Lawful (length c.args.self.now.segments.now) (vec_len c.args.works) done
    c.args.self.now.board.now at.all in
    subst P all at.invariant.joined
