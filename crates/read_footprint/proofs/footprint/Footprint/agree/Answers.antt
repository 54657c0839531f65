use Rattle.std.proofs.Common.{true}
use Rattle.std.specs.Map.Iter.{deref_pair}
use Rattle.std.proofs.lemmas.Map.Iter.{rest_more, rest_all}
use Rattle.read_footprint.proofs.Entries.{agreed, all_decided, entry_agrees, first_found, later_found, read_within}
use Rattle.read_footprint.proofs.Entries.{refuted}
use Rattle.read_footprint.proofs.footprint.Footprint.agree.Goals as goal

pub same_bytes-requires-clause-one : goal.same_bytes-requires-clause-one
same_bytes-requires-clause-one g c =
    let first = rest_more deref_pair _ _ _ _ c.in-Some.is c.next.ensures.steps in
    read_within (g.M.PhysMem.ram c.args.one.now) c.args.self.now c.in-Some.number.now c.in-Some.block.now
    c.requires.one (first_found c.args.self.now first c.loop-number.invariant.found)

pub same_bytes-requires-clause-other : goal.same_bytes-requires-clause-other
same_bytes-requires-clause-other g c =
    let first = rest_more deref_pair _ _ _ _ c.in-Some.is c.next.ensures.steps in
    read_within (g.N.PhysMem.ram c.args.other.now) c.args.self.now c.in-Some.number.now c.in-Some.block.now
    c.requires.other (first_found c.args.self.now first c.loop-number.invariant.found)

pub returns-then-not-same_bytes-clause-same : goal.returns-then-not-same_bytes-clause-same
returns-then-not-same_bytes-clause-same g c =
    let first = rest_more deref_pair _ _ _ _ c.in-Some.is c.next.ensures.steps in
    refuted c.args.self.now c.in-Some.number.now
    (first_found c.args.self.now first c.loop-number.invariant.found) c.same_bytes.ensures
    c.if-not-same_bytes.true

pub returns-then-not-same_bytes-clause-rows : goal.returns-then-not-same_bytes-clause-rows
returns-then-not-same_bytes-clause-rows g c =
    let first = rest_more deref_pair _ _ _ _ c.in-Some.is c.next.ensures.steps in
    agreed c.args.self.now _ _ _
    (refuted c.args.self.now c.in-Some.number.now
    (first_found c.args.self.now first c.loop-number.invariant.found) c.same_bytes.ensures
    c.if-not-same_bytes.true)

pub loop-number-preserved : goal.loop-number-preserved
loop-number-preserved g c =
    let first = rest_more deref_pair _ _ _ _ c.in-Some.is c.next.ensures.steps in
    record {
      can_go = tt;
      ends = tt;
      found = later_found c.args.self.now first c.loop-number.invariant.found;
      done =
          λ q there. entry_agrees c.args.self.now first
          (first_found c.args.self.now first c.loop-number.invariant.found) c.same_bytes.ensures
          c.if-not-same_bytes.false q (c.loop-number.invariant.done q there);
    }

pub returns-clause-same : goal.returns-clause-same
returns-clause-same g c =
    let last = rest_all deref_pair _ _ _ c.in-None.is c.next.ensures.steps in
    all_decided c.args.self.now last c.loop-number.invariant.done

pub returns-clause-rows : goal.returns-clause-rows
returns-clause-rows g c =
    let last = rest_all deref_pair _ _ _ c.in-None.is c.next.ensures.steps in
    agreed c.args.self.now _ _ true (all_decided c.args.self.now last c.loop-number.invariant.done)
