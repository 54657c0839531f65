use Rattle.std.proofs.Common.{◌∙◌, subst, sym}
use Rattle.std.specs.Map.Iter.{deref_pair}
use Rattle.std.proofs.lemmas.Map.Iter.{rest_more, rest_all}
use Rattle.read_footprint.specs.Sets.{AreIn}
use Rattle.read_footprint.proofs.Entries.{all_moved, block_moved, entry_moved, first_found, later_found, moved_rows}
use Rattle.read_footprint.proofs.Entries.{wrote_within}
use Rattle.read_footprint.proofs.footprint.Footprint.moved.Goals as goal

pub move_bytes-requires-clause-memory : goal.move_bytes-requires-clause-memory
move_bytes-requires-clause-memory g c =
    let first = rest_more deref_pair _ _ _ _ c.in-Some.is c.next.ensures.steps in
    subst (λ ram. AreIn ram c.in-Some.number.now c.in-Some.block.now.wrote) (sym c.loop-number.invariant.ram)
    (wrote_within (g.M.PhysMem.ram c.args.memory.now) c.args.self.now c.in-Some.number.now c.in-Some.block.now
    c.requires.memory (first_found c.args.self.now first c.loop-number.invariant.found))

pub move_bytes-requires-clause-judged : goal.move_bytes-requires-clause-judged
move_bytes-requires-clause-judged g c =
    let first = rest_more deref_pair _ _ _ _ c.in-Some.is c.next.ensures.steps in
    wrote_within (g.N.PhysMem.ram c.args.judged.now) c.args.self.now c.in-Some.number.now c.in-Some.block.now
    c.requires.judged (first_found c.args.self.now first c.loop-number.invariant.found)

pub loop-number-preserved : goal.loop-number-preserved
loop-number-preserved g c =
    let first = rest_more deref_pair _ _ _ _ c.in-Some.is c.next.ensures.steps in
    let found = first_found c.args.self.now first c.loop-number.invariant.found in
    record {
      can_go = tt;
      ends = tt;
      found = later_found c.args.self.now first c.loop-number.invariant.found;
      done =
          λ q there. entry_moved c.args.self.now first found c.in_ok-move_bytes.ensures.ok
          c.move_bytes.ensures.either q (c.loop-number.invariant.done q there);
      either =
          block_moved c.args.self.now c.in-Some.number.now found c.loop-number.invariant.either
          c.move_bytes.ensures.either;
      ram = c.move_bytes.ensures.ram ∙ c.loop-number.invariant.ram;
    }

pub returns-in_err-move_bytes-clause-either : goal.returns-in_err-move_bytes-clause-either
returns-in_err-move_bytes-clause-either g c =
    let first = rest_more deref_pair _ _ _ _ c.in-Some.is c.next.ensures.steps in
    let found = first_found c.args.self.now first c.loop-number.invariant.found in
    block_moved c.args.self.now c.in-Some.number.now found c.loop-number.invariant.either c.move_bytes.ensures.either

pub returns-clause-ok : goal.returns-clause-ok
returns-clause-ok g c =
    let last = rest_all deref_pair _ _ _ c.in-None.is c.next.ensures.steps in
    all_moved c.args.self.now last c.loop-number.invariant.done c.loop-number.invariant.either

pub returns-clause-rows : goal.returns-clause-rows
returns-clause-rows g c =
    let last = rest_all deref_pair _ _ _ c.in-None.is c.next.ensures.steps in
    moved_rows c.args.self.now _ _ _
    (all_moved c.args.self.now last c.loop-number.invariant.done c.loop-number.invariant.either)
