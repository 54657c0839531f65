use Rattle.std.proofs.Common.{◌-◌}
use Rattle.std.proofs.lemmas.Result.{IfOk-at_ok}
use Rattle.std.specs.Fork.Halves.{GivesFor}
use Rattle.segment_workers.proofs.Chained.{both_parts}
use Rattle.segment_workers.proofs.chain.+chain.Goals as goal

pub returns : goal.returns
returns g t c =
    let work = c.args.work.now in
    let front = c.split_off.new.self.items in
    let last = c.in_ok-last.last.items in
    let done = c.in_ok-results.results.items in
    let following = c.in_ok-following.field-0.items in
    both_parts g.F.Fn work c.args.jobs.items front last (c.len-2.result - 1) done following c.append.new.self.items
    c.in_ok-last.ensures.items c.in_ok-last.ensures.tail c.in_ok-append.ensures.items
    (IfOk-at_ok (λ results. GivesFor g.F.Fn work front results.items) c.in_ok-results.was
    c.join-following.ensures.second)
    (IfOk-at_ok (λ results. GivesFor g.F.Fn work last results.items) c.in_ok-following.was
    c.join-following.ensures.first)
