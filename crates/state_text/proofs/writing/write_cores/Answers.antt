use Rattle.std.proofs.Common.{◌∙◌, ◌++◌, subst}
use Rattle.std.specs.List.{concat}
use Rattle.state_text.specs.Texts.{cores_lines}
use Rattle.state_text.proofs.Underway.{IsUnderway, all_put, core_kept, cores_end, fails, sent_on}
use Rattle.state_text.proofs.writing.write_cores.Goals as goal

pub returns-in-Err-clause-front : goal.returns-in-Err-clause-front
returns-in-Err-clause-front g c =
    let kept = core_kept c.args.cores.now c.loop-place.place c.index-cores-place.result c.put_core.new.piece
    c.loop-place-test.true c.index-cores-place.is c.put_core.ensures.text c.loop-place.invariant.text in
    fails kept c.in-Err.ensures.front

pub loop-place-preserved : goal.loop-place-preserved
loop-place-preserved g c =
    let kept = core_kept c.args.cores.now c.loop-place.place c.index-cores-place.result c.put_core.new.piece
    c.loop-place-test.true c.index-cores-place.is c.put_core.ensures.text c.loop-place.invariant.text in
    record {
      room = c.in-Ok.ensures.room;
      no_fault = c.in-Ok.ensures.no_fault ∙ c.loop-place.invariant.no_fault;
      text = sent_on kept c.in-Ok.ensures.sent;
    }

pub returns-clause-sent : goal.returns-clause-sent
returns-clause-sent g c =
    all_put
    (subst (IsUnderway (c.args.piece ++ concat (cores_lines c.args.cores.now)) (g.S.Sink.held c.args.sink.now)
    (g.S.Sink.held c.loop-place.sink) c.loop-place.piece)
    (cores_end c.args.cores.now c.loop-place.place c.loop-place-test.false) c.loop-place.invariant.text)
