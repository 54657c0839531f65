use Rattle.std.proofs.lemmas.Result.{err_from_is_err_and}
use Rattle.state_text.specs.Views.{remaining_of}
use Rattle.state_text.proofs.CoresRead.{cores_all, cores_on, cores_unread}
use Rattle.state_text.proofs.state.read_cores.Goals as goal

pub returns-in_err-core : goal.returns-in_err-core
returns-in_err-core c =
    let p = err_from_is_err_and c.from_residual.result c.from_residual.ensures.1 in
    rw (p.1, p.2)
    (cores_unread c.args.platform.now.profile c.args.platform.now.map c.args.platform.now.choices
    c.args.harts c.loop.counter c.loop.cores.items
    (remaining_of c.loop.remaining) _ _ c.loop-test.true c.loop.invariant c.in_err-core.ensures)

pub loop-preserved : goal.loop-preserved
loop-preserved c =
    cores_on c.args.platform.now.profile c.args.platform.now.map c.args.platform.now.choices
    c.args.harts c.loop.counter c.loop.cores.items c.push.new.self.items
    (remaining_of c.loop.remaining) (remaining_of c.in_ok-core.after) c.in_ok-core.core _ c.loop-test.true
    c.loop.invariant c.in_ok-core.ensures c.in_ok-push.ensures.items

pub returns : goal.returns
returns c =
    cores_all c.args.platform.now.profile c.args.platform.now.map c.args.platform.now.choices
    c.args.harts c.loop.counter c.loop.cores.items (remaining_of c.loop.remaining) _
    c.loop-test.false c.loop.invariant
