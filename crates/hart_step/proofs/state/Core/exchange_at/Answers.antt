use Rattle.hart_words.specs.AccessSizes.{bytes_of}
use Rattle.hart_step.proofs.Ways.{exchange_refused, exchange_at_device, exchange_placed}
use Rattle.hart_step.proofs.state.Core.exchange_at.Goals as goal

pub returns-in-Err-clause-located : goal.returns-in-Err-clause-located
returns-in-Err-clause-located g c =
    let request = c.args.request.now in
    exchange_refused c.args.self.now request.address (bytes_of request.size) c.in-Err.ensures.located

pub returns-then-first-clause-located : goal.returns-then-first-clause-located
returns-then-first-clause-located g c =
    let request = c.args.request.now in
    exchange_at_device c.args.self.now request.address (bytes_of request.size) c.in-Ok.ensures.located
    c.if-first.true

pub returns-clause-located : goal.returns-clause-located
returns-clause-located g c =
    let request = c.args.request.now in
    exchange_placed c.args.self.now request.address (bytes_of request.size) c.in-Ok.ensures.located c.if-first.false
    (rw c.bytes-len.ensures.value at c.number-held.ensures.value)
    (rw c.bytes-len.ensures.value at c.put.ensures)
