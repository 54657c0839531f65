use Rattle.std.proofs.Common.{◌∙◌, arith}
use Rattle.outside_ports.proofs.Written.{wrote_more}
use Rattle.outside_ports.proofs.output.write_all.Goals as goal

pub writing-preserved : goal.writing-preserved
writing-preserved g c = (
  wrote_more (g.O.Sink.held c.args.out.now) c.args.text.now c.writing.done c.in-Ok.count c.following.ensures.rest
      c.writing.invariant.0 c.in-Ok.ensures.held,
  c.in-Ok.ensures.no_fault ∙ c.writing.invariant.1,
  omega (arith, c.in-Ok.ensures.within, c.following.ensures.len),
)
