use Rattle.std.proofs.Common.{◌∙◌, ◌++◌, ap, option_map}
use Rattle.state_text.proofs.Underway.{sent_whole}
use Rattle.state_text.proofs.writing.write_full.Goals as goal

pub returns-in-Ok-clause-sent : goal.returns-in-Ok-clause-sent
returns-in-Ok-clause-sent g c =
    sent_whole c.new.ensures
    (c.in-Ok.ensures.all
    ∙ ap (λ piece. option_map (λ held. held ++ piece) (g.S.Sink.held c.args.sink.now)) c.as_slice-2.ensures)
