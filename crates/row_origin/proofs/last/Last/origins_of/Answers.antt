use Rattle.std.proofs.Common.{◌∙◌, Some, sym, ap}
use Rattle.std.specs.List.{filter}
use Rattle.std.specs.Option.{option_copied}
use Rattle.row_origin.proofs.LastOf.{are_effects}
use Rattle.row_origin.specs.Last.{register_in}
use Rattle.row_origin.specs.Origins.{register_origins}
use Rattle.row_origin.specs.Sources.{effects_of, is_kept, registers_read}
use Rattle.row_origin.proofs.last.Last.origins_of.Goals as goal

pub returns-in-Some : goal.returns-in-Some
returns-in-Some c = λ trail facts are hart expected reads.
    are_effects c.args.self.now trail facts c.put_load.new.origins
    c.in-Some.effects.now c.args.reads.now
    (ap effects_of expected ∙ sym c.effects.ensures ∙ ap option_copied c.in-Some.is)
    (sym reads)
    (c.put_load.ensures.registers ∙ c.put_sources.ensures.registers
    ∙ ap (λ hart. register_origins (λ number. register_in c.args.self.now hart number)
    (filter is_kept (registers_read (Some c.in-Some.effects.now)))) (sym hart))
    c.put_load.ensures.bytes are
