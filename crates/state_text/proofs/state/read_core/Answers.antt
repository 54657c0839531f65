use Rattle.std.proofs.Common.{sym}
use Rattle.state_text.specs.Texts.{core_with}
use Rattle.state_text.specs.Views.{remaining_of}
use Rattle.state_text.proofs.CoreText.{has_core}
use Rattle.state_text.proofs.CoresRead.{core_read}
use Rattle.state_text.proofs.Sound.{sound_core}
use Rattle.state_text.proofs.state.read_core.Goals as goal

pub core_with-requires : goal.core_with-requires
core_with-requires c =
    let profile = c.args.platform.now.profile in
    let map = c.args.platform.now.map in
    let choices = c.args.platform.now.choices in
    let core = core_with profile map choices c.in_ok-head.head c.in_ok-numbers.numbers in
    let left = remaining_of c.args.remaining in
    let after = remaining_of c.in_ok-numbers.remaining in
    sound_core profile map choices left core after
    (has_core profile map choices left core after
    (core_read profile map choices c.in_ok-head.head c.in_ok-numbers.numbers left
    (remaining_of c.in_ok-head.remaining) after
    (sym c.in_ok-head.ensures) (sym c.in_ok-numbers.ensures)))

pub returns : goal.returns
returns c =
    rw c.core_with.ensures.value
    (sym (core_read c.args.platform.now.profile c.args.platform.now.map c.args.platform.now.choices
    c.in_ok-head.head c.in_ok-numbers.numbers (remaining_of c.args.remaining)
    (remaining_of c.in_ok-head.remaining) (remaining_of c.in_ok-numbers.remaining) (sym c.in_ok-head.ensures)
    (sym c.in_ok-numbers.ensures)))
