use Rattle.std.proofs.Common.{◌≡◌, ◌-◌, []}
use Rattle.state_text.specs.Texts.{cores_in}
use Rattle.state_text.specs.Views.{remaining_of}
use Rattle.state_text.proofs.state.read_cores.Given as goal

-- what is read so far leads to all
abbrev pub invariant-loop : goal.invariant-loop
invariant-loop l =
    cores_in l.platform.profile l.platform.map l.platform.choices (l.harts - l.counter) l.cores.items
    (remaining_of l.remaining)
    ≡ cores_in l.platform.profile l.platform.map l.platform.choices l.harts [] (remaining_of l.fn.remaining)
