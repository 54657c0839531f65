use Rattle.std.proofs.Common.{◌≡◌, ◌-◌, ◌≤◌, ◌++◌, length, take, option_map}
use Rattle.outside_ports.proofs.output.write_all.Given as goal

-- the front of the text was written
abbrev pub invariant-writing : goal.invariant-writing
invariant-writing g l =
    (g.O.Sink.held l.out ≡ option_map (λ bytes. bytes ++ take l.done l.text) (g.O.Sink.held l.initial.out))
    × (g.O.Sink.faults l.out ≡ g.O.Sink.faults l.initial.out)
    × (l.done ≤ length l.text)

abbrev pub decreases-writing : goal.decreases-writing
decreases-writing g l = length l.text - l.done
