use Rattle.std.proofs.Common.{◌≡◌, ◌≤◌, length}
use Rattle.hart_step.specs.TakenRows.{byte_writes}
use Rattle.hart_step.proofs.shown_store.ShownStore.note_bytes.Given as goal

-- the bytes so far were noted, and there is room for one more
abbrev pub invariant-loop-number : goal.invariant-loop-number
invariant-loop-number l = record {
  noted : l.wrote ≡ byte_writes l.ram l.self l.number;
  few : length l.wrote ≤ l.number;
}
