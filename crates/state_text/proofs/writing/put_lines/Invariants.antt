use Rattle.std.proofs.Common.{◌≡◌, ◌≤◌, ◌+◌, ◌*◌, ◌++◌, drop, length}
use Rattle.std.specs.List.{concat}
use Rattle.state_text.specs.Numbers.{number_names, numbers_of}
use Rattle.state_text.specs.Texts.{number_lines}
use Rattle.state_text.proofs.writing.put_lines.Given as goal

-- what was put, with the lines that are left
abbrev pub invariant-loop-place : goal.invariant-loop-place
invariant-loop-place l = record {
  room : length l.piece ≤ length l.fn.piece + 64 * l.place;
  text :
      l.piece
      ++ concat (number_lines (drop l.place number_names) (drop l.place (numbers_of l.core.registers l.core.csrs)))
      ≡ l.fn.piece ++ concat (number_lines number_names (numbers_of l.core.registers l.core.csrs));
}
