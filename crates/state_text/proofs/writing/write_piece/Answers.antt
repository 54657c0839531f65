use Rattle.std.proofs.Common.{take, drop}
use Rattle.std.proofs.lemmas.List.{take-append-drop}
use Rattle.state_text.proofs.writing.write_piece.Goals as goal

pub returns-then-write_all-bytes-clause-front : goal.returns-then-write_all-bytes-clause-front
returns-then-write_all-bytes-clause-front g c = record {
  front = take c.write_all.result c.args.bytes.now;
  more = drop c.write_all.result c.args.bytes.now;
  parts = take-append-drop c.write_all.result c.args.bytes.now;
  held = c.write_all.ensures.held;
}
