use Rattle.std.proofs.Common.{ap, arith, length}
use Rattle.std.specs.List.{flat_map}
use Rattle.rvfi_rows.specs.Segments.{segment_lines}
use Rattle.stage_times.proofs.Counts.{as_many_lines}
use Rattle.stage_times.proofs.windows.pass_window.Goals as goal

pub judge_segments-requires-clause-lines : goal.judge_segments-requires-clause-lines
judge_segments-requires-clause-lines g c =
    let window = c.in_ok-window.window in
    let here = ap (λ segments. length (flat_map segment_lines segments)) c.deref.ensures.value in
    let before = as_many_lines c.in_ok-segments.segments.items window.segments.items c.in_ok-segments.ensures in
    omega (arith, here, before, window.lines)
