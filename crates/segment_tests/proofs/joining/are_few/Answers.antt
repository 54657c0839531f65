use Rattle.std.proofs.Common.{◌<◌, ◌≤◌, ◌*◌, List, [], ◌∷◌, length, arith}
use Rattle.std.specs.List.{All, flat_map}
use Rattle.std.proofs.lemmas.List.{length-append}
use Rattle.std.proofs.lemmas.List.Concat.{flat_map-cons}
use Rattle.std.proofs.lemmas.List.Elements.{All-head, All-tail}
use Rattle.rvfi_rows.specs.declared.segment.Segment.{Segment}
use Rattle.rvfi_rows.specs.Segments.{segment_lines}
use Rattle.segment_tests.proofs.joining.are_few.Goals as goal

abbrev IsShort : Segment → Type 0
IsShort segment = length segment.lines < 1000

-- segments of few lines each have few lines
few_lines : (segments : List Segment) → All (λ segment. length segment.lines < 1000) segments
    → length (flat_map segment_lines segments) ≤ 1000 * length segments
few_lines [] short = omega arith
few_lines (segment ∷ segments) short =
    let here : length segment.lines < 1000 = All-head IsShort segment segments short in
    let rest = few_lines segments (All-tail IsShort segment segments short) in
    rw (flat_map-cons segment_lines segment segments, length-append segment.lines (flat_map segment_lines segments))
    (omega (arith, here, rest))

pub returns-then-segments-lt1000-clause-lines : goal.returns-then-segments-lt1000-clause-lines
returns-then-segments-lt1000-clause-lines c =
    λ short. omega (arith, few_lines c.args.segments.now (c.are_short.ensures short), c.if-segments-lt1000.true)
