use Rattle.std.proofs.Common.{◌≡◌, ◌<◌, ◌+◌, ◌∙◌, ap, arith, length, map, refl, sym}
use Rattle.std.proofs.lemmas.Bool.{eqb-true}
use Rattle.std.proofs.lemmas.Option.{slice_get_read}
use Rattle.rvfi_rows.specs.Rows.{rows_of}
use Rattle.rvfi_rows.specs.Segments.{segment_lines}
use Rattle.boundary_guess.specs.Guesses.{SetCanStep, guess_after, guesses_of, set_state_of}
use Rattle.boundary_guess.proofs.Passed.{EndsAtSegment, PassesSegment, all_push, can_copy, set_end, set_turn}
use Rattle.boundary_guess.proofs.Passed.{is_some_length, no_segment, same_state}
use Rattle.boundary_guess.proofs.guessing.guesses.Goals as goal

pub returns-then-is_empty-clause-guesses : goal.returns-then-is_empty-clause-guesses
returns-then-is_empty-clause-guesses g c =
    no_segment g.M.PhysMem.bytes c.args.columns.now c.args.segments.now
    (set_state_of g.M.PhysMem.bytes c.args.start.now) c.new-guesses.result.items c.new-guesses.ensures.items
    (eqb-true (length c.args.segments.now) 0 (sym c.if-is_empty.ensures))

pub loop-index-preserved : goal.loop-index-preserved
loop-index-preserved g c =
    let segments = c.args.segments.now in
    let index = c.loop-index.index in
    let segment = c.index-segments-index.result in
    let before = c.loop-index.harts in
    let kept = c.in_ok-kept.kept in
    let next = c.in_ok-harts-2.harts in
    let now = c.pass_segment.new.harts in
    let within : index < length segments = omega (arith, c.loop-index-test.true) in
    let here = slice_get_read segments (length segments) index segment refl within c.index-segments-index.is in
    let is_kept = same_state g.M.PhysMem.bytes kept before c.in_ok-kept.ensures.cores c.in_ok-kept.ensures.bytes in
    let is_next =
    same_state g.M.PhysMem.bytes next kept c.in_ok-harts-2.ensures.cores c.in_ok-harts-2.ensures.bytes ∙ is_kept in
    let went : set_state_of g.M.PhysMem.bytes now
    ≡ guess_after (set_state_of g.M.PhysMem.bytes before) (rows_of c.args.columns.now segment.lines) =
    c.in_ok-pass_segment.ensures.guess
    ∙ ap (λ state. guess_after state (rows_of c.args.columns.now segment.lines)) is_next in
    let passes : PassesSegment g.M.PhysMem.bytes c.args.columns.now segments index before kept now =
    record { segment = segment; segment_is = here; copied = is_kept; passed = went } in
    let whole =
    guesses_of (set_state_of g.M.PhysMem.bytes c.args.start.now) c.args.columns.now (map segment_lines segments) in
    let turn = set_turn c.loop-index.guesses.items {whole = whole} passes c.loop-index.invariant.whole in
    let can_step =
    can_copy g.M.PhysMem.ram before kept c.in_ok-kept.ensures.cores c.in_ok-kept.ensures.ram
    c.loop-index.invariant.can_step in
    record {
      whole = rw c.in_ok-push.ensures.items turn;
      can_step = c.in_ok-pass_segment.ensures.can_step;
      all =
          rw c.in_ok-push.ensures.items
          (all_push (SetCanStep g.M.PhysMem.ram) c.loop-index.guesses.items kept c.loop-index.invariant.all can_step);
    }

pub returns-clause-guesses : goal.returns-clause-guesses
returns-clause-guesses g c =
    let segments = c.args.segments.now in
    let index = c.loop-index.index in
    let before = c.loop-index.harts in
    let kept = c.in_ok-copy.field-0 in
    let some = is_some_length (length segments) (sym c.if-is_empty.ensures) in
    let last : length segments ≡ index + 1 =
    omega (arith, some, c.loop-index-test.false, c.loop-index.auto.index-end) in
    let is_kept = same_state g.M.PhysMem.bytes kept before c.in_ok-copy.ensures.cores c.in_ok-copy.ensures.bytes in
    let ends : EndsAtSegment g.M.PhysMem.bytes segments index before kept =
    record { one_left = last; copied = is_kept } in
    let whole =
    guesses_of (set_state_of g.M.PhysMem.bytes c.args.start.now) c.args.columns.now (map segment_lines segments) in
    rw c.in_ok-push-2.ensures.items
    (set_end c.args.columns.now c.loop-index.guesses.items {whole = whole} ends c.loop-index.invariant.whole)

pub returns-clause-can_step : goal.returns-clause-can_step
returns-clause-can_step g c =
    let kept = c.in_ok-copy.field-0 in
    let can_step =
    can_copy g.M.PhysMem.ram c.loop-index.harts kept c.in_ok-copy.ensures.cores c.in_ok-copy.ensures.ram
    c.loop-index.invariant.can_step in
    rw c.in_ok-push-2.ensures.items
    (all_push (SetCanStep g.M.PhysMem.ram) c.loop-index.guesses.items kept c.loop-index.invariant.all can_step)
