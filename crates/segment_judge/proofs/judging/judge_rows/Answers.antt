use Rattle.std.proofs.Common.{◌+◌, ◌++◌, [], ap, ◌∙◌, arith}
use Rattle.hart_words.specs.Memory.{after_writes}
use Rattle.rvfi_rows.specs.Cells.{shown_in}
use Rattle.rvfi_rows.specs.Readings.{reading_of, readings_in}
use Rattle.hart_step.specs.HartSets.{set_state_of}
use Rattle.segment_judge.specs.Progress.{JudgesRow, standing}
use Rattle.segment_judge.specs.Standings.{accesses_at}
use Rattle.segment_judge.proofs.Ends.{agreed, bytes_turn, ended, stands}
use Rattle.segment_judge.proofs.Noted.{noting_begins, noting_ends, noting_goes_on, noting_is_whole}
use Rattle.segment_judge.proofs.Turns.{row_turn, rows_begin, rows_end}
use Rattle.segment_judge.proofs.judging.judge_rows.Goals as goal

pub loop-place-init : goal.loop-place-init
unfolding after_writes
loop-place-init g c = record {
  accesses = [];
  whole =
      rw (c.before-progress.ensures.harts, c.before-progress.ensures.rows, c.before-progress.ensures.valid)
      (rows_begin (set_state_of g.M.PhysMem.bytes c.args.start) (readings_in c.args.rows.now));
  footprint = c.before-progress.ensures.footprint;
  bytes = ap (λ set. g.M.PhysMem.bytes set.mem) c.before-progress.ensures.harts;
  can_judge = c.before-progress.ensures.can_judge;
  ram = ap (λ set. g.M.PhysMem.ram set.mem) c.before-progress.ensures.harts;
  rows = c.before-progress.ensures.rows;
  noted =
      rw c.before-progress.ensures.harts
      (noting_begins c.args.origin (set_state_of g.M.PhysMem.bytes c.args.start) (readings_in c.args.rows.now)
      c.before-progress.result.history c.before-progress.ensures.history);
}

pub loop-place-preserved : goal.loop-place-preserved
loop-place-preserved g c =
    let bytes_of = g.M.PhysMem.bytes in
    let before = c.loop-place.progress in
    let now = c.judge_row.new.self in
    let row = reading_of c.in-Some.reading (shown_in c.get.new.row) in
    let judges : JudgesRow bytes_of before now row c.in_ok-judge_row.field-0 c.loop-place.invariant.accesses =
    c.in_ok-judge_row.ensures.judges c.loop-place.invariant.accesses in
    let more = accesses_at (set_state_of bytes_of before.harts) row in
    let turn =
    row_turn (standing bytes_of before c.loop-place.invariant.accesses)
    (standing bytes_of now (c.loop-place.invariant.accesses ++ more)) (readings_in c.args.rows.now)
    c.loop-place.place c.in_ok-judge_row.field-0 c.in-Some.ensures judges.gives
    c.loop-place.invariant.whole in
    let rows = rw c.in-None-2.is at c.in_ok-judge_row.ensures.rows in
    record {
      accesses = c.loop-place.invariant.accesses ++ more;
      whole = rw c.in-None-2.is at turn;
      footprint = judges.footprint c.loop-place.invariant.footprint;
      bytes =
          bytes_turn (bytes_of c.args.start.mem) (bytes_of before.harts.mem) (bytes_of now.harts.mem)
          c.loop-place.invariant.accesses more c.loop-place.invariant.bytes judges.bytes;
      can_judge = c.in_ok-judge_row.ensures.can_judge;
      ram = c.in_ok-judge_row.ensures.ram ∙ c.loop-place.invariant.ram;
      rows = rows ∙ ap (λ n. n + 1) c.loop-place.invariant.rows;
      noted =
          noting_goes_on before now (readings_in c.args.rows.now) c.in-Some.ensures c.loop-place.invariant.rows
          c.loop-place.invariant.noted
          (λ trail. rw c.in-None-2.is at (c.in_ok-judge_row.ensures.notes c.args.origin trail));
    }

pub returns-in-Some-2-clause-judged : goal.returns-in-Some-2-clause-judged
returns-in-Some-2-clause-judged g c =
    let bytes_of = g.M.PhysMem.bytes in
    let before = c.loop-place.progress in
    let now = c.judge_row.new.self in
    let row = reading_of c.in-Some.reading (shown_in c.get.new.row) in
    let judges : JudgesRow bytes_of before now row c.in_ok-judge_row.field-0 c.loop-place.invariant.accesses =
    c.in_ok-judge_row.ensures.judges c.loop-place.invariant.accesses in
    let more = accesses_at (set_state_of bytes_of before.harts) row in
    let turn =
    row_turn (standing bytes_of before c.loop-place.invariant.accesses)
    (standing bytes_of now (c.loop-place.invariant.accesses ++ more)) (readings_in c.args.rows.now)
    c.loop-place.place c.in_ok-judge_row.field-0 c.in-Some.ensures judges.gives
    c.loop-place.invariant.whole in
    let whole = rw c.in-Some-2.is at turn in
    ended bytes_of (set_state_of bytes_of c.args.start) (readings_in c.args.rows.now) c.in-Some-2.verdict
    (c.loop-place.invariant.accesses ++ more) now.footprint now.history whole
    (judges.footprint c.loop-place.invariant.footprint)

pub returns-in-Some-2-clause-stands : goal.returns-in-Some-2-clause-stands
returns-in-Some-2-clause-stands g c =
    stands g.M.PhysMem.bytes (set_state_of g.M.PhysMem.bytes c.args.start) (readings_in c.args.rows.now) _
    (returns-in-Some-2-clause-judged g c)

pub returns-clause-judged : goal.returns-clause-judged
returns-clause-judged g c =
    let bytes_of = g.M.PhysMem.bytes in
    let before = c.loop-place.progress in
    let end =
    rows_end (standing bytes_of before c.loop-place.invariant.accesses) (readings_in c.args.rows.now)
    c.loop-place.place _ (omega (arith, c.loop-place-test.false, c.len-place-end.ensures.count))
    c.loop-place.invariant.whole in
    agreed bytes_of (set_state_of bytes_of c.args.start) (readings_in c.args.rows.now) before.harts before.history end
    c.loop-place.invariant.bytes c.loop-place.invariant.footprint

pub returns-clause-stands : goal.returns-clause-stands
returns-clause-stands g c =
    stands g.M.PhysMem.bytes (set_state_of g.M.PhysMem.bytes c.args.start) (readings_in c.args.rows.now) _
    (returns-clause-judged g c)

pub returns-in-Some-2-clause-history : goal.returns-in-Some-2-clause-history
returns-in-Some-2-clause-history g c =
    noting_ends c.loop-place.progress c.judge_row.new.self (readings_in c.args.rows.now) c.in-Some-2.verdict
    c.in-Some.ensures c.loop-place.invariant.rows c.loop-place.invariant.noted
    (λ trail. rw c.in-Some-2.is at (c.in_ok-judge_row.ensures.notes c.args.origin trail))

pub returns-clause-history : goal.returns-clause-history
returns-clause-history g c =
    noting_is_whole c.loop-place.progress.history c.loop-place.invariant.noted
    (omega (arith, c.loop-place-test.false, c.len-place-end.ensures.count))
