use Rattle.std.proofs.Common.{rules, ◌≡◌, ◌<◌, ◌≤◌, ◌∙◌, ap, map, arith, length, refl, sym, subst, true}
use Rattle.std.proofs.lemmas.List.{length-map}
use Rattle.std.proofs.lemmas.Option.{slice_get_read}
use Rattle.hart_step.specs.HartSets.{SetCanStep, set_state_of}
use Rattle.rvfi_rows.specs.Rows.{rows_of}
use Rattle.segment_judge.proofs.Histories.{so_far_begins, so_far_kept}
use Rattle.verdict_join.specs.Joining.{round_of, rows_of_segment}
use Rattle.verdict_join.proofs.Looped.{StandUnder, goes_on_after, loop_turn, one_more, place_is, placed_judgement}
use Rattle.verdict_join.proofs.Looped.{placed_history, placed_usable, rows_left, some_at, stops_after}
use Rattle.verdict_join.proofs.Histories.{walked_last, walked_next}
use Rattle.verdict_join.proofs.Rests.{rest_begins, rest_ends, settled_is}
use Rattle.verdict_join.proofs.Turns.{candidates_end}
use Rattle.verdict_join.proofs.guessed_segments.GuessedSegments.walk.Goals as goal

pub offset_bounds-guesses-number : goal.offset_bounds-guesses-number
offset_bounds-guesses-number g c =
    let within : c.loop-number.number < length c.args.self.now.guesses.now =
    omega (arith, c.loop-number-test.true, c.args.self.now.one_each) in
    search rules

pub adopted_judgement-judged-requires-clause-usable : goal.adopted_judgement-judged-requires-clause-usable
adopted_judgement-judged-requires-clause-usable g c =
    let self = c.args.self.now in
    let number = c.loop-number.number in
    let within = c.loop-number-test.true in
    let segment = some_at self.segments.now number within in
    let guess_is =
    slice_get_read self.guesses.now (length self.guesses.now) number c.index-guesses-number.result refl
    (omega (arith, within, self.one_each)) c.index-guesses-number.is in
    let stand : StandUnder self.origin g.M.PhysMem.bytes g.M.PhysMem.ram self.columns.now self.segments.now self.guesses.now
    c.args.founds.items number segment.0 c.index-guesses-number.result c.index.result.now = record {
      lawful = c.requires.lawful;
      segment_is = segment.1;
      guess_is = guess_is;
      place_is = place_is number c.in_ok-places.ensures c.deref.ensures.value within c.index.ensures;
    } in
    placed_usable c.index.result.now stand

pub pass-requires-clause-adopted : goal.pass-requires-clause-adopted
pass-requires-clause-adopted g c =
    let self = c.args.self.now in
    let number = c.loop-number.number in
    let within = c.loop-number-test.true in
    let segment = c.index-segments-number.result in
    let guess_is =
    slice_get_read self.guesses.now (length self.guesses.now) number c.index-guesses-number.result refl
    (omega (arith, within, self.one_each)) c.index-guesses-number.is in
    let segment_is =
    slice_get_read self.segments.now (length self.segments.now) number segment refl within
    c.index-segments-number.is in
    let stand : StandUnder self.origin g.M.PhysMem.bytes g.M.PhysMem.ram self.columns.now self.segments.now self.guesses.now
    c.args.founds.items number segment c.index-guesses-number.result c.index.result.now = record {
      lawful = c.requires.lawful;
      segment_is = segment_is;
      guess_is = guess_is;
      place_is = place_is number c.in_ok-places.ensures c.deref.ensures.value within c.index.ensures;
    } in
    c.adopted_judgement-judged.ensures.concludes (rows_of_segment self.columns.now segment)
    (placed_judgement c.index.result.now stand)

pub pass-requires-clause-kept : goal.pass-requires-clause-kept
pass-requires-clause-kept g c =
    let self = c.args.self.now in
    let number = c.loop-number.number in
    let within = c.loop-number-test.true in
    let segment = c.index-segments-number.result in
    let guess_is =
    slice_get_read self.guesses.now (length self.guesses.now) number c.index-guesses-number.result refl
    (omega (arith, within, self.one_each)) c.index-guesses-number.is in
    let segment_is =
    slice_get_read self.segments.now (length self.segments.now) number segment refl within
    c.index-segments-number.is in
    let stand : StandUnder self.origin g.M.PhysMem.bytes g.M.PhysMem.ram self.columns.now self.segments.now
    self.guesses.now c.args.founds.items number segment c.index-guesses-number.result c.index.result.now = record {
      lawful = c.requires.lawful;
      segment_is = segment_is;
      guess_is = guess_is;
      place_is = place_is number c.in_ok-places.ensures c.deref.ensures.value within c.index.ensures;
    } in
    c.adopted_judgement-judged.ensures.kept self.origin (rows_of_segment self.columns.now segment)
    (placed_judgement c.index.result.now stand) (placed_history c.index.result.now stand)

pub pass-requires-clause-below_2_to_62 : goal.pass-requires-clause-below_2_to_62
pass-requires-clause-below_2_to_62 g c =
    let self = c.args.self.now in
    let segment_is =
    slice_get_read self.segments.now (length self.segments.now) c.loop-number.number c.index-segments-number.result refl
    c.loop-number-test.true c.index-segments-number.is in
    let left = rows_left self.columns.now self.segments.now c.loop-number.number segment_is in
    omega (arith, left, c.loop-number.invariant.rows, self.rows)

pub loop-number-preserved : goal.loop-number-preserved
loop-number-preserved g c =
    let self = c.args.self.now in
    let number = c.loop-number.number in
    let within = c.loop-number-test.true in
    let segment = c.index-segments-number.result in
    let guess_is =
    slice_get_read self.guesses.now (length self.guesses.now) number c.index-guesses-number.result refl
    (omega (arith, within, self.one_each)) c.index-guesses-number.is in
    let segment_is =
    slice_get_read self.segments.now (length self.segments.now) number segment refl within
    c.index-segments-number.is in
    let stand : StandUnder self.origin g.M.PhysMem.bytes g.M.PhysMem.ram self.columns.now self.segments.now self.guesses.now
    c.args.founds.items number segment c.index-guesses-number.result c.index.result.now = record {
      lawful = c.requires.lawful;
      segment_is = segment_is;
      guess_is = guess_is;
      place_is = place_is number c.in_ok-places.ensures c.deref.ensures.value within c.index.ensures;
    } in
    let judged = placed_judgement c.index.result.now stand in
    let rows = rows_of_segment self.columns.now segment in
    let passes = rw c.in-None.is at c.in_ok-pass.ensures.passes in
    let left = rows_left self.columns.now self.segments.now number segment_is in
    record {
      whole =
          λ same tells. goes_on_after same true _ _ (sym c.is_last-is_last.ensures ∙ c.if-is_last.false)
          (loop_turn true same tells stand (record {
            misses = c.adopted_judgement-judged.ensures.misses same tells rows judged;
            again = c.in_ok-pass.ensures.again;
            passes = passes;
          }) (c.loop-number.invariant.whole same tells));
      can_step = c.in_ok-pass.ensures.can_step;
      ram = c.in_ok-pass.ensures.ram ∙ c.loop-number.invariant.ram;
      rows = omega (arith, left, c.in_ok-pass.ensures.rows, c.loop-number.invariant.rows);
      again = one_more c.adopted_judgement-judged.result c.in_ok-pass.ensures.again c.loop-number.invariant.again;
      history =
          walked_next c.loop-number.walk c.pass.new.self self.columns.now self.segments.now number segment_is
          c.loop-number.invariant.history passes c.in_ok-pass.ensures.history;
    }

pub returns-then-is_last-clause-walks : goal.returns-then-is_last-clause-walks
returns-then-is_last-clause-walks g c = λ same tells.
    let self = c.args.self.now in
    let number = c.loop-number.number in
    let within = c.loop-number-test.true in
    let segment = c.index-segments-number.result in
    let guess_is =
    slice_get_read self.guesses.now (length self.guesses.now) number c.index-guesses-number.result refl
    (omega (arith, within, self.one_each)) c.index-guesses-number.is in
    let segment_is =
    slice_get_read self.segments.now (length self.segments.now) number segment refl within
    c.index-segments-number.is in
    let stand : StandUnder self.origin g.M.PhysMem.bytes g.M.PhysMem.ram self.columns.now self.segments.now self.guesses.now
    c.args.founds.items number segment c.index-guesses-number.result c.index.result.now = record {
      lawful = c.requires.lawful;
      segment_is = segment_is;
      guess_is = guess_is;
      place_is = place_is number c.in_ok-places.ensures c.deref.ensures.value within c.index.ensures;
    } in
    let judged = placed_judgement c.index.result.now stand in
    let rows = rows_of_segment self.columns.now segment in
    let passes = rw c.in-None.is at c.in_ok-pass.ensures.passes in
    ap (round_of g.M.PhysMem.bytes) c.agreeing_round.ensures
    ∙ stops_after g.M.PhysMem.bytes same true _ (sym c.is_last-is_last.ensures ∙ c.if-is_last.true)
    (loop_turn true same tells stand (record {
      misses = c.adopted_judgement-judged.ensures.misses same tells rows judged;
      again = c.in_ok-pass.ensures.again;
      passes = passes;
    }) (c.loop-number.invariant.whole same tells))

pub returns-in-Some-clause-walks : goal.returns-in-Some-clause-walks
returns-in-Some-clause-walks g c = λ same tells.
    let self = c.args.self.now in
    let number = c.loop-number.number in
    let within = c.loop-number-test.true in
    let segment = c.index-segments-number.result in
    let guess_is =
    slice_get_read self.guesses.now (length self.guesses.now) number c.index-guesses-number.result refl
    (omega (arith, within, self.one_each)) c.index-guesses-number.is in
    let segment_is =
    slice_get_read self.segments.now (length self.segments.now) number segment refl within
    c.index-segments-number.is in
    let stand : StandUnder self.origin g.M.PhysMem.bytes g.M.PhysMem.ram self.columns.now self.segments.now self.guesses.now
    c.args.founds.items number segment c.index-guesses-number.result c.index.result.now = record {
      lawful = c.requires.lawful;
      segment_is = segment_is;
      guess_is = guess_is;
      place_is = place_is number c.in_ok-places.ensures c.deref.ensures.value within c.index.ensures;
    } in
    let judged = placed_judgement c.index.result.now stand in
    let rows = rows_of_segment self.columns.now segment in
    let passes = rw c.in-Some.is at c.in_ok-pass.ensures.passes in
    ap (round_of g.M.PhysMem.bytes) c.ending_round.ensures
    ∙ loop_turn true same tells stand (record {
      misses = c.adopted_judgement-judged.ensures.misses same tells rows judged;
      again = c.in_ok-pass.ensures.again;
      passes = passes;
    }) (c.loop-number.invariant.whole same tells)

pub returns-clause-walks : goal.returns-clause-walks
returns-clause-walks g c = λ same tells.
    let bytes_of = g.M.PhysMem.bytes in
    let rows = map (rows_of_segment c.args.self.now.columns.now) c.args.self.now.segments.now in
    let past : length rows ≤ c.loop-number.number =
    omega (
      arith,
      c.loop-number-test.false,
      length-map c.args.self.now.segments.now (rows_of_segment c.args.self.now.columns.now),
    ) in
    let all : c.loop-number.number ≡ length c.args.self.now.segments.now =
    omega (arith, c.loop-number-test.false, c.loop-number.auto.number-end) in
    ap (round_of bytes_of) c.agreeing_round-2.ensures
    ∙ settled_is bytes_of c.loop-number.walk _ _ _ all
    (rest_ends bytes_of same true c.loop-number.walk
    (candidates_end 0 c.loop-number.number rows _ _ past) (c.loop-number.invariant.whole same tells))

pub loop-number-init : goal.loop-number-init
unfolding rows_of
loop-number-init g c = record {
  whole = λ same tells. rest_begins _ _ c.zero.ensures.rows c.zero.ensures.valid refl;
  can_step = c.requires.can_step;
  ram = refl;
  rows = omega (arith, c.zero.ensures.rows);
  again = omega arith;
  history =
      rw c.zero.ensures.rows
      (so_far_begins c.args.self.now.origin (set_state_of g.M.PhysMem.bytes c.args.start) c.history_if.result
      c.history_if.ensures);
}

pub adopted_judgement-judged-requires-clause-guess : goal.adopted_judgement-judged-requires-clause-guess
adopted_judgement-judged-requires-clause-guess g c =
    let self = c.args.self.now in
    subst (SetCanStep g.M.PhysMem.ram) (sym c.index-guesses-number.is)
    (c.requires.guesses c.loop-number.number c.index-guesses-number.result
    (omega (arith, c.loop-number-test.true, self.one_each)))

pub returns-then-is_last-clause-history : goal.returns-then-is_last-clause-history
returns-then-is_last-clause-history g c =
    let self = c.args.self.now in
    let number = c.loop-number.number in
    let segment_is =
    slice_get_read self.segments.now (length self.segments.now) number c.index-segments-number.result refl
    c.loop-number-test.true c.index-segments-number.is in
    let passes = rw c.in-None.is at c.in_ok-pass.ensures.passes in
    rw c.agreeing_round.ensures
    (so_far_kept
    (walked_next c.loop-number.walk c.pass.new.self self.columns.now self.segments.now number segment_is
    c.loop-number.invariant.history passes c.in_ok-pass.ensures.history))

pub returns-in-Some-clause-history : goal.returns-in-Some-clause-history
returns-in-Some-clause-history g c =
    let self = c.args.self.now in
    let number = c.loop-number.number in
    let segment_is =
    slice_get_read self.segments.now (length self.segments.now) number c.index-segments-number.result refl
    c.loop-number-test.true c.index-segments-number.is in
    rw c.ending_round.ensures
    (walked_last g.M.PhysMem.bytes c.loop-number.walk c.pass.new.self self.columns.now self.segments.now number segment_is
    c.loop-number.invariant.history c.in_ok-pass.ensures.history)
