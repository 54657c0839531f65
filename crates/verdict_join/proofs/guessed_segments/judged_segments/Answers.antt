use Rattle.std.proofs.Common.{◌+◌, ◌∙◌, None, ap, arith, length, option_copied, refl, slice_index_or, sym}
use Rattle.std.proofs.lemmas.List.{length-append, length-set}
use Rattle.std.proofs.lemmas.List.{take_all}
use Rattle.std.proofs.lemmas.Option.{slice_get_read}
use Rattle.verdict_join.specs.Walks.{judged_segment_in}
use Rattle.verdict_join.proofs.Placed.{none_pushed, passed_turn, placed_turn}
use Rattle.verdict_join.proofs.guessed_segments.judged_segments.Goals as goal
use Rattle.verdict_join.proofs.guessed_segments.judged_segments.Goals.{in-Judged, in_default}

pub loop-preserved : goal.loop-preserved
loop-preserved g c = record {
  all = rw c.in_ok-push.ensures.items (length-append _ _ ∙ ap (λ n. n + 1) c.loop.invariant.all);
  none = λ number. rw c.in_ok-push.ensures.items (none_pushed c.loop.places.items number c.loop.invariant.none);
}

pub loop-found-init : goal.loop-found-init
unfolding judged_segment_in
loop-found-init g c = record {
  all = omega (arith, c.loop.invariant.all, c.loop-test.false, c.loop.auto.counter-end);
  each = λ number within. ap option_copied (c.loop.invariant.none number);
}

pub index_mut-requires : goal.index_mut-requires
index_mut-requires g c =
    let below = c.requires.below c.loop-found.found-index c.found-item.result c.loop-found-test.true in
    let seg = ap (λ found. found.seg) c.found-item.is in
    omega (arith, below, seg, c.loop-found.invariant.all, c.loop-found.places.ok.0)

pub loop-found-preserved : goal.loop-found-preserved
loop-found-preserved g c =
    let founds = c.args.founds.now in
    let index = c.loop-found.found-index in
    let found = c.found-item.result in
    let here = sym (slice_get_read founds (length founds) index found refl c.loop-found-test.true c.found-item.is) in
    let below = c.requires.below index found c.loop-found-test.true in
    let seg = ap (λ found. found.seg) c.found-item.is in
    elim c.match-found.branch [
      | in-Judged w ↦ record {
        all = ap (λ places. length places.items) w.places-is ∙ length-set _ _ _ ∙ c.loop-found.invariant.all;
        each = λ number within. ap (λ places. option_copied (slice_index_or places.items number None)) w.places-is
            ∙ placed_turn c.loop-found.places.items number (record { here = here; judged_so = w.in-Judged.is })
            (omega (arith, below, seg, c.loop-found.invariant.all)) (c.loop-found.invariant.each number within);
      }
      | in_default w ↦ record {
        all = ap (λ places. length places.items) w.places-is ∙ c.loop-found.invariant.all;
        each = λ number within. ap (λ places. option_copied (slice_index_or places.items number None)) w.places-is
            ∙ c.loop-found.invariant.each number within
            ∙ sym (passed_turn founds index number w.in_default.field-0 found here w.in_default.is);
      }
    ]

pub returns : goal.returns
returns g c = record {
  all = c.loop-found.invariant.all;
  each =
      λ number within. c.loop-found.invariant.each number within
      ∙ ap (λ looked. judged_segment_in looked number) (take_all _ _ (omega (arith, c.loop-found-test.false)));
}
