use Rattle.std.proofs.Common.{◌≡◌, ◌<◌, ℕ, length, slice_index_or, take, None, option_copied}
use Rattle.verdict_join.specs.Walks.{judged_segment_in}
use Rattle.verdict_join.proofs.guessed_segments.judged_segments.Given as goal

-- so many places were made, and nothing stands in them
abbrev pub invariant-loop : goal.invariant-loop
invariant-loop g l = record {
  all : length l.places.items ≡ l.counter;
  none : (number : ℕ) → slice_index_or l.places.items number None ≡ None;
}

-- the founds that were looked at are placed
abbrev pub invariant-loop-found : goal.invariant-loop-found
invariant-loop-found g l = record {
  all : length l.places.items ≡ l.fn.count;
  each : (number : ℕ) → number < l.fn.count
      → option_copied (slice_index_or l.places.items number None)
      ≡ judged_segment_in (take l.found-index l.founds) number;
}
