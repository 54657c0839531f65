use Rattle.verdict_board.proofs.Events.{claim_event, join_none, look_event, opening_shows, post_event, split_none}
use Rattle.verdict_board.proofs.laws.steps_are_events.Goals as goal

pub returns : goal.returns
returns c = record {
  opening = opening_shows;
  claim = claim_event;
  look = look_event;
  post = post_event;
  split = split_none;
  join = join_none;
}
