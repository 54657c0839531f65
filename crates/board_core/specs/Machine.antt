-- The machine of the two words that workers share: how many numbers were claimed, and the least segment posted.
use Rattle.std.specs.Prelude.{◌≡◌, ℕ, ◌+◌, Bool, true, ◌&&◌, ◌==◌, nat_le, nat_lt, min, if◌then◌else◌, List, [], ◌∷◌}
use Rattle.std.specs.Prelude.{◌++◌}
use Rattle.std.specs.List.{list_any}
use Rattle.board_core.specs.declared.event.Event.{Event}
use Rattle.board_core.specs.declared.event.Event.TheVariants.{Claim, Look, Post}
use Rattle.board_core.specs.declared.event.Answer.{Answer}
use Rattle.board_core.specs.declared.event.Answer.TheVariants.{Drew, Least, Nothing}

-- the machine's state
pub record Machine : Type 0 where
  -- how many segments there are
  pub segments : ℕ
  -- the number that is drawn next
  pub next : ℕ
  -- the least segment posted, or the number of segments where none was
  pub least : ℕ
  -- what was drawn and what was posted, in order, as pairs of a worker and a number
  pub draws : List (ℕ × ℕ)
  pub posts : List (ℕ × ℕ)

-- the machine for so many segments, before any event
abbrev pub machine_at_start : ℕ → Machine
machine_at_start n = record { segments = n; next = 0; least = n; draws = []; posts = [] }

-- a draw of the worker's that is no segment
abbrev pub is_over : ℕ → ℕ → ℕ × ℕ → Bool
is_over n worker draw = (draw.0 == worker) && nat_le n draw.1

-- the draw is the worker's, and of this number
abbrev pub is_draw_of : ℕ → ℕ → ℕ × ℕ → Bool
is_draw_of worker number draw = (draw.0 == worker) && (draw.1 == number)

-- the worker has drawn a number that is no segment, so that none is left for it
abbrev pub has_none_left : Machine → ℕ → Bool
has_none_left machine worker = list_any (is_over machine.segments worker) machine.draws

-- the worker has drawn this number
abbrev pub has_drawn : Machine → ℕ → ℕ → Bool
has_drawn machine worker number = list_any (is_draw_of worker number) machine.draws

-- the worker draws the next number
abbrev pub machine_after_claim : Machine → ℕ → Machine
machine_after_claim machine worker = record machine {
  next = machine.next + 1;
  draws = machine.draws ++ (worker, machine.next) ∷ [];
}

-- the worker posts the segment
abbrev pub machine_after_post : Machine → ℕ → ℕ → Machine
machine_after_post machine worker segment = record machine {
  least = min machine.least segment;
  posts = machine.posts ++ (worker, segment) ∷ [];
}

-- the machine after an event: a worker that has passed draws no more,
-- and only a segment that the worker has drawn is posted
unfoldable pub machine_after_event : Machine → Event → Machine
machine_after_event machine (Claim worker) =
    if has_none_left machine worker then machine else machine_after_claim machine worker
machine_after_event machine (Look worker) = machine
machine_after_event machine (Post worker segment) =
    if nat_lt segment machine.segments
    && has_drawn machine worker segment then machine_after_post machine worker segment
    else machine

-- what the event answers
abbrev pub answer_of : Machine → Event → Answer
answer_of machine (Claim worker) = if has_none_left machine worker then Nothing else Drew machine.next
answer_of machine (Look worker) = Least machine.least
answer_of machine (Post worker segment) = Nothing

-- the event is a post, or a claim of a worker that has passed
abbrev pub IsSilent : Machine → Event → Type 0
IsSilent machine (Claim worker) = has_none_left machine worker ≡ true
IsSilent machine (Look worker) = ⊥
IsSilent machine (Post worker segment) = Unit {0}

-- the machine after events, one after another
abbrev pub machine_after_events : Machine → List Event → Machine
machine_after_events machine [] = machine
machine_after_events machine (event ∷ events) = machine_after_events (machine_after_event machine event) events

-- a look at the least post, as a pair of the worker and the answer; other events look at nothing
abbrev pub look_of : Machine → Event → List (ℕ × ℕ)
look_of machine (Claim worker) = []
look_of machine (Look worker) = (worker, machine.least) ∷ []
look_of machine (Post worker segment) = []

-- the looks of events, in order
abbrev pub looks : Machine → List Event → List (ℕ × ℕ)
looks machine [] = []
looks machine (event ∷ events) = look_of machine event ++ looks (machine_after_event machine event) events
