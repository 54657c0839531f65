-- What holds of every machine that events lead to.
use Rattle.std.specs.Prelude.{◌≡◌, ◌⊎◌, ℕ, ◌<◌, ◌≤◌, List, [], ◌∷◌, Contains, map}
use Rattle.std.specs.List.{range_with_len}
use Rattle.board_core.specs.declared.event.Event.{Event}
use Rattle.board_core.specs.declared.event.Event.TheVariants.{Claim, Look, Post}
use Rattle.board_core.specs.Bags.{Has, Names, count}
use Rattle.board_core.specs.Machine.{Machine, is_over, looks, machine_at_start}

-- the number of a pair
abbrev pub number_of_pair : ℕ × ℕ → ℕ
number_of_pair pair = pair.1

-- the number is the least posted, or n where nothing was
pub record IsLeast (n : ℕ) (posts : List (ℕ × ℕ)) (least : ℕ) : Type 0 where
  pub within : least ≤ n
  pub below_posts : (post : ℕ × ℕ) → Has posts post → least ≤ post.1
  pub is_one : (least ≡ n) ⊎ Names posts least

-- each post is of a segment that its worker drew
abbrev pub AreDrawn : ℕ → List (ℕ × ℕ) → List (ℕ × ℕ) → Type 0
AreDrawn n draws posts = (post : ℕ × ℕ) → Has posts post → Has draws post × (post.1 < n)

-- what holds of a machine for n segments
pub record IsSoundMachine (n : ℕ) (machine : Machine) : Type 0 where
  pub segments : machine.segments ≡ n
  pub draws : map number_of_pair machine.draws ≡ range_with_len 0 machine.next
  pub least : IsLeast n machine.posts machine.least
  pub posts : AreDrawn n machine.draws machine.posts
  pub passes : (worker : ℕ) → count (is_over n worker) machine.draws ≤ 1

-- each worker that claims is among these
abbrev pub ClaimAmong : List ℕ → List Event → Type 0
ClaimAmong workers [] = Unit {0}
ClaimAmong workers (Claim worker ∷ events) = Contains workers worker × ClaimAmong workers events
ClaimAmong workers (Look worker ∷ events) = ClaimAmong workers events
ClaimAmong workers (Post worker segment ∷ events) = ClaimAmong workers events

-- the worker drew the segment
abbrev pub Drew : Machine → ℕ → ℕ → Type 0
Drew machine worker segment = Has machine.draws (worker, segment)

-- a look of the worker's was answered so, in a run for n segments
abbrev pub Looked : ℕ → List Event → ℕ → ℕ → Type 0
Looked n events worker answer = Has (looks (machine_at_start n) events) (worker, answer)
