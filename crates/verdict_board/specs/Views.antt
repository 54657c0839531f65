-- What seats have done.
use Rattle.std.specs.Prelude.{◌≡◌, ◌≢◌, ℕ, ◌<◌, Bool, nat_le, nat_lt, min, List, [], ◌∷◌, ◌++◌, length, get_or, take}
use Rattle.std.specs.Prelude.{drop, map}
use Rattle.std.specs.List.{range_with_len}
use Rattle.verdict_board.specs.declared.view.View.{View}
use Rattle.board_core.specs.Bags.{Has, Names, as_number, count, is_numbered}

-- the numbers of so many seats
abbrev pub numbers_below : ℕ → List ℕ
numbers_below seats = range_with_len 0 seats

-- seats of these numbers, before they do anything
abbrev pub fresh_view : ℕ → ℕ → List ℕ → View
fresh_view n seats numbers = record {
  segments = n;
  seats = seats;
  numbers = numbers;
  draws = [];
  posts = [];
  looks = [];
  least = n;
}

-- a seat of each of these numbers
abbrev pub fresh_each : ℕ → ℕ → List ℕ → List View
fresh_each n seats numbers = map (λ number. fresh_view n seats (number ∷ [])) numbers

-- a seat that was joined to another
abbrev pub spent_view : View
spent_view = record { segments = 0; seats = 0; numbers = []; draws = []; posts = []; looks = []; least = 0 }

-- the number under which it draws and looks
abbrev pub lead : View → ℕ
lead view = get_or view.numbers 0 0

-- a number drawn that is no segment
abbrev pub is_past : ℕ → ℕ × ℕ → Bool
is_past n draw = nat_le n draw.1

-- it has drawn such a number, so that no segment is left for it
abbrev pub is_done : View → Bool
is_done view = nat_lt 0 (count (is_past view.segments) view.draws)

-- it has drawn this number
abbrev pub view_after_draw : View → ℕ → View
view_after_draw view number = record view { draws = view.draws ++ (lead view, number) ∷ [] }

-- its look was answered so
abbrev pub view_after_look : View → ℕ → View
view_after_look view answer = record view { looks = view.looks ++ (lead view, answer) ∷ []; least = answer }

-- it has posted the segment, which was drawn under this number, and has seen what the least post is now
abbrev pub view_after_post : View → ℕ → ℕ → ℕ → View
view_after_post view number segment least =
    record view { posts = view.posts ++ (number, segment) ∷ []; least = least }

-- two seats as one
abbrev pub joined_views : View → View → View
joined_views one other = record {
  segments = one.segments;
  seats = one.seats;
  numbers = one.numbers ++ other.numbers;
  draws = one.draws ++ other.draws;
  posts = one.posts ++ other.posts;
  looks = one.looks ++ other.looks;
  least = min one.least other.least;
}

-- the first of its numbers, and the rest
abbrev pub cut_first : View → View
cut_first view = fresh_view view.segments view.seats (take 1 view.numbers)

abbrev pub cut_rest : View → View
cut_rest view = record view { numbers = drop 1 view.numbers }

-- it stands for all seats that were opened
abbrev pub IsWhole : View → Type 0
IsWhole view = length view.numbers ≡ view.seats

-- each number below this one was drawn once, and no other was
abbrev pub DrewBelow : ℕ → List (ℕ × ℕ) → Type 0
DrewBelow end draws = (number : ℕ) → count (is_numbered number) draws ≡ as_number (nat_lt number end)

-- each answer is n, or else a segment that was posted
abbrev pub AreAnswers : ℕ → List (ℕ × ℕ) → List (ℕ × ℕ) → Type 0
AreAnswers n posts looks = (look : ℕ × ℕ) → Has looks look → look.1 ≢ n → Names posts look.1

-- the numbers drawn are 0 up to some number, each once, and what looks were answered is n or a post of its own
abbrev pub IsExact : View → Type 0
IsExact view = DrewBelow (length view.draws) view.draws × AreAnswers view.segments view.posts view.looks

-- each draw is below the number
abbrev pub AreBelow : ℕ → List (ℕ × ℕ) → Type 0
AreBelow number draws = (draw : ℕ × ℕ) → Has draws draw → draw.1 < number

-- it has done nothing, and looked at nothing
abbrev pub IsFresh : View → Type 0
IsFresh view = view ≡ fresh_view view.segments view.seats view.numbers
