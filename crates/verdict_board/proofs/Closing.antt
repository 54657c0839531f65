-- What a board leaves that is closed by the seat of all seats, and what it is opened with.
use Rattle.std.proofs.Common.{◌≡◌, ℕ, suc, ◌+◌, ◌-◌, ◌^◌, ◌<◌, List, [], ◌∷◌, ◌++◌, length, map, take, drop, refl, sym}
use Rattle.std.proofs.Common.{ap, subst, ◌∙◌, arith}
use Rattle.std.specs.List.{range_with_len}
use Rattle.std.proofs.lemmas.List.{map-append}
use Rattle.std.proofs.lemmas.List.FromFn.{length-range_with_len}
use mathlib.Core.Option.{some, some-injective}
use lib.ListN.{get_elem?}
use Rattle.atomic_table.specs.Table.{Final, Seen}
use Rattle.board_core.specs.Machine.{looks, machine_at_start, machine_after_events}
use Rattle.board_core.specs.Sound.{IsLeast}
use Rattle.board_core.proofs.Machines.{range_push, sound}
use Rattle.verdict_board.specs.declared.view.View.{View}
use Rattle.verdict_board.specs.Views.{DrewBelow, IsFresh, IsWhole, cut_first, cut_rest, fresh_view, fresh_each}
use Rattle.verdict_board.specs.Views.{numbers_below}
use Rattle.verdict_board.specs.Points.{IsIdle}
use Rattle.verdict_board.specs.Seats.{LeavesAll, view_of}
use Rattle.verdict_board.specs.declared.seat.Seat.{Seat}
use Rattle.verdict_board.proofs.Mirrors.{ShowsLive}
use Rattle.verdict_board.proofs.Wholes.{all_drawn, has_all, least_in}
use Rattle.verdict_board.proofs.Allowed.{KeptIn}

pub record Closes (n : ℕ) (view : View) (drawn least : ℕ) : Type 0 where
  pub draws : DrewBelow drawn view.draws
  pub least_is : IsLeast n view.posts least
  pub leaves : LeavesAll n view drawn least
  pub small : least < 2 ^ 32

pub closes : {n : ℕ} {view : View} {words : List ℕ} {drawn least : ℕ} (seats place : ℕ) (slots : List (Unit {0}))
    → Final (Seen (KeptIn n seats) place view) words slots → 0 < length view.numbers → IsWhole view
    → get_elem? words 0 ≡ some drawn → get_elem? words 1 ≡ some least → Closes n view drawn least
closes {n} {view} {drawn = drawn} {least} seats place slots final live whole first second =
    let state = final.0 in
    let kept = final.1.0 in
    let words_are = sym kept.shows.words_are ∙ final.2 in
    let machine = machine_after_events (machine_at_start n) kept.events in
    let is_sound = sound n kept.events in
    let shows : ShowsLive n seats machine (looks (machine_at_start n) kept.events) state.words state.views place view =
    record { mirrors = kept.shows; exists = final.1.1; live = live } in
    let all = has_all shows whole in
    let next_is : machine.next ≡ drawn =
    some-injective machine.next drawn (ap (λ words. get_elem? words 0) words_are ∙ first) in
    let least_is : machine.least ≡ least =
    some-injective machine.least least (ap (λ words. get_elem? words 1) words_are ∙ second) in
    record {
      draws =
          let P : ℕ → Type 0 = λ end. DrewBelow end view.draws in
          subst P next_is (all_drawn n machine view.draws is_sound all.draws_all);
      least_is =
          subst (IsLeast n view.posts) least_is
          (least_in n machine.posts view.posts machine.least all.posts_all is_sound.least);
      leaves =
          record {
            events =
                kept.events;
            next_is =
                next_is;
            least_is =
                least_is;
            draws_are = all.draws_all;
            posts_are = all.posts_all;
            looks_are = all.looks_all;
          };
      small = omega (arith, least_is, is_sound.least.within, kept.few_segments);
    }

pub fresh_idle : (view : View) → IsFresh view → IsIdle view
fresh_idle view is =
    record { no_draws = ap (λ v. v.draws) is; no_posts = ap (λ v. v.posts) is; no_looks = ap (λ v. v.looks) is }

-- the first number of a seat that stands for those from k on, and the rest
split_numbers : (k seats : ℕ) → k < seats → range_with_len k (seats - k) ≡ k ∷ range_with_len (k + 1) (seats - (k + 1))
split_numbers k seats low = let more : seats - k ≡ suc (seats - (k + 1)) = omega (arith, low) in rw more refl

pub dealt_first : (n seats k : ℕ) (view first : View) → k + 1 < seats
    → view ≡ fresh_view n seats (range_with_len k (seats - k)) → first ≡ cut_first view
    → first ≡ fresh_view n seats (k ∷ [])
dealt_first n seats k view first low is made =
    made ∙ ap cut_first is
    ∙ ap (λ numbers. fresh_view n seats (take 1 numbers)) (split_numbers k seats (omega (arith, low)))

pub dealt_rest : (n seats k : ℕ) (view rest : View) → k + 1 < seats
    → view ≡ fresh_view n seats (range_with_len k (seats - k)) → rest ≡ cut_rest view
    → rest ≡ fresh_view n seats (range_with_len (k + 1) (seats - (k + 1)))
dealt_rest n seats k view rest low is made =
    made ∙ ap cut_rest is
    ∙ ap (λ numbers. fresh_view n seats (drop 1 numbers)) (split_numbers k seats (omega (arith, low)))

pub dealt_several : (n seats k : ℕ) (view : View) → k + 1 < seats
    → view ≡ fresh_view n seats (range_with_len k (seats - k)) → 1 < length view.numbers
dealt_several n seats k view low is =
    omega (arith, low, ap (λ v. length v.numbers) is, length-range_with_len k (seats - k))

pub dealt_last : (n seats k : ℕ) (view : View) → k + 1 ≡ seats
    → view ≡ fresh_view n seats (range_with_len k (seats - k)) → view ≡ fresh_view n seats (k ∷ [])
dealt_last n seats k view all is =
    let one : seats - k ≡ 1 = omega (arith, all) in is ∙ ap (λ m. fresh_view n seats (range_with_len k m)) one

-- one seat more
pub dealt_more : (n seats k : ℕ) (dealt : List Seat) (seat : Seat)
    → map view_of dealt ≡ fresh_each n seats (numbers_below k) → view_of seat ≡ fresh_view n seats (k ∷ [])
    → map view_of (dealt ++ seat ∷ []) ≡ fresh_each n seats (numbers_below (k + 1))
dealt_more n seats k dealt seat so_far is =
    let at : 0 + k ≡ k = omega arith in
    let numbers : numbers_below k ++ k ∷ [] ≡ numbers_below (k + 1) =
    ap (λ m. numbers_below k ++ m ∷ []) (sym at) ∙ range_push 0 k in
    map-append view_of dealt (seat ∷ [])
    ∙ ap (λ views. views ++ view_of seat ∷ []) so_far
    ∙ ap (λ view. fresh_each n seats (numbers_below k) ++ view ∷ []) is
    ∙ sym (map-append (λ number. fresh_view n seats (number ∷ [])) (numbers_below k) (k ∷ []))
    ∙ ap (fresh_each n seats) numbers
