-- What the rule comes to, and what a view that stands for all seats knows.
use Rattle.std.proofs.Common.{◌≡◌, ◌≢◌, ◌⊎◌, inl, inr, ℕ, suc, ◌+◌, ◌-◌, ◌<◌, ◌≤◌, Bool, true, false, ◌==◌, nat_lt}
use Rattle.std.proofs.Common.{List, [], ◌∷◌, length, slice_index, refl, sym, ap, subst, ◌∙◌, arith}
use Rattle.std.proofs.lemmas.Bool.Decides.{nat_tests}
use Rattle.std.proofs.lemmas.List.{length-map}
use Rattle.std.proofs.lemmas.List.FromFn.{length-range_with_len}
use mathlib.Core.Option.{some}
use lib.ListN.{get_elem?}
use Rattle.board_core.specs.declared.event.Event.{Event}
use Rattle.board_core.specs.Bags.{Has, Names, SameBag, as_number, count, is_numbered, is_pair, weigh}
use Rattle.board_core.specs.Machine.{Machine, looks, machine_at_start, machine_after_events}
use Rattle.board_core.specs.Sound.{IsLeast, IsSoundMachine, number_of_pair}
use Rattle.board_core.proofs.Bags.{counted, equal_test, weigh-append}
use Rattle.board_core.proofs.Machines.{drawn_once, overs_drawn, posted_looks, range_count, sound}
use Rattle.verdict_board.specs.declared.view.View.{View}
use Rattle.verdict_board.specs.Views.{AreBelow, DrewBelow, IsExact, IsWhole, is_past, numbers_below}
use Rattle.verdict_board.specs.Rule.{Kept, Shows, all_of, draws_of, looks_of, view_numbers, posts_of}
use Rattle.verdict_board.specs.Points.{FollowsRule, IsOrderly, IsSeen}
use Rattle.verdict_board.proofs.Gathered.{gathered-alone, gathered-one, gathered-two, no_pairs, weigh_each}
use Rattle.verdict_board.proofs.Mirrors.{ShowsLive}
use Rattle.verdict_board.proofs.Events.{drawn_in_all}

-- a view that stands for all seats leaves no number to another
others_spent : {n seats : ℕ} {machine : Machine} {answers : List (ℕ × ℕ)} {words : List ℕ} {views : List View}
    {place : ℕ} {view : View}
    → ShowsLive n seats machine answers words views place view → IsWhole view
    → (elsewhere : ℕ) (other : View) → get_elem? views elsewhere ≡ some other → elsewhere ≢ place
    → length other.numbers ≡ 0
others_spent {seats = seats} {views = views} {place} {view} shows whole elsewhere other there apart =
    let knows = (shows.mirrors.fit place view shows.exists).knows shows.live in
    let all : seats ≡ weigh (λ number. 1) (all_of view_numbers views) =
    sym (length-range_with_len 0 seats) ∙ sym (weigh_each (numbers_below seats))
    ∙ shows.mirrors.numbers_are (λ number. 1) in
    let two = gathered-two view_numbers (λ number. 1) views place elsewhere view other shows.exists there apart in
    omega (arith, all, two, whole, knows.seats_is, weigh_each view.numbers, weigh_each other.numbers)

-- what it has is all that there is
whole_bag : {X : Type 0} (part : View → List X) (all : List X) (views : List View) (place : ℕ) (view : View)
    → SameBag all (all_of part views) → get_elem? views place ≡ some view
    → ((elsewhere : ℕ) (other : View) → get_elem? views elsewhere ≡ some other → elsewhere ≢ place → part other ≡ [])
    → SameBag all (part view)
whole_bag part all views place view bag at none h =
    bag h ∙ gathered-alone part h views place view at (λ elsewhere other there apart. ap (weigh h)
    (none elsewhere other there apart))

-- what a view has that stands for all seats
pub record HasAll (machine : Machine) (answers : List (ℕ × ℕ)) (view : View) : Type 0 where
  pub draws_all : SameBag machine.draws view.draws
  pub posts_all : SameBag machine.posts view.posts
  pub looks_all : SameBag answers view.looks

pub has_all : {n seats : ℕ} {machine : Machine} {answers : List (ℕ × ℕ)} {words : List ℕ} {views : List View}
    {place : ℕ} {view : View}
    → ShowsLive n seats machine answers words views place view → IsWhole view → HasAll machine answers view
has_all {machine = machine} {answers} {views = views} {place} {view} shows whole =
    let mirrors = shows.mirrors in
    let at = shows.exists in
    let spent_ones = others_spent shows whole in
    record {
      draws_all =
          whole_bag draws_of machine.draws views place view mirrors.draws_are at
          (λ elsewhere other there apart. no_pairs other.numbers other.draws (spent_ones elsewhere other there apart)
          (mirrors.fit elsewhere other there).own_draws);
      posts_all =
          whole_bag posts_of machine.posts views place view mirrors.posts_are at
          (λ elsewhere other there apart. no_pairs other.numbers other.posts (spent_ones elsewhere other there apart)
          (mirrors.fit elsewhere other there).own_posts);
      looks_all =
          whole_bag looks_of answers views place view mirrors.looks_are at
          (λ elsewhere other there apart. no_pairs other.numbers other.looks (spent_ones elsewhere other there apart)
          (mirrors.fit elsewhere other there).own_looks);
    }

draws_length : (n : ℕ) (machine : Machine) → IsSoundMachine n machine → length machine.draws ≡ machine.next
draws_length n machine is_sound =
    sym (length-map machine.draws number_of_pair) ∙ ap length is_sound.draws ∙ length-range_with_len 0 machine.next

pub all_drawn : (n : ℕ) (machine : Machine) (draws : List (ℕ × ℕ)) → IsSoundMachine n machine
    → SameBag machine.draws draws → DrewBelow machine.next draws
all_drawn n machine draws is_sound bag number =
    sym (bag (λ draw. as_number (is_numbered number draw))) ∙ drawn_once n machine number is_sound

names_in : (one other : List (ℕ × ℕ)) (number : ℕ) → SameBag one other → Names one number → Names other number
names_in one other number bag names = omega (arith, names, bag (λ pair. as_number (is_numbered number pair)))

has_from : (one other : List (ℕ × ℕ)) (pair : ℕ × ℕ) → SameBag one other → Has other pair → Has one pair
has_from one other pair bag has = omega (arith, has, bag (λ x. as_number (is_pair pair x)))

pub least_in : (n : ℕ) (one other : List (ℕ × ℕ)) (least : ℕ) → SameBag one other → IsLeast n one least
    → IsLeast n other least
least_in n one other least bag is = record {
  within = is.within;
  below_posts = λ post has. is.below_posts post (has_from one other post bag has);
  is_one = elim is.is_one [ inl none ↦ inl none | inr names ↦ inr (names_in one other least bag names) ];
}

-- it knows that all numbers were drawn once, and whose posts its looks were answered
pub whole_exact : {n seats : ℕ} {words : List ℕ} {views : List View} {view : View} (events : List Event) (place : ℕ)
    → Shows n seats events words views → get_elem? views place ≡ some view → 0 < length view.numbers → IsWhole view
    → IsExact view
whole_exact {n} {seats} {words} {views} {view} events place shows at live whole =
    let machine = machine_after_events (machine_at_start n) events in
    let is_sound = sound n events in
    let stands : ShowsLive n seats machine (looks (machine_at_start n) events) words views place view =
    record { mirrors = shows; exists = at; live = live } in
    let all = has_all stands whole in
    let knows = (shows.fit place view at).knows live in
    let end : machine.next ≡ length view.draws =
    sym (draws_length n machine is_sound) ∙ sym (weigh_each machine.draws) ∙ all.draws_all (λ draw. 1)
    ∙ weigh_each view.draws in (
      subst (λ end. DrewBelow end view.draws) end (all_drawn n machine view.draws is_sound all.draws_all),
      λ look has apart. elim
          (posted_looks n events look.0 look.1
          (has_from (looks (machine_at_start n) events) view.looks look all.looks_all has)) [
            | inl none ↦ absurd (apart (none ∙ sym knows.segments_is))
            | inr names ↦ names_in machine.posts view.posts look.1 all.posts_all names
          ],
    )

-- a draw in a view is below the first word
pub drawn_below : {n seats : ℕ} {words : List ℕ} {views : List View} {view : View} (events : List Event) (place : ℕ)
    → Shows n seats events words views → get_elem? views place ≡ some view
    → AreBelow (machine_after_events (machine_at_start n) events).next view.draws
drawn_below {n} events place shows at draw has =
    let machine = machine_after_events (machine_at_start n) events in
    let in_all = drawn_in_all place draw shows at has in
    let some_drawn : 0 < count (is_numbered draw.1) machine.draws =
    counted (is_numbered draw.1) machine.draws draw in_all (equal_test draw.1 draw.1 refl) in
    let is = drawn_once n machine draw.1 (sound n events) in
    below (nat_lt draw.1 machine.next) refl (omega (arith, some_drawn, is))
  where
    below : (test : Bool) → nat_lt draw.1 (machine_after_events (machine_at_start n) events).next ≡ test
        → 0 < as_number test → draw.1 < (machine_after_events (machine_at_start n) events).next
    below true is one = grind (arith, nat_tests)
    below false is one = absurd (omega (arith, one))

-- a post in a view is no less than the second word
pub posts_above : {n seats : ℕ} {words : List ℕ} {views : List View} {view : View} (events : List Event) (place : ℕ)
    → Shows n seats events words views → get_elem? views place ≡ some view → (post : ℕ × ℕ) → Has view.posts post
    → (machine_after_events (machine_at_start n) events).least ≤ post.1
posts_above {n} {views = views} {view} events place shows at post has =
    let machine = machine_after_events (machine_at_start n) events in
    let in_all : Has machine.posts post =
    omega (
      arith,
      has,
      shows.posts_are (λ pair. as_number (is_pair post pair)),
      gathered-one posts_of (λ pair. as_number (is_pair post pair)) views place view at,
    ) in
    (sound n events).least.below_posts post in_all

-- where each view weighs no more in one way than in another, all do
gathered_le : {X Y : Type 0} (part : View → List X) (other : View → List Y) (h : X → ℕ) (k : Y → ℕ) (views : List View)
    → ((place : ℕ) (view : View) → get_elem? views place ≡ some view → weigh h (part view) ≤ weigh k (other view))
    → weigh h (all_of part views) ≤ weigh k (all_of other views)
gathered_le part other h k [] each = omega arith
gathered_le part other h k (view ∷ views) each =
    omega (
      arith,
      each 0 view refl,
      gathered_le part other h k views (λ place. each (suc place)),
      weigh-append h (part view) (all_of part views),
      weigh-append k (other view) (all_of other views),
    )

-- the first word passes n by one at most for each seat
pub few_drawn : (n seats : ℕ) (events : List Event) (words : List ℕ) (views : List View)
    → Shows n seats events words views → (machine_after_events (machine_at_start n) events).next ≤ n + seats
few_drawn n seats events words views shows =
    let machine = machine_after_events (machine_at_start n) events in
    let overs : machine.next - n ≡ count (is_past n) (all_of draws_of views) =
    sym (overs_drawn n machine (sound n events)) ∙ shows.draws_are (λ draw. as_number (is_past n draw)) in
    let at_most : count (is_past n) (all_of draws_of views) ≤ weigh (λ number. 1) (all_of view_numbers views) =
    gathered_le draws_of view_numbers (λ draw. as_number (is_past n draw)) (λ number. 1) views
    (λ place view at. omega (arith, (shows.fit place view at).few_past, weigh_each view.numbers)) in
    let all : seats ≡ weigh (λ number. 1) (all_of view_numbers views) =
    sym (length-range_with_len 0 seats) ∙ sym (weigh_each (numbers_below seats))
    ∙ shows.numbers_are (λ number. 1) in
    omega (arith, overs, at_most, all)

-- the rule on words and views alone
orderly : {n seats : ℕ} {words : List ℕ} {views : List View} (events : List Event) → Shows n seats events words views
    → (place : ℕ) (view : View) → get_elem? views place ≡ some view
    → IsOrderly n (machine_after_events (machine_at_start n) events).least views view
orderly {n} {views = views} events shows place view at =
    let machine = machine_after_events (machine_at_start n) events in
    let fits = shows.fit place view at in
    let seen : (number : ℕ) → (number ≡ n) ⊎ Names machine.posts number → IsSeen n views number =
    λ number is. elim is [
      | inl none ↦
          inl none
      | inr names ↦ inr (names_in machine.posts (all_of posts_of views) number shows.posts_are names)
    ] in
    record {
      own_draws = fits.own_draws;
      own_posts = fits.own_posts;
      own_looks = fits.own_looks;
      spent = λ none. record {
        no_draws = no_pairs view.numbers view.draws none fits.own_draws;
        no_posts = no_pairs view.numbers view.posts none fits.own_posts;
        no_looks = no_pairs view.numbers view.looks none fits.own_looks;
      };
      drawn = fits.drawn;
      seen = λ live. let knows = fits.knows live in record {
        least_low = knows.least_low;
        least_is = seen view.least knows.least_is;
        looks_are = λ look has. (
          seen look.1 (posted_looks n events look.0 look.1 (omega (
            arith,
            has,
            shows.looks_are (λ pair. as_number (is_pair look pair)),
            gathered-one looks_of (λ pair. as_number (is_pair look pair)) views place view at,
          ))),
          knows.looks_high look has,
        );
        posts_high = knows.posts_high;
      };
      few_past = fits.few_past;
    }

pub rule_followed : (n seats : ℕ) (words : List ℕ) (views : List View) → Kept n seats words views
    → FollowsRule n seats words views
rule_followed n seats words views kept =
    let machine = machine_after_events (machine_at_start n) kept.events in
    let shows = kept.shows in
    let next_is : machine.next ≡ slice_index words 0 = sym (ap (λ words. slice_index words 0) shows.words_are) in
    let least_is : machine.least ≡ slice_index words 1 = sym (ap (λ words. slice_index words 1) shows.words_are) in
    record {
      numbers_once = λ number. sym (shows.numbers_are (λ one. as_number (one == number))) ∙ range_count seats number;
      draws_once =
          let P : ℕ → Type 0 = λ end. DrewBelow end (all_of draws_of views) in
          subst P next_is (all_drawn n machine (all_of draws_of views) (sound n kept.events) shows.draws_are);
      least_is =
          let P : ℕ → Type 0 = λ least. IsLeast n (all_of posts_of views) least in
          subst P least_is
          (least_in n machine.posts (all_of posts_of views) machine.least shows.posts_are
          (sound n kept.events).least);
      few_drawn =
          let P : ℕ → Type 0 = λ next. next ≤ n + seats in
          subst P next_is (few_drawn n seats kept.events words views shows);
      each =
          λ place view at. let P : ℕ → Type 0 =
          λ least. IsOrderly n least views view in
          subst P least_is (orderly kept.events shows place view at);
    }
