-- Each step keeps words and views those of a run of the machine.
use Rattle.std.proofs.Common.{◌≡◌, ◌≢◌, ◌⊎◌, inl, inr, ℕ, ◌+◌, ◌<◌, ◌≤◌, Bool, true, false, ◌&&◌, ◌==◌, nat_le, nat_lt}
use Rattle.std.proofs.Common.{min, List, [], ◌∷◌, ◌++◌, length, set, get_or, take, drop, refl, sym, ap, subst, ◌∙◌}
use Rattle.std.proofs.Common.{arith, length-append}
use Rattle.std.proofs.lemmas.Bool.Decides.{nat_tests}
use mathlib.Core.Option.{some}
use lib.ListN.{get_elem?}
use Rattle.atomic_table.proofs.Lists.{at_set, at_snoc}
use Rattle.board_core.specs.Bags.{Has, Names, SameBag, as_number, count, times, weigh}
use Rattle.board_core.specs.Machine.{Machine, machine_after_claim, has_none_left, is_over}
use Rattle.board_core.specs.Machine.{machine_after_post as machine_posted}
use Rattle.board_core.specs.Sound.{IsSoundMachine, number_of_pair}
use Rattle.board_core.proofs.Bags.{Has-append_cases, Has-left, Has-right, Has-push_cases, Names-left, any-none}
use Rattle.board_core.proofs.Bags.{count-append, count_push, counted, equal_if, equal_test, one_if, weigh-append}
use Rattle.board_core.proofs.Bags.{weigh_push}
use Rattle.board_core.proofs.Machines.{least_with, range_count}
use Rattle.verdict_board.specs.declared.view.View.{View}
use Rattle.verdict_board.specs.Views.{cut_first, cut_rest, view_after_draw, is_done, is_past, joined_views, lead}
use Rattle.verdict_board.specs.Views.{view_after_look, numbers_below, view_after_post, spent_view}
use Rattle.verdict_board.specs.Rule.{AreOwn, Fits, HasNumber, Knows, Mirrors, all_of, draws_of, looks_of, view_numbers}
use Rattle.verdict_board.specs.Rule.{posts_of}
use Rattle.verdict_board.specs.Points.{IsIdle}
use Rattle.verdict_board.proofs.Gathered.{gathered-alone, gathered-push, gathered-set, gathered-two, none_pass}

-- a part of the changed view that only grew at its end, beside the same growth of the machine's
module _ {X : Type 0} (part : View → List X) (views : List View) (place : ℕ) (old new : View)
    (at : get_elem? views place ≡ some old) (whole : List X) (bag : SameBag whole (all_of part views)) where
  pub bag_grows : (x : X) → part new ≡ part old ++ x ∷ []
      → SameBag (whole ++ x ∷ []) (all_of part (set views place new))
  bag_grows x is h =
      omega (
        arith,
        bag h,
        gathered-set part h views place old new at,
        weigh_push h whole x,
        weigh_push h (part old) x,
        ap (weigh h) is,
      )

  pub bag_stays : part new ≡ part old → SameBag whole (all_of part (set views place new))
  bag_stays is h = omega (arith, bag h, gathered-set part h views place old new at, ap (weigh h) is)

-- what every view fits, where one is another and the machine goes on
pub all_fit : {n seats : ℕ} {before now : Machine} {new : View} (views : List View) (place : ℕ)
    → ((place : ℕ) (view : View) → get_elem? views place ≡ some view → Fits n seats before view)
    → ((view : View) → Fits n seats before view → Fits n seats now view)
    → Fits n seats now new
    → (elsewhere : ℕ) (view : View) → get_elem? (set views place new) elsewhere ≡ some view → Fits n seats now view
all_fit {n} {seats} {now = now} {new} views place fit on fits elsewhere view exists =
    elim (at_set views place elsewhere new view exists) [
      | inl here ↦ subst (Fits n seats now) here.1 fits
      | inr other ↦ on view (fit elsewhere view other.1)
    ]

-- the first of some numbers
pub has_lead : (numbers : List ℕ) → 0 < length numbers → HasNumber numbers (get_or numbers 0 0)
has_lead [] some_number = absurd (omega (arith, some_number))
has_lead (number ∷ numbers) some_number = omega (arith, one_if (number == number) (equal_test number number refl))

pub own_push : (numbers : List ℕ) (pairs : List (ℕ × ℕ)) (number value : ℕ) → HasNumber numbers number
    → AreOwn numbers pairs → AreOwn numbers (pairs ++ (number, value) ∷ [])
own_push numbers pairs number value has own pair stands =
    elim (Has-push_cases pairs (number, value) pair stands) [
      | inl before ↦ own pair before
      | inr is ↦ let P : ℕ × ℕ → Type 0 = λ p. HasNumber numbers p.0 in subst P (sym is) has
    ]

-- no draw of n or more
pub none_past : (view : View) (n : ℕ) → view.segments ≡ n → is_done view ≡ false → count (is_past n) view.draws ≡ 0
none_past view n for not_done =
    let P : ℕ → Type 0 = λ m. count (is_past m) view.draws ≡ 0 in
    subst P for (let test : nat_lt 0 (count (is_past view.segments) view.draws) ≡ false = not_done in
    grind (arith, nat_tests))

over_parts : (n worker : ℕ) (draw : ℕ × ℕ) → 0 < as_number (is_over n worker draw)
    → (draw.0 ≡ worker) × (nat_le n draw.1 ≡ true)
over_parts n worker draw some_is = by (draw.0 == worker) (nat_le n draw.1) refl refl some_is
  where
    by : (one other : Bool) → (draw.0 == worker) ≡ one → nat_le n draw.1 ≡ other → 0 < as_number (one && other)
        → (draw.0 ≡ worker) × (nat_le n draw.1 ≡ true)
    by true true a b s = (equal_if draw.0 worker a, b)
    by true false a b s = absurd (omega (arith, s))
    by false other a b s = absurd (omega (arith, s))

-- words and views show a machine, and the view at a place stands for a number
pub record ShowsLive (n seats : ℕ) (machine : Machine) (answers : List (ℕ × ℕ))
    (words : List ℕ) (views : List View) (place : ℕ) (view : View) : Type 0 where
  pub mirrors : Mirrors n seats machine answers words views
  pub exists : get_elem? views place ≡ some view
  pub live : 0 < length view.numbers

-- a number of the view's own has not passed where the view is not done
pub not_passed : {n seats : ℕ} {machine : Machine} {answers : List (ℕ × ℕ)} {words : List ℕ} {views : List View}
    {place : ℕ} {view : View} (number : ℕ)
    → machine.segments ≡ n → ShowsLive n seats machine answers words views place view
    → HasNumber view.numbers number → count (is_past n) view.draws ≡ 0
    → has_none_left machine number ≡ false
not_passed {n} {seats} {machine} {views = views} {place} {view} number for shows own none =
    any-none (is_over machine.segments number) machine.draws
    (let P : ℕ → Type 0 = λ m. count (is_over m number) machine.draws ≡ 0 in subst P (sym for) zero_in_all)
  where
    weight : ℕ × ℕ → ℕ
    weight draw = as_number (is_over n number draw)

    here : count (is_over n number) view.draws ≡ 0
    here = none_pass (is_over n number) view.draws (λ draw has over.
        let past : nat_le n draw.1 ≡ true = (over_parts n number draw over).1 in
        let some_past : 0 < count (is_past n) view.draws = counted (is_past n) view.draws draw has past in
        omega (arith, some_past, none))

    once : count (λ one. one == number) (all_of view_numbers views) ≤ 1
    once =
        let is : as_number (nat_lt number seats) ≡ count (λ one. one == number) (all_of view_numbers views) =
        sym (range_count seats number) ∙ shows.mirrors.numbers_are (λ one. as_number (one == number)) in
        omega (arith, is, at_most_one (nat_lt number seats))
      where
        at_most_one : (test : Bool) → as_number test ≤ 1
        at_most_one true = omega arith
        at_most_one false = omega arith

    others : (elsewhere : ℕ) (other : View) → get_elem? views elsewhere ≡ some other → elsewhere ≢ place
        → count (is_over n number) other.draws ≡ 0
    others elsewhere other there apart = none_pass (is_over n number) other.draws (λ draw has over.
        let same : draw.0 ≡ number = (over_parts n number draw over).0 in
        let theirs : HasNumber other.numbers number =
        subst (HasNumber other.numbers) same ((shows.mirrors.fit elsewhere other there).own_draws draw has) in
        omega (
          arith,
          own,
          theirs,
          once,
          gathered-two view_numbers (λ one. as_number (one == number)) views place elsewhere view other shows.exists
              there apart,
        ))

    zero_in_all : count (is_over n number) machine.draws ≡ 0
    zero_in_all =
        shows.mirrors.draws_are weight ∙ gathered-alone draws_of weight views place view shows.exists others ∙ here

-- a claim
pub claim_mirrors : {n seats : ℕ} {machine : Machine} {answers : List (ℕ × ℕ)} {words : List ℕ} {views : List View}
    {place : ℕ} {view : View}
    → ShowsLive n seats machine answers words views place view → is_done view ≡ false
    → Mirrors n seats (machine_after_claim machine (lead view)) answers ((machine.next + 1) ∷ machine.least ∷ [])
    (set views place (view_after_draw view machine.next))
claim_mirrors {n} {seats} {machine} {answers} {views = views} {place} {view} shows not_done =
    let mirrors = shows.mirrors in
    let at = shows.exists in
    let new = view_after_draw view machine.next in
    let old = mirrors.fit place view at in
    let knows = old.knows shows.live in
    let none : count (is_past n) view.draws ≡ 0 = none_past view n knows.segments_is not_done in
    record {
      words_are = refl;
      draws_are =
          bag_grows draws_of views place view new at machine.draws mirrors.draws_are (lead view, machine.next) refl;
      posts_are = bag_stays posts_of views place view new at machine.posts mirrors.posts_are refl;
      looks_are = bag_stays looks_of views place view new at answers mirrors.looks_are refl;
      numbers_are = bag_stays view_numbers views place view new at (numbers_below seats) mirrors.numbers_are refl;
      fit =
          all_fit views place mirrors.fit
          (λ other fits. record {
            own_draws = fits.own_draws;
            own_posts = fits.own_posts;
            own_looks = fits.own_looks;
            drawn = fits.drawn;
            few_past = fits.few_past;
            knows =
                λ live. let knows =
                fits.knows live in
                record {
                  segments_is =
                      knows.segments_is;
                  seats_is =
                      knows.seats_is;
                  least_low =
                      knows.least_low;
                  least_is = knows.least_is;
                  looks_high = knows.looks_high;
                  posts_high = knows.posts_high;
                };
          }) (record {
            own_draws =
                own_push view.numbers view.draws (lead view) machine.next (has_lead view.numbers shows.live)
                old.own_draws;
            own_posts = old.own_posts;
            own_looks = old.own_looks;
            drawn =
                λ post has. let before =
                old.drawn post has in (Has-left view.draws ((lead view, machine.next) ∷ []) post before.0, before.1);
            few_past =
                omega (
                  arith,
                  shows.live,
                  none,
                  count_push (is_past n) view.draws (lead view, machine.next),
                  at_most_one (is_past n (lead view, machine.next)),
                );
            knows =
                λ some_live.
                record {
                  segments_is =
                      knows.segments_is;
                  seats_is =
                      knows.seats_is;
                  least_low =
                      knows.least_low;
                  least_is = knows.least_is;
                  looks_high = knows.looks_high;
                  posts_high = knows.posts_high;
                };
          });
    }
  where
    at_most_one : (test : Bool) → as_number test ≤ 1
    at_most_one true = omega arith
    at_most_one false = omega arith

-- a look
pub look_mirrors : {n seats : ℕ} {machine : Machine} {answers : List (ℕ × ℕ)} {words : List ℕ} {views : List View}
    {place : ℕ} {view : View}
    → IsSoundMachine n machine → ShowsLive n seats machine answers words views place view
    → Mirrors n seats machine (answers ++ (lead view, machine.least) ∷ []) words
    (set views place (view_after_look view machine.least))
look_mirrors {n} {seats} {machine} {answers} {views = views} {place} {view} sound shows =
    let mirrors = shows.mirrors in
    let at = shows.exists in
    let new = view_after_look view machine.least in
    let old = mirrors.fit place view at in
    let knows = old.knows shows.live in
    record {
      words_are = mirrors.words_are;
      draws_are = bag_stays draws_of views place view new at machine.draws mirrors.draws_are refl;
      posts_are = bag_stays posts_of views place view new at machine.posts mirrors.posts_are refl;
      looks_are = bag_grows looks_of views place view new at answers mirrors.looks_are (lead view, machine.least) refl;
      numbers_are = bag_stays view_numbers views place view new at (numbers_below seats) mirrors.numbers_are refl;
      fit = all_fit views place mirrors.fit (λ other fits. fits) (record {
        own_draws = old.own_draws;
        own_posts = old.own_posts;
        own_looks =
            own_push view.numbers view.looks (lead view) machine.least (has_lead view.numbers shows.live) old.own_looks;
        drawn = old.drawn;
        few_past = old.few_past;
        knows = λ some_live. record {
          segments_is = knows.segments_is;
          seats_is = knows.seats_is;
          least_low = omega arith;
          least_is = sound.least.is_one;
          looks_high = λ look has. elim (Has-push_cases view.looks (lead view, machine.least) look has) [
            | inl before ↦ omega (arith, knows.least_low, knows.looks_high look before)
            | inr is ↦ omega (arith, ap number_of_pair is)
          ];
          posts_high = λ post has. omega (arith, knows.least_low, knows.posts_high post has);
        };
      });
    }

-- a post
pub post_mirrors : {n seats : ℕ} {machine : Machine} {answers : List (ℕ × ℕ)} {words : List ℕ} {views : List View}
    {place : ℕ} {view : View} (number segment : ℕ)
    → IsSoundMachine n machine → ShowsLive n seats machine answers words views place view
    → Has view.draws (number, segment) → segment < n
    → let least : ℕ = min machine.least segment in
    Mirrors n seats (machine_posted machine number segment) answers (machine.next ∷ least ∷ [])
    (set views place (view_after_post view number segment least))
post_mirrors {n} {seats} {machine} {answers} {views = views} {place} {view} number segment sound shows drawn low =
    let mirrors = shows.mirrors in
    let at = shows.exists in
    let new = view_after_post view number segment (min machine.least segment) in
    let now = machine_posted machine number segment in
    let old = mirrors.fit place view at in
    let on : (other : View) → Fits n seats machine other → Fits n seats now other = λ other fits. record {
      own_draws = fits.own_draws;
      own_posts = fits.own_posts;
      own_looks = fits.own_looks;
      drawn = fits.drawn;
      few_past = fits.few_past;
      knows = λ live. knows_on other (fits.knows live);
    } in
    record {
      words_are = refl;
      draws_are = bag_stays draws_of views place view new at machine.draws mirrors.draws_are refl;
      posts_are = bag_grows posts_of views place view new at machine.posts mirrors.posts_are (number, segment) refl;
      looks_are = bag_stays looks_of views place view new at answers mirrors.looks_are refl;
      numbers_are = bag_stays view_numbers views place view new at (numbers_below seats) mirrors.numbers_are refl;
      fit = all_fit views place mirrors.fit on (record {
        own_draws = old.own_draws;
        own_posts =
            own_push view.numbers view.posts number segment (old.own_draws (number, segment) drawn) old.own_posts;
        own_looks = old.own_looks;
        drawn = λ post has. elim (Has-push_cases view.posts (number, segment) post has) [
          | inl before ↦ old.drawn post before
          | inr is ↦ let P : ℕ × ℕ → Type 0 = λ p. Has view.draws p × (p.1 < n) in subst P (sym is) (drawn, low)
        ];
        few_past = old.few_past;
        knows = λ live. knows_new (old.knows live);
      });
    }
  where
    knows_on : (other : View) → Knows n seats machine other
        → Knows n seats (machine_posted machine number segment) other
    knows_on other knows = record {
      segments_is = knows.segments_is;
      seats_is = knows.seats_is;
      least_low = omega (arith, knows.least_low);
      least_is =
          elim knows.least_is [
            | inl none ↦
                inl none
            | inr names ↦ inr (Names-left machine.posts ((number, segment) ∷ []) other.least names)
          ];
      looks_high = knows.looks_high;
      posts_high = knows.posts_high;
    }

    -- the seat that posts has seen the new word
    knows_new : Knows n seats machine view
        → Knows n seats (machine_posted machine number segment)
        (view_after_post view number segment (min machine.least segment))
    knows_new knows = record {
      segments_is = knows.segments_is;
      seats_is = knows.seats_is;
      least_low = omega arith;
      least_is = (least_with n machine.least number segment machine.posts low sound.least).is_one;
      looks_high = λ look has. omega (arith, knows.least_low, knows.looks_high look has);
      posts_high = λ post has. elim (Has-push_cases view.posts (number, segment) post has) [
        | inl before ↦ omega (arith, knows.least_low, knows.posts_high post before)
        | inr is ↦ omega (arith, ap number_of_pair is)
      ];
    }

-- numbers by weight
pub has_in : (numbers : List ℕ) (number : ℕ) (others : List ℕ) → HasNumber numbers number
    → HasNumber (numbers ++ others) number
has_in numbers number others has = omega (arith, count-append (λ one. one == number) numbers others, has)

pub has_after : (numbers : List ℕ) (number : ℕ) (others : List ℕ) → HasNumber others number
    → HasNumber (numbers ++ others) number
has_after numbers number others has = omega (arith, count-append (λ one. one == number) numbers others, has)

own_joined : (one other : List ℕ) (pairs more : List (ℕ × ℕ)) → AreOwn one pairs → AreOwn other more
    → AreOwn (one ++ other) (pairs ++ more)
own_joined one other pairs more own theirs pair has =
    elim (Has-append_cases pairs more pair has) [
      | inl before ↦ has_in one pair.0 other (own pair before)
      | inr following ↦ has_after one pair.0 other (theirs pair following)
    ]

joined_knows : (n seats : ℕ) (machine : Machine) (one other : View) → Knows n seats machine one
    → Knows n seats machine other → Knows n seats machine (joined_views one other)
joined_knows n seats machine one other knows theirs = record {
  segments_is = knows.segments_is;
  seats_is = knows.seats_is;
  least_low = omega (arith, knows.least_low, theirs.least_low);
  least_is = by (nat_le one.least other.least) refl;
  looks_high = λ look has. elim (Has-append_cases one.looks other.looks look has) [
    | inl before ↦ omega (arith, knows.looks_high look before)
    | inr following ↦ omega (arith, theirs.looks_high look following)
  ];
  posts_high = λ post has. elim (Has-append_cases one.posts other.posts post has) [
    | inl before ↦ omega (arith, knows.posts_high post before)
    | inr following ↦ omega (arith, theirs.posts_high post following)
  ];
}
  where
    by : (first : Bool) → nat_le one.least other.least ≡ first
        → (min one.least other.least ≡ n) ⊎ Names machine.posts (min one.least other.least)
    by true is = let stays : min one.least other.least ≡ one.least = grind (arith, nat_tests) in rw stays knows.least_is
    by false is =
        let falls : min one.least other.least ≡ other.least = grind (arith, nat_tests) in rw falls theirs.least_is

joined_fits : {n seats : ℕ} {machine : Machine} {one other : View} → 0 < length one.numbers → 0 < length other.numbers
    → Fits n seats machine one → Fits n seats machine other → Fits n seats machine (joined_views one other)
joined_fits {n} {seats} {machine} {one} {other} live they_live fits theirs = record {
  own_draws = own_joined one.numbers other.numbers one.draws other.draws fits.own_draws theirs.own_draws;
  own_posts = own_joined one.numbers other.numbers one.posts other.posts fits.own_posts theirs.own_posts;
  own_looks = own_joined one.numbers other.numbers one.looks other.looks fits.own_looks theirs.own_looks;
  drawn = λ post has. elim (Has-append_cases one.posts other.posts post has) [
    | inl before ↦ (Has-left one.draws other.draws post (fits.drawn post before).0, (fits.drawn post before).1)
    | inr following ↦
        (Has-right one.draws other.draws post (theirs.drawn post following).0, (theirs.drawn post following).1)
  ];
  few_past =
      omega (
        arith,
        fits.few_past,
        theirs.few_past,
        count-append (is_past n) one.draws other.draws,
        length-append one.numbers other.numbers,
      );
  knows = λ some_live. joined_knows n seats machine one other (fits.knows live) (theirs.knows they_live);
}

pub spent_fits : (n seats : ℕ) (machine : Machine) → Fits n seats machine spent_view
spent_fits n seats machine = record {
  own_draws = λ pair has. absurd (omega (arith, has));
  own_posts = λ pair has. absurd (omega (arith, has));
  own_looks = λ pair has. absurd (omega (arith, has));
  drawn = λ pair has. absurd (omega (arith, has));
  few_past = omega arith;
  knows = λ live. absurd (omega (arith, live));
}

-- two seats become one
module _ {X : Type 0} (part : View → List X) (views : List View) (place elsewhere : ℕ) (one other : View)
    (at : get_elem? views place ≡ some one)
    (there : get_elem? (set views place (joined_views one other)) elsewhere ≡ some other) (whole : List X)
    (bag : SameBag whole (all_of part views)) where
  bag_joins : part (joined_views one other) ≡ part one ++ part other → part spent_view ≡ []
      → SameBag whole (all_of part (set (set views place (joined_views one other)) elsewhere spent_view))
  bag_joins is none h =
      omega (
        arith,
        bag h,
        gathered-set part h views place one (joined_views one other) at,
        gathered-set part h (set views place (joined_views one other)) elsewhere other spent_view there,
        ap (weigh h) is,
        ap (weigh h) none,
        weigh-append h (part one) (part other),
      )

pub join_mirrors : {n seats : ℕ} {machine : Machine} {answers : List (ℕ × ℕ)} {words : List ℕ} {views : List View}
    {place elsewhere : ℕ} {view other : View}
    → ShowsLive n seats machine answers words views place view
    → ShowsLive n seats machine answers words views elsewhere other
    → get_elem? (set views place (joined_views view other)) elsewhere ≡ some other
    → Mirrors n seats machine answers words (set (set views place (joined_views view other)) elsewhere spent_view)
join_mirrors {n} {seats} {machine} {answers} {views = views} {place} {elsewhere} {view} {other} shows theirs there =
    let mirrors = shows.mirrors in
    let at = shows.exists in
    let joined = set views place (joined_views view other) in
    record {
      words_are = mirrors.words_are;
      draws_are =
          bag_joins draws_of views place elsewhere view other at there machine.draws mirrors.draws_are refl refl;
      posts_are =
          bag_joins posts_of views place elsewhere view other at there machine.posts mirrors.posts_are refl refl;
      looks_are = bag_joins looks_of views place elsewhere view other at there answers mirrors.looks_are refl refl;
      numbers_are =
          bag_joins view_numbers views place elsewhere view other at there (numbers_below seats) mirrors.numbers_are
          refl
          refl;
      fit = all_fit joined elsewhere
          (all_fit views place mirrors.fit (λ one fits. fits)
          (joined_fits shows.live theirs.live (mirrors.fit place view at)
          (mirrors.fit elsewhere other theirs.exists)))
          (λ one fits. fits) (spent_fits n seats machine);
    }

-- a seat that has done nothing is cut in two
first_and_rest : (h : ℕ → ℕ) (numbers : List ℕ) → weigh h (take 1 numbers) + weigh h (drop 1 numbers) ≡ weigh h numbers
first_and_rest h [] = omega arith
first_and_rest h (number ∷ numbers) = omega arith

idle_fits : {n seats : ℕ} {machine : Machine} {view : View} → Knows n seats machine view → IsIdle view
    → Fits n seats machine view
idle_fits {n} knows idle = record {
  own_draws = λ pair has. absurd (omega (arith, has, ap (times pair) idle.no_draws));
  own_posts = λ pair has. absurd (omega (arith, has, ap (times pair) idle.no_posts));
  own_looks = λ pair has. absurd (omega (arith, has, ap (times pair) idle.no_looks));
  drawn = λ pair has. absurd (omega (arith, has, ap (times pair) idle.no_posts));
  few_past = omega (arith, ap (count (is_past n)) idle.no_draws);
  knows = λ live. knows;
}

module _ {X : Type 0} (part : View → List X) (views : List View) (place : ℕ) (view : View)
    (at : get_elem? views place ≡ some view) (whole : List X) (bag : SameBag whole (all_of part views)) where
  bag_splits : ((h : X → ℕ) → weigh h (part (cut_first view)) + weigh h (part (cut_rest view)) ≡ weigh h (part view))
      → SameBag whole (all_of part (set views place (cut_rest view) ++ cut_first view ∷ []))
  bag_splits is h =
      omega (
        arith,
        bag h,
        gathered-set part h views place view (cut_rest view) at,
        gathered-push part h (set views place (cut_rest view)) (cut_first view),
        is h,
      )

pub split_mirrors : {n seats : ℕ} {machine : Machine} {answers : List (ℕ × ℕ)} {words : List ℕ} {views : List View}
    {place : ℕ} {view : View}
    → ShowsLive n seats machine answers words views place view → IsIdle view → view.least ≡ n
    → Mirrors n seats machine answers words (set views place (cut_rest view) ++ cut_first view ∷ [])
split_mirrors {n} {seats} {machine} {answers} {views = views} {place} {view} shows idle untouched =
    let mirrors = shows.mirrors in
    let at = shows.exists in
    let knows = (mirrors.fit place view at).knows shows.live in
    let rest : Fits n seats machine (cut_rest view) =
    idle_fits
    (record {
      segments_is =
          knows.segments_is;
      seats_is =
          knows.seats_is;
      least_low =
          knows.least_low;
      least_is = knows.least_is;
      looks_high = knows.looks_high;
      posts_high = knows.posts_high;
    })
    (record { no_draws = idle.no_draws; no_posts = idle.no_posts; no_looks = idle.no_looks }) in
    let first : Fits n seats machine (cut_first view) = idle_fits (record {
      segments_is = knows.segments_is;
      seats_is = knows.seats_is;
      least_low = omega (arith, knows.least_low, untouched, knows.segments_is);
      least_is = inl knows.segments_is;
      looks_high = λ look has. absurd (omega (arith, has));
      posts_high = λ post has. absurd (omega (arith, has));
    }) (record { no_draws = refl; no_posts = refl; no_looks = refl }) in
    record {
      words_are = mirrors.words_are;
      draws_are = bag_splits draws_of views place view at machine.draws mirrors.draws_are (λ h. omega arith);
      posts_are = bag_splits posts_of views place view at machine.posts mirrors.posts_are (λ h. omega arith);
      looks_are = bag_splits looks_of views place view at answers mirrors.looks_are (λ h. omega arith);
      numbers_are =
          bag_splits view_numbers views place view at (numbers_below seats) mirrors.numbers_are
          (λ h. first_and_rest h view.numbers);
      fit =
          λ elsewhere other there. elim
          (at_snoc (set views place (cut_rest view)) (cut_first view) other elsewhere there) [
            | inl before ↦
                all_fit views place mirrors.fit (λ one fits. fits) rest elsewhere other before
            | inr last ↦ subst (Fits n seats machine) last first
          ];
    }
