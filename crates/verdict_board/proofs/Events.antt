-- Each step of the board is an event of the machine.
use Rattle.std.proofs.Common.{◌≡◌, inl, ℕ, zero, suc, ◌+◌, ◌<◌, Bool, true, false, ◌&&◌, ◌==◌, min, List, [], ◌∷◌, ◌++◌}
use Rattle.std.proofs.Common.{set, slice_index, refl, sym, ap, subst, ◌∙◌, arith, append-nil}
use mathlib.Core.Option.{some, some-injective, some-ne-none}
use lib.ListN.{get_elem?}
use Rattle.atomic_table.proofs.Lists.{set_else}
use Rattle.board_core.specs.declared.event.Event.{Event}
use Rattle.board_core.specs.declared.event.Event.TheVariants.{Claim, Look, Post}
use Rattle.board_core.specs.declared.event.Answer.TheVariants.{Drew, Least}
use Rattle.board_core.specs.Bags.{Has, as_number, is_pair, weigh}
use Rattle.board_core.specs.Machine.{Machine, machine_after_event, machine_after_claim, has_drawn, has_none_left}
use Rattle.board_core.specs.Machine.{is_draw_of, look_of, looks, machine_at_start, machine_after_events}
use Rattle.board_core.specs.Machine.{machine_after_post as machine_posted}
use Rattle.board_core.proofs.Bags.{any-some, counted, equal_test}
use Rattle.board_core.proofs.Machines.{after-claimed, after-look, after-posted, looks_push, run_push, sound}
use Rattle.verdict_board.specs.declared.view.View.{View}
use Rattle.verdict_board.specs.Views.{view_after_draw, fresh_view, joined_views, lead, view_after_look, numbers_below}
use Rattle.verdict_board.specs.Views.{view_after_post}
use Rattle.verdict_board.specs.Rule.{Fits, Mirrors, Shows, draws_of}
use Rattle.verdict_board.specs.Steps.{ClaimIsEvent, IsTrueTo, JoinIsNone, LookIsEvent, BoardMoment, OpeningShows}
use Rattle.verdict_board.specs.Steps.{IsViewAt, PostIsEvent, SplitIsNone}
use Rattle.verdict_board.proofs.Gathered.{gathered-one}
use Rattle.verdict_board.proofs.Mirrors.{claim_mirrors, has_lead, join_mirrors, look_mirrors, none_past, not_passed}
use Rattle.verdict_board.proofs.Mirrors.{ShowsLive, post_mirrors, split_mirrors}

pub opening_shows : OpeningShows
opening_shows n seats = record {
  words_are = refl;
  draws_are = λ h. refl;
  posts_are = λ h. refl;
  looks_are = λ h. refl;
  numbers_are = λ h. sym (ap (weigh h) (append-nil (numbers_below seats)));
  fit = first;
}
  where
    view : View
    view = fresh_view n seats (numbers_below seats)

    fits : Fits n seats (machine_at_start n) view
    fits = record {
      own_draws = λ pair has. absurd (omega (arith, has));
      own_posts = λ pair has. absurd (omega (arith, has));
      own_looks = λ pair has. absurd (omega (arith, has));
      drawn = λ pair has. absurd (omega (arith, has));
      few_past = omega arith;
      knows =
          λ live.
          record {
            segments_is =
                refl;
            seats_is =
                refl;
            least_low =
                omega arith;
            least_is =
                inl refl;
            looks_high =
                λ look has. absurd (omega (arith, has));
            posts_high = λ post has. absurd (omega (arith, has));
          };
    }

    first : (place : ℕ) (other : View) → get_elem? (view ∷ []) place ≡ some other
        → Fits n seats (machine_at_start n) other
    first zero other at = subst (Fits n seats (machine_at_start n)) (some-injective view other at) fits
    first (suc place) other at = absurd (some-ne-none other (sym at))

-- the words of what is shown
next_is : (moment : BoardMoment) → IsTrueTo moment
    → (machine_after_events (machine_at_start moment.segments) moment.events).next ≡ moment.next
next_is moment shows = sym (ap (λ words. slice_index words 0) shows.words_are)

least_is : (moment : BoardMoment) → IsTrueTo moment
    → (machine_after_events (machine_at_start moment.segments) moment.events).least ≡ moment.least
least_is moment shows = sym (ap (λ words. slice_index words 1) shows.words_are)

-- what is shown with one event more
shown_with : {n seats : ℕ} {now : Machine} {words : List ℕ} {views : List View} (events : List Event) (event : Event)
    → machine_after_event (machine_after_events (machine_at_start n) events) event ≡ now
    → Mirrors n seats now
    (looks (machine_at_start n) events ++ look_of (machine_after_events (machine_at_start n) events) event) words
    views
    → Shows n seats (events ++ event ∷ []) words views
shown_with {n} {seats} {now} {words} {views} events event is mirrors =
    let machine_is : now ≡ machine_after_events (machine_at_start n) (events ++ event ∷ []) =
    sym is ∙ sym (run_push (machine_at_start n) events event) in
    let answers_are = sym (looks_push (machine_at_start n) events event) in
    let P : Machine → Type 0 =
    λ machine. Mirrors n seats machine (looks (machine_at_start n) (events ++ event ∷ [])) words views in
    let Q : List (ℕ × ℕ) → Type 0 = λ answers. Mirrors n seats now answers words views in
    subst P machine_is (subst Q answers_are mirrors)

-- the view stands among those that show the machine
live_at : (moment : BoardMoment) (place : ℕ) (view : View) → IsViewAt moment place view
    → ShowsLive moment.segments moment.seats (machine_after_events (machine_at_start moment.segments) moment.events)
    (looks (machine_at_start moment.segments) moment.events) (moment.next ∷ moment.least ∷ []) moment.views place view
live_at moment place view stands = record { mirrors = stands.shows; exists = stands.exists; live = stands.live }

pub claim_event : ClaimIsEvent
claim_event moment place view stands not_done =
    let n = moment.segments in
    let machine = machine_after_events (machine_at_start n) moment.events in
    let answers = looks (machine_at_start n) moment.events in
    let views = set moment.views place (view_after_draw view moment.next) in
    let knows = (stands.shows.fit place view stands.exists).knows stands.live in
    let not_yet : has_none_left machine (lead view) ≡ false =
    not_passed (lead view) (sound n moment.events).segments (live_at moment place view stands)
    (has_lead view.numbers stands.live)
    (none_past view n knows.segments_is not_done) in
    let made = claim_mirrors (live_at moment place view stands) not_done in
    let P : ℕ → Type 0 =
    λ next. Mirrors n moment.seats (machine_after_claim machine (lead view)) answers
    ((next + 1) ∷ machine.least ∷ []) (set moment.views place (view_after_draw view next)) in
    let Q : ℕ → Type 0 =
    λ least. Mirrors n moment.seats (machine_after_claim machine (lead view)) answers
    ((moment.next + 1) ∷ least ∷ []) views in
    let R : List (ℕ × ℕ) → Type 0 =
    λ answers. Mirrors n moment.seats (machine_after_claim machine (lead view)) answers
    ((moment.next + 1) ∷ moment.least ∷ []) views in (
      shown_with moment.events (Claim (lead view)) (after-claimed machine (lead view) not_yet)
          (subst R (sym (append-nil answers))
          (subst Q (least_is moment stands.shows) (subst P (next_is moment stands.shows) made))),
      rw not_yet (ap Drew (next_is moment stands.shows)),
    )

pub look_event : LookIsEvent
look_event moment place view stands =
    let n = moment.segments in
    let machine = machine_after_events (machine_at_start n) moment.events in
    let answers = looks (machine_at_start n) moment.events in
    let words = moment.next ∷ moment.least ∷ [] in
    let made = look_mirrors (sound n moment.events) (live_at moment place view stands) in
    let is = least_is moment stands.shows in
    let P : ℕ → Type 0 =
    λ answer. Mirrors n moment.seats machine (answers ++ (lead view, machine.least) ∷ []) words
    (set moment.views place (view_after_look view answer)) in (
      shown_with moment.events (Look (lead view)) (after-look machine (lead view)) (subst P is made),
      ap Least is,
    )

pub drawn_in_all : {n seats : ℕ} {machine : Machine} {answers : List (ℕ × ℕ)} {words : List ℕ} {views : List View}
    {view : View} (place : ℕ) (draw : ℕ × ℕ)
    → Mirrors n seats machine answers words views → get_elem? views place ≡ some view → Has view.draws draw
    → Has machine.draws draw
drawn_in_all {views = views} {view} place draw mirrors at has =
    omega (
      arith,
      has,
      mirrors.draws_are (λ pair. as_number (is_pair draw pair)),
      gathered-one draws_of (λ pair. as_number (is_pair draw pair)) views place view at,
    )

has_drawn_it : (machine : Machine) (number segment : ℕ) → Has machine.draws (number, segment)
    → has_drawn machine number segment ≡ true
has_drawn_it machine number segment has =
    any-some (is_draw_of number segment) machine.draws
    (counted (is_draw_of number segment) machine.draws (number, segment) has
    (by (number == number) (segment == segment) (equal_test number number refl) (equal_test segment segment refl)))
  where
    by : (one other : Bool) → one ≡ true → other ≡ true → (one && other) ≡ true
    by true true a b = refl
    by true false a b = absurd cc
    by false other a b = absurd cc

pub post_event : PostIsEvent
post_event moment place view number segment stands drawn low =
    let n = moment.segments in
    let machine = machine_after_events (machine_at_start n) moment.events in
    let answers = looks (machine_at_start n) moment.events in
    let views = set moment.views place (view_after_post view number segment (min moment.least segment)) in
    let now = machine_posted machine number segment in
    let within : segment < machine.segments = omega (arith, low, (sound n moment.events).segments) in
    let has = drawn_in_all place (number, segment) stands.shows stands.exists drawn in
    let made =
    post_mirrors number segment (sound n moment.events) (live_at moment place view stands) drawn low in
    let posted_at : ℕ → List View =
    λ least. set moment.views place (view_after_post view number segment (min least segment)) in
    let P : ℕ → Type 0 =
    λ next. Mirrors n moment.seats now answers (next ∷ min machine.least segment ∷ []) (posted_at machine.least) in
    let Q : ℕ → Type 0 =
    λ least. Mirrors n moment.seats now answers (moment.next ∷ min least segment ∷ []) (posted_at least) in
    let R : List (ℕ × ℕ) → Type 0 =
    λ answers. Mirrors n moment.seats now answers (moment.next ∷ min moment.least segment ∷ []) views in
    shown_with moment.events (Post number segment)
    (after-posted machine number segment within (has_drawn_it machine number segment has))
    (subst R (sym (append-nil answers))
    (subst Q (least_is moment stands.shows) (subst P (next_is moment stands.shows) made)))

pub split_none : SplitIsNone
split_none moment place view stands idle untouched =
    split_mirrors (live_at moment place view stands) idle untouched

pub join_none : JoinIsNone
join_none moment place elsewhere view other stands theirs apart =
    join_mirrors (live_at moment place view stands) (live_at moment elsewhere other theirs)
    (set_else moment.views place elsewhere (joined_views view other) apart ∙ theirs.exists)
