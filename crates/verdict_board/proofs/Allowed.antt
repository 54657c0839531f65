-- Each step of the board keeps the rule, and tells its play.
use Rattle.std.proofs.Common.{◌≡◌, ℕ, zero, suc, ◌+◌, ◌%◌, ◌^◌, ◌<◌, ◌≤◌, false, min, List, [], ◌∷◌, ◌++◌, length, set}
use Rattle.std.proofs.Common.{slice_index, slice_set, refl, sym, subst, ◌∙◌, arith}
use mathlib.Core.Option.{none, some}
use lib.ListN.{get_elem?}
use Rattle.atomic_table.specs.Table.{Act, Allows, Joins, Splits, State, Valid, carried_after, keeps, opening, step}
use Rattle.atomic_table.proofs.Lists.{set_again, set_else, set_here}
use Rattle.board_core.specs.declared.event.Event.TheVariants.{Claim, Look, Post}
use Rattle.board_core.specs.Bags.{Has}
use Rattle.board_core.specs.Machine.{machine_at_start, machine_after_events}
use Rattle.board_core.proofs.Machines.{sound}
use Rattle.verdict_board.specs.declared.view.View.{View}
use Rattle.verdict_board.specs.Views.{cut_first, cut_rest, view_after_draw, fresh_view, is_done, joined_views, lead}
use Rattle.verdict_board.specs.Views.{view_after_look, numbers_below, view_after_post, spent_view}
use Rattle.verdict_board.specs.Rule.{Kept, Shows}
use Rattle.verdict_board.specs.Plays.{Draws, Hand, Learns, Puts, Sees}
use Rattle.verdict_board.specs.Points.{IsIdle}
use Rattle.verdict_board.specs.Steps.{BoardMoment, IsViewAt}
use Rattle.verdict_board.proofs.Events.{claim_event, join_none, look_event, opening_shows, post_event, split_none}
use Rattle.verdict_board.proofs.Wholes.{drawn_below, few_drawn, posts_above, whole_exact}

-- the rule on a table
abbrev pub KeptIn : ℕ → ℕ → State (Unit {0}) View → Type 0
KeptIn n seats state = Kept n seats state.words state.views

pub opening_kept : (n seats : ℕ) → n < 2 ^ 32 → seats ≤ 64
    → KeptIn n seats (opening (0 ∷ n ∷ []) [] (fresh_view n seats (numbers_below seats)))
opening_kept n seats few_segments few_seats =
    record { few_segments = few_segments; few_seats = few_seats; events = []; shows = opening_shows n seats }

there : (views : List View) (place : ℕ) (view : View) → get_elem? views place ≡ some view → place < length views
there [] place view at = absurd cc
there (first ∷ views) zero view at = omega arith
there (first ∷ views) (suc place) view at = omega (arith, there views place view at)

-- the moment at which the rule holds
abbrev pub moment_of : (n seats : ℕ) (words : List ℕ) (views : List View) → Kept n seats words views → BoardMoment
moment_of n seats words views kept = record {
  segments = n;
  seats = seats;
  events = kept.events;
  next = (machine_after_events (machine_at_start n) kept.events).next;
  least = (machine_after_events (machine_at_start n) kept.events).least;
  views = views;
}

-- what a step of the seat at a place asks
module _ (n seats slots place : ℕ) (me : Hand) where
  stands : (words : List ℕ) (views : List View) (kept : Kept n seats words views) → get_elem? views place ≡ some me.0
      → 0 < length me.0.numbers
      → IsViewAt (moment_of n seats words views kept) place me.0
  stands words views kept at live =
      let P : List ℕ → Type 0 = λ words. Shows n seats kept.events words views in
      record { shows = subst P kept.shows.words_are kept.shows; exists = at; live = live }

  pub claim_allowed : 0 < length me.0.numbers → is_done me.0 ≡ false
      → Allows (KeptIn n seats) slots place me 0 (λ found. (found + 1) % 2 ^ 64) (Draws (step slots 0 1 0 none) me)
  claim_allowed live not_done state kept _ at _ =
      let machine = machine_after_events (machine_at_start n) kept.events in
      let new = view_after_draw me.0 machine.next in
      let views = set state.views place new in
      let next =
      claim_event (moment_of n seats state.words state.views kept) place me.0
      (stands state.words state.views kept at live) not_done in
      let at_most = few_drawn n seats kept.events state.words state.views kept.shows in
      let sum : machine.next + 1 ≡ (machine.next + 1) % 2 ^ 64 =
      omega (arith, at_most, kept.few_segments, kept.few_seats) in
      let now : Kept n seats ((machine.next + 1) ∷ machine.least ∷ []) views =
      record {
        few_segments =
            kept.few_segments;
        few_seats =
            kept.few_seats;
        events = kept.events ++ Claim (lead me.0) ∷ [];
        shows = next.0;
      } in
      let P : List ℕ → Type 0 =
      λ words. (w : View) × (a : Act (Unit {0})) × Valid state.homes me.1 a
      × Kept n seats (slice_set words 0 ((slice_index words 0 + 1) % 2 ^ 64)) (set state.views place w)
      × Draws (step slots 0 1 0 none) me (slice_index words 0) (w, carried_after me.1 a) in
      let Q : ℕ → Type 0 = λ k. Kept n seats (k ∷ machine.least ∷ []) views in
      subst P (sym kept.shows.words_are) (
        new,
        keeps,
        tt,
        subst Q sum now,
        (
          refl,
          drawn_below kept.events place kept.shows at,
          λ whole. whole_exact now.events place next.0
              (set_here state.views place new (there state.views place me.0 at)) live whole,
        ),
      )

  pub look_allowed : 0 < length me.0.numbers
      → Allows (KeptIn n seats) slots place me 1 (λ found. found) (Sees (step slots 1 0 0 none) me)
  look_allowed live state kept _ at _ =
      let machine = machine_after_events (machine_at_start n) kept.events in
      let new = view_after_look me.0 machine.least in
      let views = set state.views place new in
      let next =
      look_event (moment_of n seats state.words state.views kept) place me.0
      (stands state.words state.views kept at live) in
      let knows = (kept.shows.fit place me.0 at).knows live in
      let low = (sound n kept.events).least.within in
      let now : Kept n seats (machine.next ∷ machine.least ∷ []) views =
      record {
        few_segments =
            kept.few_segments;
        few_seats =
            kept.few_seats;
        events = kept.events ++ Look (lead me.0) ∷ [];
        shows = next.0;
      } in
      let P : List ℕ → Type 0 =
      λ words. (w : View) × (a : Act (Unit {0})) × Valid state.homes me.1 a
      × Kept n seats (slice_set words 1 (slice_index words 1)) (set state.views place w)
      × Sees (step slots 1 0 0 none) me (slice_index words 1) (w, carried_after me.1 a) in
      subst P (sym kept.shows.words_are) (
        new,
        keeps,
        tt,
        now,
        (
          refl,
          omega (arith, low, kept.few_segments),
          omega (arith, low, knows.segments_is),
          knows.least_low,
          posts_above kept.events place kept.shows at,
          λ whole. whole_exact now.events place next.0
              (set_here state.views place new (there state.views place me.0 at)) live whole,
        ),
      )

  pub post_allowed : (number segment : ℕ) → 0 < length me.0.numbers → Has me.0.draws (number, segment)
      → segment < me.0.segments
      → Allows (KeptIn n seats) slots place me 1 (λ found. min found segment) (Puts (step slots 1 segment 0 none) me)
  post_allowed number segment live drawn low state kept _ at _ =
      let machine = machine_after_events (machine_at_start n) kept.events in
      let new = view_after_post me.0 number segment (min machine.least segment) in
      let views = set state.views place new in
      let knows = (kept.shows.fit place me.0 at).knows live in
      let next =
      post_event (moment_of n seats state.words state.views kept) place me.0 number segment
      (stands state.words state.views kept at live) drawn (omega (arith, low, knows.segments_is)) in
      let now : Kept n seats (machine.next ∷ min machine.least segment ∷ []) views =
      record {
        few_segments =
            kept.few_segments;
        few_seats =
            kept.few_seats;
        events = kept.events ++ Post number segment ∷ [];
        shows = next;
      } in
      let P : List ℕ → Type 0 =
      λ words. (w : View) × (a : Act (Unit {0})) × Valid state.homes me.1 a
      × Kept n seats (slice_set words 1 (min (slice_index words 1) segment)) (set state.views place w)
      × Puts (step slots 1 segment 0 none) me (slice_index words 1) (w, carried_after me.1 a) in
      subst P (sym kept.shows.words_are) (
        new,
        keeps,
        tt,
        now,
        (
          (number, drawn, refl),
          knows.least_low,
          λ whole. whole_exact now.events place next
              (set_here state.views place new (there state.views place me.0 at)) live whole,
        ),
      )

  pub learn_allowed : 0 < length me.0.numbers
      → Allows (KeptIn n seats) slots place me 0 (λ found. found) (Learns (step slots 0 0 0 none) me)
  learn_allowed live state kept _ at _ =
      let machine = machine_after_events (machine_at_start n) kept.events in
      let same : state.views ≡ set state.views place me.0 = sym (set_again state.views place me.0 at) in
      let shows = (stands state.words state.views kept at live).shows in
      let now : Kept n seats (machine.next ∷ machine.least ∷ []) state.views =
      record {
        few_segments =
            kept.few_segments;
        few_seats = kept.few_seats;
        events = kept.events;
        shows = shows;
      } in
      let P : List ℕ → Type 0 =
      λ words. (w : View) × (a : Act (Unit {0})) × Valid state.homes me.1 a
      × Kept n seats (slice_set words 0 (slice_index words 0)) (set state.views place w)
      × Learns (step slots 0 0 0 none) me (slice_index words 0) (w, carried_after me.1 a) in
      let Q : List View → Type 0 = λ views. Kept n seats (machine.next ∷ machine.least ∷ []) views in
      subst P (sym kept.shows.words_are) (
        me.0,
        keeps,
        tt,
        subst Q same now,
        (
          refl,
          λ whole. whole_exact kept.events place shows at live whole,
        ),
      )

pub split_allowed : (n seats place : ℕ) (view : View) → 0 < length view.numbers → IsIdle view
    → view.least ≡ view.segments
    → Splits (KeptIn n seats) place view (cut_rest view) (cut_first view)
split_allowed n seats place view live idle untouched state kept at =
    let machine = machine_after_events (machine_at_start n) kept.events in
    let knows = (kept.shows.fit place view at).knows live in
    let none =
    split_none (moment_of n seats state.words state.views kept) place view
    (stands n seats 0 place (view, []) state.words state.views kept at live) idle (untouched ∙ knows.segments_is) in
    let P : List ℕ → Type 0 =
    λ words. Kept n seats words (set state.views place (cut_rest view) ++ cut_first view ∷ []) in
    subst P (sym kept.shows.words_are)
    (record { few_segments = kept.few_segments; few_seats = kept.few_seats; events = kept.events; shows = none })

pub join_allowed : (n seats place elsewhere : ℕ) (view other : View) → 0 < length view.numbers
    → 0 < length other.numbers
    → Joins (KeptIn n seats) place view elsewhere other (joined_views view other) spent_view
join_allowed n seats place elsewhere view other live they_live state kept at apart late =
    let machine = machine_after_events (machine_at_start n) kept.events in
    let their_place : get_elem? state.views elsewhere ≡ some other =
    sym (set_else state.views place elsewhere (joined_views view other) apart) ∙ late in
    let none = join_none (moment_of n seats state.words state.views kept) place elsewhere view other
    (stands n seats 0 place (view, []) state.words state.views kept at live)
    (stands n seats 0 elsewhere (other, []) state.words state.views kept their_place they_live) apart in
    let P : List ℕ → Type 0 =
    λ words. Kept n seats words (set (set state.views place (joined_views view other)) elsewhere spent_view) in
    subst P (sym kept.shows.words_are)
    (record { few_segments = kept.few_segments; few_seats = kept.few_seats; events = kept.events; shows = none })
