-- What events do to a machine.
use Rattle.std.proofs.Common.{◌≡◌, ◌⊎◌, inl, inr, ℕ, zero, suc, ◌+◌, ◌-◌, ◌<◌, ◌≤◌, Bool, true, false, ◌&&◌, ◌||◌, ◌==◌}
use Rattle.std.proofs.Common.{nat_le, nat_lt, min, if◌then◌else◌, List, [], ◌∷◌, ◌++◌, length, map, refl, sym, ap}
use Rattle.std.proofs.Common.{subst, ◌∙◌, arith, append-nil, append_assoc}
use Rattle.std.specs.List.{Contains, list_any, range_with_len}
use Rattle.std.proofs.lemmas.Bool.Decides.{nat_tests}
use Rattle.std.proofs.lemmas.List.{map-append}
use Rattle.std.proofs.lemmas.List.Folds.{list_any-append}
use Rattle.board_core.specs.declared.event.Event.{Event}
use Rattle.board_core.specs.declared.event.Event.TheVariants.{Claim, Look, Post}
use Rattle.board_core.specs.Bags.{Has, Names, as_number, count, is_numbered}
use Rattle.board_core.specs.Machine.{Machine, machine_after_event, machine_after_claim, has_drawn, has_none_left}
use Rattle.board_core.specs.Machine.{is_draw_of, is_over, look_of, looks, machine_at_start, machine_after_post}
use Rattle.board_core.specs.Machine.{machine_after_events}
use Rattle.board_core.specs.Sound.{ClaimAmong, IsLeast, IsSoundMachine, Looked, number_of_pair}
use Rattle.board_core.proofs.Bags.{Names-left, Names-push, any-some, counted, equal_test, Has-append_cases, Has-left}
use Rattle.board_core.proofs.Bags.{Has-one, Has-push, Has-push_cases, both_true, count_of_any, count_of_none}
use Rattle.board_core.proofs.Bags.{count_push, equal_if, one_if, some_counted, zero_if}

-- one event more
pub run_push : (machine : Machine) (events : List Event) (event : Event)
    → machine_after_events machine (events ++ event ∷ [])
    ≡ machine_after_event (machine_after_events machine events) event
run_push machine [] event = refl
run_push machine (first ∷ events) event = run_push (machine_after_event machine first) events event

pub looks_push : (machine : Machine) (events : List Event) (event : Event)
    → looks machine (events ++ event ∷ []) ≡ looks machine events ++ look_of (machine_after_events machine events) event
looks_push machine [] event = append-nil (look_of machine event)
looks_push machine (first ∷ events) event =
    ap (λ more. look_of machine first ++ more) (looks_push (machine_after_event machine first) events event)
    ∙ sym
    (append_assoc (look_of machine first) (looks (machine_after_event machine first) events)
    (look_of (machine_after_events (machine_after_event machine first) events) event))

-- the machine after each kind of event, by the test that decides
pub after-passed : (machine : Machine) (worker : ℕ) → has_none_left machine worker ≡ true
    → machine_after_event machine (Claim worker) ≡ machine
unfolding machine_after_event
after-passed machine worker is = rw is refl

pub after-claimed : (machine : Machine) (worker : ℕ) → has_none_left machine worker ≡ false
    → machine_after_event machine (Claim worker) ≡ machine_after_claim machine worker
unfolding machine_after_event
after-claimed machine worker is = rw is refl

pub after-look : (machine : Machine) (worker : ℕ) → machine_after_event machine (Look worker) ≡ machine
unfolding machine_after_event
after-look machine worker = refl

pub after-posted : (machine : Machine) (worker segment : ℕ) → segment < machine.segments
    → has_drawn machine worker segment ≡ true
    → machine_after_event machine (Post worker segment) ≡ machine_after_post machine worker segment
unfolding machine_after_event
after-posted machine worker segment below is =
    let low : nat_lt segment machine.segments ≡ true = grind (arith, nat_tests) in rw (low, is) refl

-- what is sound
pub opened_sound : (n : ℕ) → IsSoundMachine n (machine_at_start n)
opened_sound n = record {
  segments = refl;
  draws = refl;
  least = record {
    within = omega arith;
    below_posts = λ post has. absurd (omega (arith, has));
    is_one = inl refl;
  };
  posts = λ post has. absurd (omega (arith, has));
  passes = λ worker. omega arith;
}

pub range_push : (a n : ℕ) → range_with_len a n ++ (a + n) ∷ [] ≡ range_with_len a (n + 1)
range_push a zero = let same : a + 0 ≡ a = omega arith in rw same refl
range_push a (suc n) =
    let same : a + suc n ≡ (a + 1) + n = omega arith in
    let count : suc n + 1 ≡ suc (n + 1) = omega arith in
    rw (same, count) (ap (λ more. a ∷ more) (range_push (a + 1) n))

over_worker : (n worker drawer number : ℕ) → is_over n worker (drawer, number) ≡ true → (drawer ≡ worker) × (n ≤ number)
over_worker n worker drawer number is =
    let parts = both_true (drawer == worker) (nat_le n number) is in
    (equal_if drawer worker parts.0, let right = parts.1 in grind (arith, nat_tests))

claimed_passes : (n worker : ℕ) (machine : Machine) → count (is_over n worker) machine.draws ≡ 0
    → ((other : ℕ) → count (is_over n other) machine.draws ≤ 1) → (other : ℕ)
    → count (is_over n other) (machine_after_claim machine worker).draws ≤ 1
claimed_passes n worker machine none passes other = by (is_over n other (worker, machine.next)) refl
  where
    more : count (is_over n other) (machine.draws ++ (worker, machine.next) ∷ [])
        ≡ count (is_over n other) machine.draws + as_number (is_over n other (worker, machine.next))
    more = count_push (is_over n other) machine.draws (worker, machine.next)

    by : (over : Bool) → is_over n other (worker, machine.next) ≡ over
        → count (is_over n other) (machine_after_claim machine worker).draws ≤ 1
    by true is =
        let same : worker ≡ other = (over_worker n other worker machine.next is).0 in
        let zero_before : count (is_over n other) machine.draws ≡ 0 =
        let P : ℕ → Type 0 = λ w. count (is_over n w) machine.draws ≡ 0 in subst P same none in
        omega (arith, more, zero_before, one_if (is_over n other (worker, machine.next)) is)
    by false is = omega (arith, more, passes other, zero_if (is_over n other (worker, machine.next)) is)

pub claimed_sound : (n worker : ℕ) (machine : Machine) → has_none_left machine worker ≡ false
    → IsSoundMachine n machine → IsSoundMachine n (machine_after_claim machine worker)
claimed_sound n worker machine passed sound =
    let none : count (is_over n worker) machine.draws ≡ 0 =
    let P : ℕ → Type 0 = λ m. count (is_over m worker) machine.draws ≡ 0 in
    subst P sound.segments (count_of_none (is_over machine.segments worker) machine.draws passed) in
    record {
      segments = sound.segments;
      draws =
          map-append number_of_pair machine.draws ((worker, machine.next) ∷ [])
          ∙ ap (λ xs. xs ++ machine.next ∷ []) sound.draws
          ∙ (let same : 0 + machine.next ≡ machine.next =
          omega arith in ap (λ k. range_with_len 0 machine.next ++ k ∷ []) (sym same)) ∙ range_push 0 machine.next;
      least = sound.least;
      posts =
          λ post has. (
            Has-left machine.draws ((worker, machine.next) ∷ []) post (sound.posts post has).0,
            (sound.posts post has).1,
          );
      passes = claimed_passes n worker machine none sound.passes;
    }

-- one post more
pub least_with : (n least worker segment : ℕ) (posts : List (ℕ × ℕ)) → segment < n → IsLeast n posts least
    → IsLeast n (posts ++ (worker, segment) ∷ []) (min least segment)
least_with n least worker segment posts low before = record {
  within = omega (arith, before.within);
  below_posts =
      λ post has. elim (Has-push_cases posts (worker, segment) post has)
      [ inl earlier ↦ omega (arith, before.below_posts post earlier) | inr is ↦ omega (arith, ap number_of_pair is) ];
  is_one = by (nat_le least segment) refl;
}
  where
    by : (old : Bool) → nat_le least segment ≡ old
        → (min least segment ≡ n) ⊎ Names (posts ++ (worker, segment) ∷ []) (min least segment)
    by true is =
        let stays : min least segment ≡ least = grind (arith, nat_tests) in
        rw stays (elim before.is_one [
          | inl none ↦ inl none
          | inr some ↦
              inr (Names-left posts ((worker, segment) ∷ []) least some)
        ])
    by false is =
        let falls : min least segment ≡ segment = grind (arith, nat_tests) in
        rw falls (inr (Names-push posts worker segment))

of_worker : (worker number : ℕ) (draw : ℕ × ℕ) → is_draw_of worker number draw ≡ true → draw ≡ (worker, number)
of_worker worker number (a, b) is =
    let parts = both_true (a == worker) (b == number) is in
    ap (λ x. (x, b)) (equal_if a worker parts.0) ∙ ap (λ y. (worker, y)) (equal_if b number parts.1)

pub drawn_has : (machine : Machine) (worker number : ℕ) → has_drawn machine worker number ≡ true
    → Has machine.draws (worker, number)
drawn_has machine worker number is =
    let found =
    some_counted (is_draw_of worker number) machine.draws
    (count_of_any (is_draw_of worker number) machine.draws is) in
    subst (Has machine.draws) (of_worker worker number found.0 found.2) found.1

pub posted_sound : (n worker segment : ℕ) (machine : Machine) → segment < n → has_drawn machine worker segment ≡ true
    → IsSoundMachine n machine → IsSoundMachine n (machine_after_post machine worker segment)
posted_sound n worker segment machine low drawn sound = record {
  segments = sound.segments;
  draws = sound.draws;
  least = least_with n machine.least worker segment machine.posts low sound.least;
  posts = λ post has. elim (Has-push_cases machine.posts (worker, segment) post has) [
    | inl earlier ↦ sound.posts post earlier
    | inr is ↦
        let P : ℕ × ℕ → Type 0 = λ p. Has machine.draws p × (p.1 < n) in
        subst P (sym is) (drawn_has machine worker segment drawn, low)
  ];
  passes = sound.passes;
}

pub after_sound : (n : ℕ) (machine : Machine) (event : Event) → IsSoundMachine n machine
    → IsSoundMachine n (machine_after_event machine event)
unfolding machine_after_event
after_sound n machine (Claim worker) sound = by (has_none_left machine worker) refl
  where
    by : (passed : Bool) → has_none_left machine worker ≡ passed
        → IsSoundMachine n (if passed then machine else machine_after_claim machine worker)
    by true is = sound
    by false is = claimed_sound n worker machine is sound
after_sound n machine (Look worker) sound = sound
after_sound n machine (Post worker segment) sound =
    by (nat_lt segment machine.segments && has_drawn machine worker segment) refl
  where
    by : (posts : Bool) → (nat_lt segment machine.segments && has_drawn machine worker segment) ≡ posts
        → IsSoundMachine n (if posts then machine_after_post machine worker segment else machine)
    by true is =
        let parts = both_true (nat_lt segment machine.segments) (has_drawn machine worker segment) is in
        let low : segment < machine.segments = let test = parts.0 in grind (arith, nat_tests) in
        posted_sound n worker segment machine (omega (arith, low, sound.segments)) parts.1 sound
    by false is = sound

pub run_sound : (n : ℕ) (machine : Machine) (events : List Event) → IsSoundMachine n machine
    → IsSoundMachine n (machine_after_events machine events)
run_sound n machine [] sound = sound
run_sound n machine (event ∷ events) sound =
    run_sound n (machine_after_event machine event) events (after_sound n machine event sound)

pub sound : (n : ℕ) (events : List Event) → IsSoundMachine n (machine_after_events (machine_at_start n) events)
sound n events = run_sound n (machine_at_start n) events (opened_sound n)

-- a post stays
pub after_posts : (machine : Machine) (event : Event) (number : ℕ) → Names machine.posts number
    → Names (machine_after_event machine event).posts number
unfolding machine_after_event
after_posts machine (Claim worker) number names = by (has_none_left machine worker)
  where
    by : (passed : Bool) → Names (if passed then machine else machine_after_claim machine worker).posts number
    by true = names
    by false = names
after_posts machine (Look worker) number names = names
after_posts machine (Post worker segment) number names =
    by (nat_lt segment machine.segments && has_drawn machine worker segment)
  where
    by : (posts : Bool) → Names (if posts then machine_after_post machine worker segment else machine).posts number
    by true = Names-left machine.posts ((worker, segment) ∷ []) number names
    by false = names

run_posts : (machine : Machine) (events : List Event) (number : ℕ) → Names machine.posts number
    → Names (machine_after_events machine events).posts number
run_posts machine [] number names = names
run_posts machine (event ∷ events) number names =
    run_posts (machine_after_event machine event) events number (after_posts machine event number names)

-- what a look answers is n or a post
look_posts : (n : ℕ) (machine : Machine) (event : Event) (worker answer : ℕ) → IsSoundMachine n machine
    → Has (look_of machine event) (worker, answer) → (answer ≡ n) ⊎ Names machine.posts answer
look_posts n machine (Claim claimer) worker answer sound has = absurd (omega (arith, has))
look_posts n machine (Look looker) worker answer sound has =
    let same : answer ≡ machine.least = ap number_of_pair (Has-one (worker, answer) (looker, machine.least) has) in
    let P : ℕ → Type 0 = λ a. (a ≡ n) ⊎ Names machine.posts a in subst P (sym same) sound.least.is_one
look_posts n machine (Post poster segment) worker answer sound has = absurd (omega (arith, has))

looks_posts : (n : ℕ) (machine : Machine) (events : List Event) (worker answer : ℕ) → IsSoundMachine n machine
    → Has (looks machine events) (worker, answer)
    → (answer ≡ n) ⊎ Names (machine_after_events machine events).posts answer
looks_posts n machine [] worker answer sound has = absurd (omega (arith, has))
looks_posts n machine (event ∷ events) worker answer sound has =
    elim
    (Has-append_cases (look_of machine event) (looks (machine_after_event machine event) events) (worker, answer)
    has) [
      | inl first ↦
          elim (look_posts n machine event worker answer sound first)
          [ inl none ↦ inl none | inr names ↦ inr (run_posts machine (event ∷ events) answer names) ]
      | inr more ↦
          looks_posts n (machine_after_event machine event) events worker answer (after_sound n machine event sound)
          more
    ]

pub posted_looks : (n : ℕ) (events : List Event) (worker answer : ℕ) → Looked n events worker answer
    → (answer ≡ n) ⊎ Names (machine_after_events (machine_at_start n) events).posts answer
posted_looks n events worker answer = looks_posts n (machine_at_start n) events worker answer (opened_sound n)

-- how many of these workers have passed
passed_among : Machine → List ℕ → ℕ
passed_among machine [] = 0
passed_among machine (worker ∷ workers) = as_number (has_none_left machine worker) + passed_among machine workers

few_pass : (machine : Machine) (workers : List ℕ) → passed_among machine workers ≤ length workers
unfolding passed_among
few_pass machine [] = omega arith
few_pass machine (worker ∷ workers) = by (has_none_left machine worker) (few_pass machine workers)
  where
    by : (passed : Bool) → passed_among machine workers ≤ length workers
        → as_number passed + passed_among machine workers ≤ length (worker ∷ workers)
    by true few = omega (arith, few)
    by false few = omega (arith, few)

still_passed : (machine : Machine) (worker other : ℕ)
    → as_number (has_none_left machine other) ≤ as_number (has_none_left (machine_after_claim machine worker) other)
still_passed machine worker other =
    rw (list_any-append (is_over machine.segments other) machine.draws ((worker, machine.next) ∷ []))
    (by (has_none_left machine other) (list_any (is_over machine.segments other) ((worker, machine.next) ∷ [])))
  where
    by : (one more : Bool) → as_number one ≤ as_number (one || more)
    by true more = omega arith
    by false true = omega arith
    by false false = omega arith

now_passed : (machine : Machine) (worker : ℕ) → machine.segments ≤ machine.next
    → has_none_left (machine_after_claim machine worker) worker ≡ true
now_passed machine worker over =
    any-some (is_over machine.segments worker) (machine.draws ++ (worker, machine.next) ∷ [])
    (counted (is_over machine.segments worker) (machine.draws ++ (worker, machine.next) ∷ []) (worker, machine.next)
    (Has-push machine.draws (worker, machine.next)) is)
  where
    is : is_over machine.segments worker (worker, machine.next) ≡ true
    is =
        let high : nat_le machine.segments machine.next ≡ true = grind (arith, nat_tests) in
        rw (equal_test worker worker refl, high) refl

still_pass : (machine : Machine) (worker : ℕ) (workers : List ℕ)
    → passed_among machine workers ≤ passed_among (machine_after_claim machine worker) workers
unfolding passed_among
still_pass machine worker [] = omega arith
still_pass machine worker (other ∷ workers) =
    omega (arith, still_passed machine worker other, still_pass machine worker workers)

among_cases : (first worker : ℕ) (workers : List ℕ) → Contains (first ∷ workers) worker
    → (first ≡ worker) ⊎ Contains workers worker
among_cases first worker workers (zero, low, is) = inl is
among_cases first worker workers (suc k, low, is) = inr (k, omega (arith, low), is)

-- one more has passed
one_more_passes : (machine : Machine) (worker : ℕ) (workers : List ℕ) → machine.segments ≤ machine.next
    → has_none_left machine worker ≡ false → Contains workers worker
    → passed_among machine workers + 1 ≤ passed_among (machine_after_claim machine worker) workers
unfolding passed_among
one_more_passes machine worker [] over not_yet among = absurd (omega (arith, among.1))
one_more_passes machine worker (first ∷ workers) over not_yet among =
    elim (among_cases first worker workers among) [
      | inl is ↦
          let P : ℕ → Type 0 =
          λ w. as_number (has_none_left machine w)
          + 1 ≤ as_number (has_none_left (machine_after_claim machine worker) w) in
          let here : P first =
          subst P (sym is)
          (omega (
            arith,
            zero_if (has_none_left machine worker) not_yet,
            one_if (has_none_left (machine_after_claim machine worker) worker) (now_passed machine worker over),
          )) in
          omega (arith, here, still_pass machine worker workers)
      | inr later ↦
          omega (arith, still_passed machine worker first, one_more_passes machine worker workers over not_yet later)
    ]

-- the number drawn next passes n by those who have passed at most
claim_bounded : (n : ℕ) (machine : Machine) (worker : ℕ) (workers : List ℕ) → machine.segments ≡ n
    → Contains workers worker → machine.next ≤ n + passed_among machine workers
    → (machine_after_event machine (Claim worker)).next ≤ n
    + passed_among (machine_after_event machine (Claim worker)) workers
unfolding machine_after_event
claim_bounded n machine worker workers for among bounded = by (has_none_left machine worker) refl
  where
    Bounded : Machine → Type 0
    Bounded m = m.next ≤ n + passed_among m workers

    claims : has_none_left machine worker ≡ false → (over : Bool) → nat_le machine.segments machine.next ≡ over
        → Bounded (machine_after_claim machine worker)
    claims not_yet true is =
        let over : machine.segments ≤ machine.next = grind (arith, nat_tests) in
        omega (arith, bounded, one_more_passes machine worker workers over not_yet among)
    claims not_yet false is =
        let under : machine.next < machine.segments = grind (arith, nat_tests) in
        omega (arith, for, under)

    by : (passed : Bool) → has_none_left machine worker ≡ passed
        → Bounded (if passed then machine else machine_after_claim machine worker)
    by true is = bounded
    by false is = claims is (nat_le machine.segments machine.next) refl

post_passes : (machine : Machine) (worker segment : ℕ) (workers : List ℕ)
    → passed_among machine workers ≤ passed_among (machine_after_post machine worker segment) workers
unfolding passed_among
post_passes machine worker segment [] = omega arith
post_passes machine worker segment (other ∷ workers) = omega (arith, post_passes machine worker segment workers)

post_bounded : (n : ℕ) (machine : Machine) (worker segment : ℕ) (workers : List ℕ)
    → machine.next ≤ n + passed_among machine workers
    → (machine_after_event machine (Post worker segment)).next ≤ n
    + passed_among (machine_after_event machine (Post worker segment)) workers
unfolding machine_after_event
post_bounded n machine worker segment workers bounded =
    by (nat_lt segment machine.segments && has_drawn machine worker segment)
  where
    by : (posts : Bool)
        → (if posts then machine_after_post machine worker segment else machine).next ≤ n
        + passed_among (if posts then machine_after_post machine worker segment else machine) workers
    by true = omega (arith, bounded, post_passes machine worker segment workers)
    by false = bounded

run_bounded : (n : ℕ) (machine : Machine) (events : List Event) (workers : List ℕ) → IsSoundMachine n machine
    → ClaimAmong workers events → machine.next ≤ n + passed_among machine workers
    → (machine_after_events machine events).next ≤ n + length workers
run_bounded n machine [] workers sound among bounded = omega (arith, bounded, few_pass machine workers)
run_bounded n machine (Claim worker ∷ events) workers sound among bounded =
    run_bounded n (machine_after_event machine (Claim worker)) events workers
    (after_sound n machine (Claim worker) sound) among.1
    (claim_bounded n machine worker workers sound.segments among.0 bounded)
run_bounded n machine (Look worker ∷ events) workers sound among bounded =
    run_bounded n (machine_after_event machine (Look worker)) events workers
    (after_sound n machine (Look worker) sound) among (rw (after-look machine worker) bounded)
run_bounded n machine (Post worker segment ∷ events) workers sound among bounded =
    run_bounded n (machine_after_event machine (Post worker segment)) events workers
    (after_sound n machine (Post worker segment) sound) among
    (post_bounded n machine worker segment workers bounded)

pub next_bounded : (n : ℕ) (events : List Event) (workers : List ℕ) → ClaimAmong workers events
    → (machine_after_events (machine_at_start n) events).next ≤ n + length workers
next_bounded n events workers among =
    run_bounded n (machine_at_start n) events workers (opened_sound n) among (omega arith)

-- each number below the next one was drawn once, and no other was
one_more_below : (number n : ℕ)
    → as_number (nat_lt number n) + as_number (n == number) ≡ as_number (nat_lt number (n + 1))
one_more_below number n = by (nat_lt number n) (n == number) (nat_lt number (n + 1)) refl refl refl
  where
    by : (low here more : Bool) → nat_lt number n ≡ low → (n == number) ≡ here → nat_lt number (n + 1) ≡ more
        → as_number low + as_number here ≡ as_number more
    by true true more a b c = absurd (grind (arith, nat_tests))
    by true false true a b c = refl
    by true false false a b c = absurd (grind (arith, nat_tests))
    by false true true a b c = refl
    by false true false a b c = absurd (grind (arith, nat_tests))
    by false false true a b c = absurd (grind (arith, nat_tests))
    by false false false a b c = refl

pub range_count : (n number : ℕ) → count (λ m. m == number) (range_with_len 0 n) ≡ as_number (nat_lt number n)
range_count zero number = let none : nat_lt number 0 ≡ false = grind (arith, nat_tests) in rw none refl
range_count (suc n) number =
    let more : range_with_len 0 (suc n) ≡ range_with_len 0 n ++ n ∷ [] =
    let at : 0 + n ≡ n = omega arith in
    let end : n + 1 ≡ suc n = omega arith in
    sym (ap (λ k. range_with_len 0 k) end) ∙ sym (range_push 0 n) ∙ ap (λ k. range_with_len 0 n ++ k ∷ []) at in
    let next : n + 1 ≡ suc n = omega arith in
    ap (count (λ m. m == number)) more
    ∙ count_push (λ m. m == number) (range_with_len 0 n) n
    ∙ ap (λ k. k + as_number (n == number)) (range_count n number)
    ∙ one_more_below number n
    ∙ ap (λ k. as_number (nat_lt number k)) next

numbers_count : (test : ℕ → Bool) (draws : List (ℕ × ℕ))
    → count (λ draw. test (number_of_pair draw)) draws ≡ count test (map number_of_pair draws)
numbers_count test [] = refl
numbers_count test (draw ∷ draws) = ap (λ k. as_number (test (number_of_pair draw)) + k) (numbers_count test draws)

pub drawn_once : (n : ℕ) (machine : Machine) (number : ℕ) → IsSoundMachine n machine
    → count (is_numbered number) machine.draws ≡ as_number (nat_lt number machine.next)
drawn_once n machine number sound =
    numbers_count (λ m. m == number) machine.draws ∙ ap (count (λ m. m == number)) sound.draws
    ∙ range_count machine.next number

-- so many of the numbers drawn are no segment's
range_over : (n k : ℕ) → count (nat_le n) (range_with_len 0 k) ≡ k - n
range_over n zero = omega arith
range_over n (suc k) =
    let more : range_with_len 0 (suc k) ≡ range_with_len 0 k ++ k ∷ [] =
    let at : 0 + k ≡ k = omega arith in
    let end : k + 1 ≡ suc k = omega arith in
    sym (ap (λ k. range_with_len 0 k) end) ∙ sym (range_push 0 k) ∙ ap (λ m. range_with_len 0 k ++ m ∷ []) at in
    ap (count (nat_le n)) more
    ∙ count_push (nat_le n) (range_with_len 0 k) k
    ∙ ap (λ m. m + as_number (nat_le n k)) (range_over n k)
    ∙ by (nat_le n k) refl
  where
    by : (over : Bool) → nat_le n k ≡ over → k - n + as_number over ≡ suc k - n
    by true is = let low : n ≤ k = grind (arith, nat_tests) in omega (arith, low)
    by false is = let high : k < n = grind (arith, nat_tests) in omega (arith, high)

pub overs_drawn : (n : ℕ) (machine : Machine) → IsSoundMachine n machine
    → count (λ draw. nat_le n (number_of_pair draw)) machine.draws ≡ machine.next - n
overs_drawn n machine sound =
    numbers_count (nat_le n) machine.draws ∙ ap (count (nat_le n)) sound.draws ∙ range_over n machine.next
