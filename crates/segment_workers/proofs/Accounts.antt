-- What workers did so far, when one finds out about a segment more, and when their seats are joined.
use Rattle.std.proofs.Common.{◌≡◌, ℕ, ◌+◌, ◌<◌, ◌≤◌, Bool, true, false, nat_lt, List, [], ◌∷◌, ◌++◌, length}
use Rattle.std.proofs.Common.{length-append, MatchBool, ◌==◌, refl, sym, ap, ◌∙◌, subst, arith}
use Rattle.std.specs.List.{All}
use Rattle.std.proofs.lemmas.Bool.Decides.{nat_tests}
use Rattle.std.proofs.lemmas.List.Elements.{All-append, All-cons, All-head, All-nil, All-push, All-tail, All-weaker}
use Rattle.board_core.specs.Bags.{Has, as_number, count, is_numbered, is_pair}
use Rattle.board_core.proofs.Bags.{Has-left, Has-push, Has-right, count-append, count_push, counted, equal_test, one_if}
use Rattle.board_core.proofs.Bags.{some_counted, zero_if}
use Rattle.segment_judge.specs.declared.found.Found.{Found}
use Rattle.segment_judge.specs.declared.found.What.{What}
use Rattle.segment_judge.specs.declared.found.What.TheVariants.{Judged, Skipped}
use Rattle.segment_judge.specs.declared.judged.Judged.{Judged as JudgedSegment}
use Rattle.verdict_board.specs.declared.board.Board.{Board}
use Rattle.verdict_board.specs.declared.view.View.{View}
use Rattle.verdict_board.specs.Seats.{DrawsNext, FindsNone, IsAt, IsSameSeat, view_of}
use Rattle.verdict_board.specs.Views.{AreAnswers, DrewBelow, IsExact, view_after_draw, is_done, is_past, joined_views}
use Rattle.verdict_board.specs.Views.{lead}
use Rattle.segment_workers.specs.Runs.{AreFoundBy, DrewEach, FoundBelow, HasReason, HaveOwnLooks, IsSeenSo, IsSkippedFor}
use Rattle.segment_workers.specs.Runs.{is_end_of, is_found_of}
use Rattle.segment_workers.specs.declared.work.Work.{Work}
use Rattle.segment_workers.specs.Works.{Accounts, FindsSo, HaveDone}

-- what was drawn stays drawn where a view has more
module _ {V : Type 0} (before now : View)
    (draws_stay : (draw : ℕ × ℕ) → Has before.draws draw → Has now.draws draw) where
  pub found_stays : (looks : List (ℕ × ℕ)) (founds : List (Found V)) → AreFoundBy before looks founds
      → AreFoundBy now looks founds
  found_stays [] [] by = tt
  found_stays [] (found ∷ founds) by = absurd by
  found_stays (look ∷ looks) [] by = absurd by
  found_stays (look ∷ looks) (found ∷ founds) by = (
    record { drew = draws_stay (look.0, found.seg) by.0.drew; so = by.0.so },
    found_stays looks founds by.1,
  )

-- looks, and those after them
pub found_both : {V : Type 0} (view : View) (looks later : List (ℕ × ℕ)) (founds more : List (Found V))
    → AreFoundBy view looks founds → AreFoundBy view later more → AreFoundBy view (looks ++ later) (founds ++ more)
found_both view [] later [] more first second = second
found_both view [] later (found ∷ founds) more first second = absurd first
found_both view (look ∷ looks) later [] more first second = absurd first
found_both view (look ∷ looks) later (found ∷ founds) more first second =
    (first.0, found_both view looks later founds more first.1 second)

-- ---- that some look found it

abbrev pub IsSeenBySome : {V : Type 0} → View → ℕ → ℕ → What V → Type 0
IsSeenBySome view worker number (Judged judged) = Unit {0}
IsSeenBySome view worker number (Skipped least) = (least < number) × Has view.looks (worker, least)

pub record IsFoundBySome {V : Type 0} (view : View) (found : Found V) : Type 0 where
  pub worker : ℕ
  pub drew : Has view.draws (worker, found.seg)
  pub so : IsSeenBySome view worker found.seg found.what

module _ {V : Type 0} (view : View) where
  some_seen : (look : ℕ × ℕ) (number : ℕ) (what : What V) → IsSeenSo look.1 number what → Has view.looks look
      → IsSeenBySome view look.0 number what
  some_seen look number (Judged judged) so has = tt
  some_seen look number (Skipped seen) so has =
      (omega (arith, so.0, so.1), subst (λ least. Has view.looks (look.0, least)) (sym so.0) has)

  some_of_them : (looks : List (ℕ × ℕ)) (founds : List (Found V)) → AreFoundBy view looks founds
      → ((look : ℕ × ℕ) → Has looks look → Has view.looks look) → All (IsFoundBySome view) founds
  some_of_them [] [] by within = All-nil (IsFoundBySome view)
  some_of_them [] (found ∷ founds) by within = absurd by
  some_of_them (look ∷ looks) [] by within = absurd by
  some_of_them (look ∷ looks) (found ∷ founds) by within =
      All-cons (IsFoundBySome view) found founds
      (record {
        worker = look.0;
        drew = by.0.drew;
        so = some_seen look found.seg found.what by.0.so (within look (Has-left (look ∷ []) looks look (Has-push [] look)));
      })
      (some_of_them looks founds by.1 (λ other has. within other (Has-right (look ∷ []) looks other has)))

  pub found_by_some : (founds : List (Found V)) → HaveOwnLooks view founds → All (IsFoundBySome view) founds
  found_by_some founds have =
      some_of_them have.own founds have.each
      (λ look has. omega (arith, has, have.are (λ x. as_number (is_pair look x))))

below_if : (number end : ℕ) → 0 < as_number (nat_lt number end) → number < end
below_if number end some = by (nat_lt number end) refl some
  where
    by : (low : Bool) → nat_lt number end ≡ low → 0 < as_number low → number < end
    by true is less = grind (arith, nat_tests)
    by false is less = absurd (omega (arith, less))

-- where nothing passes, none is counted
none_of : {X : Type 0} (test : X → Bool) (xs : List X) → All (λ x. test x ≡ false) xs → count test xs ≡ 0
none_of test [] none = refl
none_of test (x ∷ xs) none =
    omega (
      arith,
      zero_if (test x) (All-head (λ x. test x ≡ false) x xs none),
      none_of test xs (All-tail (λ x. test x ≡ false) x xs none),
    )

module _ {M : Type 0} (L : Found (JudgedSegment M) → Type 0) (n : ℕ) where
  pub nothing_yet : (view : View) → view.draws ≡ [] → view.posts ≡ [] → view.looks ≡ [] → Accounts L n view []
  nothing_yet view draws posts looks = record {
    lawful = All-nil L;
    each = λ number below. ap (count (is_numbered number)) (sym draws);
    by = subst (λ looks. AreFoundBy {V = JudgedSegment M} view looks []) (sym looks) tt;
    posted = λ number. ap (count (is_numbered number)) posts;
  }

  pub finds_more : (before drawn now : View) (founds : List (Found (JudgedSegment M))) (found : Found (JudgedSegment M))
      → Accounts L n before founds → drawn ≡ view_after_draw before found.seg → IsSameSeat drawn now
      → FindsSo drawn now found.seg found.what → L found
      → Accounts L n now (founds ++ found ∷ [])
  finds_more before drawn now founds found accounts is same finds lawful =
      let draws_are : now.draws ≡ before.draws ++ (lead before, found.seg) ∷ [] =
      finds.draws_are ∙ ap (λ view. view.draws) is in
      let lead_is : lead now ≡ lead before = cc (same.0, is) in
      let was : (draw : ℕ × ℕ) → Has before.draws draw → Has now.draws draw =
      λ draw has. (let P : List (ℕ × ℕ) → Type 0 = λ draws. Has draws draw in
      subst P (sym draws_are) (Has-left before.draws ((lead before, found.seg) ∷ []) draw has)) in
      let looks_are : now.looks ≡ before.looks ++ (lead now, finds.least) ∷ [] =
      finds.looks_are ∙ ap (λ view. view.looks ++ (lead now, finds.least) ∷ []) is in
      let drew_it : Has now.draws (lead now, found.seg) =
      (let P : List (ℕ × ℕ) → Type 0 = λ draws. Has draws (lead now, found.seg) in subst P (sym draws_are)
      (let Q : ℕ → Type 0 =
      λ worker. Has (before.draws ++ (lead before, found.seg) ∷ []) (worker, found.seg) in
      subst Q (sym lead_is) (Has-push before.draws (lead before, found.seg)))) in
      record {
        lawful = All-push L founds found accounts.lawful lawful;
        each = λ number below.
            omega (
              arith,
              accounts.each number below,
              count_push (is_found_of number) founds found,
              ap (count (is_numbered number)) draws_are,
              count_push (is_numbered number) before.draws (lead before, found.seg),
            );
        by =
            subst (λ looks. AreFoundBy now looks (founds ++ found ∷ [])) (sym looks_are)
            (found_both now before.looks ((lead now, finds.least) ∷ []) founds (found ∷ [])
            (found_stays before now was before.looks founds accounts.by)
            (record { drew = drew_it; so = finds.so }, tt));
        posted =
            λ number. omega (
              arith,
              accounts.posted number,
              count_push (is_end_of number) founds found,
              finds.posts_are number,
              ap (λ view. count (is_numbered number) view.posts) is,
            );
      }

  -- a number drawn that is no segment
  pub drew_past : (before now : View) (number : ℕ) (founds : List (Found (JudgedSegment M))) → n ≤ number
      → now ≡ view_after_draw before number → Accounts L n before founds → Accounts L n now founds
  drew_past before now number founds high is accounts =
      let P : View → Type 0 = λ view. Accounts L n view founds in
      subst P (sym is) (record {
        lawful = accounts.lawful;
        each = λ one low.
            omega (
              arith,
              accounts.each one low,
              count_push (is_numbered one) before.draws (lead before, number),
              zero_if (number == one) (grind (arith, nat_tests)),
            );
        by =
            found_stays before (view_after_draw before number)
            (λ draw. Has-left before.draws ((lead before, number) ∷ []) draw) before.looks founds accounts.by;
        posted = accounts.posted;
      })

  -- no segment was left
  pub none_more : (before now : View) (founds : List (Found (JudgedSegment M))) → before.segments ≡ n
      → Accounts L n before founds → FindsNone before now → Accounts L n now founds
  none_more before now founds n_is accounts finds = by (is_done before) finds
    where
      by : (done : Bool)
          → MatchBool done (now ≡ before) ((number : ℕ) × (before.segments ≤ number) × DrawsNext number before now)
          → Accounts L n now founds
      by true same = let P : View → Type 0 = λ view. Accounts L n view founds in subst P (sym same) accounts
      by false drawn = drew_past before now drawn.0 founds (omega (arith, drawn.1, n_is)) drawn.2.0 accounts

  -- what two did, whose seats are joined
  pub both_did : (one other : View) (founds more : List (Found (JudgedSegment M))) → Accounts L n one founds
      → Accounts L n other more → Accounts L n (joined_views one other) (founds ++ more)
  both_did one other founds more first second = record {
    lawful = All-append L founds more first.lawful second.lawful;
    each = λ number below.
        omega (
          arith,
          first.each number below,
          second.each number below,
          count-append (is_found_of number) founds more,
          count-append (is_numbered number) one.draws other.draws,
        );
    by = found_both (joined_views one other) one.looks other.looks founds more
        (found_stays one (joined_views one other) (λ draw. Has-left one.draws other.draws draw) one.looks founds first.by)
        (found_stays other (joined_views one other) (λ draw. Has-right one.draws other.draws draw) other.looks more
        second.by);
    posted = λ number.
        omega (
          arith,
          first.posted number,
          second.posted number,
          count-append (is_end_of number) founds more,
          count-append (is_numbered number) one.posts other.posts,
        );
  }

  -- each has a look of its own
  pub own_looks : (view : View) (founds : List (Found (JudgedSegment M))) → Accounts L n view founds
      → HaveOwnLooks view founds
  own_looks view founds accounts = record { own = view.looks; are = λ h. refl; each = accounts.by }

  -- where some number from n on was drawn, each below n was drawn once
  past_all : (draws : List (ℕ × ℕ)) → DrewBelow (length draws) draws → 0 < count (is_past n) draws → n < length draws
  past_all draws once past =
      let draw = some_counted (is_past n) draws past in
      let names : 0 < count (is_numbered draw.0.1) draws =
      counted (is_numbered draw.0.1) draws draw.0 draw.1 (equal_test draw.0.1 draw.0.1 refl) in
      let low : draw.0.1 < length draws = below_if draw.0.1 (length draws) (omega (arith, names, once draw.0.1)) in
      let high : n ≤ draw.0.1 = (let is = draw.2 in grind (arith, nat_tests)) in
      omega (arith, low, high)

  module _ (below : (found : Found (JudgedSegment M)) → L found → found.seg < n) where
    pub found_below : (view : View) (founds : List (Found (JudgedSegment M))) → Accounts L n view founds
        → IsExact view → 0 < count (is_past n) view.draws → FoundBelow n founds
    found_below view founds accounts exact past number = by (nat_lt number n) refl
      where
        by : (low : Bool) → nat_lt number n ≡ low → count (is_found_of number) founds ≡ as_number low
        by true is =
            let low : number < n = grind (arith, nat_tests) in
            let all : n < length view.draws = past_all view.draws exact.0 past in
            omega (
              arith,
              accounts.each number low,
              exact.0 number,
              one_if (nat_lt number (length view.draws)) (grind (arith, nat_tests)),
            )
        by false is =
            none_of (is_found_of number) founds
            (All-weaker L (λ found. is_found_of number found ≡ false)
            (λ found lawful. let low = below found lawful in grind (arith, nat_tests)) founds accounts.lawful)

    pub drew_each : (view : View) (founds : List (Found (JudgedSegment M))) → Accounts L n view founds → IsExact view
        → 0 < count (is_past n) view.draws → DrewEach n view.draws
    drew_each view founds accounts exact past number low =
        omega (
          arith,
          accounts.each number low,
          found_below view founds accounts exact past number,
          one_if (nat_lt number n) (grind (arith, nat_tests)),
        )

    has_reason : (view : View) → view.segments ≡ n → AreAnswers view.segments view.posts view.looks
        → (worker number : ℕ) → number < n → (what : What (JudgedSegment M))
        → IsSeenBySome view worker number what → IsSkippedFor view.posts what
    has_reason view n_is answers worker number low (Judged judged) so = tt
    has_reason view n_is answers worker number low (Skipped least) so =
        answers (worker, least) so.1 (λ same. omega (arith, same, n_is, so.0, low))

    pub have_reasons : (view : View) (founds : List (Found (JudgedSegment M))) → view.segments ≡ n
        → Accounts L n view founds → IsExact view → All (HasReason view.posts) founds
    have_reasons view founds n_is accounts exact k d low =
        let found = found_by_some view founds (own_looks view founds accounts) k d low in
        has_reason view n_is exact.1 found.worker _ (below _ (accounts.lawful k d low)) _ found.so

  pub both_done : (board : Board) (seats done : ℕ) (one other all : Work M) → HaveDone L n seats done board one
      → HaveDone L n seats 1 board other
      → IsAt board all.seat → view_of all.seat ≡ joined_views (view_of one.seat) (view_of other.seat)
      → all.founds.items ≡ one.founds.items ++ other.founds.items
      → HaveDone L n seats (done + 1) board all
  both_done board seats done one other all first second at is founds_are = record {
    at = at;
    done_is =
        omega (
          arith,
          ap (λ view. length view.numbers) is,
          length-append (view_of one.seat).numbers (view_of other.seat).numbers,
          first.done_is,
          second.done_is,
        );
    seats_is = ap (λ view. view.seats) is ∙ first.seats_is;
    passed =
        omega (
          arith,
          ap (λ view. count (is_past n) view.draws) is,
          count-append (is_past n) (view_of one.seat).draws (view_of other.seat).draws,
          first.passed,
        );
    accounts =
        let P : View → Type 0 = λ view. Accounts L n view all.founds.items in
        let Q : List (Found (JudgedSegment M)) → Type 0 =
        λ founds. Accounts L n (joined_views (view_of one.seat) (view_of other.seat)) founds in
        subst P (sym is)
        (subst Q (sym founds_are)
        (both_did (view_of one.seat) (view_of other.seat) one.founds.items other.founds.items first.accounts
        second.accounts));
  }
