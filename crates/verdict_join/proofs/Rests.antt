-- The rest of a join or of a round after one segment more.
use Rattle.std.proofs.Common.{◌≡◌, ℕ, ◌+◌, Bool, List, [], ◌∷◌, Option, Some, None, refl, sym, ◌∙◌, subst, arith}
use Rattle.hart_words.specs.Memory.{Bytes}
use Rattle.rvfi_rows.specs.declared.verdict.Verdict.{Verdict}
use Rattle.rvfi_rows.specs.declared.verdict.Verdict.TheVariants.{Agrees, Differs, Refused}
use Rattle.hart_step.specs.declared.state.Core.{Core}
use Rattle.hart_step.specs.HartSets.{SetState, set_state_of}
use Rattle.segment_judge.specs.Judgements.{by_set, verdict_after_rows}
use Rattle.segment_judge.specs.Laws.{conclusion_from, verdict_of_both}
use Rattle.segment_judge.proofs.Parts.{counted_twice, uncounted}
use Rattle.verdict_join.specs.declared.joined.Round.{Round}
use Rattle.verdict_join.specs.declared.walk.Walk.{Walk}
use Rattle.verdict_join.specs.Joining.{round_of}
use Rattle.verdict_join.specs.Joins.{Candidate, Joined, Sameness, adopted_judgement, joined_by, nothing_from, walk}
use Rattle.verdict_join.specs.Laws.{IsLawfulCandidate, TellsApart, miss}
use Rattle.verdict_join.specs.Walks.{CountsOn, IsRest, PassesRows}
use Rattle.verdict_join.proofs.Walks.{after_segment, walked_segment_once}

-- a candidate is passed: its rows are, and it was judged again just where none is adopted of it
pub record IsPassed {M : Type 0} (bytes_of : M → Bytes) (same : Sameness (List Core)) (before now : Walk M)
    (candidate : Candidate (List Core)) (end : Option Verdict) : Type 0 where
  pub lawful : IsLawfulCandidate by_set candidate
  pub passes : PassesRows bytes_of before now candidate.rows end
  pub misses : now.rejudged
      ≡ before.rejudged + miss (adopted_judgement same candidate (set_state_of bytes_of before.harts))

-- what is left after a segment
abbrev pub left_after : Sameness (List Core) → Bool → Candidate (List Core) → List (Candidate (List Core)) → SetState
    → SetState
    → Joined (List Core)
left_after same once candidate later now following =
    after_segment once (adopted_judgement same candidate now) (λ following. walk by_set same once later following)
    following

-- the walk over a segment and those after it
one_and_rest : (same : Sameness (List Core)) → TellsApart same
    → (once : Bool) (candidate : Candidate (List Core)) (later : List (Candidate (List Core))) (now : SetState)
    → IsLawfulCandidate by_set candidate
    → walk by_set same once (candidate ∷ later) now
    ≡ joined_by (conclusion_from by_set now candidate.rows).end (conclusion_from by_set now candidate.rows).verdict
    (miss (adopted_judgement same candidate now)) (left_after same once candidate later now)
unfolding walk
one_and_rest same tells once candidate later now lawful =
    walked_segment_once by_set same once candidate now (λ following. walk by_set same once later following) tells
    lawful

counts_rest : {M : Type 0} (before now : Walk M) (verdict rest : Verdict) → CountsOn before now verdict None
    → verdict_after_rows before.counts.rows before.counts.valid (verdict_of_both verdict rest)
    ≡ verdict_after_rows now.counts.rows now.counts.valid rest
counts_rest before now (Agrees rows valid) rest counts =
    counted_twice before.counts.rows before.counts.valid rows valid rest ∙ rw (counts.1.0, counts.1.1) refl
counts_rest before now (Differs row difference) rest counts = cc
counts_rest before now (Refused row fault) rest counts = cc

-- the walk goes on after one segment more
pub turn_on : {M : Type 0} {bytes_of : M → Bytes} {before now : Walk M} {walked : ℕ} {whole : Joined (List Core)}
    (same : Sameness (List Core)) → TellsApart same
    → (once : Bool) (candidate : Candidate (List Core)) (later : List (Candidate (List Core)))
    → IsPassed bytes_of same before now candidate None
    → IsRest before walked (walk by_set same once (candidate ∷ later) (set_state_of bytes_of before.harts)) whole
    → IsRest now (walked + 1)
    (left_after same once candidate later (set_state_of bytes_of before.harts) (set_state_of bytes_of now.harts)) whole
turn_on {bytes_of = bytes_of} {before = before} {now = now} {walked = walked} {whole = whole} same tells once candidate
    later passed so_far =
    let start = set_state_of bytes_of before.harts in
    let state = set_state_of bytes_of now.harts in
    let first = conclusion_from by_set start candidate.rows in
    let again = miss (adopted_judgement same candidate start) in
    let next = left_after same once candidate later start in
    let here : IsRest before walked (joined_by (Some state) first.verdict again next) whole =
    subst (λ end. IsRest before walked (joined_by end first.verdict again next) whole) passed.passes.leads
    (subst (λ rest. IsRest before walked rest whole)
    (one_and_rest same tells once candidate later start passed.lawful) so_far) in
    let count : before.rejudged + (again + (next state).rejudged) ≡ whole.rejudged = here.rejudged in
    let settled : walked + (1 + (next state).settled) ≡ whole.settled = here.settled in
    record {
      verdict = sym (counts_rest before now first.verdict (next state).verdict passed.passes.counts) ∙ here.verdict;
      end = here.end;
      settled = omega (arith, settled);
      rejudged = omega (arith, passed.misses, count);
    }

counts_end : {M : Type 0} (before now : Walk M) (verdict end : Verdict) → CountsOn before now verdict (Some end)
    → verdict_after_rows before.counts.rows before.counts.valid verdict ≡ end
counts_end before now (Agrees rows valid) end counts = cc
counts_end before now (Differs row difference) end counts = cc
counts_end before now (Refused row fault) end counts = cc

same_join : (one other : Joined (List Core)) → one.verdict ≡ other.verdict → one.end ≡ other.end
    → one.settled ≡ other.settled → one.rejudged ≡ other.rejudged → one ≡ other
same_join one other verdict end settled rejudged =
    let whole : record { verdict = one.verdict; end = one.end; settled = one.settled; rejudged = one.rejudged }
    ≡ record { verdict = other.verdict; end = other.end; settled = other.settled; rejudged = other.rejudged } =
    rw (verdict, end, settled, rejudged) refl in
    whole

-- or it ends with the verdict on it
pub turn_ends : {M : Type 0} {bytes_of : M → Bytes} {before now : Walk M} {walked : ℕ} {last : Verdict}
    {whole : Joined (List Core)} (same : Sameness (List Core)) → TellsApart same
    → (once : Bool) (candidate : Candidate (List Core)) (later : List (Candidate (List Core)))
    → IsPassed bytes_of same before now candidate (Some last)
    → IsRest before walked (walk by_set same once (candidate ∷ later) (set_state_of bytes_of before.harts)) whole
    → round_of bytes_of
    (record {
      verdict = last;
      end = None;
      settled = walked + 1;
      rejudged = now.rejudged;
      history = now.history;
    })
    ≡ whole
turn_ends {bytes_of = bytes_of} {before = before} {now = now} {walked = walked} {last = last} {whole = whole} same
    tells once candidate later passed so_far =
    let start = set_state_of bytes_of before.harts in
    let first = conclusion_from by_set start candidate.rows in
    let again = miss (adopted_judgement same candidate start) in
    let next = left_after same once candidate later start in
    let here : IsRest before walked (joined_by None first.verdict again next) whole =
    subst (λ end. IsRest before walked (joined_by end first.verdict again next) whole) passed.passes.leads
    (subst (λ rest. IsRest before walked rest whole)
    (one_and_rest same tells once candidate later start passed.lawful) so_far) in
    same_join _ whole (sym (counts_end before now first.verdict last passed.passes.counts) ∙ here.verdict) here.end
    here.settled (passed.misses ∙ here.rejudged)

-- nothing was walked yet
pub rest_begins : {M : Type 0} (begun : Walk M) (whole : Joined (List Core)) → begun.counts.rows ≡ 0
    → begun.counts.valid ≡ 0
    → begun.rejudged ≡ 0 → IsRest begun 0 whole whole
rest_begins begun whole rows valid again = record {
  verdict = rw (rows, valid) (uncounted whole.verdict);
  end = refl;
  settled = omega arith;
  rejudged = omega (arith, again);
}

-- the round of a walk that ends after so many segments, which agree
abbrev pub agreed_round : {M : Type 0} → Walk M → ℕ → Round M
agreed_round now settled = record {
  verdict = Agrees now.counts.rows now.counts.valid;
  end = Some now.harts;
  settled = settled;
  rejudged = now.rejudged;
  history = now.history;
}

-- nothing is left
pub nothing_left : {M : Type 0} (bytes_of : M → Bytes) (now : Walk M) (walked : ℕ) (whole : Joined (List Core))
    → IsRest now walked (nothing_from (set_state_of bytes_of now.harts)) whole
    → round_of bytes_of (agreed_round now walked) ≡ whole
nothing_left bytes_of now walked whole here =
    let rows : now.counts.rows + 0 ≡ now.counts.rows = omega arith in
    let valid : now.counts.valid + 0 ≡ now.counts.valid = omega arith in
    let again : now.rejudged + 0 ≡ whole.rejudged = here.rejudged in
    let settled : walked + 0 ≡ whole.settled = here.settled in
    let verdict : Agrees (now.counts.rows + 0) (now.counts.valid + 0) ≡ whole.verdict = here.verdict in
    same_join _ whole (rw (rows, valid) at verdict) here.end (omega (arith, settled)) (omega (arith, again))

-- no segment is left
pub rest_ends : {M : Type 0} {count : ℕ} {left : List (Candidate (List Core))} {whole : Joined (List Core)}
    (bytes_of : M → Bytes)
    (same : Sameness (List Core)) (once : Bool) (walked : Walk M) → left ≡ []
    → IsRest walked count (walk by_set same once left (set_state_of bytes_of walked.harts)) whole
    → round_of bytes_of (agreed_round walked count) ≡ whole
unfolding walk
rest_ends {count = count} {whole = whole} bytes_of same once walked none so_far =
    nothing_left bytes_of walked count whole
    (subst (λ left. IsRest walked count (walk by_set same once left (set_state_of bytes_of walked.harts)) whole) none
    so_far)

pub settled_is : {M : Type 0} (bytes_of : M → Bytes) (now : Walk M) (count other : ℕ) (whole : Joined (List Core))
    → count ≡ other → round_of bytes_of (agreed_round now count) ≡ whole
    → round_of bytes_of (agreed_round now other) ≡ whole
settled_is bytes_of now count other whole same is =
    subst (λ settled. round_of bytes_of (agreed_round now settled) ≡ whole) same is
