-- Passing one segment more.
use Rattle.std.proofs.Common.{◌≡◌, ℕ, suc, ◌+◌, ◌≤◌, true, List, [], ◌∷◌, length, Option, Some, None, Ok, Err}
use Rattle.std.proofs.Common.{option_map, refl, sym, ap, ◌∙◌, subst, arith, add-one}
use Rattle.hart_words.specs.declared.signal.Difference.{Difference}
use Rattle.hart_words.specs.Memory.{Bytes, after_writes}
use Rattle.rvfi_rows.specs.declared.row_counts.RowCounts.{RowCounts}
use Rattle.rvfi_rows.specs.declared.verdict.Verdict.{Verdict}
use Rattle.rvfi_rows.specs.declared.verdict.Verdict.TheVariants.{Agrees, Differs, Refused}
use Rattle.rvfi_rows.specs.Columns.{TraceColumns}
use Rattle.rvfi_rows.specs.declared.segment.Segment.{Segment}
use Rattle.rvfi_rows.specs.Rows.{RowReading, rows_of}
use Rattle.rvfi_rows.specs.Segments.{row_count_of, segment_lines}
use Rattle.rvfi_rows.proofs.PortRows.{rows_counted}
use Rattle.std.specs.List.{flat_map}
use Rattle.hart_step.specs.declared.state.Core.{Core}
use Rattle.hart_step.specs.HartSets.{SetState, set_state_of}
use Rattle.hart_words.specs.States.{State}
use Rattle.read_footprint.specs.Footprints.{Accesses}
use Rattle.read_footprint.specs.Sets.{has_read}
use Rattle.segment_judge.specs.declared.judged.Judged.{Judged as JudgedSegment}
use Rattle.segment_judge.specs.Judged.{HoldsInOtherMemories, moved_end}
use Rattle.segment_judge.specs.Judgements.{Judgement, Judging, judgement_after_row, by_difference, by_set}
use Rattle.segment_judge.specs.Judgements.{verdict_after_rows, judgement_of, accesses_by}
use Rattle.segment_judge.specs.Laws.{bytes_after_judgement, conclusion_from, end_from, judgement_from}
use Rattle.verdict_join.specs.declared.walk.Walk.{Walk}
use Rattle.verdict_join.specs.Walks.{Concludes, CountsOn, IsReached, IsWithinRows, LeadsToState, PassesRows}

-- what stands over each memory that agrees concludes the rows from such a state
pub concludes : {M : Type 0} (bytes_of : M → Bytes) (guess now : SetState) (rows : List RowReading)
    (judged : JudgedSegment M) → guess.core ≡ now.core
    → ((address : ℕ) → has_read judged.footprint address ≡ true → now.bytes address ≡ guess.bytes address)
    → HoldsInOtherMemories bytes_of guess rows judged → Concludes bytes_of now rows judged
unfolding conclusion_from
concludes bytes_of guess now rows judged same agree stands =
    let framed = stands now.bytes agree in
    record {
      verdict = subst (λ core. (judgement_of by_set core rows now.bytes).verdict ≡ judged.verdict) same framed.verdict;
      end = subst (λ core. end_over core ≡ moved_end bytes_of judged now.bytes) same framed.end;
    }
  where
    end_over : List Core → Option SetState
    end_over cores = let state : SetState = record { core = cores; bytes = now.bytes } in end_from by_set state rows

-- a verdict agrees just where there is a state after it
abbrev pub EndsWhereAgrees : {C : Type 0} → Verdict → Option C → Type 0
EndsWhereAgrees (Agrees rows valid) None = ⊥
EndsWhereAgrees (Agrees rows valid) (Some core) = Unit {0}
EndsWhereAgrees (Differs row difference) None = Unit {0}
EndsWhereAgrees (Differs row difference) (Some core) = ⊥
EndsWhereAgrees (Refused row fault) None = Unit {0}
EndsWhereAgrees (Refused row fault) (Some core) = ⊥

still_ends : {C : Type 0} (rows valid : ℕ) (verdict : Verdict) (end : Option C) → EndsWhereAgrees verdict end
    → EndsWhereAgrees (verdict_after_rows rows valid verdict) end
still_ends rows valid (Agrees n m) None is = is
still_ends rows valid (Agrees n m) (Some core) is = is
still_ends rows valid (Differs row difference) None is = is
still_ends rows valid (Differs row difference) (Some core) is = is
still_ends rows valid (Refused row fault) None is = is
still_ends rows valid (Refused row fault) (Some core) is = is

ends_by_difference : {C : Type 0} (difference : Option Difference) (accesses : Accesses) (rest : Judgement C)
    → EndsWhereAgrees rest.verdict rest.end
    → EndsWhereAgrees (by_difference difference accesses rest).verdict (by_difference difference accesses rest).end
ends_by_difference None accesses rest is = still_ends 1 1 rest.verdict rest.end is
ends_by_difference (Some difference) accesses rest is = tt

pub judgement_ends : {C : Type 0} (judging : Judging C) (core : C) (rows : List RowReading) (bytes : Bytes)
    → EndsWhereAgrees (judgement_of judging core rows bytes).verdict (judgement_of judging core rows bytes).end
unfolding judgement_of
judgement_ends judging core [] bytes = tt
judgement_ends judging core (Err fault ∷ rows) bytes = tt
judgement_ends judging core (Ok None ∷ rows) bytes =
    let rest = judgement_of judging core rows bytes in
    still_ends 1 0 rest.verdict rest.end (judgement_ends judging core rows bytes)
judgement_ends judging core (Ok (Some shown) ∷ rows) bytes =
    let run = (judging core shown).run bytes in
    ends_by_difference run.value.difference (accesses_by run)
    (judgement_of judging run.value.next rows (after_writes run.wrote bytes))
    (judgement_ends judging run.value.next rows (after_writes run.wrote bytes))

mapped_ends : {A B : Type 0} (f : A → B) (verdict : Verdict) (end : Option A) → EndsWhereAgrees verdict end
    → EndsWhereAgrees verdict (option_map f end)
mapped_ends f (Agrees rows valid) None is = is
mapped_ends f (Agrees rows valid) (Some a) is = is
mapped_ends f (Differs row difference) None is = is
mapped_ends f (Differs row difference) (Some a) is = is
mapped_ends f (Refused row fault) None is = is
mapped_ends f (Refused row fault) (Some a) is = is

pub conclusion_ends : {C : Type 0} (judging : Judging C) (now : State C) (rows : List RowReading)
    → EndsWhereAgrees (conclusion_from judging now rows).verdict (conclusion_from judging now rows).end
unfolding conclusion_from
conclusion_ends judging now rows =
    let judgement = judgement_from judging now rows in
    mapped_ends (λ core. record { core = core; bytes = bytes_after_judgement judgement now.bytes }) judgement.verdict
    judgement.end (judgement_ends judging now.core rows now.bytes)

-- rows are counted as they are
more_within : (valid count : ℕ) (verdict : Verdict) → valid ≤ 1 → IsWithinRows count verdict
    → IsWithinRows (count + 1) (verdict_after_rows 1 valid verdict)
more_within valid count (Agrees n m) one within = (omega (arith, within.0), omega (arith, within.1, one))
more_within valid count (Differs row difference) one within = omega (arith, within)
more_within valid count (Refused row fault) one within = omega (arith, within)

within_by_difference : {C : Type 0} (difference : Option Difference) (accesses : Accesses) (rest : Judgement C)
    (count : ℕ) → IsWithinRows count rest.verdict
    → IsWithinRows (count + 1) (by_difference difference accesses rest).verdict
within_by_difference None accesses rest count within = more_within 1 count rest.verdict (omega arith) within
within_by_difference (Some difference) accesses rest count within = omega arith

one_more : (count : ℕ) (verdict : Verdict) → IsWithinRows (count + 1) verdict → IsWithinRows (suc count) verdict
one_more count verdict within = subst (λ n. IsWithinRows n verdict) (add-one count) within

judgement_within : {C : Type 0} (judging : Judging C) (core : C) (rows : List RowReading) (bytes : Bytes)
    → IsWithinRows (length rows) (judgement_of judging core rows bytes).verdict
unfolding judgement_of
judgement_within judging core [] bytes = (omega arith, omega arith)
judgement_within judging core (Err fault ∷ rows) bytes = omega arith
judgement_within judging core (Ok None ∷ rows) bytes =
    one_more (length rows) (judgement_after_row 0 [] (judgement_of judging core rows bytes)).verdict
    (more_within 0 (length rows) (judgement_of judging core rows bytes).verdict (omega arith)
    (judgement_within judging core rows bytes))
judgement_within judging core (Ok (Some shown) ∷ rows) bytes =
    let run = (judging core shown).run bytes in
    let rest = judgement_of judging run.value.next rows (after_writes run.wrote bytes) in
    one_more (length rows) (by_difference run.value.difference (accesses_by run) rest).verdict
    (within_by_difference run.value.difference (accesses_by run)
    (judgement_of judging run.value.next rows (after_writes run.wrote bytes)) (length rows)
    (judgement_within judging run.value.next rows (after_writes run.wrote bytes)))

pub conclusion_within : (now : SetState) (rows : List RowReading)
    → IsWithinRows (length rows) (conclusion_from by_set now rows).verdict
unfolding conclusion_from
conclusion_within now rows = judgement_within by_set now.core rows now.bytes

-- a walk stands after rows from where it stood first, and has their verdict still to count
pub record HasPassed {M : Type 0} (bytes_of : M → Bytes) (first before : Walk M) (rows : List RowReading)
    (verdict : Verdict) : Type 0 where
  pub verdict_is : verdict ≡ (conclusion_from by_set (set_state_of bytes_of first.harts) rows).verdict
  pub reached : IsReached (conclusion_from by_set (set_state_of bytes_of first.harts) rows).end
      (set_state_of bytes_of before.harts)
  pub counts_are : before.counts ≡ first.counts

-- counting alone looks at no hart
counts_from : {M : Type 0} (first before now : Walk M) (verdict : Verdict) (end : Option Verdict)
    → before.counts ≡ first.counts → CountsOn before now verdict end → CountsOn first now verdict end
counts_from first before now (Agrees rows valid) end same counts = (
  counts.0,
  (
    counts.1.0 ∙ ap (λ (counts : RowCounts). counts.rows + rows) same,
    counts.1.1 ∙ ap (λ (counts : RowCounts). counts.valid + valid) same,
  ),
)
counts_from first before now (Differs row difference) end same counts =
    counts ∙ ap (λ (counts : RowCounts). Some (Differs (counts.rows + row) difference)) same
counts_from first before now (Refused row fault) end same counts =
    counts ∙ ap (λ (counts : RowCounts). Some (Refused (counts.rows + row) fault)) same

-- it counts the verdict, and goes on from the state after the rows
pub passes_by : {M : Type 0} {bytes_of : M → Bytes} {first : Walk M} {rows : List RowReading} (before now : Walk M)
    (verdict : Verdict) (end : Option Verdict) → HasPassed bytes_of first before rows verdict
    → CountsOn before now verdict end → now.harts ≡ before.harts → PassesRows bytes_of first now rows end
passes_by {M = M} {bytes_of = bytes_of} {first = first} {rows = rows} before now verdict end passed counts same_hart =
    let conclusion = conclusion_from by_set (set_state_of bytes_of first.harts) rows in
    let counted =
    subst (λ verdict. CountsOn first now verdict end) passed.verdict_is
    (counts_from first before now verdict end passed.counts_are counts) in
    record {
      counts = counted;
      leads =
          leads conclusion.verdict conclusion.end
          (conclusion_ends by_set (set_state_of bytes_of first.harts) rows) counted
          (subst (λ hart. IsReached conclusion.end (set_state_of bytes_of hart)) (sym same_hart) passed.reached);
    }
  where
    leads_on : (rows valid : ℕ) (state : Option SetState) → EndsWhereAgrees (Agrees rows valid) state
        → IsReached state (set_state_of bytes_of now.harts) → state ≡ Some (set_state_of bytes_of now.harts)
    leads_on rows valid None ends reached = absurd ends
    leads_on rows valid (Some state) ends reached = ap Some (sym reached)

    leads : (verdict : Verdict) (state : Option SetState) → EndsWhereAgrees verdict state
        → CountsOn first now verdict end → IsReached state (set_state_of bytes_of now.harts)
        → LeadsToState bytes_of now state end
    leads (Agrees rows valid) state ends counts reached =
        subst (LeadsToState bytes_of now state) (sym counts.0) (leads_on rows valid state ends reached)
    leads (Differs row difference) None ends counts reached =
        subst (LeadsToState bytes_of now None) (sym counts) refl
    leads (Differs row difference) (Some state) ends counts reached = absurd ends
    leads (Refused row fault) None ends counts reached = subst (LeadsToState bytes_of now None) (sym counts) refl
    leads (Refused row fault) (Some state) ends counts reached = absurd ends

-- a state after rows, where there is none, and where there is one
pub reached_none : (end : Option SetState) (now : SetState) → end ≡ None → IsReached end now
reached_none None now is = tt
reached_none (Some state) now is = cc

pub reached_some : (end : Option SetState) (state now : SetState) → end ≡ Some state → now ≡ state → IsReached end now
reached_some None state now is same = cc
reached_some (Some other) state now is same = let equal : other ≡ state = cc in same ∙ sym equal

fewer_within : (count more : ℕ) (verdict : Verdict) → count ≤ more → IsWithinRows count verdict
    → IsWithinRows more verdict
fewer_within count more (Agrees rows valid) fewer within = (omega (arith, fewer, within.0), within.1)
fewer_within count more (Differs row difference) fewer within = omega (arith, fewer, within)
fewer_within count more (Refused row fault) fewer within = omega (arith, fewer, within)

pub rows_within : {verdict : Verdict} (now : SetState) (rows : List RowReading)
    → verdict ≡ (conclusion_from by_set now rows).verdict → IsWithinRows (length rows) verdict
rows_within now rows is = subst (IsWithinRows (length rows)) (sym is) (conclusion_within now rows)

-- the verdict on the lines of segments counts no more rows than these have
pub lines_within : (now : SetState) (columns : TraceColumns) (segments : List Segment) (verdict : Verdict)
    → verdict ≡ (conclusion_from by_set now (rows_of columns (flat_map segment_lines segments))).verdict
    → IsWithinRows (row_count_of columns segments) verdict
lines_within now columns segments verdict is =
    let rows = rows_of columns (flat_map segment_lines segments) in
    subst (λ n. IsWithinRows n verdict) (rows_counted columns segments)
    (subst (IsWithinRows (length rows)) (sym is) (conclusion_within now rows))

pub few_within : (count more : ℕ) (verdict : Verdict) → IsWithinRows count verdict → count ≤ more
    → IsWithinRows more verdict
few_within count more verdict within fewer = fewer_within count more verdict fewer within
