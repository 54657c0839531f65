-- What the rows of segments did, as it is kept from round to round.
use Rattle.std.proofs.Common.{◌≡◌, ℕ, zero, suc, ◌+◌, ◌≤◌, Bool, List, [], ◌∷◌, ◌++◌, length, take, drop}
use Rattle.std.proofs.Common.{Option, Some, None, option_map, refl, sym, ap, ◌∙◌, subst, arith}
use Rattle.std.specs.List.{flat_map}
use Rattle.std.proofs.lemmas.List.{take_all}
use Rattle.std.proofs.lemmas.List.Concat.{flat_map-append}
use Rattle.hart_words.specs.declared.span.Span.{Span}
use Rattle.hart_words.specs.Memory.{Bytes}
use Rattle.rvfi_rows.specs.declared.segment.Segment.{Segment}
use Rattle.rvfi_rows.specs.declared.verdict.Verdict.{Verdict}
use Rattle.rvfi_rows.specs.declared.verdict.Verdict.TheVariants.{Agrees, Differs, Refused}
use Rattle.rvfi_rows.specs.Columns.{TraceColumns}
use Rattle.rvfi_rows.specs.Rows.{RowReading, rows_of}
use Rattle.rvfi_rows.specs.Segments.{segment_lines}
use Rattle.rvfi_rows.proofs.PortRows.{rows_append}
use Rattle.hart_set.specs.declared.set.HartSet.{HartSet}
use Rattle.hart_step.specs.declared.state.Core.{Core}
use Rattle.hart_step.specs.HartSets.{SetState, set_state_of}
use Rattle.row_origin.specs.Histories.{IsKept}
use Rattle.segment_judge.specs.Histories.{history_from}
use Rattle.segment_judge.specs.Judgements.{by_set}
use Rattle.segment_judge.specs.Laws.{Conclusion, conclusion_from, end_from}
use Rattle.segment_judge.proofs.Histories.{SoFar, history_ended, so_far_ends, so_far_kept, so_far_on, whole_end}
use Rattle.verdict_join.specs.declared.joined.Joined.{Joined}
use Rattle.verdict_join.proofs.Histories.{rows_through, rows_whole}
use Rattle.verdict_join.proofs.Passed.{EndsWhereAgrees, conclusion_ends}
use Rattle.judge_run.specs.declared.tally.AfterRound.{AfterRound}
use Rattle.judge_run.specs.declared.tally.AfterRound.TheVariants.{Continue, Ends}
use Rattle.judge_run.specs.declared.tally.Settling.{Settling}
use Rattle.judge_run.specs.Settling.{IsCountedOn, LeadsBy, LeadsToBy}
use Rattle.judge_run.proofs.Settled.{ends_where_agrees}

take_none : {A : Type 0} (count : ℕ) → take {A = A} count [] ≡ []
take_none zero = refl
take_none (suc count) = refl

take_more : {A : Type 0} (count more : ℕ) (xs : List A)
    → take (count + more) xs ≡ take count xs ++ take more (drop count xs)
take_more zero more xs = let none : 0 + more ≡ more = omega arith in ap (λ n. take n xs) none
take_more (suc count) more [] = take_none (suc count + more) ∙ sym (take_none more)
take_more (suc count) more (x ∷ xs) =
    let next : suc count + more ≡ suc (count + more) = omega arith in
    ap (λ n. take n (x ∷ xs)) next ∙ ap (λ rest. x ∷ rest) (take_more count more xs)

rows_more : (columns : TraceColumns) (segments : List Segment) (count more : ℕ)
    → rows_through columns (take (count + more) segments)
    ≡ rows_through columns (take count segments) ++ rows_through columns (take more (drop count segments))
rows_more columns segments count more =
    ap (rows_through columns) (take_more count more segments)
    ∙ ap (rows_of columns) (flat_map-append segment_lines (take count segments) (take more (drop count segments)))
    ∙ rows_append columns (flat_map segment_lines (take count segments))
    (flat_map segment_lines (take more (drop count segments)))

-- what the segments that were settled did
abbrev pub SettledSoFar : {M : Type 0} → (M → Bytes) → Bool → TraceColumns → List Segment → SetState → Settling M → Type 0
SettledSoFar bytes_of origin columns segments start settling =
    SoFar origin start (set_state_of bytes_of settling.harts)
    (rows_through columns (take settling.tally.settled segments)) settling.tally.counts.rows settling.history

abbrev pub HistoryFollowed : {M : Type 0} → (M → Bytes) → Bool → TraceColumns → List Segment → SetState → AfterRound M
    → Type 0
HistoryFollowed bytes_of origin columns segments start (Continue next) =
    SettledSoFar bytes_of origin columns segments start next
HistoryFollowed bytes_of origin columns segments start (Ends joined) =
    IsKept origin (history_from start (rows_through columns segments)) joined.history

pub history_follows : {M : Type 0} {bytes_of : M → Bytes} {ram_of : M → Span} {origin : Bool} {columns : TraceColumns}
    {segments : List Segment} {start : SetState} {settling : Settling M} (next : AfterRound M)
    → SettledSoFar bytes_of origin columns segments start settling
    → LeadsBy origin bytes_of ram_of columns segments settling next
    → HistoryFollowed bytes_of origin columns segments start next
unfolding conclusion_from
history_follows {M} {bytes_of} {ram_of} {origin} {columns} {segments} {start} {settling} next so_far leads =
    by leads.round.verdict leads.round.end next refl refl
    (ends_where_agrees bytes_of leads.round.verdict leads.round.end conclusion leads.over.verdict leads.over.end
    (conclusion_ends by_set here mine)) leads.leads
  where
    here : SetState
    here = set_state_of bytes_of settling.harts

    mine : List RowReading
    mine = rows_through columns (take leads.round.settled (drop settling.tally.settled segments))

    conclusion : Conclusion (List Core)
    conclusion = conclusion_from by_set here mine

    before : List RowReading
    before = rows_through columns (take settling.tally.settled segments)

    all : ℕ
    all = settling.tally.settled + leads.round.settled

    continues : (rows valid : ℕ) (harts : HartSet Core M) (next : Settling M) → leads.round.verdict ≡ Agrees rows valid
        → leads.round.end ≡ Some harts → IsCountedOn settling.tally leads.round rows valid harts next
        → SettledSoFar bytes_of origin columns segments start next
    continues rows valid harts next is some counted =
        let passed =
        so_far_on mine so_far leads.history (sym leads.over.verdict ∙ is)
        (sym leads.over.end ∙ ap (option_map (set_state_of bytes_of)) some) in
        let settled : rows_through columns (take next.tally.settled segments) ≡ before ++ mine =
        ap (λ n. rows_through columns (take n segments)) counted.settled
        ∙ rows_more columns segments settling.tally.settled leads.round.settled in
        rw (settled, counted.harts_are, counted.rows_are, counted.history_is) passed

    ends : (joined : Joined M) → leads.round.end ≡ None → joined.history ≡ leads.round.history
        → IsKept origin (history_from start (rows_through columns segments)) joined.history
    ends joined none is =
        let ended : end_from by_set start (before ++ mine) ≡ None =
        whole_end mine so_far ∙ end_here ∙ sym leads.over.end ∙ ap (option_map (set_state_of bytes_of)) none in
        let whole : history_from start (rows_through columns segments) ≡ history_from start (before ++ mine) =
        ap (history_from start)
        (rows_whole columns segments all
        ∙ ap (λ rows. rows ++ rows_through columns (drop all segments))
        (rows_more columns segments settling.tally.settled leads.round.settled))
        ∙ history_ended start (before ++ mine) (rows_through columns (drop all segments)) ended in
        rw (whole, is) (so_far_ends leads.round.history mine so_far leads.history)
      where
        end_here : end_from by_set here mine ≡ conclusion.end
        end_here = refl

    by : (verdict : Verdict) (end : Option (HartSet Core M)) (next : AfterRound M) → leads.round.verdict ≡ verdict
        → leads.round.end ≡ end → EndsWhereAgrees verdict (option_map (set_state_of bytes_of) end)
        → LeadsToBy settling.tally leads.round verdict end next
        → HistoryFollowed bytes_of origin columns segments start next
    by (Agrees rows valid) None next is none fits follows = absurd fits
    by (Agrees rows valid) (Some harts) (Continue next) is some fits counted =
        continues rows valid harts next is some counted
    by (Agrees rows valid) (Some harts) (Ends joined) is some fits follows = absurd follows
    by (Differs row difference) (Some harts) next is some fits follows = absurd fits
    by (Differs row difference) None (Continue next) is none fits follows = absurd follows
    by (Differs row difference) None (Ends joined) is none fits follows =
        ends joined none (ap (λ (joined : Joined M). joined.history) follows)
    by (Refused row fault) (Some harts) next is some fits follows = absurd fits
    by (Refused row fault) None (Continue next) is none fits follows = absurd follows
    by (Refused row fault) None (Ends joined) is none fits follows =
        ends joined none (ap (λ (joined : Joined M). joined.history) follows)

-- all segments are settled
pub history_all : {M : Type 0} {origin : Bool} {start : SetState} (bytes_of : M → Bytes) (columns : TraceColumns)
    (segments : List Segment) (settling : Settling M)
    → SettledSoFar bytes_of origin columns segments start settling → length segments ≤ settling.tally.settled
    → IsKept origin (history_from start (rows_through columns segments)) settling.history
history_all {origin = origin} {start = start} bytes_of columns segments settling so_far all =
    subst (λ taken. IsKept origin (history_from start (rows_through columns taken)) settling.history)
    (take_all settling.tally.settled segments all) (so_far_kept so_far)
