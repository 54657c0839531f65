-- What rows did: in parts, from other memories, and as the trail of all rows tells it.
use Rattle.std.proofs.Common.{◌≡◌, ℕ, zero, suc, ◌+◌, ◌≤◌, Bool, List, [], ◌∷◌, ◌++◌, length, take, Option, Some, None}
use Rattle.std.proofs.Common.{Ok, Err, refl, sym, ap, ◌∙◌, subst, arith}
use Rattle.std.proofs.lemmas.List.{length-append}
use Rattle.hart_words.specs.declared.signal.Difference.{Difference}
use Rattle.hart_words.specs.Actions.{Run, mapped}
use Rattle.hart_words.specs.Memory.{Bytes, after_writes}
use Rattle.hart_words.specs.Signals.{Shown}
use Rattle.rvfi_rows.specs.declared.verdict.Verdict.{Verdict}
use Rattle.rvfi_rows.specs.declared.verdict.Verdict.TheVariants.{Agrees, Differs, Refused}
use Rattle.rvfi_rows.specs.Meanings.{Gave}
use Rattle.rvfi_rows.specs.Rows.{RowReading, hart_of}
use Rattle.hart_step.specs.declared.state.Core.{Core}
use Rattle.hart_step.specs.HartSets.{SetState, set_after_row, set_step_of}
use Rattle.row_compare.specs.Difference.{difference_of}
use Rattle.row_origin.specs.declared.history.History.{History}
use Rattle.row_origin.specs.Histories.{Grows, HistoryView, IsKept, history_after, history_of}
use Rattle.row_origin.specs.Trails.{RowFacts, Trail}
use Rattle.read_footprint.specs.Footprints.{Accesses, agree}
use Rattle.segment_judge.specs.Judgements.{Judgement, accesses_by, by_difference, by_set, judgement_of}
use Rattle.segment_judge.specs.Judgements.{verdict_after_rows}
use Rattle.segment_judge.specs.Histories.{HistoryInParts, HistoryIsFramed, HistoryIsTold, facts_at, history_after_row}
use Rattle.segment_judge.specs.Histories.{history_at, history_by, history_from, history_then, trail_from}
use Rattle.segment_judge.specs.Laws.{Conclusion, conclusion_after_end, conclusion_from, end_from, judgement_from}
use Rattle.segment_judge.proofs.Framed.{reads_agree, rest_agrees}
use Rattle.segment_judge.proofs.Parts.{by_different, by_valid, in_parts}

-- ---- in parts

after_row_then : (facts : Option RowFacts) (first : HistoryView) (end : Option SetState)
    (next : SetState → HistoryView)
    → history_after_row facts (history_then first end next) ≡ history_then (history_after_row facts first) end next
after_row_then facts first None next = refl
after_row_then facts first (Some state) next = refl

-- the state after a valid row that agrees, and after those that follow it
agreed_end : (state : SetState) (shown : Shown) (rows : List RowReading)
    → difference_of (facts_at state shown).expected shown ≡ None
    → end_from by_set state (Ok (Some shown) ∷ rows) ≡ end_from by_set (set_after_row state shown) rows
unfolding conclusion_from by_set mapped
agreed_end state shown rows agrees =
    ap (λ (whole : Conclusion (List Core)). whole.end) (by_valid by_set state shown rows agrees)

different_end : (state : SetState) (shown : Shown) (rows : List RowReading) (difference : Difference)
    → difference_of (facts_at state shown).expected shown ≡ Some difference
    → end_from by_set state (Ok (Some shown) ∷ rows) ≡ None
unfolding conclusion_from by_set mapped
different_end state shown rows difference differs =
    ap (λ (whole : Conclusion (List Core)). whole.end) (by_different by_set state shown rows difference differs)

-- a valid row, and the history of those after it
pub agreed_history : (state : SetState) (shown : Shown) (rows : List RowReading)
    → difference_of (facts_at state shown).expected shown ≡ None
    → history_from state (Ok (Some shown) ∷ rows)
    ≡ history_after_row (Some (facts_at state shown)) (history_from (set_after_row state shown) rows)
unfolding history_from
agreed_history state shown rows agrees =
    ap (λ difference. history_by difference (facts_at state shown) (history_from (set_after_row state shown) rows)) agrees

pub different_history : (state : SetState) (shown : Shown) (rows : List RowReading) (difference : Difference)
    → difference_of (facts_at state shown).expected shown ≡ Some difference
    → history_from state (Ok (Some shown) ∷ rows)
    ≡ record { before = []; differing = Some (facts_at state shown) }
unfolding history_from
different_history state shown rows difference differs =
    ap (λ difference. history_by difference (facts_at state shown) (history_from (set_after_row state shown) rows)) differs

valid_in_parts : (state : SetState) (shown : Shown) (rows others : List RowReading)
    → HistoryInParts (set_after_row state shown) rows others
    → (difference : Option Difference) → difference_of (facts_at state shown).expected shown ≡ difference
    → HistoryInParts state (Ok (Some shown) ∷ rows) others
valid_in_parts state shown rows others later None is =
    let next : SetState → HistoryView = λ now. history_from now others in
    let after = set_after_row state shown in
    let facts = Some (facts_at state shown) in
    agreed_history state shown (rows ++ others) is
    ∙ ap (history_after_row facts) later
    ∙ after_row_then facts (history_from after rows) (end_from by_set after rows) next
    ∙ sym (ap (λ first. history_then first (end_from by_set after rows) next) (agreed_history state shown rows is))
    ∙ sym (ap (λ end. history_then (history_from state (Ok (Some shown) ∷ rows)) end next) (agreed_end state shown rows is))
valid_in_parts state shown rows others later (Some difference) is =
    let next : SetState → HistoryView = λ now. history_from now others in
    different_history state shown (rows ++ others) difference is
    ∙ sym (different_history state shown rows difference is)
    ∙ sym
    (ap (λ end. history_then (history_from state (Ok (Some shown) ∷ rows)) end next)
    (different_end state shown rows difference is))

pub history_in_parts : (rows others : List RowReading) (state : SetState) → HistoryInParts state rows others
unfolding history_from judgement_of after_writes
history_in_parts [] others state = refl
history_in_parts (Err fault ∷ rows) others state = refl
history_in_parts (Ok None ∷ rows) others state =
    ap (history_after_row None) (history_in_parts rows others state)
    ∙ after_row_then None (history_from state rows) (end_from by_set state rows) (λ now. history_from now others)
history_in_parts (Ok (Some shown) ∷ rows) others state =
    valid_in_parts state shown rows others (history_in_parts rows others (set_after_row state shown))
    (difference_of (facts_at state shown).expected shown) refl

-- ---- from other memories

-- what a row did, by what its step gave
abbrev facts_by : Shown → Run (Gave (List Core)) → RowFacts
facts_by shown run =
    record { hart = hart_of shown; expected = run.value.expected; reads = run.reads; wrote = run.wrote }

abbrev history_with : Shown → List RowReading → Bytes → Run (Gave (List Core)) → HistoryView
history_with shown rows bytes run =
    history_by (difference_of run.value.expected shown) (facts_by shown run)
    (history_from (record { core = run.value.next; bytes = after_writes run.wrote bytes }) rows)

same_after : (difference : Option Difference) (facts : RowFacts) (one other : HistoryView)
    → (difference ≡ None → other ≡ one) → history_by difference facts other ≡ history_by difference facts one
same_after None facts one other same = ap (history_after_row (Some facts)) (same refl)
same_after (Some difference) facts one other same = refl

pub history_framed : (rows : List RowReading) (cores : List Core) (one other : Bytes)
    → HistoryIsFramed cores rows one other
unfolding history_from judgement_of by_set mapped
history_framed [] cores one other agrees = refl
history_framed (Err fault ∷ rows) cores one other agrees = refl
history_framed (Ok None ∷ rows) cores one other agrees =
    ap (history_after_row None) (history_framed rows cores one other agrees)
history_framed (Ok (Some shown) ∷ rows) cores one other agrees =
    let run = (set_step_of cores shown).run one in
    let judged = (by_set cores shown).run one in
    let rest = judgement_of by_set run.value.next rows (after_writes run.wrote one) in
    let same = (set_step_of cores shown).framed one other (reads_agree judged rest one other agrees) in
    ap (history_with shown rows other) same
    ∙ same_after (difference_of run.value.expected shown) (facts_by shown run)
    (history_from (record { core = run.value.next; bytes = after_writes run.wrote one }) rows)
    (history_from (record { core = run.value.next; bytes = after_writes run.wrote other }) rows)
    (λ is. history_framed rows run.value.next (after_writes run.wrote one) (after_writes run.wrote other)
    (rest_agrees judged rest one other agrees is))

-- ---- as the trail tells it

-- a row that ends a judgement has a number from 1
abbrev IsNumbered : Verdict → Type 0
IsNumbered (Agrees rows valid) = Unit {0}
IsNumbered (Differs row difference) = 1 ≤ row
IsNumbered (Refused row fault) = 1 ≤ row

counted_numbered : (rows valid : ℕ) (verdict : Verdict) → IsNumbered verdict
    → IsNumbered (verdict_after_rows rows valid verdict)
counted_numbered rows valid (Agrees n m) is = tt
counted_numbered rows valid (Differs row difference) is = omega (arith, is)
counted_numbered rows valid (Refused row fault) is = omega (arith, is)

valid_numbered : (difference : Option Difference) (accesses : Accesses) (rest : Judgement (List Core))
    → IsNumbered rest.verdict → IsNumbered (by_difference difference accesses rest).verdict
valid_numbered None accesses rest is = counted_numbered 1 1 rest.verdict is
valid_numbered (Some difference) accesses rest is = omega arith

numbered : (rows : List RowReading) (cores : List Core) (bytes : Bytes)
    → IsNumbered (judgement_of by_set cores rows bytes).verdict
unfolding judgement_of
numbered [] cores bytes = tt
numbered (Err fault ∷ rows) cores bytes = omega arith
numbered (Ok None ∷ rows) cores bytes =
    counted_numbered 1 0 (judgement_of by_set cores rows bytes).verdict (numbered rows cores bytes)
numbered (Ok (Some shown) ∷ rows) cores bytes =
    let run = (by_set cores shown).run bytes in
    let now = after_writes run.wrote bytes in
    valid_numbered run.value.difference (accesses_by run) (judgement_of by_set run.value.next rows now)
    (numbered rows run.value.next now)

told_after_row : (facts : Option RowFacts) (trail : Trail) (valid : ℕ) (verdict : Verdict) → IsNumbered verdict
    → history_after_row facts (history_at trail verdict) ≡ history_at (facts ∷ trail) (verdict_after_rows 1 valid verdict)
told_after_row facts trail valid (Agrees rows others) is =
    let more : suc rows ≡ 1 + rows = omega arith in ap (λ n. history_of (take n (facts ∷ trail))) more
told_after_row facts trail valid (Differs zero difference) is = absurd (omega (arith, is))
told_after_row facts trail valid (Differs (suc row) difference) is =
    let more : suc (suc row) ≡ 1 + suc row = omega arith in
    ap (λ n. history_at (facts ∷ trail) (Differs n difference)) more
told_after_row facts trail valid (Refused zero fault) is = absurd (omega (arith, is))
told_after_row facts trail valid (Refused (suc row) fault) is =
    let more : suc (suc row) ≡ 1 + suc row = omega arith in
    ap (λ n. history_at (facts ∷ trail) (Refused n fault)) more

told_by : (difference : Option Difference) (facts : RowFacts) (trail : Trail) (accesses : Accesses)
    (rest : Judgement (List Core)) (later : HistoryView) → IsNumbered rest.verdict
    → later ≡ history_at trail rest.verdict
    → history_by difference facts later
    ≡ history_at (Some facts ∷ trail) (by_difference difference accesses rest).verdict
told_by None facts trail accesses rest later is same =
    ap (history_after_row (Some facts)) same ∙ told_after_row (Some facts) trail 1 rest.verdict is
told_by (Some difference) facts trail accesses rest later is same = refl

pub history_told : (rows : List RowReading) (state : SetState) → HistoryIsTold state rows
unfolding history_from trail_from judgement_of by_set mapped
history_told [] state = refl
history_told (Err fault ∷ rows) state = refl
history_told (Ok None ∷ rows) state =
    ap (history_after_row None) (history_told rows state)
    ∙ told_after_row None (trail_from state rows) 0 (judgement_of by_set state.core rows state.bytes).verdict
    (numbered rows state.core state.bytes)
history_told (Ok (Some shown) ∷ rows) state =
    let run = (by_set state.core shown).run state.bytes in
    let after = set_after_row state shown in
    told_by (difference_of (facts_at state shown).expected shown) (facts_at state shown) (trail_from after rows)
    (accesses_by run) (judgement_of by_set after.core rows after.bytes) (history_from after rows)
    (numbered rows after.core after.bytes) (history_told rows after)

-- ---- how many rows it has

-- as many as the verdict counts, and no row that differs where all agree
abbrev pub HasCount : Verdict → HistoryView → Type 0
HasCount (Agrees rows valid) history = (length history.before ≡ rows) × (history.differing ≡ None)
HasCount (Differs row difference) history = 1 + length history.before ≡ row
HasCount (Refused row fault) history = 1 + length history.before ≡ row

count_after_row : (facts : Option RowFacts) (valid : ℕ) (verdict : Verdict) (later : HistoryView)
    → HasCount verdict later → HasCount (verdict_after_rows 1 valid verdict) (history_after_row facts later)
count_after_row facts valid (Agrees rows others) later is = (omega (arith, is.0), is.1)
count_after_row facts valid (Differs row difference) later is = omega (arith, is)
count_after_row facts valid (Refused row fault) later is = omega (arith, is)

count_by : (difference : Option Difference) (facts : RowFacts) (accesses : Accesses) (rest : Judgement (List Core))
    (later : HistoryView) → HasCount rest.verdict later
    → HasCount (by_difference difference accesses rest).verdict (history_by difference facts later)
count_by None facts accesses rest later is = count_after_row (Some facts) 1 rest.verdict later is
count_by (Some difference) facts accesses rest later is = refl

pub history_counted : (rows : List RowReading) (state : SetState)
    → HasCount (judgement_from by_set state rows).verdict (history_from state rows)
unfolding history_from judgement_of by_set mapped
history_counted [] state = (refl, refl)
history_counted (Err fault ∷ rows) state = refl
history_counted (Ok None ∷ rows) state =
    count_after_row None 0 (judgement_of by_set state.core rows state.bytes).verdict (history_from state rows)
    (history_counted rows state)
history_counted (Ok (Some shown) ∷ rows) state =
    let run = (by_set state.core shown).run state.bytes in
    let after = set_after_row state shown in
    count_by (difference_of (facts_at state shown).expected shown) (facts_at state shown) (accesses_by run)
    (judgement_of by_set after.core rows after.bytes) (history_from after rows) (history_counted rows after)

-- ---- rows so far

-- rows that agree, so many, from a state to another: what they did is kept
pub record SoFar (origin : Bool) (start now : SetState) (rows : List RowReading) (count : ℕ)
    (history : Option History) : Type 0 where
  pub trail : Trail
  pub kept : IsKept origin (history_of trail) history
  pub counted : count ≡ length trail
  pub end : end_from by_set start rows ≡ Some now
  pub told : history_from start rows ≡ history_of trail

pub so_far_begins : (origin : Bool) (start : SetState) (history : Option History)
    → IsKept origin (history_of []) history → SoFar origin start start [] 0 history
unfolding history_from judgement_of after_writes
so_far_begins origin start history kept = record {
  trail = [];
  kept = kept;
  counted = refl;
  end = refl;
  told = refl;
}

-- all rows, by those before and those after
whole_history : {origin : Bool} {start now : SetState} {rows : List RowReading} {count : ℕ} {history : Option History}
    (mine : List RowReading) (so_far : SoFar origin start now rows count history)
    → history_from start (rows ++ mine) ≡ history_after so_far.trail (history_from now mine)
whole_history {start = start} {now = now} {rows = rows} mine so_far =
    history_in_parts rows mine start
    ∙ ap (λ end. history_then (history_from start rows) end (λ now. history_from now mine)) so_far.end
    ∙ ap (λ (first : HistoryView). history_after first.before (history_from now mine)) so_far.told

pub whole_end : {origin : Bool} {start now : SetState} {rows : List RowReading} {count : ℕ} {history : Option History}
    (mine : List RowReading) → SoFar origin start now rows count history
    → end_from by_set start (rows ++ mine) ≡ end_from by_set now mine
unfolding conclusion_from
whole_end {start = start} {now = now} {rows = rows} mine so_far =
    ap (λ (whole : Conclusion (List Core)). whole.end) (in_parts by_set start rows mine)
    ∙ ap (λ end. (conclusion_after_end end (conclusion_from by_set start rows)
    (λ now. conclusion_from by_set now mine)).end) so_far.end

-- more rows that agree
counted_agreed : {rows valid : ℕ} (verdict : Verdict) (history : HistoryView) → HasCount verdict history
    → verdict ≡ Agrees rows valid → (length history.before ≡ rows) × (history.differing ≡ None)
counted_agreed {rows = rows} {valid = valid} verdict history is agrees =
    subst (λ verdict. HasCount verdict history) agrees is

pub so_far_on : {origin : Bool} {start now after : SetState} {rows : List RowReading} {count more valid : ℕ}
    {history next : Option History} (mine : List RowReading) → SoFar origin start now rows count history
    → Grows origin (history_from now mine) count history next
    → (conclusion_from by_set now mine).verdict ≡ Agrees more valid
    → (conclusion_from by_set now mine).end ≡ Some after
    → SoFar origin start after (rows ++ mine) (count + more) next
unfolding conclusion_from
so_far_on {origin = origin} {now = now} {next = next} mine so_far grows agrees end =
    let told = history_from now mine in
    let counted =
    counted_agreed (judgement_from by_set now mine).verdict told (history_counted mine now) agrees in
    let whole : history_after so_far.trail told ≡ history_of (so_far.trail ++ told.before) =
    ap (λ differing. record { before = so_far.trail ++ told.before; differing = differing }) counted.1 in
    record {
      trail = so_far.trail ++ told.before;
      kept = subst (λ history. IsKept origin history next) whole (grows so_far.trail so_far.kept so_far.counted);
      counted =
          let joined = length-append so_far.trail told.before in
          omega (arith, joined, counted.0, so_far.counted);
      end = whole_end mine so_far ∙ end;
      told = whole_history mine so_far ∙ whole;
    }

-- more rows, and none after them
pub so_far_ends : {origin : Bool} {start now : SetState} {rows : List RowReading} {count : ℕ}
    {history : Option History} (next : Option History) (mine : List RowReading)
    → SoFar origin start now rows count history → Grows origin (history_from now mine) count history next
    → IsKept origin (history_from start (rows ++ mine)) next
so_far_ends {origin = origin} next mine so_far grows =
    subst (λ history. IsKept origin history next) (sym (whole_history mine so_far))
    (grows so_far.trail so_far.kept so_far.counted)

pub so_far_kept : {origin : Bool} {start now : SetState} {rows : List RowReading} {count : ℕ} {history : Option History}
    → SoFar origin start now rows count history → IsKept origin (history_from start rows) history
so_far_kept {origin = origin} {history = history} so_far =
    subst (λ view. IsKept origin view history) (sym so_far.told) so_far.kept

-- where rows end the judgement, no later one is told of
pub history_ended : (start : SetState) (rows more : List RowReading) → end_from by_set start rows ≡ None
    → history_from start (rows ++ more) ≡ history_from start rows
history_ended start rows more end =
    history_in_parts rows more start
    ∙ ap (λ end. history_then (history_from start rows) end (λ now. history_from now more)) end
