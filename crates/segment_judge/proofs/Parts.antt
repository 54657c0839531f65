-- Rows that are judged in parts.
use Rattle.std.proofs.Common.{◌≡◌, ℕ, ◌+◌, List, [], ◌∷◌, ◌++◌, Option, Some, None, option_map, Ok, Err, refl, sym, ap}
use Rattle.std.proofs.Common.{◌∙◌, arith}
use Rattle.hart_words.specs.declared.signal.Difference.{Difference}
use Rattle.hart_words.specs.Actions.{Run}
use Rattle.hart_words.specs.Memory.{Bytes, after_writes}
use Rattle.hart_words.specs.Signals.{Shown}
use Rattle.hart_words.specs.States.{State}
use Rattle.rvfi_rows.specs.declared.verdict.Verdict.{Verdict}
use Rattle.rvfi_rows.specs.declared.verdict.Verdict.TheVariants.{Agrees, Differs, Refused}
use Rattle.rvfi_rows.specs.Rows.{RowReading}
use Rattle.read_footprint.specs.Footprints.{writes_of}
use Rattle.read_footprint.proofs.Agreement.{written_in_parts}
use Rattle.segment_judge.specs.Judgements.{Judgement, Judging, RowJudgement, verdict_after_rows, judgement_of}
use Rattle.segment_judge.specs.Laws.{Conclusion, JudgedInParts, bytes_after_judgement, conclusion_from, conclusion_then}
use Rattle.segment_judge.specs.Laws.{verdict_of_both}

pub counted_twice : (rows valid more others : ℕ) (verdict : Verdict)
    → verdict_after_rows rows valid (verdict_after_rows more others verdict)
    ≡ verdict_after_rows (rows + more) (valid + others) verdict
counted_twice rows valid more others (Agrees n m) =
    let first : rows + (more + n) ≡ rows + more + n = omega arith in
    let second : valid + (others + m) ≡ valid + others + m = omega arith in
    rw (first, second) refl
counted_twice rows valid more others (Differs row difference) =
    let first : rows + (more + row) ≡ rows + more + row = omega arith in rw first refl
counted_twice rows valid more others (Refused row fault) =
    let first : rows + (more + row) ≡ rows + more + row = omega arith in rw first refl

-- what comes after a verdict is counted on with it
counted_after : (rows valid : ℕ) (first rest : Verdict)
    → verdict_of_both (verdict_after_rows rows valid first) rest
    ≡ verdict_after_rows rows valid (verdict_of_both first rest)
counted_after rows valid (Agrees n m) rest = sym (counted_twice rows valid n m rest)
counted_after rows valid (Differs row difference) rest = refl
counted_after rows valid (Refused row fault) rest = refl

-- a conclusion after so many rows
abbrev counted : {C : Type 0} → ℕ → ℕ → Conclusion C → Conclusion C
counted rows valid rest = record { verdict = verdict_after_rows rows valid rest.verdict; end = rest.end }

followed_counted : {C : Type 0} (rows valid : ℕ) (verdict : Verdict) (end : Option (State C))
    (next : State C → Conclusion C)
    → conclusion_then (counted rows valid (record { verdict = verdict; end = end })) next
    ≡ counted rows valid (conclusion_then (record { verdict = verdict; end = end }) next)
followed_counted rows valid verdict None next = refl
followed_counted rows valid verdict (Some state) next =
    ap (λ whole. record { verdict = whole; end = (next state).end })
    (counted_after rows valid verdict (next state).verdict)

-- one row, and the others after it
abbrev state_after : {C : Type 0} → Run (RowJudgement C) → Bytes → State C
state_after run bytes = record { core = run.value.next; bytes = after_writes run.wrote bytes }

abbrev state_with : {C : Type 0} → Bytes → C → State C
state_with bytes core = record { core = core; bytes = bytes }

end_after : {C : Type 0} (judgement : Judgement C) (run : Run (RowJudgement C)) (bytes : Bytes) (end : Option C)
    → option_map (state_with (after_writes (run.wrote ++ writes_of judgement.accesses) bytes)) end
    ≡ option_map (state_with (bytes_after_judgement judgement (after_writes run.wrote bytes))) end
end_after judgement run bytes end =
    ap (λ now. option_map (state_with now) end) (written_in_parts run.wrote (writes_of judgement.accesses) bytes)

pub by_valid : {C : Type 0} (judging : Judging C) (state : State C) (shown : Shown) (rows : List RowReading)
    → ((judging state.core shown).run state.bytes).value.difference ≡ None
    → conclusion_from judging state (Ok (Some shown) ∷ rows)
    ≡ counted 1 1 (conclusion_from judging (state_after ((judging state.core shown).run state.bytes) state.bytes) rows)
unfolding conclusion_from judgement_of
by_valid judging state shown rows agrees =
    let run = (judging state.core shown).run state.bytes in
    let rest = judgement_of judging run.value.next rows (after_writes run.wrote state.bytes) in
    rw agrees (ap (λ end. record { verdict = verdict_after_rows 1 1 rest.verdict; end = end })
    (end_after rest run state.bytes rest.end))

pub by_different : {C : Type 0} (judging : Judging C) (state : State C) (shown : Shown) (rows : List RowReading)
    (difference : Difference) → ((judging state.core shown).run state.bytes).value.difference ≡ Some difference
    → conclusion_from judging state (Ok (Some shown) ∷ rows) ≡ record { verdict = Differs 1 difference; end = None }
unfolding conclusion_from judgement_of
by_different judging state shown rows difference differs = rw differs refl

pub by_invalid : {C : Type 0} (judging : Judging C) (state : State C) (rows : List RowReading)
    → conclusion_from judging state (Ok None ∷ rows) ≡ counted 1 0 (conclusion_from judging state rows)
unfolding conclusion_from judgement_of
by_invalid judging state rows = refl

valid_in_parts : {C : Type 0} (judging : Judging C) (state : State C) (shown : Shown) (rows others : List RowReading)
    → JudgedInParts judging (state_after ((judging state.core shown).run state.bytes) state.bytes) rows others
    → (difference : Option Difference) → ((judging state.core shown).run state.bytes).value.difference ≡ difference
    → JudgedInParts judging state (Ok (Some shown) ∷ rows) others
valid_in_parts judging state shown rows others later None is =
    let next = state_after ((judging state.core shown).run state.bytes) state.bytes in
    let first = conclusion_from judging next rows in
    by_valid judging state shown (rows ++ others) is
    ∙ ap (counted 1 1) later
    ∙ sym (followed_counted 1 1 first.verdict first.end (λ now. conclusion_from judging now others))
    ∙ sym
    (ap (λ all. conclusion_then all (λ now. conclusion_from judging now others))
    (by_valid judging state shown rows is))
valid_in_parts judging state shown rows others later (Some difference) is =
    by_different judging state shown (rows ++ others) difference is
    ∙ sym
    (ap (λ all. conclusion_then all (λ now. conclusion_from judging now others))
    (by_different judging state shown rows difference is))

pub uncounted : (verdict : Verdict) → verdict_after_rows 0 0 verdict ≡ verdict
uncounted (Agrees n m) =
    let first : 0 + n ≡ n = omega arith in
    let second : 0 + m ≡ m = omega arith in
    rw (first, second) refl
uncounted (Differs row difference) =
    let first : 0 + row ≡ row = omega arith in rw first refl
uncounted (Refused row fault) =
    let first : 0 + row ≡ row = omega arith in rw first refl

uncounted_conclusion : {C : Type 0} (rest : Conclusion C) → rest ≡ counted 0 0 rest
uncounted_conclusion rest = ap (λ verdict. record { verdict = verdict; end = rest.end }) (sym (uncounted rest.verdict))

pub in_parts : {C : Type 0} (judging : Judging C) (state : State C) (rows others : List RowReading)
    → JudgedInParts judging state rows others
unfolding conclusion_from judgement_of after_writes
in_parts judging state [] others = uncounted_conclusion (conclusion_from judging state others)
in_parts judging state (Err fault ∷ rows) others = refl
in_parts judging state (Ok None ∷ rows) others =
    let first = conclusion_from judging state rows in
    by_invalid judging state (rows ++ others)
    ∙ ap (counted 1 0) (in_parts judging state rows others)
    ∙ sym (followed_counted 1 0 first.verdict first.end (λ now. conclusion_from judging now others))
    ∙ sym (ap (λ all. conclusion_then all (λ now. conclusion_from judging now others)) (by_invalid judging state rows))
in_parts judging state (Ok (Some shown) ∷ rows) others =
    let run = (judging state.core shown).run state.bytes in
    valid_in_parts judging state shown rows others (in_parts judging (state_after run state.bytes) rows others)
    run.value.difference refl
