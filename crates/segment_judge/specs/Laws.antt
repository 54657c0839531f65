-- What holds of judgements, in the words of one who cuts a trace into segments.
use Rattle.std.specs.Prelude.{◌≡◌, true, List, ◌++◌, Option, Some, None, option_map}
use Rattle.hart_words.specs.Memory.{Bytes, after_writes}
use Rattle.hart_words.specs.States.{State}
use Rattle.rvfi_rows.specs.declared.verdict.Verdict.{Verdict}
use Rattle.rvfi_rows.specs.declared.verdict.Verdict.TheVariants.{Agrees, Differs, Refused}
use Rattle.rvfi_rows.specs.Rows.{RowReading}
use Rattle.read_footprint.specs.Footprints.{agree, footprint_of, moved, writes_of}
use Rattle.segment_judge.specs.Judgements.{Judgement, Judging, verdict_after_rows, judgement_of}

-- the verdict on rows and on those after them: the first that does not agree
abbrev pub verdict_of_both : Verdict → Verdict → Verdict
verdict_of_both (Agrees rows valid) rest = verdict_after_rows rows valid rest
verdict_of_both (Differs row difference) rest = Differs row difference
verdict_of_both (Refused row fault) rest = Refused row fault

-- the judgement from a state, and the memory after it
abbrev pub judgement_from : {C : Type 0} → Judging C → State C → List RowReading → Judgement C
judgement_from judging state rows = judgement_of judging state.core rows state.bytes

abbrev pub bytes_after_judgement : {C : Type 0} → Judgement C → Bytes → Bytes
bytes_after_judgement judgement bytes = after_writes (writes_of judgement.accesses) bytes

-- the state after rows that agree
abbrev pub end_from : {C : Type 0} → Judging C → State C → List RowReading → Option (State C)
end_from judging state rows =
    let judgement = judgement_from judging state rows in
    option_map (λ core. record { core = core; bytes = bytes_after_judgement judgement state.bytes }) judgement.end

-- the verdict and the state after it: what the rest of a trace needs to know of rows
pub record Conclusion (C : Type 0) : Type 0 where
  pub verdict : Verdict
  pub end : Option (State C)

unfoldable pub conclusion_from : {C : Type 0} → Judging C → State C → List RowReading → Conclusion C
conclusion_from judging state rows =
    record { verdict = (judgement_from judging state rows).verdict; end = end_from judging state rows }

-- rows that agree, and what comes after them; of rows that do not, nothing comes after
abbrev pub conclusion_after_end : {C : Type 0} → Option (State C) → Conclusion C → (State C → Conclusion C)
    → Conclusion C
conclusion_after_end None first next = first
conclusion_after_end (Some state) first next =
    let rest = next state in record { verdict = verdict_of_both first.verdict rest.verdict; end = rest.end }

abbrev pub conclusion_then : {C : Type 0} → Conclusion C → (State C → Conclusion C) → Conclusion C
conclusion_then first next = conclusion_after_end first.end first next

-- rows may be judged in parts, each from the state after the one before
abbrev pub JudgedInParts : {C : Type 0} → Judging C → State C → List RowReading → List RowReading → Type 0
JudgedInParts judging state rows others =
    conclusion_from judging state (rows ++ others)
    ≡ conclusion_then (conclusion_from judging state rows) (λ now. conclusion_from judging now others)

-- a memory that agrees on what a judgement read before it wrote it: the same judgement, and after it the bytes that
-- were written are the same, and every other byte as it was
pub record JudgementIsFramed {C : Type 0} (judging : Judging C) (core : C) (rows : List RowReading)
    (one other : Bytes) : Type 0 where
  pub same : judgement_of judging core rows other ≡ judgement_of judging core rows one
  pub moves : let judgement = judgement_of judging core rows one in
      bytes_after_judgement judgement other
      ≡ moved (writes_of judgement.accesses) (bytes_after_judgement judgement one) other

abbrev pub FramedByFootprint : {C : Type 0} → Judging C → C → List RowReading → Bytes → Bytes → Type 0
FramedByFootprint judging core rows one other =
    agree one other (footprint_of (judgement_of judging core rows one).accesses) ≡ true
    → JudgementIsFramed judging core rows one other
