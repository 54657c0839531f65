-- What the judging of a segment gives, beside the judgement of its rows.
use Rattle.std.specs.Prelude.{◌≡◌, ℕ, true, if◌then◌else◌, List, Option, option_map, IfSome}
use Rattle.hart_words.specs.declared.span.Span.{Span}
use Rattle.hart_words.specs.Memory.{Bytes}
use Rattle.rvfi_rows.specs.Rows.{RowReading}
use Rattle.hart_step.specs.HartSets.{SetCanStep, SetState, set_state_of}
use Rattle.read_footprint.specs.Sets.{IsFootprintOf, LiesInRam, has_read, has_written}
use Rattle.segment_judge.specs.declared.judged.Judged.{Judged}
use Rattle.segment_judge.specs.Judgements.{by_set}
use Rattle.segment_judge.specs.Laws.{judgement_from, end_from}

-- it is the judgement of the rows from a state: its verdict, the state after them, what they read and wrote
pub record IsJudgement {M : Type 0} (bytes : M → Bytes) (start : SetState) (rows : List RowReading)
    (judged : Judged M) : Type 0 where
  pub verdict : judged.verdict ≡ (judgement_from by_set start rows).verdict
  pub end : option_map (set_state_of bytes) judged.end ≡ end_from by_set start rows
  pub footprint : IsFootprintOf judged.footprint (judgement_from by_set start rows).accesses

-- the harts after the rows can be stepped on over the same RAM, and all that was read or written is RAM
pub record IsUsable {M : Type 0} (ram_of : M → Span) (ram : Span) (judged : Judged M) : Type 0 where
  pub end : IfSome judged.end (SetCanStep ram_of)
  pub same : IfSome judged.end (λ set. ram_of set.mem ≡ ram)
  pub within : LiesInRam ram judged.footprint

-- the harts after the rows with another memory, in which the bytes that were written are as after the rows
abbrev pub moved_end : {M : Type 0} → (M → Bytes) → Judged M → Bytes → Option SetState
moved_end bytes judged other =
    option_map (λ set. record {
      core = set.cores.items;
      bytes = λ address. if has_written judged.footprint address then bytes set.mem address else other address;
    }) judged.end

-- a memory that has the same bytes wherever the rows read any before they wrote it: the verdict stands there too, and
-- the bytes that were written may be moved there
pub record IsFramedBy {M : Type 0} (bytes : M → Bytes) (start : SetState) (rows : List RowReading)
    (judged : Judged M) (other : Bytes) : Type 0 where
  pub verdict : let state : SetState = record { core = start.core; bytes = other } in
      (judgement_from by_set state rows).verdict ≡ judged.verdict
  pub end : let state : SetState = record { core = start.core; bytes = other } in
      end_from by_set state rows ≡ moved_end bytes judged other

abbrev pub HoldsInOtherMemories : {M : Type 0} → (M → Bytes) → SetState → List RowReading → Judged M → Type 0
HoldsInOtherMemories bytes start rows judged =
    (other : Bytes) → ((address : ℕ) → has_read judged.footprint address ≡ true → other address ≡ start.bytes address)
    → IsFramedBy bytes start rows judged other
