-- Judgements that were made elsewhere.
use Rattle.std.specs.Prelude.{◌≡◌, ℕ, List, IfSome}
use Rattle.hart_words.specs.declared.span.Span.{Span}
use Rattle.hart_words.specs.Memory.{Bytes}
use Rattle.rvfi_rows.specs.Columns.{TraceColumns}
use Rattle.rvfi_rows.specs.Rows.{rows_of}
use Rattle.hart_set.specs.Calls.{CanStep}
use Rattle.hart_step.specs.Cores.{IsSound}
use Rattle.hart_step.specs.HartSets.{SetHoldsWords, SetState}
use Rattle.hart_step.specs.Meanings.{core_meaning}
use Rattle.segment_judge.specs.declared.judged.Judged.{Judged}
use Rattle.segment_judge.specs.Judged.{IsJudgement, IsUsable}

-- from a state that harts can be in, a judgement may be used where the harts after its rows are over the same RAM
abbrev pub IsUsableOverEqualRam : {M : Type 0} → (M → Bytes) → (M → Span) → Span → SetState → TraceColumns
    → List (List ℕ) → Judged M → Type 0
IsUsableOverEqualRam bytes_of ram_of ram start columns lines judged =
    CanStep core_meaning IsSound ram start.core → SetHoldsWords start
    → IsJudgement bytes_of start (rows_of columns lines) judged
    → IfSome judged.end (λ set. ram_of set.mem ≡ ram) → IsUsable ram_of ram judged
