-- What a judgement touches in memory: RAM alone.
use Rattle.std.specs.Prelude.{◌≡◌, true, List, All}
use Rattle.hart_words.specs.declared.span.Span.{Span}
use Rattle.hart_words.specs.Memory.{Bytes}
use Rattle.hart_words.specs.Spans.{holds_all}
use Rattle.rvfi_rows.specs.Rows.{RowReading}
use Rattle.hart_step.specs.declared.state.Core.{Core}
use Rattle.hart_step.specs.HartSets.{SetState}
use Rattle.read_footprint.specs.Footprints.{Accesses}
use Rattle.read_footprint.specs.Sets.{LiesInRam}
use Rattle.segment_judge.specs.declared.judged.Judged.{Judged}
use Rattle.segment_judge.specs.Judged.{IsJudgement}
use Rattle.segment_judge.specs.Judgements.{by_set, judgement_of}

-- every byte that was read or written is RAM
pub record IsInRam (ram : Span) (accesses : Accesses) : Type 0 where
  pub reads : All (λ read. holds_all ram read.pa read.len ≡ true) accesses.reads
  pub writes : All (λ write. holds_all ram write.pa write.len ≡ true) accesses.wrote

-- RAM is that of each hart's map
abbrev pub HaveRam : Span → List Core → Type 0
HaveRam ram cores = All (λ core. ram ≡ core.map.ram) cores

-- each row that is judged by the reference harts touches RAM alone
abbrev pub TouchesRamAlone : Span → List Core → List RowReading → Bytes → Type 0
TouchesRamAlone ram cores rows bytes =
    HaveRam ram cores → All (IsInRam ram) (judgement_of by_set cores rows bytes).accesses

-- so all bytes that are noted of a judgement are RAM
abbrev pub FootprintLiesInRam : {M : Type 0} → (M → Bytes) → Span → SetState → List RowReading → Judged M → Type 0
FootprintLiesInRam bytes_of ram start rows judged =
    HaveRam ram start.core → IsJudgement bytes_of start rows judged → LiesInRam ram judged.footprint
