-- From the two texts to the verdict.
use Rattle.std.proofs.Common.{ℕ, ◌^◌, ◌<◌, ◌≤◌, List, length, ap, ◌∙◌, arith}
use Rattle.std.specs.Prelude.{unwrap_or}
use Rattle.hart_words.specs.declared.map.Map.{Map}
use Rattle.hart_words.specs.Choices.{plain_choices}
use Rattle.rvfi_rows.specs.Rows.{RowReading}
use Rattle.hart_step.specs.Cores.{core_at_reset}
use Rattle.segment_judge.specs.Judgements.{by_hart, judgement_of}
use Rattle.trace_maker.specs.Texts.{made_trace}
use Rattle.made_runs.specs.Images.{IsMadeImage}
use Rattle.made_runs.specs.Laws.{MadeRunAgrees}
use Rattle.made_runs.specs.States.{IsMadeMap}
use Rattle.made_runs.proofs.Headers.{header_named}
use Rattle.made_runs.proofs.ImageTexts.{image_read}
use Rattle.made_runs.proofs.Judged.{made_agree}
use Rattle.made_runs.proofs.RowLines.{rows_back}
use Rattle.made_runs.proofs.TraceLines.{lines_are}

pub texts_agree : (map : Map) (number rows most : ℕ) → IsMadeMap map → rows < 2 ^ 64
    → length (made_trace number rows) ≤ most → MadeRunAgrees map number rows most
texts_agree map number rows most is small fits =
    let image : IsMadeImage map number = image_read map number is in
    let memory : ℕ → ℕ = λ address. unwrap_or (image.bytes address) 0 in
    record {
      image = image;
      lines = lines_are number rows most (omega arith) fits;
      columns = header_named;
      verdict =
          ap (λ (readings : List RowReading).
          (judgement_of by_hart (core_at_reset 0x80000000 map plain_choices) readings memory).verdict)
          (rows_back number rows (omega arith))
          ∙ made_agree map number rows memory is image.has_image small;
    }
