-- Runs that go on from one another.
use Rattle.std.proofs.Common.{◌≡◌, ℕ, Bool, true, false, List, [], ◌∷◌, ◌++◌, length, nat_lt, Option, Some, None, IfSome}
use Rattle.std.proofs.Common.{Result, Ok, Err, refl, sym, ap, subst, ◌∙◌, arith, if◌then◌else◌}
use Rattle.std.specs.Prelude.{◌<◌, IfOk, map, unwrap_or}
use Rattle.std.specs.List.{All}
use Rattle.std.proofs.lemmas.List.{length-map, length-replicate}
use Rattle.std.proofs.lemmas.List.Elements.{All-cons, All-from_recursion, All-head, All-nil, All-replicate, All-tail}
use Rattle.std.proofs.lemmas.Bool.{le-ltb}
use Rattle.hart_words.specs.declared.choices.Choices.{Choices}
use Rattle.hart_words.specs.declared.map.Map.{Map}
use Rattle.hart_words.specs.Memory.{Bytes}
use Rattle.hart_step.specs.declared.state.Core.{Core}
use Rattle.csr_file.specs.Registers.{csrs_at_reset_of}
use Rattle.hart_step.specs.Cores.{core_at_reset_of}
use Rattle.hart_step.specs.HartSets.{SetState}
use Rattle.elf_image.specs.declared.fault.ElfFault.{ElfFault}
use Rattle.elf_image.specs.Image.{elf_of}
use Rattle.image_text.specs.declared.fault.ImageFault.{ImageFault}
use Rattle.image_text.specs.Image.{image_of}
use Rattle.judge_words.specs.Job.{JobView}
use Rattle.judge_words.specs.declared.job.Command.{Command}
use Rattle.judge_words.specs.declared.job.Command.TheVariants.{Judge, Make}
use Rattle.judge_words.specs.declared.job.Product.TheVariants.{Line, State, Origins}
use Rattle.trace_lines.specs.declared.piece.Ending.{Ending}
use Rattle.trace_lines.specs.declared.piece.Ending.TheVariants.{End}
use Rattle.trace_lines.specs.Lines.{RemainingLines, file_lines}
use Rattle.rvfi_rows.specs.declared.fault.HeaderFault.{HeaderFault}
use Rattle.rvfi_rows.specs.declared.verdict.Verdict.{Verdict}
use Rattle.rvfi_rows.specs.declared.verdict.Verdict.TheVariants.{Agrees, Differs, Refused}
use Rattle.rvfi_rows.specs.Columns.{ColumnList, TraceColumns, header_columns}
use Rattle.rvfi_rows.specs.Rows.{RowReading, rows_of}
use Rattle.rvfi_rows.proofs.PortRows.{rows_append}
use Rattle.trace_report.specs.declared.outcome.Ruling.TheVariants as rulings
use Rattle.row_origin.specs.Histories.{HistoryView}
use Rattle.segment_judge.specs.Histories.{history_at, trail_from}
use Rattle.segment_judge.specs.Judgements.{by_set}
use Rattle.segment_judge.specs.Laws.{Conclusion, conclusion_from}
use Rattle.segment_judge.proofs.Parts.{in_parts}
use Rattle.state_text.specs.declared.fault.StateFault.{StateFault}
use Rattle.state_text.specs.Texts.{saved_lines, saved_text, state_in}
use Rattle.judge_words.specs.declared.values.TheConstants.{FIRST_PC}
use Rattle.judge_run.specs.Answer.{AnswerView, Step, answer_with, columns_in, core_from, elf_start, is_elf, is_saved, job_answer}
use Rattle.judge_run.specs.Answer.{lines_answer, outcome_of, rows_end, ruling_at_end, saved_start, start_at, start_in}
use Rattle.judge_run.specs.Answer.{start_of, state_written, text_start, trace_answer}
use Rattle.judge_run.specs.Pieces.{BeginsFrom, RunsGoOn, counted_on}
use Rattle.judge_run.proofs.Outside.{HasSettings, row_keeps, trace_keeps}
use Rattle.csr_file.specs.declared.profile.CsrProfile.{CsrProfile}
use Rattle.state_text.specs.Laws.{IsOver}
use Rattle.state_text.proofs.OneText.{has_state}
use Rattle.judge_run.specs.Starts.{HaveSettings}

-- the text of a state begins as one, and not as an ELF file does
text_is_saved : (cores : List Core) (bytes : Bytes) → 0 < length cores
    → (is_elf (saved_text cores bytes) ≡ false) × (is_saved (saved_text cores bytes) ≡ true)
unfolding saved_lines
text_is_saved [] bytes some = absurd (omega (arith, some))
text_is_saved (core ∷ cores) bytes some = (refl, refl)

-- harts that are given no first pc stay as they are
all_stay : (cores : List Core) → map (core_from None) cores ≡ cores
all_stay [] = refl
all_stay (core ∷ cores) = ap (λ rest. core ∷ rest) (all_stay cores)

-- a run begins from the state whose text is its image
begins : (first second : JobView) (saved : SetState) → BeginsFrom first saved second → 0 < length saved.core
    → state_in second.profile second.map second.choices second.harts (saved_text saved.core saved.bytes)
    ≡ Ok (saved.core, saved.bytes)
    → start_of second (Some (saved_text saved.core saved.bytes)) ≡ Ok saved
unfolding start_of start_in
begins first second saved from some back =
    let text = saved_text saved.core saved.bytes in
    let fits : nat_lt second.max_image (length text) ≡ false = le-ltb second.max_image (length text) from.room in
    let kind = text_is_saved saved.core saved.bytes some in
    rw (fits, kind.0, kind.1, back, from.pc) (ap (λ cores. Ok (record { core = cores; bytes = saved.bytes }))
    (all_stay saved.core))

reset_has : (job : JobView) (bytes : ℕ → Option ℕ) (pc : ℕ)
    → HasSettings job.profile job.map job.choices job.harts (start_at job bytes pc)
unfolding core_at_reset_of csrs_at_reset_of
reset_has job bytes pc =
    let core = core_at_reset_of job.profile (unwrap_or job.pc pc) job.map job.choices in
    record {
      settings =
          All-replicate (IsOver job.profile job.map job.choices) job.harts core
          (record { profile_is = refl; map_is = refl; choices_are = refl });
      many = length-replicate job.harts core;
    }

settings_begun : (profile : CsrProfile) (over : Map) (choices : Choices) (given : Option ℕ) (cores : List Core)
    → HaveSettings profile over choices cores → HaveSettings profile over choices (map (core_from given) cores)
settings_begun profile over choices given [] all = All-nil (IsOver profile over choices)
settings_begun profile over choices given (core ∷ cores) all =
    let first = All-head (IsOver profile over choices) core cores all in
    All-cons (IsOver profile over choices) (core_from given core) (map (core_from given) cores)
    (record { profile_is = first.profile_is; map_is = first.map_is; choices_are = first.choices_are })
    (settings_begun profile over choices given cores (All-tail (IsOver profile over choices) core cores all))

-- what was read of a text has the map and the choices, and is as many harts as it should be
loaded_settings : (profile : CsrProfile) (map : Map) (choices : Choices) (harts : ℕ) (text : List ℕ) (cores : List Core) (bytes : Bytes)
    → state_in profile map choices harts text ≡ Ok (cores, bytes) → HaveSettings profile map choices cores
loaded_settings profile map choices harts text cores bytes read =
    let has = (has_state profile map choices harts text cores bytes read).has_cores in
    subst (All (IsOver profile map choices)) (sym has.all) (All-from_recursion (IsOver profile map choices) has.read has.over)

loaded_many : (profile : CsrProfile) (map : Map) (choices : Choices) (harts : ℕ) (text : List ℕ) (cores : List Core) (bytes : Bytes)
    → state_in profile map choices harts text ≡ Ok (cores, bytes) → length cores ≡ harts
loaded_many profile map choices harts text cores bytes read =
    let has = (has_state profile map choices harts text cores bytes read).has_cores in
    ap (λ (cores : List Core). length cores) has.all ∙ has.count

saved_has : (job : JobView) (text : List ℕ) (loaded : List Core × Bytes)
    → state_in job.profile job.map job.choices job.harts text ≡ Ok loaded
    → HasSettings job.profile job.map job.choices job.harts
    (record { core = map (core_from job.pc) loaded.0; bytes = loaded.1 })
saved_has job text loaded read = record {
  settings =
      settings_begun job.profile job.map job.choices job.pc loaded.0
      (loaded_settings job.profile job.map job.choices job.harts text loaded.0 loaded.1 read);
  many = length-map loaded.0 (core_from job.pc)
      ∙ loaded_many job.profile job.map job.choices job.harts text loaded.0 loaded.1 read;
}

text_has : (job : JobView) (read : Result (ℕ → Option ℕ) ImageFault)
    → IfOk (text_start job read) (HasSettings job.profile job.map job.choices job.harts)
text_has job (Err fault) = tt
text_has job (Ok bytes) = reset_has job bytes FIRST_PC

elf_has : (job : JobView) (read : Result ((ℕ → Option ℕ) × ℕ) ElfFault)
    → IfOk (elf_start job read) (HasSettings job.profile job.map job.choices job.harts)
elf_has job (Err fault) = tt
elf_has job (Ok image) = reset_has job image.0 image.1

loaded_has : (job : JobView) (text : List ℕ) (read : Result (List Core × Bytes) StateFault)
    → state_in job.profile job.map job.choices job.harts text ≡ read
    → IfOk (saved_start job read) (HasSettings job.profile job.map job.choices job.harts)
loaded_has job text (Err fault) is = tt
loaded_has job text (Ok loaded) is = saved_has job text loaded is

-- a run begins with as many harts as its job has, each with its map and choices
all_have : (job : JobView) (image : Option (List ℕ))
    → IfOk (start_of job image) (HasSettings job.profile job.map job.choices job.harts)
unfolding start_of start_in
all_have job None = tt
all_have job (Some text) =
    by (nat_lt job.max_image (length text)) (is_elf text) (is_saved text) (elf_start job file) (saved_start job state)
    (text_start job image) (elf_has job file) (loaded_has job text state refl) (text_has job image)
  where
    file : Result ((ℕ → Option ℕ) × ℕ) ElfFault
    file = elf_of job.map.ram text

    state : Result (List Core × Bytes) StateFault
    state = state_in job.profile job.map job.choices job.harts text

    image : Result (ℕ → Option ℕ) ImageFault
    image = image_of job.map.ram text

    Has : Step SetState → Type 0
    Has read = IfOk read (HasSettings job.profile job.map job.choices job.harts)

    by : (large elf saved : Bool) (file state image : Step SetState) → Has file → Has state → Has image
        → Has (if large then Err (Some (outcome_of job (rulings.ImageTooLarge job.max_image)))
        else if elf then file else if saved then state else image)
    by true elf saved file state image of_file of_state of_image = tt
    by false true saved file state image of_file of_state of_image = of_file
    by false false true file state image of_file of_state of_image = of_state
    by false false false file state image of_file of_state of_image = of_image

starts_with_settings : (job : JobView) (image : Option (List ℕ)) (start : SetState) → start_of job image ≡ Ok start
    → HasSettings job.profile job.map job.choices job.harts start
starts_with_settings job image start is =
    subst (λ (read : Step SetState). IfOk read (HasSettings job.profile job.map job.choices job.harts)) is (all_have job image)

-- what was written is the state after rows that agree
record IsWritten (judged : Conclusion (List Core)) (saved : SetState) : Type 0 where
  pub rows : ℕ
  pub valid : ℕ
  pub agreed : judged.verdict ≡ Agrees rows valid
  pub end : judged.end ≡ Some saved

written_at_end : (job : JobView) (judged : Conclusion (List Core)) (history : HistoryView) (saved : SetState)
    → (answer_with job (rows_end job End judged) history).state ≡ Some saved → IsWritten judged saved
written_at_end job judged history saved is = by job.command judged.verdict refl is
  where
    by : (command : Command (List ℕ)) (verdict : Verdict) → judged.verdict ≡ verdict
        → state_written command (ruling_at_end job End verdict) judged.end ≡ Some saved → IsWritten judged saved
    by (Judge image trace State) (Agrees rows valid) agreed is =
        record { rows = rows; valid = valid; agreed = agreed; end = is }
    by (Judge image trace State) (Differs row difference) agreed is = cc
    by (Judge image trace State) (Refused row fault) agreed is = cc
    by (Judge image trace Line) verdict agreed is = cc
    by (Judge image trace Origins) verdict agreed is = cc
    by (Make number rows) verdict agreed is = cc

-- the first piece: its header has columns, and its rows agree
record IsJudgedPiece (count : ℕ) (start : SetState) (header : List ℕ) (lines : List (List ℕ)) (saved : SetState)
    : Type 0 where
  pub columns : TraceColumns
  pub named : header_columns header ≡ Ok columns.named
  pub harts : columns.harts ≡ count
  pub written : IsWritten (conclusion_from by_set start (rows_of columns lines)) saved

piece_judged : (job : JobView) (start saved : SetState) (header : List ℕ) (lines : List (List ℕ)) (given : AnswerView)
    → lines_answer job start (record { lines = header ∷ lines; ending = End }) ≡ Ok given → given.state ≡ Some saved
    → IsJudgedPiece job.harts start header lines saved
unfolding lines_answer columns_in
piece_judged job start saved header lines given is writes = by (header_columns header) refl
  where
    by : (named : Result ColumnList HeaderFault) → header_columns header ≡ named
        → IsJudgedPiece job.harts start header lines saved
    by (Err fault) named = let never = rw named at is in cc
    by (Ok names) named =
        let columns : TraceColumns = record { named = names; harts = job.harts } in
        let judged : Conclusion (List Core) = conclusion_from by_set start (rows_of columns lines) in
        let whole = rw named at is in
        let history = history_at (trail_from start (rows_of columns lines)) judged.verdict in
        let same : answer_with job (rows_end job End judged) history ≡ given = cc in
        record {
          columns = columns;
          named = named;
          harts = refl;
          written = written_at_end job judged history saved (ap (λ (given : AnswerView). given.state) same ∙ writes);
        }

-- the answer by rows
abbrev answer_over : JobView → Ending → SetState → List RowReading → AnswerView
answer_over job ending start rows =
    let judged : Conclusion (List Core) = conclusion_from by_set start rows in
    answer_with job (rows_end job ending judged) (history_at (trail_from start rows) judged.verdict)

-- a run over more lines, from where it begins
answers : {columns : TraceColumns} (job : JobView) (image : Option (List ℕ)) (trace header : List ℕ)
    (more : List (List ℕ)) (ending : Ending) (start : SetState) → start_of job image ≡ Ok start
    → file_lines job.max_trace trace ≡ record { lines = header ∷ more; ending = ending }
    → header_columns header ≡ Ok columns.named → columns.harts ≡ job.harts
    → job_answer job image (Some trace)
    ≡ Ok (answer_with job (rows_end job ending (conclusion_from by_set start (rows_of columns more)))
    (history_at (trail_from start (rows_of columns more)) (conclusion_from by_set start (rows_of columns more)).verdict))
unfolding job_answer trace_answer lines_answer columns_in
answers {columns} job image trace header more ending start starts file named harts =
    rw (starts, file, named)
    (ap (λ count. Ok (answer_over job ending start (rows_of (record { named = columns.named; harts = count }) more)))
    (sym harts))

-- the first run's answer is that of its lines
judged_lines : (job : JobView) (image : Option (List ℕ)) (trace : List ℕ) (left : RemainingLines) (start : SetState)
    → start_of job image ≡ Ok start → file_lines job.max_trace trace ≡ left
    → job_answer job image (Some trace) ≡ lines_answer job start left
unfolding job_answer trace_answer
judged_lines job image trace left start starts file = rw (starts, file) refl

judged_trace : (job : JobView) (image trace : Option (List ℕ)) (start : SetState) → start_of job image ≡ Ok start
    → job_answer job image trace ≡ trace_answer job start trace
unfolding job_answer
judged_trace job image trace start starts = rw starts refl

-- rows and those after them, where the first agree
all_judged : (start saved : SetState) (columns : TraceColumns) (lines more : List (List ℕ))
    (written : IsWritten (conclusion_from by_set start (rows_of columns lines)) saved)
    → conclusion_from by_set start (rows_of columns (lines ++ more))
    ≡ counted_on written.rows written.valid (conclusion_from by_set saved (rows_of columns more))
all_judged start saved columns lines more written =
    ap (conclusion_from by_set start) (rows_append columns lines more)
    ∙ in_parts by_set start (rows_of columns lines) (rows_of columns more)
    ∙ rw (written.end, written.agreed) refl

pub runs_go_on : (first second : JobView) (image : Option (List ℕ)) (trace after header : List ℕ)
    (lines more : List (List ℕ)) (ending : Ending) (saved : SetState)
    → RunsGoOn first second image trace after header lines more ending saved
runs_go_on first second image trace after header lines more ending saved piece from file =
    let left : RemainingLines = record { lines = header ∷ lines; ending = End } in
    let judged = piece_judged first piece.start saved header lines piece.given
    (sym (judged_lines first image trace left piece.start piece.starts piece.file) ∙ piece.judged) piece.writes in
    let Has : SetState → Type 0 = HasSettings first.profile first.map first.choices first.harts in
    let has : IfSome (Some saved) Has =
    subst (λ state. IfSome state Has) piece.writes
    (trace_keeps Has first piece.start (Some trace) piece.given
    (λ state shown has. row_keeps first.profile first.map first.choices first.harts state shown has)
    (starts_with_settings first image piece.start piece.starts)
    (sym (judged_trace first image (Some trace) piece.start piece.starts) ∙ piece.judged)) in
    let text = saved_text saved.core saved.bytes in
    let back : state_in second.profile second.map second.choices second.harts text ≡ Ok (saved.core, saved.bytes) =
    ap (λ harts. state_in second.profile second.map second.choices harts text) (from.harts ∙ sym has.many)
    ∙ piece.back second.profile second.map second.choices
    (subst (λ profile. HaveSettings profile second.map second.choices saved.core) (sym from.profile)
    (subst (λ map. HaveSettings first.profile map second.choices saved.core) (sym from.map)
    (subst (λ choices. HaveSettings first.profile first.map choices saved.core) (sym from.choices) has.settings))) in
    record {
      columns = judged.columns;
      named = judged.named;
      harts = judged.harts ∙ sym from.harts;
      rows = judged.written.rows;
      valid = judged.written.valid;
      agreed = judged.written.agreed;
      later = conclusion_from by_set saved (rows_of judged.columns more);
      all = all_judged piece.start saved judged.columns lines more judged.written;
      answered =
          answers second (Some (saved_text saved.core saved.bytes)) after header more ending saved
          (begins first second saved from (omega (arith, has.many, piece.some)) back)
          file judged.named (judged.harts ∙ sym from.harts);
    }
