-- The steps towards the answer, one after the other.
use Rattle.std.proofs.Common.{◌≡◌, ℕ, List, Bool, true, false, is_some, option_and_then, [], ◌∷◌, length, nat_lt}
use Rattle.std.proofs.Common.{if◌then◌else◌, Option, Some, None, Result, Ok, Err, refl, sym, ap, ap₂, ◌∙◌, subst}
use Rattle.std.proofs.Common.{string_bytes}
use Rattle.outside_ports.specs.Ports.{Files}
use Rattle.judge_words.specs.Job.{JobView, job_of, job_view, command_by}
use Rattle.judge_words.specs.declared.job.Job.{Job}
use Rattle.judge_words.specs.declared.job.Command.{Command}
use Rattle.judge_words.specs.declared.job.Command.TheVariants.{Judge}
use Rattle.judge_words.specs.declared.job.Product.{Product}
use Rattle.hart_step.specs.HartSets.{SetState}
use Rattle.hart_step.specs.declared.state.Core.{Core}
use Rattle.hart_words.specs.Memory.{Bytes}
use Rattle.state_text.specs.declared.fault.StateFault.{StateFault}
use Rattle.state_text.specs.Texts.{state_in}
use Rattle.trace_report.specs.declared.outcome.Outcome.{Outcome}
use Rattle.trace_report.specs.declared.outcome.Ruling.TheVariants.{ImageTooLarge}
use Rattle.elf_image.specs.declared.fault.ElfFault.{ElfFault}
use Rattle.elf_image.specs.Image.{elf_of}
use Rattle.image_text.specs.declared.fault.ImageFault.{ImageFault}
use Rattle.image_text.specs.Image.{image_of}
use Rattle.trace_lines.specs.declared.piece.Ending.{Ending}
use Rattle.trace_lines.specs.Lines.{file_lines}
use Rattle.rvfi_rows.specs.declared.fault.HeaderFault.{HeaderFault}
use Rattle.rvfi_rows.specs.Columns.{ColumnList, header_columns}
use Rattle.judge_run.specs.declared.start.Start.{Start}
use Rattle.judge_run.specs.declared.stop.Stop.{Stop}
use Rattle.judge_run.specs.declared.stop.Stop.TheVariants.{Known, ReadFault, NoMemory}
use Rattle.judge_run.specs.declared.answer.Answer.{Answer}
use Rattle.judge_run.specs.Answer.{Step, columns_in, elf_start, image_in, is_elf, is_made, is_saved, saved_start, text_start}
use Rattle.judge_run.specs.Answer.{answer_step_of, job_answer, lines_answer, made_of, outcome_of, start_in, start_of}
use Rattle.judge_run.specs.Answer.{trace_answer, trace_in}
use Rattle.judge_run.specs.Ends.{answer_view}
use Rattle.judge_run.specs.Stops.{MeantBy, MeantWhereKnown, MissesStop, LacksFile}

-- ---- the image, then the trace

-- an image that stops the run
stopped_by : (job : JobView) (image trace : Option (List ℕ)) (stop : Option Outcome) → start_of job image ≡ Err stop
    → job_answer job image trace ≡ Err stop
unfolding job_answer
stopped_by job image trace stop refused = rw refused refl

pub job_stop : {X : Type 0} (view : X → SetState) (known_files : Option Files) (job : JobView) (image trace : List ℕ)
    (stop : Stop) → MeantWhereKnown known_files view (Err stop) (λ files. start_of job (files image))
    → MeantWhereKnown {X = Answer} known_files answer_view (Err stop)
    (λ files. job_answer job (files image) (files trace))
job_stop view None job image trace stop meant = tt
job_stop view (Some files) job image trace (Known outcome) meant =
    stopped_by job (files image) (files trace) (Some outcome) meant
job_stop view (Some files) job image trace ReadFault meant = tt
job_stop view (Some files) job image trace NoMemory meant = tt

lacks_start : (known_files : Option Files) (job : JobView) (image trace : List ℕ)
    → LacksFile known_files (λ files. start_of job (files image))
    → LacksFile known_files (λ files. job_answer job (files image) (files trace))
lacks_start None job image trace lacks = lacks
lacks_start (Some files) job image trace lacks = stopped_by job (files image) (files trace) None lacks

-- the trace decides where there is a start
goes_on : (job : JobView) (image trace : Option (List ℕ)) (start : SetState) → start_of job image ≡ Ok start
    → job_answer job image trace ≡ trace_answer job start trace
unfolding job_answer
goes_on job image trace start read = rw read refl

along : {X Y : Type 0} (view : X → Y) (result : Result X Stop) (one other : Step Y) → one ≡ other
    → MeantBy view result one → MeantBy view result other
along view result one other same meant =
    let P : Step _ → Type 0 = λ step. MeantBy view result step in subst P same meant

-- the image of a job was read, and the run starts where this shows
pub record ReadsImage {X : Type 0} (view : X → SetState) (files : Option Files) (job : JobView) (name : List ℕ)
    (image : X) : Type 0 where
  pub read : MeantWhereKnown files view (Ok image) (λ files. start_of job (files name))

pub job_trace : {X : Type 0} {view : X → SetState} {job : JobView} {name : List ℕ} {image : X} (files : Option Files)
    (trace : List ℕ) (result : Result Answer Stop) → ReadsImage view files job name image
    → MeantWhereKnown files answer_view result (λ files. trace_answer job (view image) (files trace))
    → MeantWhereKnown files answer_view result (λ files. job_answer job (files name) (files trace))
job_trace None trace result image_is meant = tt
job_trace {X} {view} {job} {name} {image} (Some files) trace result image_is meant =
    along answer_view result (trace_answer job (view image) (files trace))
    (job_answer job (files name) (files trace))
    (sym (goes_on job (files name) (files trace) (view image) image_is.read)) meant

lacks_trace : {X : Type 0} {view : X → SetState} {job : JobView} {name : List ℕ} {image : X} (files : Option Files)
    (trace : List ℕ) → ReadsImage view files job name image
    → LacksFile files (λ files. trace_answer job (view image) (files trace))
    → LacksFile files (λ files. job_answer job (files name) (files trace))
lacks_trace None trace image_is lacks = lacks
lacks_trace {X} {view} {job} {name} {image} (Some files) trace image_is lacks =
    goes_on job (files name) (files trace) (view image) image_is.read ∙ lacks

-- the misses
pub missed_start : (files : Option Files) (job : JobView) (image trace : List ℕ) (stop : Stop)
    (before now : ℕ) → MissesStop {X = Start} (Err stop) files (λ files. start_of job (files image)) before now
    → MissesStop {X = Answer} (Err stop) files (λ files. job_answer job (files image) (files trace)) before now
missed_start files job image trace (Known outcome) before now misses = misses
missed_start files job image trace NoMemory before now misses = misses
missed_start files job image trace ReadFault before now misses =
    λ rise. lacks_start files job image trace (misses rise)

pub missed_trace : {X : Type 0} {view : X → SetState} {job : JobView} {name : List ℕ} {image : X} {before mid : ℕ}
    (files : Option Files) (trace : List ℕ) (result : Result Answer Stop) (now : ℕ)
    → ReadsImage view files job name image → mid ≡ before
    → MissesStop result files (λ files. trace_answer job (view image) (files trace)) mid now
    → MissesStop result files (λ files. job_answer job (files name) (files trace)) before now
missed_trace files trace (Ok outcome) now image_is same misses = misses ∙ same
missed_trace files trace (Err (Known outcome)) now image_is same misses = misses ∙ same
missed_trace files trace (Err NoMemory) now image_is same misses = misses ∙ same
missed_trace files trace (Err ReadFault) now image_is same misses =
    λ rise. lacks_trace files trace image_is (misses (rw same rise))

-- ---- the words, then image and trace

pub judged_as : (words : List (List ℕ)) (files : Files) (job : Job) (command : Command (List ℕ))
    → job_of words ≡ Some (job_view job) → command_by string_bytes job.command ≡ command
    → answer_step_of words files ≡ job_answer (job_view job) (image_in command files) (trace_in command files)
unfolding answer_step_of
judged_as words files job command is from =
    (let whole : answer_step_of words files
    ≡ job_answer (job_view job) (image_in (command_by string_bytes job.command) files)
    (trace_in (command_by string_bytes job.command) files) = rw is refl in whole)
    ∙ ap (λ command. job_answer (job_view job) (image_in command files) (trace_in command files)) from

-- the words ask for a job over files of these names
pub record AsksForFiles (words : List (List ℕ)) (job : Job) (image trace : List ℕ) : Type 0 where
  pub job_is : job_of words ≡ Some (job_view job)
  pub product : Product
  pub command_is : command_by string_bytes job.command ≡ Judge image trace product

pub asks_for_files : {words : List (List ℕ)} {job : Job} {one other : _} {product : Product} {image trace : List ℕ}
    → job_of words ≡ Some (job_view job) → job.command ≡ Judge one other product → string_bytes one ≡ image
    → string_bytes other ≡ trace → AsksForFiles words job image trace
asks_for_files {product = product} asked is one other = record {
  job_is = asked;
  product = product;
  command_is =
      ap (command_by string_bytes) is ∙ ap₂ (λ image trace. Judge image trace product) one other;
}

-- words that ask for a job over files ask for nothing that is made
pub files_are_not_made : {words : List (List ℕ)} {job : Job} {image trace : List ℕ}
    → AsksForFiles words job image trace → is_made words ≡ true → ⊥
files_are_not_made asks made =
    let never : false ≡ true =
    ap (λ (command : Command (List ℕ)). is_some (made_of command)) (sym asks.command_is)
    ∙ ap (λ job. is_some (option_and_then (λ job. made_of job.command) job)) (sym asks.job_is) ∙ made in cc

-- where both texts are there, none is lacked
start_lacks_none : (job : JobView) (text : List ℕ) → start_in job text ≡ Err None → ⊥
unfolding start_in
start_lacks_none job text lacks =
    by (nat_lt job.max_image (length text)) (is_elf text) (is_saved text) (elf_of job.map.ram text)
    (state_in job.profile job.map job.choices job.harts text) (image_of job.map.ram text) lacks
  where
    by : (large elf saved : Bool) (file : Result ((ℕ → Option ℕ) × ℕ) ElfFault)
        (state : Result (List Core × Bytes) StateFault) (image : Result (ℕ → Option ℕ) ImageFault)
        → (if large then Err (Some (outcome_of job (ImageTooLarge job.max_image)))
        else if elf then elf_start job file else if saved then saved_start job state else text_start job image)
        ≡ Err None → ⊥
    by true elf saved file state image lacks = cc
    by false true saved (Err fault) state image lacks = cc
    by false true saved (Ok read) state image lacks = cc
    by false false true file (Err fault) image lacks = cc
    by false false true file (Ok read) image lacks = cc
    by false false false file state (Err fault) lacks = cc
    by false false false file state (Ok bytes) lacks = cc

lines_lack_none : (job : JobView) (start : SetState) (lines : List (List ℕ)) (ending : Ending)
    → lines_answer job start (record { lines = lines; ending = ending }) ≡ Err None → ⊥
unfolding lines_answer columns_in
lines_lack_none job start [] ending lacks = cc
lines_lack_none job start (header ∷ rows) ending lacks = by (header_columns header) refl
  where
    by : (named : Result ColumnList HeaderFault) → header_columns header ≡ named → ⊥
    by (Err fault) is = let stopped = rw is at lacks in cc
    by (Ok columns) is = let stopped = rw is at lacks in cc

pub lacks_none : (job : JobView) (image trace : List ℕ) → job_answer job (Some image) (Some trace) ≡ Err None → ⊥
unfolding job_answer start_of trace_answer
lacks_none job image trace lacks = by (start_in job image) refl
  where
    by : (read : Step SetState) → start_in job image ≡ read → ⊥
    by (Err None) is = start_lacks_none job image is
    by (Err (Some outcome)) is = let stopped = rw is at lacks in cc
    by (Ok start) is =
        let left = file_lines job.max_trace trace in
        let answer_step_of : lines_answer job start left ≡ Err None = rw is at lacks in
        lines_lack_none job start left.lines left.ending answer_step_of
