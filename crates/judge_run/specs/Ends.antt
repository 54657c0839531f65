-- How a run of the judge ends.
use Rattle.std.specs.Prelude.{◌≡◌, ℕ, ◌<◌, ◌⊎◌, false, true, List, ◌++◌, take, Option, Some, None, IfSome, option_map}
use Rattle.std.specs.Prelude.{All, Result, Ok, Err, is_none, length}
use Rattle.hart_words.specs.declared.choices.Choices.{Choices}
use Rattle.hart_words.specs.declared.map.Map.{Map}
use Rattle.outside_ports.specs.Counts.{Rose}
use Rattle.outside_ports.specs.Ports.{Files}
use Rattle.judge_words.specs.Job.{JobView, job_of}
use Rattle.trace_report.specs.Report.{status_of}
use Rattle.trace_maker.specs.Texts.{made_image, made_trace}
use Rattle.csr_file.specs.declared.profile.CsrProfile.{CsrProfile}
use Rattle.hart_step.specs.HartSets.{SetState, set_state_of}
use Rattle.page_layers.specs.Memories.{layered_bytes, layered_ram}
use Rattle.row_origin.specs.Origins.{origins_in}
use Rattle.state_text.specs.Laws.{IsZeroOutside}
use Rattle.state_text.specs.Texts.{saved_text, state_in}
use Rattle.judge_run.specs.declared.answer.Answer.{Answer}
use Rattle.judge_run.specs.declared.stop.Stop.{Stop}
use Rattle.judge_run.specs.declared.stop.Stop.TheVariants.{Known, ReadFault, NoMemory}
use Rattle.judge_run.specs.Answer.{AnswerView, Step, answer, answer_bytes, answer_by_line, answer_of_step, is_made}
use Rattle.judge_run.specs.Answer.{job_answer}
use Rattle.judge_run.specs.Starts.{CanGoOn, HaveSettings}
use Rattle.judge_run.specs.Stops.{LacksFile, is_no_job}

-- what contracts see of the outside at one moment: the shelf's faults and misses, what the sink holds, its faults
pub record OutsideState : Type 0 where
  pub faults : ℕ
  pub misses : ℕ
  pub held : Option (List ℕ)
  pub sink_faults : ℕ

-- the moment of a shelf and a sink, by what contracts see of either
abbrev pub moment_of : {H O : Type 0} → (H → ℕ) → (H → ℕ) → (O → Option (List ℕ)) → (O → ℕ) → H → O → OutsideState
moment_of faults_of misses_of held_of sink_faults_of shelf out = record {
  faults = faults_of shelf;
  misses = misses_of shelf;
  held = held_of out;
  sink_faults = sink_faults_of out;
}

-- the moment of a sink alone
abbrev pub sink_moment : {O : Type 0} → (O → Option (List ℕ)) → (O → ℕ) → O → OutsideState
sink_moment held_of faults_of out =
    record { faults = 0; misses = 0; held = held_of out; sink_faults = faults_of out }

-- an answer in code, as it is defined
abbrev pub answer_view : Answer → AnswerView
answer_view given = record {
  outcome = given.outcome;
  state = option_map (set_state_of layered_bytes) given.harts;
  origins = option_map origins_in given.origins;
}

-- the harts whose state is written can be stepped on, and are no more than a state may have
abbrev pub CanStepOn : Answer → Type 0
CanStepOn given = IfSome given.harts (CanGoOn layered_ram)

-- the text of a state is read again as that state, by the profile, the map and the choices that its harts have
abbrev pub IsReadBack : SetState → Type 0
IsReadBack state =
    (profile : CsrProfile) (map : Map) (choices : Choices) → HaveSettings profile map choices state.core
    → state_in profile map choices (length state.core) (saved_text state.core state.bytes) ≡ Ok (state.core, state.bytes)

-- memory is 0 outside the RAM of each hart's map
abbrev pub HasZerosOutside : SetState → Type 0
HasZerosOutside state = All (λ core. IsZeroOutside core.map.ram state.bytes) state.core

-- the text of an answer was written whole, and the status is its own
pub record Wrote (Is : AnswerView → Type 0) (before now : OutsideState) (status : ℕ) : Type 0 where
  pub given : AnswerView
  pub is : Is given
  pub own : status ≡ status_of given.outcome
  pub held : now.held ≡ option_map (λ bytes. bytes ++ answer_bytes given) before.held
  pub faults : now.faults ≡ before.faults
  pub misses : now.misses ≡ before.misses
  pub sink_faults : now.sink_faults ≡ before.sink_faults

-- the sink failed, and holds the front of such a text besides
pub record Cut (Is : AnswerView → Type 0) (before now : OutsideState) (status : ℕ) : Type 0 where
  pub given : AnswerView
  pub count : ℕ
  pub is : Is given
  pub own : status ≡ 5
  pub held : now.held ≡ option_map (λ bytes. bytes ++ take count (answer_bytes given)) before.held
  pub faults : now.faults ≡ before.faults
  pub misses : now.misses ≡ before.misses
  pub rose : Rose before.sink_faults now.sink_faults

-- the shelf failed where it may, and nothing was written; it missed a file only where one lacks
pub record Unread (May Lacks : Type 0) (before now : OutsideState) (status : ℕ) : Type 0 where
  pub own : status ≡ 5
  pub held : now.held ≡ before.held
  pub sink_faults : now.sink_faults ≡ before.sink_faults
  pub rose : Rose before.faults now.faults
  pub may : May
  pub lacks : before.misses < now.misses → Lacks

-- memory was refused, and nothing changed
pub record OutOfMemory (before now : OutsideState) (status : ℕ) : Type 0 where
  pub own : status ≡ 6
  pub same : now ≡ before

-- the four ways in which a run ends that comes to such an answer
abbrev pub EndsBy : (AnswerView → Type 0) → (may lacks : Type 0) → OutsideState → OutsideState → ℕ → Type 0
EndsBy Is May Lacks before now status =
    Wrote Is before now status
    ⊎ (Cut Is before now status ⊎ (Unread May Lacks before now status ⊎ OutOfMemory before now status))

-- the answer is that of a job over files, where these are told: then the text of a state is read back
pub record IsFilesAnswer (known_files : Option Files) (meant : Files → Step AnswerView) (given : AnswerView)
    : Type 0 where
  pub job : is_no_job given.outcome ≡ false
  pub told : (files : Files) → known_files ≡ Some files → answer_of_step (meant files) ≡ Some given
  pub back : (files : Files) → known_files ≡ Some files → IfSome given.state IsReadBack

abbrev pub EndsOverFiles : Option Files → (Files → Step AnswerView) → OutsideState → OutsideState → ℕ → Type 0
EndsOverFiles known_files meant before now status =
    EndsBy (IsFilesAnswer known_files meant) (Unit {0}) (LacksFile known_files meant) before now status

-- the answer is that of a job over what is made, and no file is taken
pub record IsMadeAnswer (asked : JobView) (number rows : ℕ) (given : AnswerView) : Type 0 where
  pub job : is_no_job given.outcome ≡ false
  pub made : answer_of_step (job_answer asked (Some (made_image number)) (Some (made_trace number rows))) ≡ Some given
  pub back : IfSome given.state IsReadBack

abbrev pub EndsOverMade : JobView → (number rows : ℕ) → OutsideState → OutsideState → ℕ → Type 0
EndsOverMade job number rows before now status = EndsBy (IsMadeAnswer job number rows) ⊥ ⊥ before now status

-- the answer is that of the words where files are told, and where the trace is made, whatever files there are; for every
-- shelf the words alone decide whether there is a job
pub record IsWordsAnswer (known_files : Option Files) (words : List (List ℕ)) (given : AnswerView) : Type 0 where
  pub job : is_no_job given.outcome ≡ is_none (job_of words)
  pub answered : (files : Files) → known_files ≡ Some files → answer words files ≡ Some given
  pub made : is_made words ≡ true → (files : Files) → answer words files ≡ Some given
  pub back : (files : Files) → known_files ≡ Some files → IfSome given.state IsReadBack

-- the four ways in which a run ends; a shelf, which what is made does not take, misses a file only where the answer
-- lacks a told one
abbrev pub Ends : Option Files → List (List ℕ) → OutsideState → OutsideState → ℕ → Type 0
Ends known_files words before now status =
    EndsBy (IsWordsAnswer known_files words) (is_made words ≡ false)
    ((files : Files) × (known_files ≡ Some files) × (answer words files ≡ None)) before now status

-- the text of an answer was written whole, or a write failed
pub record WritesAll (given : AnswerView) (status : ℕ) (before now : Option (List ℕ)) (faults later : ℕ) : Type 0 where
  pub own : status ≡ status_of given.outcome
  pub held : now ≡ option_map (λ bytes. bytes ++ answer_bytes given) before
  pub no_fault : later ≡ faults

pub record WritesFront (given : AnswerView) (status : ℕ) (before now : Option (List ℕ)) (faults later : ℕ) : Type
    0 where
  pub count : ℕ
  pub own : status ≡ 5
  pub held : now ≡ option_map (λ bytes. bytes ++ take count (answer_bytes given)) before
  pub rose : Rose faults later

abbrev pub Writes : AnswerView → ℕ → Option (List ℕ) → Option (List ℕ) → ℕ → ℕ → Type 0
Writes given status before now faults later =
    WritesAll given status before now faults later ⊎ WritesFront given status before now faults later

-- nothing was written
pub record WritesNone (code status : ℕ) (before now : Option (List ℕ)) (faults later : ℕ) : Type 0 where
  pub own : status ≡ code
  pub held : now ≡ before
  pub no_fault : later ≡ faults

-- what was found was written: an answer, or the outcome that was known before; or nothing, where a read failed or memory
-- ran out
abbrev pub WritesFound : {X : Type 0} → (X → AnswerView) → Result X Stop → ℕ → Option (List ℕ) → Option (List ℕ) → ℕ
    → ℕ → Type 0
WritesFound view (Ok given) status before now faults later = Writes (view given) status before now faults later
WritesFound view (Err (Known outcome)) status before now faults later =
    Writes (answer_by_line outcome) status before now faults later
WritesFound view (Err ReadFault) status before now faults later = WritesNone 5 status before now faults later
WritesFound view (Err NoMemory) status before now faults later = WritesNone 6 status before now faults later

-- the state that is written of what was found is read back, where its memory is 0 outside RAM
abbrev pub BacksFound : {X : Type 0} → (X → AnswerView) → Result X Stop → Type 0
BacksFound view (Ok given) =
    IfSome (view given).state (λ state. HasZerosOutside state → IsReadBack state)
BacksFound view (Err stop) = Unit {0}

-- the status and the bytes are those of the answer
abbrev pub IsAnswer : Option AnswerView → ℕ → Option (List ℕ) → Option (List ℕ) → Type 0
IsAnswer None status before now = ⊥
IsAnswer (Some given) status before now =
    (status ≡ status_of given.outcome) × (now ≡ option_map (λ bytes. bytes ++ answer_bytes given) before)

-- the text of the state that an answer has, if any, is read back
abbrev pub HasStateReadBack : Option AnswerView → Type 0
HasStateReadBack None = Unit {0}
HasStateReadBack (Some given) = IfSome given.state IsReadBack
