-- Calls that go towards the answer, and what stops them.
use Rattle.std.specs.Prelude.{◌≡◌, ℕ, ◌<◌, ◌≤◌, Bool, true, false, Option, Some, None, Result, Ok, Err}
use Rattle.outside_ports.specs.Counts.{Rose}
use Rattle.outside_ports.specs.Ports.{Files}
use Rattle.judge_words.specs.Job.{JobView}
use Rattle.elf_image.specs.declared.fault.ElfError.{ElfError}
use Rattle.elf_image.specs.declared.fault.ElfError.TheVariants as elf
use Rattle.state_text.specs.declared.fault.StateError.{StateError}
use Rattle.state_text.specs.declared.fault.StateError.TheVariants as states
use Rattle.image_text.specs.declared.fault.ImageError.{ImageError}
use Rattle.image_text.specs.declared.fault.ImageError.TheVariants as errors
use Rattle.trace_lines.specs.declared.piece.LineError.{LineError}
use Rattle.trace_lines.specs.declared.piece.LineError.TheVariants as lines
use Rattle.trace_report.specs.declared.outcome.Outcome.{Outcome}
use Rattle.trace_report.specs.declared.outcome.Ruling.{Ruling}
use Rattle.trace_report.specs.declared.outcome.Ruling.TheVariants as rulings
use Rattle.judge_run.specs.declared.answer.Answer.{Answer}
use Rattle.judge_run.specs.declared.stop.Stop.{Stop}
use Rattle.judge_run.specs.declared.stop.Stop.TheVariants.{Known, ReadFault, NoMemory}
use Rattle.judge_run.specs.Answer.{Step, outcome_of}

-- what a call returned, seen by `view`, is the step that is meant, unless a read failed or memory ran out
abbrev pub MeantBy : {X Y : Type 0} → (X → Y) → Result X Stop → Step Y → Type 0
MeantBy view (Ok x) meant = meant ≡ Ok (view x)
MeantBy view (Err (Known outcome)) meant = meant ≡ Err (Some outcome)
MeantBy view (Err ReadFault) meant = Unit {0}
MeantBy view (Err NoMemory) meant = Unit {0}

-- the same where files are told
abbrev pub MeantWhereKnown : {X Y : Type 0} → Option Files → (X → Y) → Result X Stop → (Files → Step Y) → Type 0
MeantWhereKnown None view result meant = Unit {0}
MeantWhereKnown (Some files) view result meant = MeantBy view result (meant files)

-- the count of faults rises exactly with a failed read
abbrev pub CountsStop : {X : Type 0} → Result X Stop → ℕ → ℕ → Type 0
CountsStop (Ok x) before now = now ≡ before
CountsStop (Err (Known outcome)) before now = now ≡ before
CountsStop (Err NoMemory) before now = now ≡ before
CountsStop (Err ReadFault) before now = Rose before now × (before ≤ now)

-- the misses rise only with a failed read, where the step lacks a told file
abbrev pub LacksFile : {Y : Type 0} → Option Files → (Files → Step Y) → Type 0
LacksFile None meant = ⊥
LacksFile (Some files) meant = meant files ≡ Err None

abbrev pub MissesStop : {X Y : Type 0} → Result X Stop → Option Files → (Files → Step Y) → ℕ → ℕ → Type 0
MissesStop (Ok x) known_files meant before now = now ≡ before
MissesStop (Err (Known outcome)) known_files meant before now = now ≡ before
MissesStop (Err NoMemory) known_files meant before now = now ≡ before
MissesStop (Err ReadFault) known_files meant before now = before < now → LacksFile known_files meant

-- the outcome of words that ask for no job
abbrev pub is_no_job_ruling : Ruling → Bool
is_no_job_ruling rulings.NoJob = true
is_no_job_ruling _ = false

abbrev pub is_no_job : Outcome → Bool
is_no_job outcome = is_no_job_ruling outcome.ruling

-- an outcome of a job is not that of words that ask for none
abbrev pub IsJobs : {X : Type 0} → Result X Stop → Type 0
IsJobs (Ok x) = Unit {0}
IsJobs (Err (Known outcome)) = is_no_job outcome ≡ false
IsJobs (Err ReadFault) = Unit {0}
IsJobs (Err NoMemory) = Unit {0}

-- no read failed
abbrev pub WasRead : {X : Type 0} → Result X Stop → Type 0
WasRead (Ok x) = Unit {0}
WasRead (Err (Known outcome)) = Unit {0}
WasRead (Err ReadFault) = ⊥
WasRead (Err NoMemory) = Unit {0}

-- the same of a call that gives an answer
abbrev pub IsJobsAnswer : Result Answer Stop → Type 0
IsJobsAnswer (Ok given) = is_no_job given.outcome ≡ false
IsJobsAnswer (Err (Known outcome)) = is_no_job outcome ≡ false
IsJobsAnswer (Err ReadFault) = Unit {0}
IsJobsAnswer (Err NoMemory) = Unit {0}

-- how an image that cannot be read stops the run
abbrev pub image_stop : JobView → ImageError → Stop
image_stop job (errors.Fault fault) = Known (outcome_of job (rulings.ImageFault fault))
image_stop job errors.NoMemory = NoMemory

abbrev pub elf_stop : JobView → ElfError → Stop
elf_stop job (elf.Fault fault) = Known (outcome_of job (rulings.ElfFault fault))
elf_stop job elf.NoMemory = NoMemory

abbrev pub state_stop : JobView → StateError → Stop
state_stop job (states.Fault fault) = Known (outcome_of job (rulings.StateFault fault))
state_stop job states.NoMemory = NoMemory

-- how a trace whose lines cannot be taken stops the run
abbrev pub line_stop : LineError → Stop
line_stop lines.ReadFault = ReadFault
line_stop lines.NoMemory = NoMemory
