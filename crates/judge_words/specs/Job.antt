-- What the words of a command line ask for.
use Rattle.std.specs.Prelude.{◌≡◌, ◌≤◌, ◌%◌, ℕ, List, Option, Some, None, IfSome, Result, Ok, Err, codes, if◌then◌else◌}
use Rattle.std.specs.Prelude.{replicate, string_bytes}
use Rattle.hart_words.specs.declared.map.Map.{Map}
use Rattle.hart_words.specs.declared.map.TheConstants.{MOST_DEVICES}
use Rattle.hart_words.specs.Map.{map_of, map_with}
use Rattle.hart_words.specs.declared.choices.Choices.{Choices}
use Rattle.hart_words.specs.Choices.{choices_of, plain_choices, with_rows}
use Rattle.hart_words.specs.Spans.{span_of}
use Rattle.csr_file.specs.declared.profile.CsrProfile.{CsrProfile}
use Rattle.csr_file.specs.Profiles.{plain_profile}
use Rattle.clap.specs.Walk.{Row, first_of}
use Rattle.judge_words.specs.Commands.{command_line, command_entered, is_given, values_given_to}
use Rattle.judge_words.specs.Values.{◌>>=◌, first_pc_in, span_in, image_limit_in, trace_limit_in, workers_in}
use Rattle.judge_words.specs.Values.{segment_in, window_in, harts_in, made_number_in, made_rows_in, misaligned_in}
use Rattle.judge_words.specs.Values.{marks_in, block_size_in, bits_in, insn_bits_in, device_faults_in}
use Rattle.judge_words.specs.Lists.{io_in, trap_values_in}
use Rattle.judge_words.specs.Profiles.{csr_in, entry_bits_in, entry_count_in, lines_in}
use Rattle.judge_words.specs.Cores.{core_in, said}
use Rattle.judge_words.specs.declared.cores.Core.{Core}
use Rattle.judge_words.specs.declared.values.TheConstants.{RAM_BASE, RAM_SIZE, MOST_IMAGE_BYTES, MOST_TRACE_BYTES}
use Rattle.judge_words.specs.declared.values.TheConstants.{MOST_WORKERS, MOST_LINES, MOST_SEGMENTS, MOST_HARTS}
use Rattle.judge_words.specs.declared.values.TheConstants.{MOST_MADE_NUMBER, MOST_MADE_ROWS}
use Rattle.judge_words.specs.declared.job.Sharing.{Sharing}
use Rattle.judge_words.specs.declared.job.Command.{Command}
use Rattle.judge_words.specs.declared.job.Command.TheVariants.{Judge, Make}
use Rattle.judge_words.specs.declared.job.Product.{Product}
use Rattle.judge_words.specs.declared.job.Product.TheVariants.{Line, Origins, State}
use Rattle.judge_words.specs.declared.job.Job.{Job}
use Rattle.judge_words.specs.declared.job.WordError.{WordError}
use Rattle.judge_words.specs.declared.job.WordError.TheVariants.{NotAJob, NoMemory}

-- the command, the address of the first instruction where one is given, the map, how many harts there are, the most
-- bytes of either text, the choices of the implementation, its control and status registers, and how the work is
-- shared out
pub record JobView : Type 0 where
  pub command : Command (List ℕ)
  pub pc : Option ℕ
  pub map : Map
  pub harts : ℕ
  pub max_image : ℕ
  pub max_trace : ℕ
  pub choices : Choices
  pub profile : CsrProfile
  pub sharing : Sharing

-- the choices of the implementation, where a reservation may have so many bytes
unfoldable pub given_choices : Core → List Row → Option Choices
given_choices core given = do
  misaligned ← said core given (codes "misaligned") >>= misaligned_in
  trap_values ← said core given (codes "mtval") >>= trap_values_in
  marks ← said core given (codes "ad") >>= marks_in
  block_size ← said core given (codes "reserve") >>= block_size_in
  bits ← said core given (codes "bits") >>= bits_in
  choices_of misaligned trap_values marks block_size bits

-- the same with what rows show of instructions, and say of devices
unfoldable pub rows_choices : Core → List Row → Option Choices
rows_choices core given = do
  insn_bits ← said core given (codes "insn") >>= insn_bits_in
  device_faults ← said core given (codes "io-faults") >>= device_faults_in
  choices ← given_choices core given
  Some (with_rows insn_bits device_faults choices)

-- the choices of the implementation for its control and status registers
unfoldable pub given_profile : Core → List Row → Option CsrProfile
given_profile core given = do
  profile ← csr_in (said core given (codes "csr"))
  entry_count ← said core given (codes "pmp") >>= entry_count_in
  entry_bits ← said core given (codes "pmp-bits") >>= entry_bits_in
  lines ← said core given (codes "lines") >>= lines_in
  Some (record profile { entry_count = entry_count; entry_bits = entry_bits; lines = lines })

-- RAM and the ranges of devices, where no two have a byte in common
unfoldable pub given_map : List Row → Option Map
given_map given = do
  ram ← first_of (codes "ram") given >>= span_in
  io ← io_in (first_of (codes "io") given)
  map_with ram io

-- how the work is shared out: so many workers, lines of a segment and segments of a window
unfoldable pub sharing_of : List Row → Option Sharing
sharing_of given = do
  workers ← first_of (codes "workers") given >>= workers_in
  segment ← first_of (codes "segment") given >>= segment_in
  window ← first_of (codes "window") given >>= window_in
  Some (record { workers = workers; segment = segment; window = window })

-- the job over files that is given to a command, which writes this of the trace
unfoldable pub files_job : Product → List Row → Option JobView
files_job product given = do
  image ← first_of (codes "image") given
  trace ← first_of (codes "trace") given
  pc ← first_pc_in (first_of (codes "pc") given)
  map ← given_map given
  harts ← first_of (codes "harts") given >>= harts_in
  max_image ← first_of (codes "max-image") given >>= image_limit_in
  max_trace ← first_of (codes "max-trace") given >>= trace_limit_in
  core ← core_in (first_of (codes "profile") given)
  choices ← rows_choices core given
  profile ← given_profile core given
  sharing ← sharing_of given
  Some (record {
    command = Judge image trace product;
    pc = pc;
    map = map;
    harts = harts;
    max_image = max_image;
    max_trace = max_trace;
    choices = choices;
    profile = profile;
    sharing = sharing;
  })

-- the job that is given to the command `make`: RAM, one hart, choices and control and status registers as `judge` has
-- them where nothing else is said
unfoldable pub made_job : List Row → Option JobView
made_job given = do
  number ← first_of (codes "number") given >>= made_number_in
  rows ← first_of (codes "rows") given >>= made_rows_in
  ram ← span_of RAM_BASE RAM_SIZE
  map ← map_of ram None
  sharing ← sharing_of given
  Some (record {
    command = Make number rows;
    pc = None;
    map = map;
    harts = 1;
    max_image = MOST_IMAGE_BYTES;
    max_trace = MOST_TRACE_BYTES;
    choices = plain_choices;
    profile = plain_profile;
    sharing = sharing;
  })

-- what `judge` writes: with `--origin` who wrote what a differing row read, after the line
abbrev pub line_product : List Row → Product
line_product given = if is_given (codes "origin") given then Origins else Line

-- the job of the command that was given anything: `judge`, `state` or `make`
abbrev pub job_from : (judge state make : Option (List Row)) → Option JobView
job_from (Some given) state make = files_job (line_product given) given
job_from None (Some given) make = files_job State given
job_from None None (Some given) = made_job given
job_from None None None = None

-- the job that the words of a command line ask for, the program's name first, where there is one
unfoldable pub job_of : List (List ℕ) → Option JobView
job_of words =
    let entered = command_entered command_line words in
    job_from (values_given_to (codes "judge") entered) (values_given_to (codes "state") entered)
    (values_given_to (codes "make") entered)

-- the same command by what its names are
abbrev pub command_by : {N M : Type 0} → (N → M) → Command N → Command M
command_by view (Judge image trace product) = Judge (view image) (view trace) product
command_by view (Make number rows) = Make number rows

-- a job as it is defined
abbrev pub job_view : Job → JobView
job_view job = record {
  command = command_by string_bytes job.command;
  pc = job.pc;
  map = job.map;
  harts = job.harts;
  max_image = job.max_image;
  max_trace = job.max_trace;
  choices = job.choices;
  profile = job.profile;
  sharing = job.sharing;
}

-- a call returns the job that is meant, or none where none is meant, unless memory ran out
abbrev pub GivesJob : Option JobView → Result Job WordError → Type 0
GivesJob meant (Ok job) = meant ≡ Some (job_view job)
GivesJob meant (Err NotAJob) = meant ≡ None
GivesJob meant (Err NoMemory) = Unit {0}

-- what holds of every way to share work out
pub record IsLawfulSharing (sharing : Sharing) : Type 0 where
  pub workers : (1 ≤ sharing.workers) × (sharing.workers ≤ MOST_WORKERS)
  pub segment : (1 ≤ sharing.segment) × (sharing.segment ≤ MOST_LINES)
  pub window : (1 ≤ sharing.window) × (sharing.window ≤ MOST_SEGMENTS)

-- what holds of every job
pub record IsLawful (job : JobView) : Type 0 where
  pub even : IfSome job.pc (λ pc. pc % 2 ≡ 0)
  pub harts : (1 ≤ job.harts) × (job.harts ≤ MOST_HARTS)
  pub max_image : job.max_image ≤ MOST_IMAGE_BYTES
  pub max_trace : job.max_trace ≤ MOST_TRACE_BYTES
  pub sharing : IsLawfulSharing job.sharing

-- what holds of every job of `make`: no address of the first instruction is given, RAM, the most
-- bytes of either text, the choices and the control and status registers are those that stand where
-- nothing else is said, there are no devices, and one hart
pub record IsMadeJob (job : JobView) (number rows : ℕ) : Type 0 where
  pub small : number ≤ MOST_MADE_NUMBER
  pub within_most_rows : rows ≤ MOST_MADE_ROWS
  pub pc : job.pc ≡ None
  pub base : job.map.ram.base ≡ RAM_BASE
  pub size : job.map.ram.size ≡ RAM_SIZE
  pub io : job.map.io ≡ replicate MOST_DEVICES None
  pub harts : job.harts ≡ 1
  pub max_image : job.max_image ≡ MOST_IMAGE_BYTES
  pub max_trace : job.max_trace ≡ MOST_TRACE_BYTES
  pub choices : job.choices ≡ plain_choices
  pub profile : job.profile ≡ plain_profile
