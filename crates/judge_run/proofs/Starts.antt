-- Where a run starts, by what was read of an image.
use Rattle.std.proofs.Common.{◌≡◌, ℕ, true, false, List, length, nat_lt, Option, Some, None, IsSome, Result, Ok, Err}
use Rattle.std.proofs.Common.{refl, sym, ap, ◌∙◌, [], ◌∷◌, ◌<◌, ◌≤◌, arith, IsTrue, is_some, map, replicate, subst}
use Rattle.std.specs.Global.{Global}
use Rattle.std.specs.Prelude.{Vec}
use Rattle.std.specs.List.{All}
use Rattle.std.proofs.lemmas.List.Elements.{All-cons, All-head, All-nil, All-tail, All-weaker}
use Rattle.std.proofs.lemmas.List.{length-map, length-replicate}
use Rattle.std.proofs.lemmas.Bool.Decides.{nat_tests}
use Rattle.hart_step.specs.Cores.{IsSound, core_at_reset_of}
use Rattle.image_text.specs.Bytes.{byte_at}
use Rattle.csr_file.specs.declared.profile.CsrProfile.{CsrProfile}
use Rattle.judge_run.specs.Starts.{CanBegin, IsStartOf}
use Rattle.judge_run.specs.declared.start.Start.{Start}
use Rattle.page_image.specs.Bytes.{byte_of}
use Rattle.state_text.specs.declared.state.State.{State}
use Rattle.state_text.specs.declared.state.TheConstants.{MOST_HARTS}
use Rattle.std.specs.Prelude.{unwrap_or}
use Rattle.std.proofs.lemmas.Bool.{ltb-false}
use Rattle.std.proofs.lemmas.List.{take_all}
use Rattle.outside_ports.specs.Ports.{Files, file_of, IsThere, IsMissing}
use Rattle.outside_ports.specs.Front.{HasFront, IsFront}
use Rattle.outside_ports.specs.declared.front.Front.{Front}
use Rattle.judge_words.specs.Job.{JobView}
use Rattle.judge_words.specs.declared.values.TheConstants.{FIRST_PC}
use Rattle.elf_image.specs.declared.fault.ElfFault.{ElfFault}
use Rattle.elf_image.specs.declared.fault.ElfError.{ElfError}
use Rattle.elf_image.specs.declared.fault.ElfError.TheVariants as elf
use Rattle.elf_image.specs.Image.{elf_fault}
use Rattle.image_text.specs.declared.fault.ImageFault.{ImageFault}
use Rattle.image_text.specs.declared.fault.ImageError.{ImageError}
use Rattle.image_text.specs.declared.fault.ImageError.TheVariants as errors
use Rattle.hart_words.specs.Results.{FailsAs}
use Rattle.image_text.specs.Image.{image_fault}
use Rattle.trace_report.specs.declared.outcome.Ruling.TheVariants as rulings
use Rattle.hart_words.specs.Results.{◌>>=◌}
use Rattle.hart_words.specs.declared.choices.Choices.{Choices}
use Rattle.hart_words.specs.declared.map.Map.{Map}
use Rattle.hart_words.specs.declared.span.Span.{Span}
use Rattle.hart_words.specs.Memory.{Bytes}
use Rattle.hart_words.specs.Spans.{LiesIn, is_in}
use Rattle.hart_step.specs.declared.state.Core.{Core}
use Rattle.hart_step.specs.HartSets.{SetState}
use Rattle.state_text.specs.declared.fault.StateFault.{StateFault}
use Rattle.state_text.specs.declared.fault.StateError.{StateError}
use Rattle.state_text.specs.declared.fault.StateError.TheVariants as states
use Rattle.state_text.specs.Laws.{IsZeroOutside}
use Rattle.judge_run.specs.Starts.{HaveSettings}
use Rattle.state_text.specs.Memory.{memory_of}
use Rattle.state_text.specs.Texts.{state_fault, state_in}
use Rattle.state_text.specs.Laws.{IsOver}
use Rattle.judge_run.specs.declared.stop.Stop.{Stop}
use Rattle.judge_run.specs.Answer.{core_from, elf_start, image_start, outcome_of, required_text, saved_start}
use Rattle.judge_run.specs.Answer.{start_in, start_of, text_start}
use Rattle.judge_run.specs.declared.stop.Stop.TheVariants.{Known, ReadFault, NoMemory}
use Rattle.judge_run.specs.Stops.{MeantBy, MeantWhereKnown, LacksFile, elf_stop, image_stop, state_stop}

pub too_large : (job : JobView) (file : List ℕ) (front : Front) → HasFront file job.max_image front
    → front.more ≡ true → start_in job file ≡ Err (Some (outcome_of job (rulings.ImageTooLarge job.max_image)))
unfolding start_in
too_large job file front is more =
    let over : nat_lt job.max_image (length file) ≡ true = sym is.more ∙ more in rw over refl

-- a file was read whole
pub record IsReadWhole (job : JobView) (file : List ℕ) (front : Front) : Type 0 where
  pub has_front : HasFront file job.max_image front
  pub whole : front.more ≡ false

whole : {job : JobView} {file : List ℕ} {front : Front} → IsReadWhole job file front
    → start_in job file ≡ image_start job front.bytes.items
unfolding start_in
whole {job} {file} {front} is =
    let under : nat_lt job.max_image (length file) ≡ false = sym is.has_front.more ∙ is.whole in
    let all : front.bytes.items ≡ file =
    is.has_front.bytes ∙ take_all job.max_image file (ltb-false job.max_image (length file) under) in
    rw under (ap (image_start job) (sym all))

-- bytes that have none outside RAM are 0 there
pub outside_none : (ram : Span) (bytes : ℕ → Option ℕ)
    → ((a : ℕ) → IsTrue (is_some (bytes a)) → LiesIn a ram) → IsZeroOutside ram (λ a. unwrap_or (bytes a) 0)
outside_none ram bytes inside a out = by (bytes a) refl
  where
    by : (byte : Option ℕ) → bytes a ≡ byte → unwrap_or (bytes a) 0 ≡ 0
    by None none = rw none refl
    by (Some byte) there =
        let lies = inside a (rw there refl) in
        let within : is_in ram a ≡ true = grind (arith, nat_tests, lies.0, lies.1) in
        let never : true ≡ false = sym within ∙ out in
        absurd cc

-- what the text describes is the memory
pub text_read : (job : JobView) (bytes : ℕ → Option ℕ) (cores : List Core) (read : Result (ℕ → Option ℕ) ImageFault)
    → cores ≡ replicate job.harts (core_at_reset_of job.profile (unwrap_or job.pc FIRST_PC) job.map job.choices) → read ≡ Ok bytes
    → text_start job read ≡ Ok (record { core = cores; bytes = λ a. unwrap_or (bytes a) 0 })
text_read job bytes cores read begins is = ap (text_start job) is ∙ rw begins refl

pub text_refused : {X : Type 0} (job : JobView) (view : X → SetState) (error : ImageError)
    (read : Result (ℕ → Option ℕ) ImageFault) → FailsAs (image_fault error) read
    → MeantBy view (Err (image_stop job error)) (text_start job read)
text_refused job view (errors.Fault fault) read refused = ap (text_start job) refused
text_refused job view errors.NoMemory read refused = tt

-- the same of an ELF file
pub elf_read : (job : JobView) (bytes : ℕ → Option ℕ) (entry : ℕ) (cores : List Core)
    (read : Result ((ℕ → Option ℕ) × ℕ) ElfFault)
    → cores ≡ replicate job.harts (core_at_reset_of job.profile (unwrap_or job.pc entry) job.map job.choices)
    → read ≡ Ok (bytes, entry) → elf_start job read ≡ Ok (record { core = cores; bytes = λ a. unwrap_or (bytes a) 0 })
elf_read job bytes entry cores read begins is = ap (elf_start job) is ∙ rw begins refl

pub elf_refused : {X : Type 0} (job : JobView) (view : X → SetState) (error : ElfError)
    (read : Result ((ℕ → Option ℕ) × ℕ) ElfFault) → FailsAs (elf_fault error) read
    → MeantBy view (Err (elf_stop job error)) (elf_start job read)
elf_refused job view (elf.Fault fault) read refused = ap (elf_start job) refused
elf_refused job view elf.NoMemory read refused = tt

-- the same of a saved state
pub saved_read : (job : JobView) (cores begun : List Core) (bytes : Bytes)
    (read : Result (List Core × Bytes) StateFault) → begun ≡ map (core_from job.pc) cores → read ≡ Ok (cores, bytes)
    → saved_start job read ≡ Ok (record { core = begun; bytes = bytes })
saved_read job cores begun bytes read begins is = ap (saved_start job) is ∙ rw begins refl

pub saved_refused : {X : Type 0} (job : JobView) (view : X → SetState) (error : StateError)
    (read : Result (List Core × Bytes) StateFault) → FailsAs (state_fault error) read
    → MeantBy view (Err (state_stop job error)) (saved_start job read)
saved_refused job view (states.Fault fault) read refused = ap (saved_start job) refused
saved_refused job view states.NoMemory read refused = tt

-- a hart at reset for each number
pub all_at_reset : (core : Core) (cores : List Core) (count harts : ℕ) → cores ≡ replicate count core → count ≡ harts
    → cores ≡ replicate harts core
all_at_reset core cores count harts is same = is ∙ ap (λ n. replicate n core) same

pub as_many_at_reset : (core : Core) (cores : List Core) (count : ℕ) → cores ≡ replicate count core
    → length cores ≡ count
as_many_at_reset core cores count is = ap (λ (xs : List Core). length xs) is ∙ length-replicate count core

-- a saved state was read
pub record ReadsSaved (profile : CsrProfile) (map : Map) (choices : Choices) (harts : ℕ) (text : List ℕ) (state : State) : Type 0 where
  pub read : state_in profile map choices harts text ≡ Ok (state.cores.items, memory_of state.pieces)
  pub inside : (a : ℕ) → IsTrue (is_some (byte_at state.pieces a)) → LiesIn a map.ram
  pub some : 0 < length state.cores.items
  pub few : length state.cores.items ≤ MOST_HARTS
  pub over : HaveSettings profile map choices state.cores.items

maps_begun : (profile : CsrProfile) (over : Map) (choices : Choices) (given : Option ℕ) (cores : List Core)
    → HaveSettings profile over choices cores
    → All (λ core. core.map ≡ over) (map (core_from given) cores)
maps_begun profile over choices given [] all = All-nil (λ core. core.map ≡ over)
maps_begun profile over choices given (core ∷ cores) all =
    let first = All-head (IsOver profile over choices) core cores all in
    All-cons (λ core. core.map ≡ over) (core_from given core) (map (core_from given) cores) first.map_is
    (maps_begun profile over choices given cores (All-tail (IsOver profile over choices) core cores all))

-- so a run may begin there
pub saved_begins : {text : List ℕ} {profile : CsrProfile} {over : Map} {choices : Choices} {harts : ℕ} {state : State} (given : Option ℕ)
    (begun : Vec Core Global) → ReadsSaved profile over choices harts text state
    → begun.items ≡ map (core_from given) state.cores.items → All IsSound begun.items
    → IsStartOf over (record { cores = begun; pieces = state.pieces })
saved_begins {text} {profile} {over} {choices} {harts} {state} given begun reads begins sound =
    let cores = state.cores.items in
    let many : length begun.items ≡ length cores =
    ap (λ (xs : List Core). length xs) begins ∙ length-map cores (core_from given) in
    record {
      some = omega (arith, many, reads.some);
      few = omega (arith, many, reads.few);
      sound = sound;
      maps = subst (All (λ core. core.map ≡ over)) (sym begins)
          (maps_begun profile over choices given cores reads.over);
      outside = outside_none over.ram (byte_at state.pieces) reads.inside;
    }

pub begins_built : {over : Map} {state : State} (start : Start) → IsStartOf over state
    → start.cores.items ≡ state.cores.items → start.image.ram ≡ over.ram
    → byte_of start.image ≡ memory_of state.pieces → CanBegin start
begins_built {over} {state} start is cores ram bytes =
    record {
      can_step =
          record {
            some = omega (arith, is.some, ap (λ (xs : List Core). length xs) cores);
            sound = subst (All IsSound) (sym cores) is.sound;
            maps = subst (All (λ core. start.image.ram ≡ core.map.ram)) (sym cores)
                (All-weaker (λ core. core.map ≡ over) (λ core. start.image.ram ≡ core.map.ram)
                (λ core has. ram ∙ ap (λ (m : Map). m.ram) (sym has)) state.cores.items is.maps);
          };
      few = omega (arith, is.few, ap (λ (xs : List Core). length xs) cores);
      outside = subst (λ span. IsZeroOutside span (byte_of start.image)) (sym ram)
          (subst (IsZeroOutside over.ram) (sym bytes) is.outside);
    }

-- what stops the reading of a whole file stops the run
pub whole_refused : {X Y : Type 0} {job : JobView} {file : List ℕ} {front : Front} (pieces : Y → SetState)
    (view : X → SetState) (stop : Stop) → IsReadWhole job file front
    → MeantBy pieces (Err stop) (image_start job front.bytes.items)
    → MeantBy view (Err stop) (start_in job file)
whole_refused pieces view (Known outcome) is meant = whole is ∙ meant
whole_refused pieces view ReadFault is meant = tt
whole_refused pieces view NoMemory is meant = tt

pub whole_built : {job : JobView} {file : List ℕ} {front : Front} {read start : SetState} → IsReadWhole job file front
    → image_start job front.bytes.items ≡ Ok read → start ≡ read → start_in job file ≡ Ok start
whole_built is meant same = whole is ∙ meant ∙ ap (λ (s : SetState). Ok s) (sym same)

-- the front of a file that is there was read
pub record ReadsFront (files : Option Files) (name : List ℕ) (job : JobView) (front : Front) : Type 0 where
  pub file_exists : IsThere files name
  pub is_front : IsFront (file_of files name) job.max_image front

-- where a run starts from a told file, by its front
pub start_told : {X : Type 0} {name : List ℕ} {job : JobView} {front : Front} (view : X → SetState)
    (files : Option Files) (result : Result X Stop) → ReadsFront files name job front
    → ((file : List ℕ) → HasFront file job.max_image front → MeantBy view result (start_in job file))
    → MeantWhereKnown files view result (λ files. start_of job (files name))
unfolding start_of
start_told view None result reads meant = tt
start_told {X} {name} {job} {front} view (Some files) result reads meant =
    of (files name) refl reads.file_exists reads.is_front
  where
    of : (file : Option (List ℕ)) → files name ≡ file → IsSome file → IsFront file job.max_image front
        → MeantBy view result (required_text (files name) >>= λ image. start_in job image)
    of None e is front_is = cc
    of (Some file) e is front_is = rw e (meant file front_is)

-- a file that is missed is one that the start lacks
pub start_lacks : (known_files : Option Files) (name : List ℕ) (job : JobView) → IsMissing known_files name
    → LacksFile known_files (λ files. start_of job (files name))
unfolding start_of
start_lacks None name job missing = missing
start_lacks (Some files) name job missing = rw missing refl
