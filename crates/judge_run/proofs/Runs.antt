-- How a run ends, and what follows for its status and its bytes.
use Rattle.std.proofs.Common.{◌≡◌, ℕ, ◌<◌, ◌≤◌, ◌⊎◌, ◌↔◌, inl, inr, Bool, true, false, List, Option, Some, None, IfSome}
use Rattle.std.proofs.Common.{is_none, Result, Ok, Err, refl, sym, ap, ap₂, subst, ◌∙◌, arith, codes, string_bytes}
use Rattle.std.proofs.lemmas.List.Elements.{All-weaker}
use Rattle.outside_ports.specs.Counts.{Rose}
use Rattle.outside_ports.specs.Ports.{Files}
use Rattle.judge_words.specs.Job.{JobView, command_by, job_of, job_view}
use Rattle.judge_words.specs.declared.job.Job.{Job}
use Rattle.judge_words.specs.declared.job.Command.TheVariants.{Make}
use Rattle.rvfi_rows.specs.declared.verdict.Verdict.{Verdict}
use Rattle.rvfi_rows.specs.declared.verdict.Verdict.TheVariants.{Agrees, Differs, Refused}
use Rattle.hart_step.specs.HartSets.{SetState}
use Rattle.state_text.specs.Laws.{IsZeroOutside}
use Rattle.trace_maker.specs.Texts.{made_image, made_trace}
use Rattle.trace_report.specs.declared.outcome.Outcome.{Outcome}
use Rattle.trace_report.specs.declared.outcome.Ruling.{Ruling}
use Rattle.trace_report.specs.declared.outcome.Ruling.TheVariants as rulings
use Rattle.trace_report.specs.Report.{ruling_status, status_of}
use Rattle.judge_run.specs.declared.answer.Answer.{Answer}
use Rattle.judge_run.specs.declared.stop.Stop.{Stop}
use Rattle.judge_run.specs.declared.stop.Stop.TheVariants.{Known, ReadFault, NoMemory}
use Rattle.judge_run.specs.Answer.{AnswerView, Step, answer, answer_by_line, answer_of_step, answer_step_of, is_made}
use Rattle.judge_run.specs.Answer.{job_answer, trace_answer}
use Rattle.judge_run.specs.Stops.{CountsStop, IsJobs, IsJobsAnswer, LacksFile, MeantWhereKnown, MissesStop}
use Rattle.judge_run.specs.Stops.{is_no_job_ruling}
use Rattle.judge_run.specs.declared.start.Start.{Start}
use Rattle.judge_run.specs.Starts.{CanBegin, start_view}
use Rattle.judge_run.specs.Ends.{BacksFound, Ends, EndsBy, EndsOverFiles, EndsOverMade, HasStateReadBack, IsAnswer, IsFilesAnswer}
use Rattle.judge_run.specs.Ends.{HasZerosOutside, IsMadeAnswer, IsReadBack, IsWordsAnswer}
use Rattle.judge_run.specs.Ends.{OutsideState, Writes, WritesFound, answer_view}
use Rattle.judge_run.proofs.Outside.{IsOverRam, row_leaves, trace_keeps}
use Rattle.judge_run.proofs.Steps.{AsksForFiles, files_are_not_made, judged_as, lacks_none}

-- the text of such an answer was written, whole or in front
pub ends_written : {Is : AnswerView → Type 0} {May Lacks : Type 0} (given : AnswerView) (before now : OutsideState)
    (status : ℕ) → Is given → now.faults ≡ before.faults → now.misses ≡ before.misses
    → Writes given status before.held now.held before.sink_faults now.sink_faults
    → EndsBy Is May Lacks before now status
ends_written given before now status is faults misses (inl all) =
    inl
    (record {
      given =
          given;
      is = is;
      own = all.own;
      held = all.held;
      faults = faults;
      misses = misses;
      sink_faults = all.no_fault;
    })
ends_written given before now status is faults misses (inr front) =
    inr
    (inl
    (record {
      given =
          given;
      count =
          front.count;
      is =
          is;
      own = front.own;
      held = front.held;
      faults = faults;
      misses = misses;
      rose = front.rose;
    }))

same_moment : (before now : OutsideState) → now.faults ≡ before.faults → now.misses ≡ before.misses
    → now.held ≡ before.held → now.sink_faults ≡ before.sink_faults → now ≡ before
same_moment before now faults misses held sink_faults =
    (let first : ◌≡◌ {A = OutsideState} now
    (record { faults = before.faults; misses = before.misses; held = now.held; sink_faults = now.sink_faults }) =
    ap₂
    (λ faults misses. record { faults = faults; misses = misses; held = now.held; sink_faults = now.sink_faults })
    faults misses in first)
    ∙ ap₂
    (λ held sink_faults.
    record { faults = before.faults; misses = before.misses; held = held; sink_faults = sink_faults })
    held sink_faults

-- the state of what was found is read back, where files are told
abbrev pub IsReadBackFound : Option Files → Result Answer Stop → Type 0
IsReadBackFound known_files (Ok given) =
    (files : Files) → known_files ≡ Some files → IfSome (answer_view given).state IsReadBack
IsReadBackFound known_files (Err stop) = Unit {0}

-- this was found over files, and the shelf is as it is after that
pub record IsFoundOver (known_files : Option Files) (meant : Files → Step AnswerView) (before now : OutsideState)
    (found : Result Answer Stop) : Type 0 where
  pub is : MeantWhereKnown known_files answer_view found meant
  pub jobs : IsJobsAnswer found
  pub faults : CountsStop found before.faults now.faults
  pub misses : MissesStop found known_files meant before.misses now.misses
  pub back : IsReadBackFound known_files found

told_ok : (known_files : Option Files) (meant : Files → Step AnswerView) (given : Answer)
    → MeantWhereKnown known_files answer_view (Ok given) meant → (files : Files) → known_files ≡ Some files
    → answer_of_step (meant files) ≡ Some (answer_view given)
told_ok None meant given is files known = cc
told_ok (Some here) meant given is files known =
    let same : here ≡ files = cc in rw (← same) (ap answer_of_step is)

told_known : (known_files : Option Files) (meant : Files → Step AnswerView) (outcome : Outcome)
    → MeantWhereKnown {X = Answer} known_files answer_view (Err (Known outcome)) meant → (files : Files)
    → known_files ≡ Some files → answer_of_step (meant files) ≡ Some (answer_by_line outcome)
told_known None meant outcome is files known = cc
told_known (Some here) meant outcome is files known =
    let same : here ≡ files = cc in rw (← same) (ap answer_of_step is)

-- what was found was written
pub ends_found : {known_files : Option Files} {meant : Files → Step AnswerView} {before now : OutsideState}
    (found : Result Answer Stop) (status : ℕ) → IsFoundOver known_files meant before now found
    → WritesFound answer_view found status before.held now.held before.sink_faults now.sink_faults
    → EndsOverFiles known_files meant before now status
ends_found {known_files} {meant} {before} {now} (Ok given) status is writes =
    ends_written (answer_view given) before now status
    (record { job = is.jobs; told = told_ok known_files meant given is.is; back = is.back }) is.faults is.misses
    writes
ends_found {known_files} {meant} {before} {now} (Err (Known outcome)) status is writes =
    ends_written (answer_by_line outcome) before now status
    (record { job = is.jobs; told = told_known known_files meant outcome is.is; back = λ files known. tt }) is.faults
    is.misses writes
ends_found {known_files} {meant} {before} {now} (Err ReadFault) status is writes =
    inr
    (inr
    (inl
    (record {
      own =
          writes.own;
      held =
          writes.held;
      sink_faults =
          writes.no_fault;
      rose = is.faults.0;
      may = tt;
      lacks = is.misses;
    })))
ends_found {known_files} {meant} {before} {now} (Err NoMemory) status is writes =
    inr
    (inr
    (inr
    (record {
      own =
          writes.own;
      same = same_moment before now is.faults is.misses writes.held writes.no_fault;
    })))

-- what stops the reading of an image is found so
pub jobs_stop : (stop : Stop) → IsJobs {X = Start} (Err stop) → IsJobsAnswer (Err stop)
jobs_stop (Known outcome) jobs = jobs
jobs_stop ReadFault jobs = tt
jobs_stop NoMemory jobs = tt

pub counts_stop : (stop : Stop) (before now : ℕ) → CountsStop {X = Start} (Err stop) before now
    → CountsStop {X = Answer} (Err stop) before now
counts_stop (Known outcome) before now counts = counts
counts_stop ReadFault before now counts = counts
counts_stop NoMemory before now counts = counts

-- faults that were counted after none was
pub counts_on : (found : Result Answer Stop) (before mid now : ℕ) → mid ≡ before → CountsStop found mid now
    → CountsStop found before now
counts_on (Ok given) before mid now same counts = counts ∙ same
counts_on (Err (Known outcome)) before mid now same counts = counts ∙ same
counts_on (Err NoMemory) before mid now same counts = counts ∙ same
counts_on (Err ReadFault) before mid now same counts =
    subst (λ mid. Rose mid now × (mid ≤ now)) same counts

-- a state that was written after rows is read back, since memory outside RAM was 0 and stays so
pub read_back : (known_files : Option Files) (job : JobView) (start : Start) (trace : List ℕ)
    (found : Result Answer Stop) → CanBegin start
    → MeantWhereKnown known_files answer_view found (λ files. trace_answer job (start_view start) (files trace))
    → BacksFound answer_view found → IsReadBackFound known_files found
read_back known_files job start trace (Err stop) begins meant backs = tt
read_back None job start trace (Ok given) begins meant backs = λ files known. cc
read_back (Some here) job start trace (Ok given) begins meant backs = λ files known.
    by (answer_view given).state
    (trace_keeps (IsOverRam start.image.ram) job (start_view start) (here trace) (answer_view given)
    (λ state shown over. row_leaves start.image.ram state shown over) (begins.can_step.maps, begins.outside) meant)
    backs
  where
    by : (state : Option SetState) → IfSome state (IsOverRam start.image.ram)
        → IfSome state (λ state. HasZerosOutside state → IsReadBack state) → IfSome state IsReadBack
    by None over backs = tt
    by (Some state) over backs =
        backs
        (All-weaker (λ core. start.image.ram ≡ core.map.ram) (λ core. IsZeroOutside core.map.ram state.bytes)
        (λ core has. subst (λ span. IsZeroOutside span state.bytes) has over.1) state.core over.0)

-- ---- what a run of a job comes to is what a run of its words does

pub ends_mapped : {One Other : AnswerView → Type 0} {May Can Lacks Misses : Type 0} {before now : OutsideState}
    {status : ℕ} → ((given : AnswerView) → One given → Other given) → (May → Can) → (Lacks → Misses)
    → EndsBy One May Lacks before now status → EndsBy Other Can Misses before now status
ends_mapped answers may lacks (inl wrote) =
    inl
    (record {
      given =
          wrote.given;
      is = answers wrote.given wrote.is;
      own = wrote.own;
      held = wrote.held;
      faults = wrote.faults;
      misses = wrote.misses;
      sink_faults = wrote.sink_faults;
    })
ends_mapped answers may lacks (inr (inl cut)) =
    inr
    (inl
    (record {
      given =
          cut.given;
      count = cut.count;
      is = answers cut.given cut.is;
      own = cut.own;
      held = cut.held;
      faults = cut.faults;
      misses = cut.misses;
      rose = cut.rose;
    }))
ends_mapped answers may lacks (inr (inr (inl unread))) =
    inr
    (inr
    (inl
    (record {
      own =
          unread.own;
      held = unread.held;
      sink_faults = unread.sink_faults;
      rose = unread.rose;
      may = may unread.may;
      lacks = λ rise. lacks (unread.lacks rise);
    })))
ends_mapped answers may lacks (inr (inr (inr memory))) = inr (inr (inr memory))

-- words that ask for no job
pub words_refused : (known_files : Option Files) (words : List (List ℕ)) → job_of words ≡ None
    → IsWordsAnswer known_files words (answer_by_line (record { made = None; ruling = rulings.NoJob }))
unfolding answer answer_step_of
words_refused known_files words none = record {
  job = rw none refl;
  answered = λ files known. rw none refl;
  made = λ made files. rw none refl;
  back = λ files known. tt;
}

-- words that ask for a job over files
files_answer : {words : List (List ℕ)} {job : Job} {image trace : List ℕ} (known_files : Option Files)
    (given : AnswerView) → AsksForFiles words job image trace
    → IsFilesAnswer known_files (λ files. job_answer (job_view job) (files image) (files trace)) given
    → IsWordsAnswer known_files words given
unfolding answer
files_answer {words} {job} {image} {trace} known_files given asks is =
    record {
      job = is.job ∙ ap is_none (sym asks.job_is);
      answered =
          λ files known.
          ap answer_of_step (judged_as words files job _ asks.job_is asks.command_is) ∙ is.told files known;
      made = λ made files. absurd (files_are_not_made asks made);
      back = is.back;
    }

files_lack : {words : List (List ℕ)} {job : Job} {image trace : List ℕ} (known_files : Option Files)
    → AsksForFiles words job image trace
    → LacksFile known_files (λ files. job_answer (job_view job) (files image) (files trace))
    → (files : Files) × (known_files ≡ Some files) × (answer words files ≡ None)
unfolding answer
files_lack None asks lacks = absurd lacks
files_lack {words} {job} (Some files) asks lacks = (
  files,
  refl,
  ap answer_of_step (judged_as words files job _ asks.job_is asks.command_is) ∙ ap answer_of_step lacks,
)

pub files_end : {known_files : Option Files} {words : List (List ℕ)} {job : Job} {image trace : List ℕ}
    {before now : OutsideState} {status : ℕ} → AsksForFiles words job image trace
    → EndsOverFiles known_files (λ files. job_answer (job_view job) (files image) (files trace)) before now status
    → Ends known_files words before now status
files_end {known_files} {words} {job} {image} {trace} asks ends =
    ends_mapped (λ given is. files_answer known_files given asks is)
    (λ may. not_made (is_made words) (files_are_not_made asks))
    (files_lack known_files asks) ends
  where
    not_made : (made : Bool) → (made ≡ true → ⊥) → made ≡ false
    not_made true never = absurd (never refl)
    not_made false never = refl

-- words that ask for what is made: the shelf is not taken
pub record AsksForMade (words : List (List ℕ)) (job : Job) (number rows : ℕ) : Type 0 where
  pub job_is : job_of words ≡ Some (job_view job)
  pub command_is : job.command ≡ Make number rows

made_answer_is : {words : List (List ℕ)} {job : Job} {number rows : ℕ} (known_files : Option Files)
    (given : AnswerView) → AsksForMade words job number rows → IsMadeAnswer (job_view job) number rows given
    → IsWordsAnswer known_files words given
unfolding answer
made_answer_is {words} {job} {number} {rows} known_files given asks is =
    let all : (files : Files) → answer words files ≡ Some given =
    λ files.
    ap answer_of_step
    (judged_as words files job (Make number rows) asks.job_is (ap (command_by string_bytes) asks.command_is))
    ∙ is.made in
    record {
      job = is.job ∙ ap is_none (sym asks.job_is);
      answered = λ files known. all files;
      made = λ made files. all files;
      back = λ files known. is.back;
    }

-- a moment of a sink, beside a shelf that nothing was taken of
abbrev pub beside : ℕ → ℕ → OutsideState → OutsideState
beside faults misses moment =
    record { faults = faults; misses = misses; held = moment.held; sink_faults = moment.sink_faults }

pub made_ends : {known_files : Option Files} {words : List (List ℕ)} {job : Job} {number rows : ℕ}
    {before now : OutsideState} {status : ℕ} (faults misses : ℕ) → AsksForMade words job number rows
    → EndsOverMade (job_view job) number rows before now status
    → Ends known_files words (beside faults misses before) (beside faults misses now) status
made_ends {known_files} faults misses asks (inl wrote) =
    inl
    (record {
      given =
          wrote.given;
      is = made_answer_is known_files wrote.given asks wrote.is;
      own = wrote.own;
      held = wrote.held;
      faults = refl;
      misses = refl;
      sink_faults = wrote.sink_faults;
    })
made_ends {known_files} faults misses asks (inr (inl cut)) =
    inr
    (inl
    (record {
      given =
          cut.given;
      count = cut.count;
      is = made_answer_is known_files cut.given asks cut.is;
      own = cut.own;
      held = cut.held;
      faults = refl;
      misses = refl;
      rose = cut.rose;
    }))
made_ends faults misses asks (inr (inr (inl unread))) = absurd unread.may
made_ends faults misses asks (inr (inr (inr memory))) =
    inr (inr (inr (record { own = memory.own; same = ap (beside faults misses) memory.same })))

-- what is made, judged as files of a shelf in memory, is told, and is there
made_is : {job : JobView} {number rows : ℕ} (files : Files) (given : AnswerView)
    → files (codes "image") ≡ Some (made_image number) → files (codes "trace") ≡ Some (made_trace number rows)
    → IsFilesAnswer (Some files) (λ files. job_answer job (files (codes "image")) (files (codes "trace"))) given
    → IsMadeAnswer job number rows given
made_is {job} files given image trace is = record {
  job = is.job;
  made =
      ap answer_of_step (sym (ap₂ (job_answer job) image trace)) ∙ is.told files refl;
  back = is.back files refl;
}

-- a shelf of what is made, whose faults are its misses
pub record HoldsMade (files : Files) (number rows : ℕ) (before now : OutsideState) : Type 0 where
  pub image : files (codes "image") ≡ Some (made_image number)
  pub trace : files (codes "trace") ≡ Some (made_trace number rows)
  pub none : before.faults ≡ 0
  pub none_missed : before.misses ≡ 0
  pub as_missed : now.faults ≡ now.misses

pub files_made : {job : JobView} {files : Files} {number rows : ℕ} {before now : OutsideState} {status : ℕ}
    → HoldsMade files number rows before now
    → EndsOverFiles (Some files) (λ files. job_answer job (files (codes "image")) (files (codes "trace"))) before now
    status
    → EndsOverMade job number rows (beside 0 0 before) (beside 0 0 now) status
files_made {files = files} holds (inl wrote) =
    inl
    (record {
      given =
          wrote.given;
      is = made_is files wrote.given holds.image holds.trace wrote.is;
      own = wrote.own;
      held = wrote.held;
      faults = refl;
      misses = refl;
      sink_faults = wrote.sink_faults;
    })
files_made {files = files} holds (inr (inl cut)) =
    inr
    (inl
    (record {
      given =
          cut.given;
      count = cut.count;
      is = made_is files cut.given holds.image holds.trace cut.is;
      own = cut.own;
      held = cut.held;
      faults = refl;
      misses = refl;
      rose = cut.rose;
    }))
files_made {job} holds (inr (inr (inl unread))) =
    let lacks = unread.lacks (omega (arith, holds.none, holds.none_missed, holds.as_missed, unread.rose)) in
    absurd (lacks_none job _ _ (sym (ap₂ (job_answer job) holds.image holds.trace) ∙ lacks))
files_made holds (inr (inr (inr memory))) =
    inr (inr (inr (record { own = memory.own; same = ap (beside 0 0) memory.same })))

-- ---- what follows

verdict_small : (verdict : Verdict) → ruling_status (rulings.Verdict verdict) ≤ 4
verdict_small (Agrees rows valid) = omega arith
verdict_small (Differs row difference) = omega arith
verdict_small (Refused row fault) = omega arith

ruling_small : (ruling : Ruling) → ruling_status ruling ≤ 4
ruling_small rulings.NoJob = omega arith
ruling_small (rulings.ImageTooLarge most) = omega arith
ruling_small (rulings.ImageFault fault) = omega arith
ruling_small (rulings.ElfFault fault) = omega arith
ruling_small (rulings.StateFault fault) = omega arith
ruling_small rulings.NoHeader = omega arith
ruling_small (rulings.HeaderFault fault) = omega arith
ruling_small (rulings.TooLong line) = omega arith
ruling_small (rulings.TraceTooLarge most) = omega arith
ruling_small (rulings.Verdict verdict) = verdict_small verdict

small : (outcome : Outcome) → status_of outcome ≤ 4
small outcome = ruling_small outcome.ruling

pub headline : {known_files : Option Files} {words : List (List ℕ)} {before now : OutsideState} {status : ℕ}
    → Ends known_files words before now status → (files : Files) → known_files ≡ Some files
    → ¬ Rose before.faults now.faults → ¬ Rose before.sink_faults now.sink_faults
    → IsAnswer (answer words files) status before.held now.held ⊎ ((status ≡ 6) × (now.held ≡ before.held))
headline (inl wrote) files is calm quiet =
    inl (rw (wrote.is.answered files is) (wrote.own, wrote.held))
headline (inr (inl cut)) files is calm quiet = absurd (quiet cut.rose)
headline (inr (inr (inl unread))) files is calm quiet = absurd (calm unread.rose)
headline (inr (inr (inr memory))) files is calm quiet =
    inr (memory.own, ap (λ moment. moment.held) memory.same)

pub counted : {known_files : Option Files} {words : List (List ℕ)} {before now : OutsideState} {status : ℕ}
    → Ends known_files words before now status → (before.faults < now.faults) ⊎ (before.sink_faults < now.sink_faults)
    → status ≡ 5
counted (inl wrote) (inl more) = absurd (omega (arith, wrote.faults))
counted (inl wrote) (inr more) = absurd (omega (arith, wrote.sink_faults))
counted (inr (inl cut)) more = cut.own
counted (inr (inr (inl unread))) more = unread.own
counted (inr (inr (inr memory))) (inl more) =
    absurd (omega (arith, ap (λ moment. moment.faults) memory.same))
counted (inr (inr (inr memory))) (inr more) =
    absurd (omega (arith, ap (λ moment. moment.sink_faults) memory.same))

pub fault : {known_files : Option Files} {words : List (List ℕ)} {before now : OutsideState} {status : ℕ}
    → Ends known_files words before now status → status ≡ 5
    → Rose before.faults now.faults ⊎ Rose before.sink_faults now.sink_faults
fault (inl wrote) five = absurd (omega (arith, wrote.own, small wrote.given.outcome))
fault (inr (inl cut)) five = inr cut.rose
fault (inr (inr (inl unread))) five = inl unread.rose
fault (inr (inr (inr memory))) five = absurd (omega (arith, memory.own))

pub misses : {known_files : Option Files} {words : List (List ℕ)} {before now : OutsideState} {status : ℕ}
    → Ends known_files words before now status → before.misses < now.misses
    → (files : Files) × (known_files ≡ Some files) × (answer words files ≡ None)
misses (inl wrote) more = absurd (omega (arith, wrote.misses))
misses (inr (inl cut)) more = absurd (omega (arith, cut.misses))
misses (inr (inr (inl unread))) more = unread.lacks more
misses (inr (inr (inr memory))) more =
    absurd (omega (arith, ap (λ moment. moment.misses) memory.same))

-- only the outcome of words that ask for no job has status 2
refused_verdict : (verdict : Verdict) → ruling_status (rulings.Verdict verdict) ≡ 2 → ⊥
refused_verdict (Agrees rows valid) two = omega arith
refused_verdict (Differs row difference) two = omega arith
refused_verdict (Refused row fault) two = omega arith

apart : (job : Option JobView) → false ≡ is_none job → job ≡ None → ⊥
apart None same none = cc
apart (Some job) same none = cc

refused : (ruling : Ruling) (job : Option JobView) → is_no_job_ruling ruling ≡ is_none job
    → (ruling_status ruling ≡ 2) ↔ (job ≡ None)
refused rulings.NoJob None same = (λ _. refl, λ _. refl)
refused rulings.NoJob (Some job) same = absurd cc
refused (rulings.ImageTooLarge most) job same = (λ two. absurd (omega arith), λ none. absurd (apart job same none))
refused (rulings.ImageFault fault) job same = (λ two. absurd (omega arith), λ none. absurd (apart job same none))
refused (rulings.ElfFault fault) job same = (λ two. absurd (omega arith), λ none. absurd (apart job same none))
refused (rulings.StateFault fault) job same = (λ two. absurd (omega arith), λ none. absurd (apart job same none))
refused rulings.NoHeader job same = (λ two. absurd (omega arith), λ none. absurd (apart job same none))
refused (rulings.HeaderFault fault) job same = (λ two. absurd (omega arith), λ none. absurd (apart job same none))
refused (rulings.TooLong line) job same = (λ two. absurd (omega arith), λ none. absurd (apart job same none))
refused (rulings.TraceTooLarge most) job same = (λ two. absurd (omega arith), λ none. absurd (apart job same none))
refused (rulings.Verdict verdict) job same =
    (λ two. absurd (refused_verdict verdict two), λ none. absurd (apart job same none))

pub words_decide : {known_files : Option Files} {words : List (List ℕ)} {before now : OutsideState} {status : ℕ}
    → Ends known_files words before now status → status ≤ 4 → (status ≡ 2) ↔ (job_of words ≡ None)
words_decide {known_files} {words} (inl wrote) at_most_4 =
    let both = refused wrote.given.outcome.ruling (job_of words) wrote.is.job in
    (λ two. both.0 (sym wrote.own ∙ two), λ none. wrote.own ∙ both.1 none)
words_decide (inr (inl cut)) at_most_4 = absurd (omega (arith, cut.own))
words_decide (inr (inr (inl unread))) at_most_4 = absurd (omega (arith, unread.own))
words_decide (inr (inr (inr memory))) at_most_4 = absurd (omega (arith, memory.own))

pub out_of_memory : {known_files : Option Files} {words : List (List ℕ)} {before now : OutsideState} {status : ℕ}
    → Ends known_files words before now status → status ≡ 6 → now.held ≡ before.held
out_of_memory (inl wrote) six =
    absurd (omega (arith, wrote.own, small wrote.given.outcome))
out_of_memory (inr (inl cut)) six = absurd (omega (arith, cut.own))
out_of_memory (inr (inr (inl unread))) six = absurd (omega (arith, unread.own))
out_of_memory (inr (inr (inr memory))) six = ap (λ moment. moment.held) memory.same

pub range : {known_files : Option Files} {words : List (List ℕ)} {before now : OutsideState} {status : ℕ}
    → Ends known_files words before now status → status ≤ 6
range (inl wrote) = omega (arith, wrote.own, small wrote.given.outcome)
range (inr (inl cut)) = omega (arith, cut.own)
range (inr (inr (inl unread))) = omega (arith, unread.own)
range (inr (inr (inr memory))) = omega (arith, memory.own)

-- what is made takes no file
pub made_counts : {known_files : Option Files} {words : List (List ℕ)} {before now : OutsideState} {status : ℕ}
    → Ends known_files words before now status → is_made words ≡ true
    → (now.faults ≡ before.faults) × (now.misses ≡ before.misses)
made_counts (inl wrote) made = (wrote.faults, wrote.misses)
made_counts (inr (inl cut)) made = (cut.faults, cut.misses)
made_counts (inr (inr (inl unread))) made =
    let never : true ≡ false = sym made ∙ unread.may in cc
made_counts (inr (inr (inr memory))) made =
    (ap (λ moment. moment.faults) memory.same, ap (λ moment. moment.misses) memory.same)

pub made_answer : {known_files : Option Files} {words : List (List ℕ)} {before now : OutsideState} {status : ℕ}
    → Ends known_files words before now status → is_made words ≡ true → (files : Files)
    → ¬ Rose before.sink_faults now.sink_faults
    → IsAnswer (answer words files) status before.held now.held ⊎ ((status ≡ 6) × (now.held ≡ before.held))
made_answer (inl wrote) made files quiet =
    inl (rw (wrote.is.made made files) (wrote.own, wrote.held))
made_answer (inr (inl cut)) made files quiet = absurd (quiet cut.rose)
made_answer (inr (inr (inl unread))) made files quiet =
    let never : true ≡ false = sym made ∙ unread.may in absurd cc
made_answer (inr (inr (inr memory))) made files quiet =
    inr (memory.own, ap (λ moment. moment.held) memory.same)

-- a state that was written is read back
pub back : {known_files : Option Files} {words : List (List ℕ)} {before now : OutsideState} {status : ℕ}
    → Ends known_files words before now status → (files : Files) → known_files ≡ Some files → status ≤ 4
    → HasStateReadBack (answer words files)
back {words = words} (inl wrote) files is at_most_4 =
    rw (wrote.is.answered files is) (wrote.is.back files is)
back (inr (inl cut)) files is at_most_4 = absurd (omega (arith, cut.own))
back (inr (inr (inl unread))) files is at_most_4 = absurd (omega (arith, unread.own))
back (inr (inr (inr memory))) files is at_most_4 = absurd (omega (arith, memory.own))
