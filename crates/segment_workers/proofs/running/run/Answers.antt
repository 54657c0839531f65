use Rattle.std.proofs.Common.{◌≡◌, rules, ℕ, length, slice_index_or, ap, sym, ◌∙◌, subst, arith, vec_len}
use Rattle.std.specs.Result.{IfOk}
use Rattle.segment_judge.specs.Founds.{IsLawfulFound}
use Rattle.verdict_board.specs.Seats.{view_of}
use Rattle.segment_workers.specs.declared.work.Worker.{Worker}
use Rattle.segment_workers.specs.Works.{HaveDone, IsFreshSeat}
use Rattle.segment_workers.proofs.Accounts.{drew_each, found_below, have_reasons, own_looks}
use Rattle.segment_workers.proofs.Seats.{count_is, workers_many, workers_new}
use Rattle.segment_workers.proofs.running.run.Goals as goal

pub workers_at-requires : goal.workers_at-requires
workers_at-requires g c =
    omega (
      arith,
      c.args.seats.ok,
      count_is (length c.args.segments.now) c.args.board.now c.args.seats.items c.requires.seats,
      c.requires.seats.at_most_64,
    )

pub call_each-requires-after_bounds : goal.call_each-requires-after_bounds
call_each-requires-after_bounds g c κs within i worker low is =
    let n = length c.args.segments.now in
    let new =
    workers_new n c.args.board.now c.args.seats.items c.requires.seats c.in_ok-workers.workers.items
    c.in_ok-workers.ensures i worker low in
    let P : Worker → Type 0 = λ worker. IsFreshSeat n c.args.board.now worker.seat in (
      (c.requires.can_step, subst P (sym is) new.0),
      search rules,
    )

pub gather-requires-clause-nonempty : goal.gather-requires-clause-nonempty
gather-requires-clause-nonempty g c κs within =
    let all = c.requires.seats in
    let count = count_is (length c.args.segments.now) c.args.board.now c.args.seats.items all in
    let many = workers_many c.in_ok-workers.workers.items c.args.seats.items c.in_ok-workers.ensures in
    omega (arith, c.in_ok-works.works.ok, c.in_ok-works.ensures.len, many, count, all.at_least_1)

pub gather-requires-clause-done : goal.gather-requires-clause-done
gather-requires-clause-done g c κs within k d low =
    let n = length c.args.segments.now in
    let workers = c.in_ok-workers.workers in
    let works = c.in_ok-works.works in
    let same : length works.items ≡ length workers.items = c.in_ok-works.ensures.len in
    let gives = c.in_ok-works.ensures.each k d (omega (arith, low, same)) in
    let new =
    workers_new n c.args.board.now c.args.seats.items c.requires.seats workers.items c.in_ok-workers.ensures k
    gives.job (omega (arith, low, same)) in
    let seats_is : (view_of gives.job.seat).seats ≡ vec_len works =
    ap (λ worker. (view_of worker.seat).seats) (sym (gives.job_is gives.job)) ∙ new.1
    ∙ omega (arith, works.ok, same) in
    let P : ℕ → Type 0 =
    λ seats. IfOk (slice_index_or works.items k d)
    (HaveDone
    (IsLawfulFound c.args.keeps_history g.M.PhysMem.bytes g.M.PhysMem.ram c.args.columns.now c.args.segments.now
    c.args.guesses.now) n
    seats 1 c.args.board.now) in
    subst P seats_is gives.call.met

pub returns-clause-once : goal.returns-clause-once
returns-clause-once g c =
    let Lawful =
    IsLawfulFound c.args.keeps_history g.M.PhysMem.bytes g.M.PhysMem.ram c.args.columns.now c.args.segments.now
    c.args.guesses.now in
    let work = c.in_ok-founds.field-0 in
    let done = c.in_ok-founds.ensures in
    found_below Lawful (length c.args.segments.now) (λ found lawful. lawful.below) (view_of work.seat)
    work.founds.items done.accounts (work.seat.exact (done.done_is ∙ sym done.seats_is)) done.passed

pub returns-clause-drawn : goal.returns-clause-drawn
returns-clause-drawn g c =
    let Lawful =
    IsLawfulFound c.args.keeps_history g.M.PhysMem.bytes g.M.PhysMem.ram c.args.columns.now c.args.segments.now
    c.args.guesses.now in
    let work = c.in_ok-founds.field-0 in
    let done = c.in_ok-founds.ensures in
    drew_each Lawful (length c.args.segments.now) (λ found lawful. lawful.below) (view_of work.seat) work.founds.items
    done.accounts (work.seat.exact (done.done_is ∙ sym done.seats_is)) done.passed

pub returns-clause-reasons : goal.returns-clause-reasons
returns-clause-reasons g c =
    let Lawful =
    IsLawfulFound c.args.keeps_history g.M.PhysMem.bytes g.M.PhysMem.ram c.args.columns.now c.args.segments.now
    c.args.guesses.now in
    let work = c.in_ok-founds.field-0 in
    let done = c.in_ok-founds.ensures in
    have_reasons Lawful (length c.args.segments.now) (λ found lawful. lawful.below) (view_of work.seat)
    work.founds.items (done.at.segments_is ∙ c.requires.seats.opened.segments_is) done.accounts
    (work.seat.exact (done.done_is ∙ sym done.seats_is))

pub returns-clause-by : goal.returns-clause-by
returns-clause-by g c =
    let Lawful =
    IsLawfulFound c.args.keeps_history g.M.PhysMem.bytes g.M.PhysMem.ram c.args.columns.now c.args.segments.now
    c.args.guesses.now in
    let work = c.in_ok-founds.field-0 in
    own_looks Lawful (length c.args.segments.now) (view_of work.seat) work.founds.items c.in_ok-founds.ensures.accounts
