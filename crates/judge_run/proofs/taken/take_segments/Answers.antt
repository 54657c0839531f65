use Rattle.std.proofs.Common.{◌≡◌, ◌∙◌, ◌+◌, ◌*◌, ◌++◌, false, true, ap, arith, length, refl, string_bytes, subst, sym}
use Rattle.std.specs.List.{flat_map}
use Rattle.std.proofs.lemmas.List.{length-append}
use Rattle.judge_words.specs.Job.{job_view}
use Rattle.outside_ports.specs.Ports.{file_of}
use Rattle.rvfi_rows.specs.Segments.{segment_lines}
use Rattle.trace_lines.specs.declared.piece.Ending.TheVariants.{More}
use Rattle.trace_lines.specs.Pieces.{FitsEnding}
use Rattle.trace_lines.specs.Takers.{TakesWhereKnown}
use Rattle.judge_run.specs.Taking.{TakesLinesWhereKnown, TakesSoFarWhereKnown, most_lines}
use Rattle.judge_run.proofs.Taking.{TakesInFile, TakesNext, begins, exists_after, fits_last, next_lines_are}
use Rattle.judge_run.proofs.Taking.{next_within, no_lines, take_last_told, take_on_told, takes_on, takes_whole}
use Rattle.judge_run.proofs.taken.take_segments.Goals as goal

pub segments-init : goal.segments-init
segments-init g c =
    let none = c.new-segments.ensures.items in
    let count = no_lines c.args.job.now.sharing.segment c.new-segments.result.items none in
    let nothing : 0 * c.args.job.now.sharing.segment ≡ 0 = omega arith in
    record {
      known_files = refl;
      faults = refl;
      misses = refl;
      file_exists = c.requires.file_exists;
      taken =
          begins (file_of (g.H.Shelf.known_files c.args.shelf.now) (string_bytes c.args.taker.name)) c.args.taker
          c.args.job.now.sharing.segment c.new-segments.result.items none;
      count = count;
      at_most_counter = omega (arith, ap length none);
      full = omega (arith, ap length none);
      room = omega (arith, count, nothing);
    }

pub returns-then-not-is_more-clause-takes : goal.returns-then-not-is_more-clause-takes
returns-then-not-is_more-clause-takes g c =
    let known_files = g.H.Shelf.known_files c.args.shelf.now in
    let file = file_of known_files (string_bytes c.args.taker.name) in
    let segment = c.args.job.now.sharing.segment in
    let first = c.segments.counter * segment in
    let middle = c.segments.taker in
    let piece = c.in-Ok.taken.0 in
    let after = c.in-Ok.taken.1 in
    let lines = flat_map segment_lines c.segments.segments.items in
    let inv = c.segments.invariant in
    let here : TakesWhereKnown (file_of known_files (string_bytes middle.name)) segment middle piece after =
    subst
    (λ known_files. TakesWhereKnown (file_of known_files (string_bytes middle.name)) segment middle piece after)
    inv.known_files c.in-Ok.ensures.takes in
    let before : TakesInFile known_files first c.args.taker lines middle =
    record { file_exists = c.requires.file_exists; taken = inv.taken } in
    let takes = takes_on known_files segment piece after before here in
    let next : TakesNext file first segment c.args.taker middle after lines piece =
    record { so_far = inv.taken; takes = takes; fits = c.in-Ok.ensures.counts } in
    let within = next_within c.segments.counter c.args.asked segment c.segments-test.true in
    subst
    (λ text. TakesLinesWhereKnown file (most_lines (job_view c.args.job.now) c.args.asked) c.args.taker text
    piece.ending after) (sym c.in-Ok-push_lines.ensures.lines)
    (take_last_told file (most_lines (job_view c.args.job.now) c.args.asked) next
    (λ more. let never : c.is_more.result ≡ true =
    c.is_more.ensures.1 more in let other : false ≡ true = sym c.if-not-is_more.true ∙ never in cc) within)

pub returns-then-not-is_more-clause-counts : goal.returns-then-not-is_more-clause-counts
returns-then-not-is_more-clause-counts g c =
    let segment = c.args.job.now.sharing.segment in
    let piece = c.in-Ok.taken.0 in
    let lines = flat_map segment_lines c.segments.segments.items in
    let within = next_within c.segments.counter c.args.asked segment c.segments-test.true in
    let many = ap length c.in-Ok-push_lines.ensures.lines ∙ length-append lines piece.lines in
    subst (λ count. FitsEnding piece.ending (most_lines (job_view c.args.job.now) c.args.asked) count) (sym many)
    (fits_last segment (length piece.lines) (most_lines (job_view c.args.job.now) c.args.asked) piece.ending
    c.segments.invariant.count
    c.in-Ok.ensures.counts
    (λ more. let never : c.is_more.result ≡ true =
    c.is_more.ensures.1 more in let other : false ≡ true = sym c.if-not-is_more.true ∙ never in cc) within)

pub segments-preserved : goal.segments-preserved
segments-preserved g c =
    let known_files = g.H.Shelf.known_files c.args.shelf.now in
    let file = file_of known_files (string_bytes c.args.taker.name) in
    let segment = c.args.job.now.sharing.segment in
    let first = c.segments.counter * segment in
    let middle = c.segments.taker in
    let piece = c.in-Ok.taken.0 in
    let after = c.in-Ok.taken.1 in
    let lines = flat_map segment_lines c.segments.segments.items in
    let inv = c.segments.invariant in
    let here : TakesWhereKnown (file_of known_files (string_bytes middle.name)) segment middle piece after =
    subst
    (λ known_files. TakesWhereKnown (file_of known_files (string_bytes middle.name)) segment middle piece after)
    inv.known_files c.in-Ok.ensures.takes in
    let before : TakesInFile known_files first c.args.taker lines middle =
    record { file_exists = c.requires.file_exists; taken = inv.taken } in
    let takes = takes_on known_files segment piece after before here in
    let call : TakesNext file first segment c.args.taker middle after lines piece =
    record { so_far = inv.taken; takes = takes; fits = c.in-Ok.ensures.counts } in
    let more : piece.ending ≡ More = c.is_more.ensures.0 c.if-not-is_more.false in
    let whole : length piece.lines ≡ segment =
    subst (λ ending. FitsEnding ending segment (length piece.lines)) more c.in-Ok.ensures.counts in
    let taken = take_on_told file call more in
    let so_far : TakesInFile known_files (first + segment) c.args.taker (lines ++ piece.lines) after =
    record { file_exists = c.requires.file_exists; taken = taken } in
    let next = next_lines_are c.segments.counter segment in
    let many = ap length c.in-Ok-push_lines.ensures.lines ∙ length-append lines piece.lines in
    record {
      known_files = c.in-Ok.ensures.known_files ∙ inv.known_files;
      faults = c.in-Ok.ensures.faults ∙ inv.faults;
      misses = c.in-Ok.ensures.misses ∙ inv.misses;
      file_exists = exists_after known_files so_far;
      taken =
          subst (λ text. TakesSoFarWhereKnown file ((c.segments.counter + 1) * segment) c.args.taker text after)
          (sym c.in-Ok-push_lines.ensures.lines)
          (subst (λ asked. TakesSoFarWhereKnown file asked c.args.taker (lines ++ piece.lines) after) (sym next) taken);
      count = omega (arith, many, inv.count, whole, next);
      at_most_counter = omega (arith, c.in-Ok-push_lines.ensures.at_most_one_more, inv.at_most_counter);
      full = omega (arith, many, c.in-Ok-push_lines.ensures.full, inv.full);
      room = omega (arith, many, inv.room, c.in-Ok.ensures.room);
    }

pub returns-clause-takes : goal.returns-clause-takes
returns-clause-takes g c =
    let file = file_of (g.H.Shelf.known_files c.args.shelf.now) (string_bytes c.args.taker.name) in
    let segment = c.args.job.now.sharing.segment in
    let lines = flat_map segment_lines c.segments.segments.items in
    let all : c.segments.counter ≡ c.args.asked = omega (arith, c.segments-test.false, c.segments.auto.counter-end) in
    subst (λ count. TakesLinesWhereKnown file (count * segment) c.args.taker lines More c.segments.taker) all
    (takes_whole file (c.segments.counter * segment) c.args.taker c.segments.taker lines c.segments.invariant.taken)
