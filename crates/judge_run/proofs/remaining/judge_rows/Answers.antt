use Rattle.std.proofs.Common.{◌∙◌, rules, string_bytes, subst}
use Rattle.judge_words.specs.Job.{job_view}
use Rattle.outside_ports.specs.Ports.{file_of}
use Rattle.judge_run.specs.declared.progress.Passed.TheVariants.{Continue}
use Rattle.judge_run.specs.Parts.{IsNearerEnd, PassesWhereKnown}
use Rattle.judge_run.specs.declared.progress.Passed.TheVariants.{Ends}
use Rattle.judge_run.proofs.Passing.{LeadsInFile, end_told, exists_after_part, parts_lead}
use Rattle.judge_run.specs.PartHistories.{PassesHistory}
use Rattle.judge_run.proofs.PartHistories.{history_goes_on, history_is_told}
use Rattle.judge_run.proofs.remaining.judge_rows.Goals as goal

pub parts-preserved : goal.parts-preserved
parts-preserved g c =
    let files = g.H.Shelf.known_files c.args.shelf.now in
    let job = job_view c.args.job.now in
    let columns = c.args.columns.now in
    let bytes_of = g.M.PhysMem.bytes in
    let inv = c.parts.invariant in
    let remaining = c.parts.remaining in
    let next = c.in-Ok-Continue.next in
    let meant : PassesWhereKnown job columns bytes_of
    (file_of (g.H.Shelf.known_files c.parts.shelf) (string_bytes remaining.progress.taker.name)) remaining
    (Continue next) = search rules in
    let nearer : IsNearerEnd c.args.job.now.sharing.window g.M.PhysMem.ram remaining (Continue next) = search rules in
    let passes =
    subst
    (λ files. PassesWhereKnown job columns bytes_of
    (file_of files (string_bytes remaining.progress.taker.name)) remaining (Continue next)) inv.known_files meant in
    let before : LeadsInFile bytes_of files job columns c.args.progress remaining =
    record { file_exists = c.requires.file_exists; leads = inv.leads } in
    let handed : PassesHistory c.args.workers.now.origin columns bytes_of
    (file_of (g.H.Shelf.known_files c.parts.shelf) (string_bytes remaining.progress.taker.name)) remaining
    (Continue next) = search rules in
    let hands =
    subst
    (λ files. PassesHistory c.args.workers.now.origin columns bytes_of
    (file_of files (string_bytes remaining.progress.taker.name)) remaining (Continue next)) inv.known_files handed in
    let after = parts_lead files remaining next before passes in
    record {
      going = nearer.0;
      known_files = c.in-Ok-Continue.ensures.known_files ∙ inv.known_files;
      faults = c.in-Ok-Continue.ensures.faults ∙ inv.faults;
      misses = c.in-Ok-Continue.ensures.misses ∙ inv.misses;
      file_exists = exists_after_part files next after;
      leads = after.leads;
      history = history_goes_on c.args.workers.now.origin files remaining next before inv.history hands;
    }

pub returns-in-Ok-Ends-clause-meant : goal.returns-in-Ok-Ends-clause-meant
returns-in-Ok-Ends-clause-meant g c =
    let files = g.H.Shelf.known_files c.args.shelf.now in
    let job = job_view c.args.job.now in
    let columns = c.args.columns.now in
    let bytes_of = g.M.PhysMem.bytes in
    let inv = c.parts.invariant in
    let remaining = c.parts.remaining in
    let end = c.in-Ok-Ends.end in
    let meant : PassesWhereKnown job columns bytes_of
    (file_of (g.H.Shelf.known_files c.parts.shelf) (string_bytes remaining.progress.taker.name)) remaining
    (Ends end) = search rules in
    let passes =
    subst
    (λ files. PassesWhereKnown job columns bytes_of
    (file_of files (string_bytes remaining.progress.taker.name)) remaining (Ends end)) inv.known_files meant in
    let before : LeadsInFile bytes_of files job columns c.args.progress remaining =
    record { file_exists = c.requires.file_exists; leads = inv.leads } in
    end_told files remaining end before passes

pub returns-in-Ok-Ends-clause-history : goal.returns-in-Ok-Ends-clause-history
returns-in-Ok-Ends-clause-history g c =
    let files = g.H.Shelf.known_files c.args.shelf.now in
    let job = job_view c.args.job.now in
    let columns = c.args.columns.now in
    let bytes_of = g.M.PhysMem.bytes in
    let inv = c.parts.invariant in
    let remaining = c.parts.remaining in
    let end = c.in-Ok-Ends.end in
    let handed : PassesHistory c.args.workers.now.origin columns bytes_of
    (file_of (g.H.Shelf.known_files c.parts.shelf) (string_bytes remaining.progress.taker.name)) remaining
    (Ends end) = search rules in
    let hands =
    subst
    (λ files. PassesHistory c.args.workers.now.origin columns bytes_of
    (file_of files (string_bytes remaining.progress.taker.name)) remaining (Ends end)) inv.known_files handed in
    let before : LeadsInFile bytes_of files job columns c.args.progress remaining =
    record { file_exists = c.requires.file_exists; leads = inv.leads } in
    history_is_told c.args.workers.now.origin files remaining end before inv.history hands
