use Rattle.std.proofs.Common.{◌≡◌, string_bytes}
use Rattle.judge_words.specs.Job.{job_view}
use Rattle.outside_ports.specs.Ports.{IsThere, file_of}
use Rattle.judge_run.specs.Parts.{CanContinueWith, LeadsFromWhereKnown, distance_to_end}
use Rattle.judge_run.proofs.PartHistories.{HistoryLeads}
use Rattle.judge_run.proofs.remaining.judge_rows.Given as goal

-- all rows come to what those that are left do
abbrev pub invariant-parts : goal.invariant-parts
invariant-parts g l = record {
  going : CanContinueWith l.job.sharing.window g.M.PhysMem.ram l.remaining;
  known_files : g.H.Shelf.known_files l.shelf ≡ g.H.Shelf.known_files l.initial.shelf;
  faults : g.H.Shelf.faults l.shelf ≡ g.H.Shelf.faults l.initial.shelf;
  misses : g.H.Shelf.misses l.shelf ≡ g.H.Shelf.misses l.initial.shelf;
  file_exists : IsThere (g.H.Shelf.known_files l.initial.shelf) (string_bytes l.remaining.progress.taker.name);
  leads : LeadsFromWhereKnown (job_view l.job) l.columns g.M.PhysMem.bytes
      (file_of (g.H.Shelf.known_files l.initial.shelf) (string_bytes l.initial.remaining.progress.taker.name))
      l.initial.remaining.progress l.remaining;
  history : HistoryLeads l.workers.origin l.columns g.M.PhysMem.bytes
      (file_of (g.H.Shelf.known_files l.initial.shelf) (string_bytes l.initial.remaining.progress.taker.name))
      l.initial.remaining.progress l.remaining;
}

abbrev pub decreases-parts : goal.decreases-parts
decreases-parts g l = distance_to_end l.remaining
