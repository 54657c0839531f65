use Rattle.std.proofs.Common.{◌+◌, ◌*◌}
use Rattle.rvfi_rows.proofs.segments.+threads.Given as goal

abbrev pub decreases-read_in_threads : goal.decreases-read_in_threads
decreases-read_in_threads g l = 2 * l.threads

abbrev pub decreases-here : goal.decreases-here
decreases-here g l = 2 * l.left + 1
