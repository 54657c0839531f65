use Rattle.std.proofs.Common.{length}
use Rattle.trace_report.proofs.origin_lines.+put_bytes.Given as goal

abbrev pub decreases-put_bytes : goal.decreases-put_bytes
decreases-put_bytes l = length l.origins.now
