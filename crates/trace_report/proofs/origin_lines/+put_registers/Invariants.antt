use Rattle.std.proofs.Common.{length}
use Rattle.trace_report.proofs.origin_lines.+put_registers.Given as goal

abbrev pub decreases-put_registers : goal.decreases-put_registers
decreases-put_registers l = length l.origins.now
