use Rattle.read_footprint.specs.LowMemory.{IsLow}
use Rattle.segment_tests.proofs.footprints.of_rows.Given as goal

abbrev pub invariant-loop-row : goal.invariant-loop-row
invariant-loop-row l = IsLow l.footprint
