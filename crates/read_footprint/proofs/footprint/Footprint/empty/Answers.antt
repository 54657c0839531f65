use Rattle.read_footprint.specs.Footprints.{footprint_of}
use Rattle.read_footprint.proofs.Noting.{none_read, none_written}
use Rattle.read_footprint.proofs.footprint.Footprint.empty.Goals as goal

pub returns-clause-none : goal.returns-clause-none
unfolding footprint_of
returns-clause-none c = record {
  read = none_read _ c.new.ensures.empty;
  wrote = none_written _ c.new.ensures.empty;
}

pub returns-clause-read : goal.returns-clause-read
returns-clause-read c = none_read _ c.new.ensures.empty

pub returns-clause-wrote : goal.returns-clause-wrote
returns-clause-wrote c = none_written _ c.new.ensures.empty
