use Rattle.std.proofs.Common.{arith}
use Rattle.read_footprint.proofs.LowMemory.{listed, put_more, put_none}
use Rattle.segment_tests.proofs.footprints.Low.+put.Goals as goal

pub returns-then-len-eq0-clause-bytes : goal.returns-then-len-eq0-clause-bytes
returns-then-len-eq0-clause-bytes t c =
    put_none c.args.pa c.args.len c.args.value (listed c.args.self.now.bytes.items) c.if-len-eq0.true

pub returns-clause-bytes : goal.returns-clause-bytes
returns-clause-bytes t c =
    put_more c.args.self.now.bytes.items _ c.args.pa c.args.len c.args.value c.if-len-eq0.false (omega arith)
    c.put.ensures.bytes
