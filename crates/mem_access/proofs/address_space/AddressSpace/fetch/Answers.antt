use Rattle.std.proofs.Common.{arith}
use Rattle.hart_words.specs.Memory.{number_at}
use Rattle.mem_access.proofs.Looks.{fetch_refused, fetch_short, fetch_long}
use Rattle.mem_access.proofs.Plain.{plain_long, plain_short, plain_word}
use Rattle.mem_access.proofs.address_space.AddressSpace.fetch.Goals as goal

pub returns-then-word-ne3-clause-looked : goal.returns-then-word-ne3-clause-looked
returns-then-word-ne3-clause-looked g c =
    let space = c.args.self.now in
    let bytes = g.M.PhysMem.bytes space.mem.now in
    let plain =
    plain_word space.csrs.now space.map.now space.mode c.args.pc c.args.accesses.now.sets c.in-Some.word
    (number_at bytes c.args.pc 4) c.in-Some.ensures in
    rw c.put.ensures
    (plain_short space.csrs.now space.map.now space.choices.now space.mode c.args.pc c.in-Some.word
    c.args.accesses.now.seen c.args.accesses.now.sets bytes
    (λ at. g.met.M.PhysMem.bytes_are_bytes space.mem.now at) plain.0 plain.1 c.if-word-ne3.true)

pub returns-in-Some-clause-looked : goal.returns-in-Some-clause-looked
returns-in-Some-clause-looked g c =
    let space = c.args.self.now in
    let bytes = g.M.PhysMem.bytes space.mem.now in
    let plain =
    plain_word space.csrs.now space.map.now space.mode c.args.pc c.args.accesses.now.sets c.in-Some.word
    (number_at bytes c.args.pc 4) c.in-Some.ensures in
    rw (c.put-in-Some.ensures, c.put.ensures)
    (plain_long space.csrs.now space.map.now space.choices.now space.mode c.args.pc c.in-Some.word
    c.args.accesses.now.seen c.args.accesses.now.sets bytes plain.0 plain.1 c.if-word-ne3.false)

pub returns-in-Err-clause-looked : goal.returns-in-Err-clause-looked
returns-in-Err-clause-looked g c =
    let space = c.args.self.now in
    fetch_refused space.csrs.now space.map.now space.choices.now space.mode c.args.pc c.in-Err.ensures.looked

pub returns-then-first-ne3-clause-looked : goal.returns-then-first-ne3-clause-looked
returns-then-first-ne3-clause-looked g c =
    let space = c.args.self.now in
    rw c.from.ensures
    (fetch_short space.csrs.now space.map.now space.choices.now space.mode c.args.pc c.in-Ok.ensures.looked
    c.if-first-ne3.true)

pub returns-in-Ok-parcel-clause-looked : goal.returns-in-Ok-parcel-clause-looked
returns-in-Ok-parcel-clause-looked g c =
    let space = c.args.self.now in
    rw (c.from-in-Ok-parcel.ensures, c.from-in-Ok-parcel-2.ensures)
    (fetch_long space.csrs.now space.map.now space.choices.now space.mode c.args.pc c.in-Ok.ensures.looked
    (omega arith) c.in-Ok-parcel.ensures.looked)

pub returns-in-Err-parcel-clause-looked : goal.returns-in-Err-parcel-clause-looked
returns-in-Err-parcel-clause-looked g c =
    let space = c.args.self.now in
    fetch_long space.csrs.now space.map.now space.choices.now space.mode c.args.pc c.in-Ok.ensures.looked
    (omega arith) c.in-Err-parcel.ensures.looked
