use Rattle.std.proofs.Common.{◌-◌}
use Rattle.hart_words.specs.Memory.{after_writes}
use Rattle.mem_access.proofs.Looks.{AreJoined, split_load_joined, split_load_refused, split_load_whole}
use Rattle.mem_access.proofs.data_access.load_split.Goals as goal

pub returns-in-Err-clause-looked : goal.returns-in-Err-clause-looked
returns-in-Err-clause-looked g c =
    let space = c.args.space.now in
    split_load_refused space.csrs.now space.map.now space.choices.now c.args.request c.args.va
    c.in-Err.ensures.found

pub returns-in-Ok-default-None-clause-looked : goal.returns-in-Ok-default-None-clause-looked
returns-in-Ok-default-None-clause-looked g c =
    let space = c.args.space.now in
    split_load_whole space.csrs.now space.map.now space.choices.now c.args.request c.args.va
    (rw c.in-Ok-default-None.field-0-1-is at c.in-Ok-default-None.ensures.found) c.value_at.ensures.value

pub returns-in-Ok-default-Some-clause-looked : goal.returns-in-Ok-default-Some-clause-looked
returns-in-Ok-default-Some-clause-looked g c =
    let space = c.args.space.now in
    let first = c.in-Ok-default-Some.first in
    let second = c.in-Ok-default-Some.second in
    let len = c.first_len-len.result in
    let joined : AreJoined first second len (c.args.request.len - len) c.joined_value-value.result
    c.split_places.new.seen c.joined_value-value.new.seen
    (after_writes c.split_places.new.sets (g.M.PhysMem.bytes c.args.space.now.mem.now)) =
    record { value_is = c.joined_value-value.ensures.value; noted = c.joined_value-value.ensures.noted } in
    split_load_joined space.csrs.now space.map.now space.choices.now c.args.request c.args.va
    (rw c.in-Ok-default-Some.field-0-1-is at c.in-Ok-default-Some.ensures.found) c.first_len-len.ensures joined
