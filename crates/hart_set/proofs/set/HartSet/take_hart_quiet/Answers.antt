use Rattle.std.proofs.Common.{◌<◌, ◌≡◌, length, refl, []}
use Rattle.rvfi_rows.specs.Readings.{kept_shown}
use Rattle.hart_set.proofs.Places.{found_at, present}
use Rattle.hart_set.proofs.Steps.{can_go_on, gone_alone, has_of, maps_stay, quiet_there}
use Rattle.hart_set.proofs.set.HartSet.take_hart_quiet.Goals as goal

pub returns-clause-taken : goal.returns-clause-taken
returns-clause-taken g c = λ is.
    let m = g.C.CoreStep.meaning in
    let set = c.args.self.now in
    let number = c.args.number in
    let below : number < length set.cores.items = present number (length set.cores.items) c.if-is_absent.ensures.1 in
    let there = found_at set.cores.items number c.index_mut.result.now below c.index_mut.ensures.value in
    quiet_there m set.cores.items _ (kept_shown c.args.row.now) number c.index_mut.result.now c.take_quiet.new.self there
    c.requires.number (c.take_quiet.ensures.taken is)
    (gone_alone m number c.index_mut.result.now c.take_quiet.new.self set.cores.items there)

pub returns-clause-can : goal.returns-clause-can
returns-clause-can g c =
    let m = g.C.CoreStep.meaning in
    let set = c.args.self.now in
    let number = c.args.number in
    let below : number < length set.cores.items = present number (length set.cores.items) c.if-is_absent.ensures.1 in
    let there = found_at set.cores.items number c.index_mut.result.now below c.index_mut.ensures.value in
    let ram = g.M.PhysMem.ram set.mem in
    can_go_on m g.C.CoreStep.is_sound ram ram number c.index_mut.result.now c.take_quiet.new.self set.cores.items _ []
    g.met.C.CoreStep.stays_sound g.met.C.CoreStep.keeps_map there
    (c.take_quiet.ensures.sound
    (has_of g.C.CoreStep.is_sound number c.index_mut.result.now set.cores.items there below c.requires.can.sound))
    c.take_quiet.ensures.map
    (has_of (λ k. ram ≡ (m.map_of k).ram) number c.index_mut.result.now set.cores.items there below c.requires.can.maps)
    refl (gone_alone m number c.index_mut.result.now c.take_quiet.new.self set.cores.items there) c.requires.can

pub returns-clause-maps : goal.returns-clause-maps
returns-clause-maps g c =
    let m = g.C.CoreStep.meaning in
    let set = c.args.self.now in
    let number = c.args.number in
    let below : number < length set.cores.items = present number (length set.cores.items) c.if-is_absent.ensures.1 in
    let there = found_at set.cores.items number c.index_mut.result.now below c.index_mut.ensures.value in
    maps_stay m m.map_of number c.index_mut.result.now c.take_quiet.new.self set.cores.items _ []
    g.met.C.CoreStep.keeps_map there c.take_quiet.ensures.map
    (gone_alone m number c.index_mut.result.now c.take_quiet.new.self set.cores.items there)

pub returns-clause-choices : goal.returns-clause-choices
returns-clause-choices g c =
    let m = g.C.CoreStep.meaning in
    let set = c.args.self.now in
    let number = c.args.number in
    let below : number < length set.cores.items = present number (length set.cores.items) c.if-is_absent.ensures.1 in
    let there = found_at set.cores.items number c.index_mut.result.now below c.index_mut.ensures.value in
    maps_stay m m.choices_of number c.index_mut.result.now c.take_quiet.new.self set.cores.items _ []
    g.met.C.CoreStep.keeps_choices there c.take_quiet.ensures.choices
    (gone_alone m number c.index_mut.result.now c.take_quiet.new.self set.cores.items there)
