use Rattle.std.proofs.Common.{◌<◌, ◌≡◌, ◌≤◌, ◌∙◌, ap, length, refl}
use Rattle.std.proofs.lemmas.Option.{slice_get_past}
use Rattle.rvfi_rows.specs.Cells.{shown_in}
use Rattle.hart_set.proofs.Places.{found_at, present}
use Rattle.hart_set.proofs.Steps.{can_go_on, gone_after, has_of, maps_stay, stepped_there, stood_still}
use Rattle.hart_set.proofs.set.HartSet.step_hart.Goals as goal

pub returns-then-is_absent-clause-stepped : goal.returns-then-is_absent-clause-stepped
returns-then-is_absent-clause-stepped g c =
    let set = c.args.self.now in
    let past : length set.cores.items ≤ c.args.number = c.if-is_absent.ensures.0 refl in
    stood_still g.C.CoreStep.meaning set.cores.items (shown_in c.args.row.now) c.args.number
    (slice_get_past set.cores.items c.args.number past) c.halted.ensures.expected c.halted.ensures.seen
    c.halted.ensures.wrote

pub returns-clause-stepped : goal.returns-clause-stepped
returns-clause-stepped g c =
    let m = g.C.CoreStep.meaning in
    let set = c.args.self.now in
    let number = c.args.number in
    let below : number < length set.cores.items = present number (length set.cores.items) c.if-is_absent.ensures.1 in
    let there = found_at set.cores.items number c.index_mut.result.now below c.index_mut.ensures.value in
    let after = c.lose_beside.new.self in
    stepped_there m set.cores.items after.cores.items (shown_in c.args.row.now) number c.index_mut.result.now
    c.step_into.new.self c.step_into.new.stepped.expected there c.in_ok-step_into.ensures.stepped
    (gone_after m number c.step_into.new.self set.cores.items after.cores.items c.as_slice.result.now
    c.step_into.new.stepped.wrote c.as_slice.ensures below c.lose_beside.ensures.cores)
    (ap g.M.PhysMem.bytes c.lose_beside.ensures.mem)

pub returns-clause-can : goal.returns-clause-can
returns-clause-can g c =
    let m = g.C.CoreStep.meaning in
    let set = c.args.self.now in
    let number = c.args.number in
    let below : number < length set.cores.items = present number (length set.cores.items) c.if-is_absent.ensures.1 in
    let there = found_at set.cores.items number c.index_mut.result.now below c.index_mut.ensures.value in
    let after = c.lose_beside.new.self in
    can_go_on m g.C.CoreStep.is_sound (g.M.PhysMem.ram set.mem) (g.M.PhysMem.ram after.mem) number
    c.index_mut.result.now c.step_into.new.self set.cores.items after.cores.items c.step_into.new.stepped.wrote
    g.met.C.CoreStep.stays_sound g.met.C.CoreStep.keeps_map there c.step_into.ensures.sound c.step_into.ensures.map
    (has_of (λ k. g.M.PhysMem.ram set.mem ≡ (m.map_of k).ram) number c.index_mut.result.now set.cores.items there below
    c.requires.can.maps) (ap g.M.PhysMem.ram c.lose_beside.ensures.mem ∙ c.step_into.ensures.ram)
    (gone_after m number c.step_into.new.self set.cores.items after.cores.items c.as_slice.result.now
    c.step_into.new.stepped.wrote c.as_slice.ensures below c.lose_beside.ensures.cores) c.requires.can

pub returns-clause-maps : goal.returns-clause-maps
returns-clause-maps g c =
    let m = g.C.CoreStep.meaning in
    let set = c.args.self.now in
    let number = c.args.number in
    let below : number < length set.cores.items = present number (length set.cores.items) c.if-is_absent.ensures.1 in
    let there = found_at set.cores.items number c.index_mut.result.now below c.index_mut.ensures.value in
    let after = c.lose_beside.new.self in
    maps_stay m m.map_of number c.index_mut.result.now c.step_into.new.self set.cores.items after.cores.items
    c.step_into.new.stepped.wrote g.met.C.CoreStep.keeps_map there c.step_into.ensures.map
    (gone_after m number c.step_into.new.self set.cores.items after.cores.items c.as_slice.result.now
    c.step_into.new.stepped.wrote c.as_slice.ensures below c.lose_beside.ensures.cores)

pub returns-clause-choices : goal.returns-clause-choices
returns-clause-choices g c =
    let m = g.C.CoreStep.meaning in
    let set = c.args.self.now in
    let number = c.args.number in
    let below : number < length set.cores.items = present number (length set.cores.items) c.if-is_absent.ensures.1 in
    let there = found_at set.cores.items number c.index_mut.result.now below c.index_mut.ensures.value in
    let after = c.lose_beside.new.self in
    maps_stay m m.choices_of number c.index_mut.result.now c.step_into.new.self set.cores.items after.cores.items
    c.step_into.new.stepped.wrote g.met.C.CoreStep.keeps_choices there c.step_into.ensures.choices
    (gone_after m number c.step_into.new.self set.cores.items after.cores.items c.as_slice.result.now
    c.step_into.new.stepped.wrote c.as_slice.ensures below c.lose_beside.ensures.cores)
