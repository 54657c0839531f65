use Rattle.std.proofs.Common.{inl}
use Rattle.hart_words.specs.Memory.{after_writes}
use Rattle.mem_access.specs.Accesses.{store_place_of}
use Rattle.mem_access.proofs.Sets.{store_sets_alone}
use Rattle.hart_step.proofs.WritePlaces.{sets_in_ram}
use Rattle.hart_step.proofs.state.Core.store_places.Goals as goal

pub returns-clause-set_in_ram : goal.returns-clause-set_in_ram
returns-clause-set_in_ram g c =
    let core = c.args.self.now in
    let request = c.args.request.now in
    let before = c.args.accesses.now.sets in
    let bytes = after_writes before (g.M.PhysMem.bytes c.args.mem.now) in
    let len = c.bytes.result in
    let places = store_place_of core.csrs core.map core.choices core.mode request.address len c.args.atomicity in
    sets_in_ram core.csrs core.map core.choices bytes before (places.run bytes).wrote
    c.store_place.ensures.looked.wrote_is
    c.requires.sets_in_ram
    (store_sets_alone core.csrs core.map core.choices core.mode request.address len c.args.atomicity bytes)

pub returns-clause-one : goal.returns-clause-one
returns-clause-one g c = λ atomic. c.store_place.ensures.one (inl atomic)
