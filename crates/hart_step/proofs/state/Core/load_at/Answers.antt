use Rattle.std.proofs.Common.{ℕ, subst}
use Rattle.std.specs.Prelude.{IfOk}
use Rattle.hart_words.specs.Memory.{after_writes}
use Rattle.mem_access.specs.Accesses.{LieInRam, load_result}
use Rattle.mem_access.proofs.Sets.{load_sets_alone}
use Rattle.hart_step.proofs.WritePlaces.{sets_in_ram}
use Rattle.hart_step.proofs.state.Core.load_at.Goals as goal

pub returns-clause-set_in_ram : goal.returns-clause-set_in_ram
returns-clause-set_in_ram g c =
    let core = c.args.self.now in
    let request = c.args.request.now in
    let before = c.args.accesses.now.sets in
    let bytes = after_writes before (g.M.PhysMem.bytes c.args.mem.now) in
    let len = c.bytes.result in
    let load = load_result core.csrs core.map core.choices core.mode request.address len c.args.atomicity in
    sets_in_ram core.csrs core.map core.choices bytes before (load.run bytes).wrote c.load.ensures.looked.wrote_is
    c.requires.sets_in_ram
    (load_sets_alone core.csrs core.map core.choices core.mode request.address len c.args.atomicity bytes)

pub returns-clause-in_ram : goal.returns-clause-in_ram
returns-clause-in_ram g c =
    let core = c.args.self.now in
    let P : ℕ → Type 0 =
    λ n. IfOk c.load.result (λ found. LieInRam core.map.ram c.args.request.now.address n (found.0, found.1)) in
    subst P c.bytes.ensures.value c.load.ensures.placed
