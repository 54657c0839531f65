use Rattle.std.proofs.Common.{◌≡◌, ◌<◌, ◌∙◌, ap, arith, length, subst, sym}
use Rattle.std.proofs.lemmas.List.{length-set}
use Rattle.std.proofs.lemmas.List.Elements.{All-get_or, All-set}
use Rattle.hart_words.specs.declared.map.Map.{Map}
use Rattle.hart_step.specs.declared.state.Core.{Core}
use Rattle.hart_step.specs.Cores.{IsSound}
use Rattle.segment_tests.proofs.joining.damage_hart.Goals as goal

pub returns : goal.returns
returns c =
    let harts = c.args.harts.now in
    let cores = harts.cores.items in
    let number = c.args.number in
    let was = c.index_mut.result.now in
    let now = c.damage_core.new.core in
    let below : number < length cores = omega (arith, c.if-number-len.false, c.len.ensures) in
    let has =
    subst (λ (core : Core). harts.mem.ram ≡ core.map.ram) (sym c.index_mut.ensures.value)
    (All-get_or (λ (core : Core). harts.mem.ram ≡ core.map.ram) cores number was below c.requires.maps) in
    record {
      some = subst (λ count. 0 < count) (sym (length-set cores number now)) c.requires.some;
      sound = All-set IsSound cores number now c.damage_core.ensures.sound c.requires.sound;
      maps =
          All-set (λ (core : Core). harts.mem.ram ≡ core.map.ram) cores number now
          (has ∙ sym (ap (λ (map : Map). map.ram) c.damage_core.ensures.map)) c.requires.maps;
    }
