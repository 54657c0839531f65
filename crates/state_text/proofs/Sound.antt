-- A hart that was read is sound.
use Rattle.std.proofs.Common.{◌≡◌, ℕ, Bool, true, false, List, refl, sym, subst, arith, Option, Some}
use Rattle.std.proofs.Common.{None}
use Rattle.std.specs.Prelude.{◌%◌, ◌==◌, not, option_map}
use Rattle.std.proofs.lemmas.Bool.Decides.{nat_tests, Decides-eqb}
use Rattle.hart_words.specs.declared.map.Map.{Map}
use Rattle.hart_words.specs.declared.choices.Choices.{Choices}
use Rattle.hart_words.specs.Spans.{holds_all}
use Rattle.csr_file.specs.Legal.{IsLegal}
use Rattle.csr_file.specs.declared.profile.CsrProfile.{CsrProfile}
use Rattle.hart_step.specs.declared.state.Core.{Core}
use Rattle.hart_step.specs.Cores.{IsSound, IsSoundReservation}
use Rattle.state_text.specs.Numbers.{csrs_with}
use Rattle.state_text.specs.Reading.{is_misplaced, is_outside}
use Rattle.state_text.specs.Texts.{block_with}
use Rattle.state_text.proofs.LegalValues.{legal_csrs}
use Rattle.state_text.specs.Reading.{Remaining}
use Rattle.state_text.specs.Laws.{IsOver}
use Rattle.state_text.proofs.CoreText.{HasCore}

even : (n : ℕ) → (n % 2 == 1) ≡ false → n % 2 ≡ 0
even n h = grind (arith, nat_tests)

not_not : (test : Bool) → not test ≡ false → test ≡ true
not_not true h = refl
not_not false h = absurd cc

-- it has the profile, the map and the choices that are given
pub over_core : (profile : CsrProfile) (map : Map) (choices : Choices) (left : Remaining) (core : Core)
    (next : Remaining)
    → HasCore profile map choices left core next → IsOver profile map choices core
unfolding csrs_with
over_core profile map choices left core next has =
    subst (IsOver profile map choices) has.same (record { profile_is = refl; map_is = refl; choices_are = refl })

pub sound_core : (profile : CsrProfile) (map : Map) (choices : Choices) (left : Remaining) (core : Core)
    (next : Remaining)
    → HasCore profile map choices left core next → IsSound core
sound_core profile map choices left core next has =
    let same : has.numbers ≡ has.has_numbers.read = has.has_numbers.all in
    let legal : IsLegal (csrs_with profile has.numbers) =
    subst (λ (n : List ℕ). IsLegal (csrs_with profile n)) (sym same)
    (legal_csrs profile has.has_numbers.read has.has_numbers.len has.has_numbers.legal) in
    subst IsSound has.same (record {
      even = even has.head.pc has.has_head.even;
      legal = legal;
      reserved = by has.head.reserved has.has_head.placed has.has_head.inside;
    })
  where
    by : (reserved : Option ℕ) → is_misplaced choices.block_size reserved ≡ false
        → is_outside map.ram choices.block_size reserved ≡ false
        → IsSoundReservation map.ram choices.block_size
        (record { block = option_map (block_with choices.block_size) reserved })
    by None placed inside = tt
    by (Some address) placed inside = record {
      size = refl;
      aligned = (Decides-eqb (address % choices.block_size) 0).0
          (not_not (address % choices.block_size == 0) placed);
      inside = not_not (holds_all map.ram address choices.block_size) inside;
    }
