-- What was written of an answer.
use Rattle.std.proofs.Common.{◌≡◌, ◌<◌, ℕ, inr, IfSome, List, [], ◌∷◌, ◌++◌, length, take, Option, Some, Ok, option_map, refl, sym, ap, ◌∙◌}
use Rattle.std.proofs.Common.{arith, subst}
use Rattle.std.specs.List.{All}
use Rattle.std.proofs.lemmas.List.Elements.{All-head}
use Rattle.hart_words.specs.declared.choices.Choices.{Choices}
use Rattle.hart_words.specs.declared.map.Map.{Map}
use Rattle.hart_words.specs.declared.span.Span.{Span}
use Rattle.hart_words.specs.Memory.{Bytes}
use Rattle.hart_set.specs.declared.set.HartSet.{HartSet}
use Rattle.hart_step.specs.declared.state.Core.{Core}
use Rattle.csr_file.specs.declared.profile.CsrProfile.{CsrProfile}
use Rattle.state_text.specs.Laws.{IsOver, IsZeroOutside}
use Rattle.std.proofs.Math.Seq.{take-append_seam}
use Rattle.outside_ports.specs.Counts.{Rose}
use Rattle.hart_step.specs.HartSets.{SetState}
use Rattle.state_text.specs.Texts.{saved_text, state_in}
use Rattle.state_text.specs.Writes.{WritesFront as WritesStateFront}
use Rattle.judge_run.specs.Answer.{AnswerView, bytes_by}
use Rattle.judge_run.specs.Ends.{HasZerosOutside, IsReadBack, Writes}
use Rattle.judge_run.specs.Starts.{CanGoOn}

-- a front of a state's text, in place of the outcome's line
pub state_front : {before now : Option (List ℕ)} {faults later : ℕ} (given : AnswerView) (state : SetState)
    → given.state ≡ Some state → WritesStateFront (saved_text state.core state.bytes) before now → Rose faults later
    → Writes given 5 before now faults later
state_front {before} {now} given state is wrote rose =
    let text = saved_text state.core state.bytes in
    let front : take (length wrote.front) text ≡ wrote.front =
    ap (take (length wrote.front)) (sym wrote.parts) ∙ take-append_seam wrote.front wrote.more in
    inr
    (record {
      count = length wrote.front;
      own = refl;
      held =
          wrote.held
          ∙ ap (λ front. option_map (λ bytes. bytes ++ front) before) (sym front)
          ∙ ap
          (λ written. option_map (λ bytes. bytes ++ take (length wrote.front) (bytes_by given.outcome given.origins written)) before)
          (sym is);
      rose = rose;
    })

-- harts over one map have memory that is 0 outside its RAM
pub zeros_over : (profile : CsrProfile) (map : Map) (choices : Choices) (cores : List Core) (bytes : Bytes) → 0 < length cores
    → All (IsOver profile map choices) cores → All (λ core. IsZeroOutside core.map.ram bytes) cores
    → IsZeroOutside map.ram bytes
zeros_over profile map choices [] bytes some over zeros = absurd (omega (arith, some))
zeros_over profile map choices (core ∷ cores) bytes some over zeros =
    subst (λ (map : Map). IsZeroOutside map.ram bytes) (All-head (IsOver profile map choices) core cores over).map_is
    (All-head (λ core. IsZeroOutside core.map.ram bytes) core cores zeros)

-- the text of a state that an answer has is read back where memory is 0 outside RAM
pub backs : (given : AnswerView) (state : SetState) → given.state ≡ Some state → 0 < length state.core
    → ((profile : CsrProfile) (map : Map) (choices : Choices) → All (IsOver profile map choices) state.core → IsZeroOutside map.ram state.bytes
    → state_in profile map choices (length state.core) (saved_text state.core state.bytes) ≡ Ok (state.core, state.bytes))
    → IfSome given.state (λ state. HasZerosOutside state → IsReadBack state)
backs given state is some back =
    subst (λ (state : Option SetState). IfSome state (λ state. HasZerosOutside state → IsReadBack state)) (sym is)
    (λ zeros profile map choices over. back profile map choices over (zeros_over profile map choices state.core state.bytes some over zeros))

-- harts that can be stepped on are some
pub some_there : {M : Type 0} (ram_of : M → Span) {given : Option (HartSet Core M)} {harts : HartSet Core M}
    → given ≡ Some harts → IfSome given (CanGoOn ram_of) → 0 < length harts.cores.items
some_there {M} ram_of is goes =
    (subst (λ (harts : Option (HartSet Core M)). IfSome harts (CanGoOn ram_of)) is goes).can_step.some
