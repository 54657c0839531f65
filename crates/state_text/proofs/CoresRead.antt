-- The harts that are read, one after another.
use Rattle.std.proofs.Common.{◌≡◌, ℕ, suc, ◌+◌, ◌-◌, ◌<◌, ◌≤◌, List, [], ◌∷◌, ◌++◌, Ok, Err, Result, refl}
use Rattle.std.proofs.Common.{sym, subst, arith}
use Rattle.hart_words.specs.declared.map.Map.{Map}
use Rattle.hart_words.specs.declared.choices.Choices.{Choices}
use Rattle.csr_file.specs.declared.profile.CsrProfile.{CsrProfile}
use Rattle.hart_step.specs.declared.state.Core.{Core}
use Rattle.state_text.specs.declared.fault.StateFault.{StateFault}
use Rattle.state_text.specs.declared.head.Head.{Head}
use Rattle.state_text.specs.declared.numbers.TheConstants.{KINDS}
use Rattle.state_text.specs.Numbers.{number_names}
use Rattle.state_text.specs.Reading.{Remaining, head_in, numbers_in}
use Rattle.state_text.specs.Texts.{core_in, core_with, cores_in}

-- a hart is read in two steps
pub core_read : (profile : CsrProfile) (map : Map) (choices : Choices) (head : Head) (numbers : List ℕ)
    (left next after : Remaining)
    → head_in map.ram choices.block_size left ≡ Ok (head, next)
    → numbers_in profile number_names KINDS [] next ≡ Ok (numbers, after)
    → core_in profile map choices left ≡ Ok (core_with profile map choices head numbers, after)
unfolding core_in
core_read profile map choices head numbers left next after headed numbered = rw (headed, numbered) refl

-- one hart more
pub cores_on : (profile : CsrProfile) (map : Map) (choices : Choices) (harts read : ℕ) (before now : List Core)
    (left next : Remaining)
    (core : Core) (whole : Result (List Core × Remaining) StateFault) → read < harts
    → cores_in profile map choices (harts - read) before left ≡ whole → Ok (core, next)
    ≡ core_in profile map choices left
    → now ≡ before ++ core ∷ [] → cores_in profile map choices (harts - (read + 1)) now next ≡ whole
unfolding cores_in
cores_on profile map choices harts read before now left next core whole within so_far reads is =
    let one : harts - read ≡ suc (harts - (read + 1)) = omega (arith, within) in
    let first = sym reads in
    subst (λ cores. cores_in profile map choices (harts - (read + 1)) cores next ≡ whole) (sym is)
    (rw (one, first) at so_far)

-- a hart whose lines are no hart's
pub cores_unread : (profile : CsrProfile) (map : Map) (choices : Choices) (harts read : ℕ) (before : List Core)
    (left : Remaining)
    (fault : StateFault) (whole : Result (List Core × Remaining) StateFault) → read < harts
    → cores_in profile map choices (harts - read) before left ≡ whole → Err fault ≡ core_in profile map choices left
    → whole ≡ Err fault
unfolding cores_in
cores_unread profile map choices harts read before left fault whole within so_far fails =
    let one : harts - read ≡ suc (harts - (read + 1)) = omega (arith, within) in
    let first = sym fails in
    sym (rw (one, first) at so_far)

-- all harts
pub cores_all : (profile : CsrProfile) (map : Map) (choices : Choices) (harts read : ℕ) (before : List Core)
    (left : Remaining)
    (whole : Result (List Core × Remaining) StateFault) → harts ≤ read
    → cores_in profile map choices (harts - read) before left ≡ whole → whole ≡ Ok (before, left)
unfolding cores_in
cores_all profile map choices harts read before left whole past so_far =
    let none : harts - read ≡ 0 = omega (arith, past) in
    sym (rw none at so_far)
