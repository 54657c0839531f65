-- A state is read in three steps: the lines before the harts, the harts, memory.
use Rattle.std.proofs.Common.{◌≡◌, ◌∙◌, ℕ, ◌+◌, Bool, true, false, List, [], Ok, Err, length, refl, sym, Option}
use Rattle.std.proofs.Common.{Some, None}
use Rattle.hart_words.specs.declared.map.Map.{Map}
use Rattle.hart_words.specs.declared.choices.Choices.{Choices}
use Rattle.hart_words.specs.Memory.{Bytes}
use Rattle.hart_words.specs.Results.{FailsAs}
use Rattle.csr_file.specs.declared.profile.CsrProfile.{CsrProfile}
use Rattle.hart_step.specs.declared.state.Core.{Core}
use Rattle.state_text.specs.declared.fault.StateFault.{StateFault}
use Rattle.state_text.specs.declared.fault.StateFault.TheVariants.{WrongHarts}
use Rattle.state_text.specs.declared.fault.StateError.{StateError}
use Rattle.state_text.specs.Counts.{says_harts}
use Rattle.state_text.specs.Reading.{Remaining, front_in}
use Rattle.state_text.specs.Memory.{memory_in}
use Rattle.state_text.specs.Texts.{cores_in, lines_in, state_in, state_fault}

abbrev pub start_of : List ℕ → Remaining
start_of text = record { line = 1; text = text }

-- a text that says another number of harts
pub wrong_harts : (profile : CsrProfile) (map : Map) (choices : Choices) (harts : ℕ) (text : List ℕ) (said : Bool)
    → said ≡ says_harts harts text → said ≡ false → state_in profile map choices harts text ≡ Err WrongHarts
unfolding state_in
wrong_harts profile map choices harts text said is other = let test = sym is ∙ other in rw test refl

-- what was read before memory, of a text that says as many harts
pub record BeforeMemory (profile : CsrProfile) (map : Map) (choices : Choices) (harts : ℕ) (text : List ℕ)
    (cores : List Core)
    (next left : Remaining) :
    Type 0 where
  pub said : says_harts harts text ≡ true
  pub fronted : front_in harts (start_of text) ≡ Ok (tt, next)
  pub read : cores_in profile map choices harts [] next ≡ Ok (cores, left)

pub no_front : (profile : CsrProfile) (map : Map) (choices : Choices) (harts : ℕ) (text : List ℕ) (said : Bool)
    (fault : StateFault)
    → said ≡ says_harts harts text → said ≡ true → front_in harts (start_of text) ≡ Err fault
    → state_in profile map choices harts text ≡ Err fault
unfolding state_in lines_in
no_front profile map choices harts text said fault is holds fails = let test = sym is ∙ holds in rw (test, fails) refl

unread : (profile : CsrProfile) (map : Map) (choices : Choices) (harts : ℕ) (text : List ℕ) (said : Bool)
    (next : Remaining)
    (fault : StateFault) → said ≡ says_harts harts text → said ≡ true
    → front_in harts (start_of text) ≡ Ok (tt, next) → cores_in profile map choices harts [] next ≡ Err fault
    → state_in profile map choices harts text ≡ Err fault
unfolding state_in lines_in
unread profile map choices harts text said next fault is holds fronted fails =
    let test = sym is ∙ holds in rw (test, fronted, fails) refl

pub no_cores : (profile : CsrProfile) (map : Map) (choices : Choices) (harts : ℕ) (text : List ℕ) (said : Bool)
    (next : Remaining)
    (e : StateError) → said ≡ says_harts harts text → said ≡ true
    → front_in harts (start_of text) ≡ Ok (tt, next)
    → FailsAs (state_fault e) (cores_in profile map choices harts [] next)
    → FailsAs (state_fault e) (state_in profile map choices harts text)
no_cores profile map choices harts text said next e is holds fronted fails = by (state_fault e) fails
  where
    by : (fault : Option StateFault) → FailsAs fault (cores_in profile map choices harts [] next)
        → FailsAs fault (state_in profile map choices harts text)
    by None fails = tt
    by (Some fault) fails = unread profile map choices harts text said next fault is holds fronted fails

refused : (profile : CsrProfile) (map : Map) (choices : Choices) (harts : ℕ) (text : List ℕ) (cores : List Core)
    (next left : Remaining)
    (fault : StateFault) → BeforeMemory profile map choices harts text cores next left
    → memory_in map.ram (length left.text + 1) 0 (λ _. 0) left ≡ Err fault
    → state_in profile map choices harts text ≡ Err fault
unfolding state_in lines_in
refused profile map choices harts text cores next left fault before fails =
    rw (before.said, before.fronted, before.read, fails) refl

pub no_memory : (profile : CsrProfile) (map : Map) (choices : Choices) (harts : ℕ) (text : List ℕ)
    (cores : List Core) (next left : Remaining)
    (e : StateError) → BeforeMemory profile map choices harts text cores next left
    → FailsAs (state_fault e) (memory_in map.ram (length left.text + 1) 0 (λ _. 0) left)
    → FailsAs (state_fault e) (state_in profile map choices harts text)
no_memory profile map choices harts text cores next left e before fails = by (state_fault e) fails
  where
    by : (fault : Option StateFault) → FailsAs fault (memory_in map.ram (length left.text + 1) 0 (λ _. 0) left)
        → FailsAs fault (state_in profile map choices harts text)
    by None fails = tt
    by (Some fault) fails = refused profile map choices harts text cores next left fault before fails

pub all_read : (profile : CsrProfile) (map : Map) (choices : Choices) (harts : ℕ) (text : List ℕ) (cores : List Core)
    (next left : Remaining)
    (bytes : Bytes) → BeforeMemory profile map choices harts text cores next left
    → memory_in map.ram (length left.text + 1) 0 (λ _. 0) left ≡ Ok bytes
    → state_in profile map choices harts text ≡ Ok (cores, bytes)
unfolding state_in lines_in
all_read profile map choices harts text cores next left bytes before filled =
    rw (before.said, before.fronted, before.read, filled) refl
