-- Results that may fail at each step, and calls that may also run out of memory.
use Rattle.std.specs.Prelude.{◌≡◌, Bool, Option, Some, None, Result, Ok, Err, if◌then◌else◌}

-- the next step at the value, or the fault
infixl 10 ◌>>=◌
abbrev pub ◌>>=◌ : {A B F : Type 0} → Result A F → (A → Result B F) → Result B F
(Ok x) >>= f = f x
(Err e) >>= f = Err e

-- the same where the next step needs no value
infixl 10 ◌>>◌
abbrev pub ◌>>◌ : {A B F : Type 0} → Result A F → Result B F → Result B F
(Ok x) >> more = more
(Err e) >> more = Err e

-- this fault where the test holds
abbrev pub refuse_if : {F : Type 0} → Bool → F → Result (Unit {0}) F
refuse_if test fault = if test then Err fault else Ok tt

-- the result is this fault; no fault says that memory ran out
abbrev pub FailsAs : {Y F : Type 0} → Option F → Result Y F → Type 0
FailsAs None meant = Unit {0}
FailsAs (Some fault) meant = meant ≡ Err fault

-- what a call returned, seen by `view`, is the result that is meant, unless memory ran out;
-- `fault_in` gives the fault that an error stands for
abbrev pub Gives : {X Y E F : Type 0} → (E → Option F) → (X → Y) → Result X E → Result Y F → Type 0
Gives fault_in view (Ok x) meant = meant ≡ Ok (view x)
Gives fault_in view (Err e) meant = FailsAs (fault_in e) meant

-- what a call returned, its value seen by `view`
abbrev pub result_view : {X Y F : Type 0} → (X → Y) → Result X F → Result Y F
result_view view (Ok x) = Ok (view x)
result_view view (Err fault) = Err fault
