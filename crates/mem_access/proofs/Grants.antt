-- The place of an access is granted.
use Rattle.std.proofs.Common.{◌≡◌, ℕ, Bool, true, false, ◌&&◌, List, [], ◌∷◌, get_or, refl, sym, ap, subst}
use Rattle.std.proofs.Common.{filter, Ok, Err, Result, if◌then◌else◌}
use Rattle.std.specs.Prelude.{All, IfOk}
use Rattle.std.proofs.lemmas.List.Elements.{All-nil, All-push, All-append}
use Rattle.hart_words.specs.declared.privilege.Cause.{Cause}
use Rattle.hart_words.specs.declared.map.Map.{Map}
use Rattle.hart_words.specs.Memory.{Bytes, after_writes}
use Rattle.hart_words.specs.Devices.{is_device}
use Rattle.hart_words.specs.Spans.{holds_all}
use Rattle.hart_words.specs.Privilege.{access_fault_of}
use Rattle.hart_words.specs.Actions.{Action, ◌>>=◌}
use Rattle.hart_words.proofs.Runs.{run_then-is}
use Rattle.csr_file.specs.declared.csrs.Csrs.{Csrs}
use Rattle.mem_access.specs.declared.place.AccessRequest.{AccessRequest}
use Rattle.mem_access.specs.declared.place.Place.{Place}
use Rattle.mem_access.specs.Places.{is_permitted, place_in, place_of}
use Rattle.mem_access.specs.Translation.{place_after_translation}
use Rattle.mem_access.specs.Laws.{IsPermittedPlace}

-- a list of one
pub one_element : {X : Type 0} (P : X → Type 0) (x : X) → P x → All P (x ∷ [])
one_element P x holds = All-push P [] x (All-nil P) holds

pub each_is : {X : Type 0} (P Q : X → Type 0) (xs : List X) → ((x : X) → P x → Q x) → All P xs → All Q xs
each_is P Q xs more all = λ k d below. more (get_or xs k d) (all k d below)

-- the entries that a walk reads can be read
filtered_from : {X : Type 0} (p : X → Bool) (x : X) (xs : List X) (test : Bool) → p x ≡ test
    → All (λ y. p y ≡ true) xs → All (λ y. p y ≡ true) (if test then x ∷ xs else xs)
filtered_from p x xs true is rest = All-append (λ y. p y ≡ true) (x ∷ []) xs (one_element (λ y. p y ≡ true) x is) rest
filtered_from p x xs false is rest = rest

pub filtered : {X : Type 0} (p : X → Bool) (xs : List X) → All (λ x. p x ≡ true) (filter p xs)
filtered p [] = All-nil (λ x. p x ≡ true)
filtered p (x ∷ xs) = filtered_from p x (filter p xs) (p x) refl (filtered p xs)

-- a place is granted
in_by : (csrs : Csrs) (map : Map) (request : AccessRequest) (pa : ℕ) (held device : Bool)
    → holds_all map.ram pa request.len ≡ held → is_permitted csrs request pa ≡ true
    → IfOk
    (if held then Ok (record { pa = pa; is_device = false })
    else if device then Ok (record { pa = pa; is_device = true })
    else Err (access_fault_of request.access)) (IsPermittedPlace csrs map request)
in_by csrs map request pa true device is granted = record { granted = granted; inside = λ ram. is }
in_by csrs map request pa false true is granted = record { granted = granted; inside = λ ram. cc }
in_by csrs map request pa false false is granted = tt

placed_by : (csrs : Csrs) (map : Map) (request : AccessRequest) (pa : ℕ) (granted : Bool)
    → is_permitted csrs request pa ≡ granted
    → IfOk (if granted then place_in map request pa else Err (access_fault_of request.access))
    (IsPermittedPlace csrs map request)
placed_by csrs map request pa true is =
    in_by csrs map request pa (holds_all map.ram pa request.len) (request.devices && is_device map.io pa request.len)
    refl is
placed_by csrs map request pa false is = tt

pub behind_granted : (csrs : Csrs) (map : Map) (request : AccessRequest) (pa : Result ℕ Cause)
    → IfOk (place_after_translation csrs map request pa) (IsPermittedPlace csrs map request)
unfolding place_of
behind_granted csrs map request (Err cause) = tt
behind_granted csrs map request (Ok pa) = placed_by csrs map request pa (is_permitted csrs request pa) refl

-- no device answers an access that devices do not answer
abbrev pub IsMemory : Place → Type 0
IsMemory place = place.is_device ≡ false

memory_in : (map : Map) (request : AccessRequest) (pa : ℕ) (held device : Bool)
    → IfOk
    (if held then Ok (record { pa = pa; is_device = false }) else if false
    && device then Ok (record { pa = pa; is_device = true }) else Err (access_fault_of request.access)) IsMemory
memory_in map request pa true device = refl
memory_in map request pa false device = tt

memory_by : (map : Map) (request : AccessRequest) (pa : ℕ) (granted : Bool) → request.devices ≡ false
    → IfOk (if granted then place_in map request pa else Err (access_fault_of request.access)) IsMemory
memory_by map request pa true none =
    let P : Bool → Type 0 =
    λ devices. IfOk
    (if holds_all map.ram pa request.len then Ok (record { pa = pa; is_device = false }) else if devices
    && is_device map.io pa request.len then Ok (record { pa = pa; is_device = true }) else Err
    (access_fault_of request.access)) IsMemory in
    subst P (sym none) (memory_in map request pa (holds_all map.ram pa request.len) (is_device map.io pa request.len))
memory_by map request pa false none = tt

pub behind_memory : (csrs : Csrs) (map : Map) (request : AccessRequest) (pa : Result ℕ Cause)
    → request.devices ≡ false → IfOk (place_after_translation csrs map request pa) IsMemory
unfolding place_of
behind_memory csrs map request (Err cause) none = tt
behind_memory csrs map request (Ok pa) none = memory_by map request pa (is_permitted csrs request pa) none

-- what two actions give, one after the other
pub then_gives : {A B : Type 0} (P : B → Type 0) (first : Action A) (next : A → Action B) (bytes : Bytes)
    → ((now : Bytes) → P ((next (first.run bytes).value).run now).value) → P ((first >>= next).run bytes).value
then_gives P first next bytes more =
    let before = first.run bytes in
    let now = after_writes before.wrote bytes in
    subst P (sym (ap (λ t. t.value) (run_then-is first next bytes))) (more now)
