-- What an action gives and writes, by its parts.
use Rattle.std.proofs.Common.{◌≡◌, ℕ, ◌-◌, ◌/◌, ◌%◌, ◌^◌, ◌<◌, Bool, true, false, List, [], ◌∷◌, ◌++◌, refl, sym, ap}
use Rattle.std.proofs.Common.{◌∙◌}
use Rattle.std.proofs.Common.{subst, arith, if◌then◌else◌}
use Rattle.hart_words.specs.declared.accesses.Read.{Read}
use Rattle.hart_words.specs.declared.accesses.Write.{Write}
use Rattle.hart_words.specs.Memory.{Bytes, after_writes, bytes_after_store, is_within}
use Rattle.hart_words.specs.Actions.{Action, pure, read_memory, mapped, ◌>>=◌}
use Rattle.hart_words.proofs.Runs.{run_then-is}

-- ---- what two actions give, one after the other

-- each address holds a byte
abbrev pub AreBytes : Bytes → Type 0
AreBytes bytes = (address : ℕ) → bytes address < 256

stored_by : (within : Bool) (new old : ℕ) → old < 256 → (if within then new % 256 else old) < 256
stored_by true new old few = omega arith
stored_by false new old few = few

stored_bytes : (pa len value : ℕ) (bytes : Bytes) → AreBytes bytes → AreBytes (bytes_after_store pa len value bytes)
unfolding bytes_after_store
stored_bytes pa len value bytes are address =
    stored_by (is_within pa len address) (value / 256 ^ (address - pa)) (bytes address) (are address)

pub written_bytes : (wrote : List Write) (bytes : Bytes) → AreBytes bytes → AreBytes (after_writes wrote bytes)
unfolding after_writes
written_bytes [] bytes are = are
written_bytes (write ∷ wrote) bytes are =
    written_bytes wrote (bytes_after_store write.pa write.len write.value bytes)
    (stored_bytes write.pa write.len write.value bytes are)

-- the second finds bytes too, whatever the first wrote
pub then_gives_bytes : {A B : Type 0} (P : B → Type 0) (first : Action A) (next : A → Action B) (bytes : Bytes)
    → AreBytes bytes → ((now : Bytes) → AreBytes now → P ((next (first.run bytes).value).run now).value)
    → P ((first >>= next).run bytes).value
then_gives_bytes P first next bytes are more =
    let wrote = (first.run bytes).wrote in
    subst P (sym (ap (λ run. run.value) (run_then-is first next bytes)))
    (more (after_writes wrote bytes) (written_bytes wrote bytes are))

-- ---- actions that write nothing

abbrev pub WritesNone : {A : Type 0} → Action A → Type 0
WritesNone action = (bytes : Bytes) → (action.run bytes).wrote ≡ []

nothing_more : (wrote more : List Write) → wrote ≡ [] → more ≡ [] → wrote ++ more ≡ []
nothing_more wrote more none last = ap (λ w. w ++ more) none ∙ last

pub then_none : {A B : Type 0} (first : Action A) (next : A → Action B) → WritesNone first
    → ((x : A) → WritesNone (next x)) → WritesNone (first >>= next)
then_none first next one more bytes =
    let before = first.run bytes in
    let now = after_writes before.wrote bytes in
    ap (λ run. run.wrote) (run_then-is first next bytes)
    ∙ nothing_more before.wrote ((next before.value).run now).wrote (one bytes) (more before.value now)

pub pure_none : {A : Type 0} (x : A) → WritesNone (pure x)
unfolding pure
pure_none x bytes = refl

pub read_none : (read : Read) → WritesNone (read_memory read)
unfolding read_memory
read_none read bytes = refl

pub mapped_none : {A B : Type 0} (f : A → B) (action : Action A) → WritesNone action → WritesNone (mapped f action)
unfolding mapped
mapped_none f action none bytes = none bytes

pub unwritten : {A : Type 0} (action : Action A) (bytes : Bytes) → WritesNone action
    → after_writes (action.run bytes).wrote bytes ≡ bytes
unfolding after_writes
unwritten action bytes none = ap (λ wrote. after_writes wrote bytes) (none bytes)
