-- What a part of a step does with memory: a value, what it read for it, and what it wrote; and that
-- memories which agree on what it read give the same.
use Rattle.std.specs.Prelude.{◌≡◌, ℕ, List, [], ◌∷◌, ◌++◌, refl}
use Rattle.std.proofs.Common.{ap, ◌∙◌}
use Rattle.hart_words.specs.declared.accesses.Read.{Read}
use Rattle.hart_words.specs.declared.accesses.Write.{Write}
use Rattle.hart_words.specs.Memory.{Bytes, number_at, after_writes, AgreeOn}
use Rattle.hart_words.specs.Frames.{AgreeOn-after_writes, AgreeOn-front, AgreeOn-back, number_at-read}

-- a value with what was read and written on the way to it, both in order
pub record Run (A : Type 0) : Type 0 where
  pub value : A
  pub reads : List Read
  pub wrote : List Write

-- the same memory, as far as it is read, gives the same
abbrev pub IsFramed : {A : Type 0} → (Bytes → Run A) → Type 0
IsFramed run = (one other : Bytes) → AgreeOn (run one).reads one other → run other ≡ run one

pub record Action (A : Type 0) : Type 0 where
  pub run : Bytes → Run A
  pub framed : IsFramed run

-- one after the other
abbrev pub followed_by : {A B : Type 0} → Run A → Run B → Run B
followed_by first second =
    record { value = second.value; reads = first.reads ++ second.reads; wrote = first.wrote ++ second.wrote }

-- a value, with no access
unfoldable pub pure : {A : Type 0} → A → Action A
pure x = record { run = λ bytes. record { value = x; reads = []; wrote = [] }; framed = λ one other agree. refl }

-- the number at an address
unfoldable pub read_memory : Read → Action ℕ
read_memory read = record {
  run = λ bytes. record { value = number_at bytes read.pa read.len; reads = read ∷ []; wrote = [] };
  framed =
      λ one other agree. ap (λ n. record { value = n; reads = read ∷ []; wrote = [] })
      (number_at-read read one other agree);
}

-- a write is written
unfoldable pub write_memory : Write → Action (Unit {0})
write_memory write =
    record { run = λ bytes. record { value = tt; reads = []; wrote = write ∷ [] }; framed = λ one other agree. refl }

-- the second sees what the first wrote
unfoldable pub run_then : {A B : Type 0} → Action A → (A → Action B) → Bytes → Run B
run_then first next bytes =
    let before = first.run bytes in followed_by before ((next before.value).run (after_writes before.wrote bytes))

pub run_then-framed : {A B : Type 0} (first : Action A) (next : A → Action B) → IsFramed (run_then first next)
unfolding run_then
run_then-framed first next one other agree =
    let before = first.run one in
    let after = (next before.value).run (after_writes before.wrote one) in
    let same = first.framed one other (AgreeOn-front before.reads after.reads one other agree) in
    let later =
    AgreeOn-after_writes after.reads before.wrote one other
    (AgreeOn-back before.reads after.reads one other agree) in
    ap (λ traced. followed_by traced ((next traced.value).run (after_writes traced.wrote other))) same
    ∙ ap (λ traced. followed_by before traced)
    ((next before.value).framed (after_writes before.wrote one) (after_writes before.wrote other) later)

infixl 10 ◌>>=◌
unfoldable pub ◌>>=◌ : {A B : Type 0} → Action A → (A → Action B) → Action B
first >>= next = record { run = run_then first next; framed = run_then-framed first next }

-- the value is made into another
unfoldable pub mapped : {A B : Type 0} → (A → B) → Action A → Action B
mapped f action = record {
  run =
      λ bytes. let before =
      action.run bytes in record { value = f before.value; reads = before.reads; wrote = before.wrote };
  framed =
      λ one other agree. ap (λ traced. record { value = f traced.value; reads = traced.reads; wrote = traced.wrote })
      (action.framed one other agree);
}

-- a call did what the action does: it gave its value, noted its reads and writes after those noted
-- before, and left the memory that the writes make
pub record Performs {A : Type 0} (action : Action A) (value : A) (seen seen' : List Read) (wrote wrote' : List Write)
    (bytes bytes' : Bytes) : Type 0 where
  pub value_is : value ≡ (action.run bytes).value
  pub seen_is : seen' ≡ seen ++ (action.run bytes).reads
  pub wrote_is : wrote' ≡ wrote ++ (action.run bytes).wrote
  pub bytes_are : bytes' ≡ after_writes (action.run bytes).wrote bytes

-- the same of an action that writes nothing
pub record Observes {A : Type 0} (action : Action A) (value : A) (seen seen' : List Read) (bytes : Bytes) : Type 0 where
  pub value_is : value ≡ (action.run bytes).value
  pub seen_is : seen' ≡ seen ++ (action.run bytes).reads
  pub writes_none : (action.run bytes).wrote ≡ []

-- a call noted what the action does to a memory in which what was noted before is written: it gave its value, and
-- noted its reads and writes after those; the memory itself stays as it is
pub record Notes {A : Type 0} (action : Action A) (value : A) (seen seen' : List Read) (wrote wrote' : List Write)
    (bytes : Bytes) : Type 0 where
  pub value_is : value ≡ (action.run (after_writes wrote bytes)).value
  pub seen_is : seen' ≡ seen ++ (action.run (after_writes wrote bytes)).reads
  pub wrote_is : wrote' ≡ wrote ++ (action.run (after_writes wrote bytes)).wrote
