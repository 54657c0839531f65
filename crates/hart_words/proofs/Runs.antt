-- Calls one after another do what their actions do one after another.
use Rattle.std.proofs.Common.{◌≡◌, ℕ, List, [], ◌∷◌, ◌++◌, refl, sym, ap, ◌∙◌, append_assoc, append-nil}
use Rattle.hart_words.specs.declared.accesses.Read.{Read}
use Rattle.hart_words.specs.declared.accesses.Write.{Write}
use Rattle.hart_words.specs.Memory.{Bytes, number_at, bytes_after_store, after_writes}
use Rattle.hart_words.specs.Actions.{Action, pure, read_memory, write_memory, followed_by, run_then, ◌>>=◌, mapped}
use Rattle.hart_words.specs.Actions.{Performs, Observes, Notes}

pub after_writes-append : (writes more : List Write) (bytes : Bytes)
    → after_writes (writes ++ more) bytes ≡ after_writes more (after_writes writes bytes)
unfolding after_writes
after_writes-append [] more bytes = refl
after_writes-append (write ∷ writes) more bytes =
    after_writes-append writes more (bytes_after_store write.pa write.len write.value bytes)

-- what two actions do one after the other
pub run_then-is : {A B : Type 0} (first : Action A) (next : A → Action B) (bytes : Bytes)
    → (first >>= next).run bytes
    ≡ followed_by (first.run bytes) ((next (first.run bytes).value).run (after_writes (first.run bytes).wrote bytes))
unfolding ◌>>=◌ run_then
run_then-is first next bytes = refl

-- the same at a value and a memory that are known
both_at : {A B : Type 0} (first : Action A) (next : A → Action B) (x : A) (bytes now : Bytes)
    → x ≡ (first.run bytes).value → now ≡ after_writes (first.run bytes).wrote bytes
    → (first >>= next).run bytes ≡ followed_by (first.run bytes) ((next x).run now)
both_at first next x bytes now value is =
    run_then-is first next bytes
    ∙ ap (λ y. followed_by (first.run bytes) ((next y).run (after_writes (first.run bytes).wrote bytes))) (sym value)
    ∙ ap (λ m. followed_by (first.run bytes) ((next x).run m)) (sym is)

-- an action that writes nothing ran
pub Performs-observed : {A : Type 0} (action : Action A) (x : A) (s0 s1 : List Read) (wrote : List Write)
    (bytes : Bytes) → Observes action x s0 s1 bytes → Performs action x s0 s1 wrote wrote bytes bytes
unfolding after_writes
Performs-observed action x s0 s1 wrote bytes look = record {
  value_is = look.value_is;
  seen_is = look.seen_is;
  wrote_is = sym (append-nil wrote) ∙ ap (λ w. wrote ++ w) (sym look.writes_none);
  bytes_are = ap (λ w. after_writes w bytes) (sym look.writes_none);
}

pub Observes-pure : {A : Type 0} (x : A) (seen : List Read) (bytes : Bytes) → Observes (pure x) x seen seen bytes
unfolding pure
Observes-pure x seen bytes = record { value_is = refl; seen_is = sym (append-nil seen); writes_none = refl }

pub Observes-read_memory : (read : Read) (value : ℕ) (seen : List Read) (bytes : Bytes)
    → value ≡ number_at bytes read.pa read.len → Observes (read_memory read) value seen (seen ++ read ∷ []) bytes
unfolding read_memory
Observes-read_memory read value seen bytes is = record { value_is = is; seen_is = refl; writes_none = refl }

pub Performs-pure : {A : Type 0} (x : A) (seen : List Read) (wrote : List Write) (bytes : Bytes)
    → Performs (pure x) x seen seen wrote wrote bytes bytes
Performs-pure x seen wrote bytes = Performs-observed (pure x) x seen seen wrote bytes (Observes-pure x seen bytes)

pub Performs-mapped : {A B : Type 0} (f : A → B) (action : Action A) {x : A} {s0 s1 : List Read} {w0 w1 : List Write}
    {b0 b1 : Bytes} → Performs action x s0 s1 w0 w1 b0 b1 → Performs (mapped f action) (f x) s0 s1 w0 w1 b0 b1
unfolding mapped
Performs-mapped f action ran =
    record { value_is = ap f ran.value_is; seen_is = ran.seen_is; wrote_is = ran.wrote_is; bytes_are = ran.bytes_are }

-- what is noted next is noted of the memory with all that was noted before
after_writes-noted : {A : Type 0} (action : Action A) {x : A} {s0 s1 : List Read} {w0 w1 : List Write} {bytes : Bytes}
    → Notes action x s0 s1 w0 w1 bytes
    → after_writes w1 bytes ≡ after_writes (action.run (after_writes w0 bytes)).wrote (after_writes w0 bytes)
after_writes-noted action {w0} {bytes} noted =
    ap (λ w. after_writes w bytes) noted.wrote_is
    ∙ after_writes-append w0 (action.run (after_writes w0 bytes)).wrote bytes

pub Notes-then : {A B : Type 0} (first : Action A) (next : A → Action B) {x : A} {y : B} {s0 s1 s2 : List Read}
    {w0 w1 w2 : List Write} {bytes : Bytes}
    → Notes first x s0 s1 w0 w1 bytes → Notes (next x) y s1 s2 w1 w2 bytes
    → Notes (first >>= next) y s0 s2 w0 w2 bytes
Notes-then first next {x} {s0} {w0} {w1} {bytes} one two =
    let b0 = after_writes w0 bytes in
    let b1 = after_writes w1 bytes in
    let whole = both_at first next x b0 b1 one.value_is (after_writes-noted first one) in
    let before = first.run b0 in
    let after = (next x).run b1 in
    record {
      value_is = two.value_is ∙ sym (ap (λ t. t.value) whole);
      seen_is =
          two.seen_is ∙ ap (λ s. s ++ after.reads) one.seen_is ∙ append_assoc s0 before.reads after.reads
          ∙ ap (λ r. s0 ++ r) (sym (ap (λ t. t.reads) whole));
      wrote_is =
          two.wrote_is ∙ ap (λ w. w ++ after.wrote) one.wrote_is ∙ append_assoc w0 before.wrote after.wrote
          ∙ ap (λ r. w0 ++ r) (sym (ap (λ t. t.wrote) whole));
    }

-- an action that writes nothing notes no write
pub Notes-observed : {A : Type 0} (action : Action A) {x : A} {s0 s1 : List Read} {wrote : List Write} {bytes : Bytes}
    → Observes action x s0 s1 (after_writes wrote bytes) → Notes action x s0 s1 wrote wrote bytes
Notes-observed action {wrote} look = record {
  value_is = look.value_is;
  seen_is = look.seen_is;
  wrote_is = sym (append-nil wrote) ∙ ap (λ w. wrote ++ w) (sym look.writes_none);
}

pub Notes-pure : {A : Type 0} (x : A) (seen : List Read) (wrote : List Write) (bytes : Bytes)
    → Notes (pure x) x seen seen wrote wrote bytes
Notes-pure x seen wrote bytes = Notes-observed (pure x) (Observes-pure x seen (after_writes wrote bytes))

pub Notes-write_memory : (write : Write) (seen : List Read) (wrote : List Write) (bytes : Bytes)
    → Notes (write_memory write) tt seen seen wrote (wrote ++ write ∷ []) bytes
unfolding write_memory
Notes-write_memory write seen wrote bytes =
    record { value_is = refl; seen_is = sym (append-nil seen); wrote_is = refl }

pub Notes-mapped : {A B : Type 0} (f : A → B) (action : Action A) {x : A} {s0 s1 : List Read} {w0 w1 : List Write}
    {bytes : Bytes} → Notes action x s0 s1 w0 w1 bytes → Notes (mapped f action) (f x) s0 s1 w0 w1 bytes
unfolding mapped
Notes-mapped f action noted =
    record { value_is = ap f noted.value_is; seen_is = noted.seen_is; wrote_is = noted.wrote_is }

-- what was noted was then written
pub Performs-noted : {A : Type 0} (action : Action A) {x : A} {s0 s1 : List Read} {w0 w1 : List Write}
    {bytes now : Bytes} → Notes action x s0 s1 w0 w1 bytes → now ≡ after_writes w1 bytes
    → Performs action x s0 s1 w0 w1 (after_writes w0 bytes) now
Performs-noted action noted is = record {
  value_is = noted.value_is;
  seen_is = noted.seen_is;
  wrote_is = noted.wrote_is;
  bytes_are = is ∙ after_writes-noted action noted;
}
