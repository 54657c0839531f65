-- The writes of a plain row's store leave the bytes that the row shows.
use Rattle.std.proofs.Common.{◌≡◌, ℕ, zero, suc, ◌+◌, ◌≤◌, Bool, true, false, List, []}
use Rattle.std.proofs.Common.{◌∷◌, ◌++◌, length, refl, sym, ap, ◌∙◌, arith, if◌then◌else◌}
use Rattle.std.proofs.lemmas.List.{length-append}
use Rattle.hart_words.specs.declared.accesses.Write.{Write}
use Rattle.hart_words.specs.declared.span.Span.{Span}
use Rattle.hart_words.specs.Memory.{Bytes, after_writes, bytes_after_store}
use Rattle.hart_words.proofs.Runs.{after_writes-append}
use Rattle.hart_words.specs.Actions.{Performs}
use Rattle.hart_words.specs.Signals.{Shown}
use Rattle.rvfi_rows.specs.Window.{moved_down}
use Rattle.hart_step.specs.declared.state.Core.{Core}
use Rattle.hart_step.specs.declared.shown_store.ShownStore.{ShownStore}
use Rattle.hart_step.specs.PlainRows.{byte_place, bytes_put, core_shown, shows_store, stores_byte, store_shown}
use Rattle.hart_step.specs.TakenRows.{byte_write, byte_writes, taken_of, writes_of, writes_shown}

one_put : (test : Bool) (pa value : ℕ) (bytes : Bytes)
    → after_writes (if test then record { pa = pa; len = 1; value = value } ∷ [] else []) bytes
    ≡ (if test then bytes_after_store pa 1 value bytes else bytes)
unfolding after_writes
one_put true pa value bytes = refl
one_put false pa value bytes = refl

pub bytes_written : (ram : Span) (store : ShownStore) (count : ℕ) (bytes : Bytes)
    → after_writes (byte_writes ram store count) bytes ≡ bytes_put ram store count bytes
unfolding byte_writes bytes_put after_writes
bytes_written ram store zero bytes = refl
bytes_written ram store (suc number) bytes =
    after_writes-append (byte_writes ram store number) (byte_write ram store number) bytes
    ∙ ap (after_writes (byte_write ram store number)) (bytes_written ram store number bytes)
    ∙ one_put (stores_byte ram store number) (byte_place store number) (moved_down store.value number)
    (bytes_put ram store number bytes)

at_most_one : (test : Bool) (write : Write) → length (if test then write ∷ [] else []) ≤ 1
at_most_one true write = omega arith
at_most_one false write = omega arith

pub at_most : (ram : Span) (store : ShownStore) (count : ℕ) → length (byte_writes ram store count) ≤ count
unfolding byte_writes
at_most ram store zero = omega arith
at_most ram store (suc number) =
    let before = at_most ram store number in
    let more =
    at_most_one (stores_byte ram store number)
    (record { pa = byte_place store number; len = 1; value = moved_down store.value number }) in
    let both : length (byte_writes ram store number ++ byte_write ram store number)
    ≡ length (byte_writes ram store number) + length (byte_write ram store number) =
    length-append (byte_writes ram store number) (byte_write ram store number) in
    omega (arith, before, more, both)

-- a plain row that stores nothing was taken
pub took_none : (core next : Core) (shown : Shown) (bytes : Bytes) → shows_store shown ≡ false
    → next ≡ core_shown core shown → Performs (taken_of core shown) next [] [] [] [] bytes bytes
unfolding taken_of writes_shown after_writes
took_none core next shown bytes is same =
    let none : writes_shown core shown ≡ [] =
    ap (λ b. if b then writes_of core.map.ram (store_shown shown) else []) is in
    record {
      value_is = same;
      seen_is = refl;
      wrote_is = sym none;
      bytes_are = ap (λ w. after_writes w bytes) (sym none);
    }

-- one that stores was taken: the writes leave the bytes that it shows
pub took_store : (core next : Core) (shown : Shown) (store : ShownStore) (wrote : List Write) (before now : Bytes)
    → shows_store shown ≡ true → next ≡ core_shown core shown → store ≡ store_shown shown
    → wrote ≡ writes_of core.map.ram store → ((bytes : Bytes) → after_writes wrote bytes
    ≡ bytes_put core.map.ram store 8 bytes) → now ≡ bytes_put core.map.ram store 8 before
    → Performs (taken_of core shown) next [] [] [] wrote before now
unfolding taken_of writes_shown
took_store core next shown store wrote before now is same store_is wrote_is puts put =
    let all : writes_shown core shown ≡ writes_of core.map.ram (store_shown shown) =
    ap (λ b. if b then writes_of core.map.ram (store_shown shown) else []) is in
    let those : wrote ≡ writes_shown core shown = wrote_is ∙ ap (writes_of core.map.ram) store_is ∙ sym all in
    record {
      value_is = same;
      seen_is = refl;
      wrote_is = those;
      bytes_are = put ∙ sym (puts before) ∙ ap (λ w. after_writes w before) those;
    }
