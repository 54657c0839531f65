-- What a guess writes by a plain row leaves the bytes that the row shows, in every memory.
use Rattle.std.proofs.Common.{◌≡◌, ◌-◌, ◌^◌, ◌==◌, ◌≤◌, ℕ, Bool, true, false, []}
use Rattle.std.proofs.Common.{Option, Some, None, if◌then◌else◌, refl, sym, arith}
use Rattle.std.specs.Prelude.{IfSome}
use Rattle.std.proofs.lemmas.Bool.Decides.{nat_tests}
use Rattle.hart_words.specs.declared.span.Span.{Span}
use Rattle.hart_words.specs.Memory.{Bytes, after_writes}
use Rattle.hart_words.specs.Signals.{Shown}
use Rattle.hart_words.specs.Spans.{IsPlace}
use Rattle.hart_step.specs.declared.state.Core.{Core}
use Rattle.hart_step.specs.declared.shown_store.ShownStore.{ShownStore}
use Rattle.hart_step.specs.PlainRows.{bytes_put, memory_shown, shows_store, store_shown}
use Rattle.hart_step.specs.TakenRows.{is_in_page, len_in_page, len_of_mask, writes_by, writes_of, writes_shown}
use Rattle.hart_step.proofs.TakenWrites.{bytes_written}
use Rattle.hart_step.proofs.WholeStores.{put_at_once}

-- so many low bytes, all of them in one page of RAM
record IsWhole (ram : Span) (store : ShownStore) (len : ℕ) : Type 0 where
  pub place : IsPlace ram store.place len
  pub mask : store.mask ≡ 2 ^ len - 1

-- the mask of so many bytes is that of the low ones
abbrev IsMaskOf : ℕ → ℕ → Type 0
IsMaskOf mask len = (mask ≡ 2 ^ len - 1) × ((1 ≤ len) × (len ≤ 8))

masked_by : (mask : ℕ) (one two four eight : Bool) → (mask == 1) ≡ one → (mask == 3) ≡ two → (mask == 15) ≡ four
    → (mask == 255) ≡ eight
    → IfSome (if one then Some 1 else if two then Some 2 else if four then Some 4 else if eight then Some 8 else None)
    (IsMaskOf mask)
masked_by mask true two four eight is a b c = (grind (arith, nat_tests, is), (omega arith, omega arith))
masked_by mask false true four eight a is b c = (grind (arith, nat_tests, is), (omega arith, omega arith))
masked_by mask false false true eight a b is c = (grind (arith, nat_tests, is), (omega arith, omega arith))
masked_by mask false false false true a b c is = (grind (arith, nat_tests, is), (omega arith, omega arith))
masked_by mask false false false false a b c is = tt

masked : (mask : ℕ) → IfSome (len_of_mask mask) (IsMaskOf mask)
masked mask = masked_by mask (mask == 1) (mask == 3) (mask == 15) (mask == 255) refl refl refl refl

page_by : (ram : Span) (store : ShownStore) (len : ℕ) (test : Bool) → is_in_page ram store.place len ≡ test
    → IsMaskOf store.mask len → IfSome (if test then Some len else None) (IsWhole ram store)
page_by ram store len false is mask = tt
page_by ram store len true is mask =
    let some = mask.1.0 in
    let few = mask.1.1 in
    let end = ram.below in
    record {
      place = record {
        low = grind (arith, nat_tests);
        high = grind (arith, nat_tests);
        narrow = grind (arith, nat_tests);
        page = grind (arith, nat_tests);
        nonempty = some;
        at_most_8 = few;
      };
      mask = mask.0;
    }

whole_by : (ram : Span) (store : ShownStore) (len : Option ℕ) → IfSome len (IsMaskOf store.mask)
    → IfSome (len_in_page ram store.place len) (IsWhole ram store)
whole_by ram store None mask = tt
whole_by ram store (Some len) mask = page_by ram store len (is_in_page ram store.place len) refl mask

left_by : (ram : Span) (store : ShownStore) (len : Option ℕ) (bytes : Bytes) → IfSome len (IsWhole ram store)
    → after_writes (writes_by ram store len) bytes ≡ bytes_put ram store 8 bytes
unfolding after_writes
left_by ram store None bytes whole = bytes_written ram store 8 bytes
left_by ram store (Some len) bytes whole = sym (put_at_once ram store len bytes whole.place whole.mask)

store_left : (ram : Span) (store : ShownStore) (bytes : Bytes)
    → after_writes (writes_of ram store) bytes ≡ bytes_put ram store 8 bytes
unfolding writes_of
store_left ram store bytes =
    left_by ram store (len_in_page ram store.place (len_of_mask store.mask)) bytes
    (whole_by ram store (len_of_mask store.mask) (masked store.mask))

row_left : (ram : Span) (store : ShownStore) (stores : Bool) (bytes : Bytes)
    → after_writes (if stores then writes_of ram store else []) bytes
    ≡ (if stores then bytes_put ram store 8 bytes else bytes)
unfolding after_writes
row_left ram store true bytes = store_left ram store bytes
row_left ram store false bytes = refl

pub shown_left : (core : Core) (shown : Shown) (bytes : Bytes)
    → after_writes (writes_shown core shown) bytes ≡ memory_shown core shown bytes
unfolding writes_shown memory_shown
shown_left core shown bytes = row_left core.map.ram (store_shown shown) (shows_store shown) bytes
