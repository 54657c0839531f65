use Rattle.std.proofs.Common.{◌≡◌, sym, subst, refl, Option, Bool, true, false, not}
use Rattle.std.specs.Prelude.{◌++◌}
use Rattle.hart_words.specs.Actions.{Notes}
use Rattle.hart_words.proofs.Powers.{bits_of_bytes}
use Rattle.mem_access.specs.declared.place.Place.{Place}
use Rattle.hart_step.specs.MemoryAccess.{put_at}
use Rattle.hart_step.proofs.Ways.{stored_by_device, stored_at_one, stored_at_two}
use Rattle.hart_step.proofs.memory.note_store.Goals as goal

unset : {b : Bool} → not b ≡ true → b ≡ false
unset {b = true} is = cc
unset {b = false} is = refl

still_set : {b : Bool} → not b ≡ false → b ≡ true
still_set {b = true} is = refl
still_set {b = false} is = cc

pub returns-then-not-first-clause-put : goal.returns-then-not-first-clause-put
returns-then-not-first-clause-put c = λ seen sets bytes.
    let first = c.args.first in
    let request = c.args.request.now in
    let memory : first.is_device ≡ false = unset c.if-not-first.true in
    let P : Option Place → Type 0 =
    λ second. Notes (put_at (first, second) request c.args.value) tt seen seen sets (sets ++ c.put.new.self) bytes in
    subst P (sym c.in-None.is)
    (stored_at_one first request c.args.value seen sets bytes memory
    (rw (c.requires.blank, c.bytes-len.ensures.value) at c.put.ensures))

pub returns-else-not-first-clause-put : goal.returns-else-not-first-clause-put
returns-else-not-first-clause-put c = λ seen sets bytes.
    let first = c.args.first in
    let request = c.args.request.now in
    let device : first.is_device ≡ true = still_set c.if-not-first.false in
    let P : Option Place → Type 0 =
    λ second. Notes (put_at (first, second) request c.args.value) tt seen seen sets (sets ++ c.args.stores.now)
    bytes in
    subst P (sym c.in-None.is)
    (stored_by_device first request c.args.value seen sets bytes device c.requires.blank)

pub returns-in-Some-clause-put : goal.returns-in-Some-clause-put
returns-in-Some-clause-put c = λ seen sets bytes.
    let first = c.args.first in
    let second = c.in-Some.second in
    let request = c.args.request.now in
    let P : Option Place → Type 0 =
    λ more. Notes (put_at (first, more) request c.args.value) tt seen seen sets (sets ++ c.put-in-Some-2.new.self)
    bytes in
    subst P (sym c.in-Some.is)
    (stored_at_two first second request c.args.value seen sets bytes
    (rw (
      c.put-in-Some-2.ensures,
      c.put-in-Some.ensures,
      c.requires.blank,
      c.from.ensures,
      c.first_len-low.ensures,
      c.bytes-len.ensures.value,
      bits_of_bytes,
    ) refl))
