use Rattle.std.proofs.Common.{◌≡◌, ◌∙◌, sym, ap, is_some, true, false}
use Rattle.image_text.specs.Bytes.{byte_at}
use Rattle.image_text.proofs.ImageLemmas.{put_outside, put_overlap, put_byte, put_address, after_bad, after_refused}
use Rattle.image_text.proofs.ImageLemmas.{after_put}
use Rattle.image_text.proofs.image.PartialImage.take.Goals as goal

pub returns-in-Err : goal.returns-in-Err
returns-in-Err c = λ others. rw c.fault_in.ensures (after_bad _ _ _ _ others _ (sym c.in-Err.ensures))

pub returns-then-not-contains : goal.returns-then-not-contains
returns-then-not-contains c = λ others.
    let word = rw c.in-Ok-Byte.field-0-is at (sym c.in-Ok-Byte.ensures) in
    let outside = sym c.contains.ensures.value ∙ c.if-not-contains.true in
    rw c.fault_in-then-not-contains.ensures
    (after_refused _ _ _ _ others word (put_outside _ _ _ c.in-Ok-Byte.value outside))

pub returns-then-is_some : goal.returns-then-is_some
returns-then-is_some c = λ others.
    let word = rw c.in-Ok-Byte.field-0-is at (sym c.in-Ok-Byte.ensures) in
    let inside = sym c.contains.ensures.value ∙ c.if-not-contains.false in
    let taken : is_some (byte_at c.args.self.now.pieces c.args.self.now.address) ≡ true =
    ap is_some (sym c.byte.ensures) ∙ sym c.is_some.ensures ∙ c.if-is_some.true in
    rw c.fault_in-then-is_some.ensures
    (after_refused _ _ _ _ others word (put_overlap _ _ _ c.in-Ok-Byte.value inside taken))

pub returns-in-Ok-Address : goal.returns-in-Ok-Address
returns-in-Ok-Address c = λ others.
    let word = rw c.in-Ok-Address.field-0-is at (sym c.in-Ok-Address.ensures) in
    after_put _ _ _ _ others word (put_address _ _ _ _)

pub returns-in_ok-put-in-Ok-Byte : goal.returns-in_ok-put-in-Ok-Byte
returns-in_ok-put-in-Ok-Byte c = λ others.
    let word = rw c.in-Ok-Byte.field-0-is at (sym c.in-Ok-Byte.ensures) in
    let inside = sym c.contains.ensures.value ∙ c.if-not-contains.false in
    let free : is_some (byte_at c.args.self.now.pieces c.args.self.now.address) ≡ false =
    ap is_some (sym c.byte.ensures) ∙ sym c.is_some.ensures ∙ c.if-is_some.false in
    rw c.in_ok-put-in-Ok-Byte.ensures.put
    (after_put _ _ _ _ others word (put_byte _ _ _ c.in-Ok-Byte.value inside free))
