-- The first line feed among bytes.
use Rattle.std.proofs.Common.{◌≡◌, ◌≢◌, ℕ, ◌+◌, ◌<◌, ◌≤◌, List, length, take, drop, get_or, Some, None, sym, ◌∙◌, subst}
use Rattle.std.proofs.Common.{arith, ⊎_elim, le_refl, length-drop, take-add}
use Rattle.std.proofs.lemmas.Bool.{cases_Bool, eqb-true, eqb-false}
use Rattle.std.proofs.lemmas.List.{length-take-le, get_or-take, drop-drop, get_or-drop}
use Rattle.std.proofs.lemmas.List.Elements.{All-from_get_or, All-append}
use Rattle.memchr.specs.Find.{IsFirstByte, Nowhere, Passes, is_byte}
use Rattle.line_text.specs.Lines.{line_feed, IsLine}
use Rattle.trace_lines.specs.Nexts.{IsBeforeFeed}

-- where a search finds nothing, no line feed stands
nowhere_line : (bytes : List ℕ) (end : ℕ) → end ≤ length bytes → Nowhere (Passes (is_byte 10) bytes) 0 end
    → IsLine (take end bytes)
nowhere_line bytes end within nowhere =
    All-from_get_or (λ (byte : ℕ). byte ≢ line_feed) (take end bytes) 0
    (λ place low.
    let len = length-take-le end bytes within in
    let below : place < end = omega arith in
    rw (get_or-take end bytes place 0 below)
    (⊎_elim (λ passes. absurd (nowhere place (omega arith) below passes))
    (λ fails. eqb-false (get_or bytes place 0) 10 fails) (cases_Bool (is_byte 10 (get_or bytes place 0)))))

-- more bytes without a line feed
line_more : (held : List ℕ) (searched count : ℕ) → IsLine (take searched held)
    → IsLine (take count (drop searched held)) → IsLine (take (searched + count) held)
line_more held searched count before next =
    rw (take-add searched count held)
    (All-append (λ (byte : ℕ). byte ≢ line_feed) (take searched held) (take count (drop searched held)) before next)

-- so many of the bytes from a place on have no line feed, and these are the rest of them
pub record IsSearched (bytes : List ℕ) (at searched : ℕ) (rest : List ℕ) : Type 0 where
  pub rest_is : rest ≡ drop (at + searched) bytes
  pub inside : at + searched ≤ length bytes
  pub clear : IsLine (take searched (drop at bytes))

pub feed_found : {bytes rest : List ℕ} {at searched : ℕ} (place : ℕ) → IsSearched bytes at searched rest
    → IsFirstByte (is_byte 10) rest (Some place) → IsBeforeFeed (drop at bytes) (searched + place)
feed_found {bytes} {rest} {at} {searched} place is found =
    let inside = is.inside in
    let same : rest ≡ drop searched (drop at bytes) = is.rest_is ∙ sym (drop-drop searched at bytes) in
    let here = subst (λ (xs : List ℕ). IsFirstByte (is_byte 10) xs (Some place)) same found in
    let len : length (drop searched (drop at bytes)) + searched + at ≡ length bytes =
    omega (arith, length-drop searched (drop at bytes), length-drop at bytes) in
    let high : place < length (drop searched (drop at bytes)) = here.0.high in
    record {
      within = omega (arith, length-drop at bytes);
      line =
          line_more (drop at bytes) searched place is.clear
          (nowhere_line (drop searched (drop at bytes)) place (omega arith) here.0.before);
      feed = λ below. sym (get_or-drop searched (drop at bytes) place 0) ∙ eqb-true _ 10 here.1;
    }

pub feed_nowhere : {bytes rest : List ℕ} {at searched : ℕ} (held : ℕ) → IsSearched bytes at searched rest
    → at + held ≡ length bytes → IsFirstByte (is_byte 10) rest None → IsBeforeFeed (drop at bytes) held
feed_nowhere {bytes} {rest} {at} {searched} held is all nowhere =
    let inside = is.inside in
    let same : rest ≡ drop searched (drop at bytes) = is.rest_is ∙ sym (drop-drop searched at bytes) in
    let here = subst (λ (xs : List ℕ). IsFirstByte (is_byte 10) xs None) same nowhere in
    let size : length (drop at bytes) ≡ held = omega (arith, length-drop at bytes) in
    let len : searched + length (drop searched (drop at bytes)) ≡ held =
    omega (arith, length-drop searched (drop at bytes)) in
    record {
      within = omega arith;
      line =
          rw len at (line_more (drop at bytes) searched (length (drop searched (drop at bytes))) is.clear
          (nowhere_line (drop searched (drop at bytes)) (length (drop searched (drop at bytes))) (le_refl _) here));
      feed = λ below. absurd (omega arith);
    }
