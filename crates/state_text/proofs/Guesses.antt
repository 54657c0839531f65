-- What is guessed from digits that were written is what was written, and what is guessed is small.
use Rattle.std.proofs.Common.{◌≡◌, ℕ, zero, suc, ◌*◌, ◌<◌, List, ◌++◌, length, take, drop, get_or}
use Rattle.std.proofs.Common.{refl, sym, ap, ◌∙◌}
use Rattle.std.proofs.Common.{append_assoc, arith, Result, Ok, Err}
use Rattle.std.specs.Prelude.{◌^◌, codes, replicate}
use Rattle.std.specs.Int.{w64, to_be_bytes, from_be_bytes}
use Rattle.std.proofs.lemmas.List.{take_at, drop_at, length-replicate}
use Rattle.std.proofs.lemmas.Nat.{from_be_bytes-to_be_bytes_8}
use Rattle.hex.specs.declared.error.FromHexError.{FromHexError}
use Rattle.hex.specs.Hex.{encode_lower, decode_sized, lower_digits, IsBytes}
use Rattle.hex.proofs.HexLemmas.{length-encode_with, decode_sized-encode_lower, decode_sized-ok, decode_sized-twice}
use Rattle.hex.proofs.HexLemmas.{decode_of-ok}
use Rattle.state_text.specs.Lines.{digits_of, number_line}
use Rattle.state_text.specs.Reading.{bytes_or_zeros, guess_of_bytes, guess_of_number}

pub small_bytes : (n : ℕ) → IsBytes (to_be_bytes w64 n)
small_bytes n zero = omega arith
small_bytes n (suc zero) = omega arith
small_bytes n (suc (suc zero)) = omega arith
small_bytes n (suc (suc (suc zero))) = omega arith
small_bytes n (suc (suc (suc (suc zero)))) = omega arith
small_bytes n (suc (suc (suc (suc (suc zero))))) = omega arith
small_bytes n (suc (suc (suc (suc (suc (suc zero)))))) = omega arith
small_bytes n (suc (suc (suc (suc (suc (suc (suc zero))))))) = omega arith
small_bytes n (suc (suc (suc (suc (suc (suc (suc (suc i)))))))) = omega arith

-- bytes that stand in digits after so many others
pub bytes_again : (front bytes rest : List ℕ) (place count : ℕ) → length front ≡ place → length bytes ≡ count
    → IsBytes bytes → guess_of_bytes place count (front ++ (encode_lower bytes ++ rest)) ≡ bytes
unfolding guess_of_bytes
bytes_again front bytes rest place count long len small =
    let dropped = drop_at front (encode_lower bytes ++ rest) place long in
    let digits : length (encode_lower bytes) ≡ 2 * count = rw (← len) (length-encode_with lower_digits bytes) in
    let taken = take_at (encode_lower bytes) rest (2 * count) digits in
    rw (dropped, taken, decode_sized-encode_lower bytes count len small) refl

pub number_again : (name rest : List ℕ) (number : ℕ) → number < 2 ^ 64
    → guess_of_number (length name) (number_line name number ++ rest) ≡ number
unfolding guess_of_number number_line
number_again name rest number small =
    let split : (name ++ (digits_of number ++ codes "\n")) ++ rest
    ≡ name ++ (digits_of number ++ (codes "\n" ++ rest)) =
    append_assoc name (digits_of number ++ codes "\n") rest
    ∙ ap (λ (t : List ℕ). name ++ t) (append_assoc (digits_of number) (codes "\n") rest) in
    let bytes = bytes_again name (to_be_bytes w64 number) (codes "\n" ++ rest) (length name) 8 refl refl
    (small_bytes number) in
    ap (λ (t : List ℕ). from_be_bytes w64 (guess_of_bytes (length name) 8 t)) split
    ∙ ap (from_be_bytes w64) bytes ∙ from_be_bytes-to_be_bytes_8 number small

zeros : (count i : ℕ) → get_or (replicate count 0) i 0 < 256
zeros zero i = omega arith
zeros (suc count) zero = omega arith
zeros (suc count) (suc i) = zeros count i

-- bytes that are guessed are bytes, as many as are asked for
pub guessed_fit : (place count : ℕ) (text : List ℕ)
    → (length (guess_of_bytes place count text) ≡ count) × IsBytes (guess_of_bytes place count text)
unfolding guess_of_bytes
guessed_fit place count text = by (decode_sized digits count) refl
  where
    digits : List ℕ
    digits = take (2 * count) (drop place text)

    by : (read : Result (List ℕ) FromHexError) → decode_sized digits count ≡ read
        → (length (bytes_or_zeros count read) ≡ count) × IsBytes (bytes_or_zeros count read)
    by (Ok bytes) is =
        let len : length digits ≡ 2 * count = decode_sized-ok digits count bytes is in
        let facts = decode_of-ok digits bytes (sym (decode_sized-twice digits count len) ∙ is) in
        (omega (arith, len, facts.2), facts.3)
    by (Err e) is = (length-replicate count 0, zeros count)

pub guessed_small : (place : ℕ) (text : List ℕ) → guess_of_number place text < 2 ^ 64
unfolding guess_of_number
guessed_small place text =
    let fits = (guessed_fit place 8 text).1 in
    omega (arith, fits 0, fits 1, fits 2, fits 3, fits 4, fits 5, fits 6, fits 7)
