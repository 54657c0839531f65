-- The image that a Verilog memory text describes, or its first fault.
use Rattle.std.specs.Prelude.{ℕ, ◌+◌, ◌%◌, ◌^◌, Bool, ◌==◌, ◌&&◌, nat_le, if◌then◌else◌, List, [], ◌∷◌, length, Option}
use Rattle.std.specs.Prelude.{Some, None, is_some, not, slice_index, Result, Ok, Err}
use Rattle.std.specs.List.{list_all}
use Rattle.std.specs.Char.{is_digit}
use Rattle.std.specs.Str.Parse.{digits_value}
use Rattle.hart_words.specs.declared.span.Span.{Span}
use Rattle.hart_words.specs.Spans.{is_in}
use Rattle.image_text.specs.declared.fault.FaultKind.{FaultKind}
use Rattle.image_text.specs.declared.fault.FaultKind.TheVariants.{BadByte, BadAddress, OutsideRam, Overlap, OpenComment}
use Rattle.image_text.specs.declared.fault.ImageFault.{ImageFault}
use Rattle.image_text.specs.declared.fault.ImageError.{ImageError}
use Rattle.image_text.specs.declared.fault.ImageError.TheVariants as errors
use Rattle.image_text.specs.declared.word.Word.{Word}
use Rattle.image_text.specs.declared.word.Word.TheVariants.{Byte, Address}
use Rattle.image_text.specs.Bytes.{with_byte}
use Rattle.hart_words.specs.Results.{◌>>=◌}
use Rattle.image_text.specs.Tokens.{TokenView, tokens_of, opens_block}

-- the fault that an error stands for; want of memory is none
abbrev pub image_fault : ImageError → Option ImageFault
image_fault (errors.Fault fault) = Some fault
image_fault errors.NoMemory = None

-- each byte is a hexadecimal digit, of either case
abbrev pub are_digits : List ℕ → Bool
are_digits text = list_all (λ c. is_digit c 16) text

-- what a token says: an address in 1 to 16 digits after `@`, or a byte in two digits
unfoldable pub word_of_token : List ℕ → Result Word FaultKind
word_of_token [] = Err BadByte
word_of_token (first ∷ rest) =
    if first == 64 then address_in rest
    else if length rest == 1 && opens_block first (slice_index rest 0) then Err OpenComment
    else if length rest == 1 && are_digits (first ∷ rest) then Ok (Byte (digits_value 16 (first ∷ rest)))
    else Err BadByte
  where
    address_in : List ℕ → Result Word FaultKind
    address_in digits =
        if nat_le 1 (length digits) && nat_le (length digits) 16
        && are_digits digits then Ok (Address (digits_value 16 digits))
        else Err BadAddress

-- the bytes and the address after a word: an address sets it, and a byte stands at it and moves it on
unfoldable pub bytes_after_word : Span → (ℕ → Option ℕ) → ℕ → Word → Result ((ℕ → Option ℕ) × ℕ) FaultKind
bytes_after_word ram bytes address (Address next) = Ok (bytes, next)
bytes_after_word ram bytes address (Byte value) =
    if not (is_in ram address) then Err OutsideRam
    else if is_some (bytes address) then Err Overlap
    else Ok (with_byte bytes address value, (address + 1) % 2 ^ 64)

-- a fault in a line
abbrev pub in_line : {A : Type 0} → ℕ → Result A FaultKind → Result A ImageFault
in_line line (Ok x) = Ok x
in_line line (Err kind) = Err (record { kind = kind; line = line })

-- the bytes after a list of tokens, or the first fault
unfoldable pub bytes_after : Span → (ℕ → Option ℕ) → ℕ → List TokenView → Result (ℕ → Option ℕ) ImageFault
bytes_after ram bytes address [] = Ok bytes
bytes_after ram bytes address (token ∷ others) = do
  word ← in_line token.line (word_of_token token.bytes)
  next ← in_line token.line (bytes_after_word ram bytes address word)
  bytes_after ram next.0 next.1 others

-- the image of a text: no byte at first, and the address 0
abbrev pub image_of : Span → List ℕ → Result (ℕ → Option ℕ) ImageFault
image_of ram text = bytes_after ram (λ _. None) 0 (tokens_of text)
