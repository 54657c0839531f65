-- Numbers as command lines and traces write them.
use Rattle.std.specs.Prelude.{ℕ, ◌^◌, Bool, ◌&&◌, ◌||◌, not, List, length, drop, slice_index, Option, Some, None}
use Rattle.std.specs.Prelude.{Result, Ok, Err, nat_lt, ◌==◌, if◌then◌else◌}
use Rattle.std.specs.List.{list_all}
use Rattle.std.specs.Char.{digit_value, is_digit}
use Rattle.std.specs.Str.Parse.{digits_value}
use Rattle.hart_words.specs.declared.numbers.NumberFault.{NumberFault}
use Rattle.hart_words.specs.declared.numbers.NumberFault.TheVariants.{NotNumber, TooWide}

-- one digit or more in the radix, and nothing else: their value
unfoldable pub digits_number : ℕ → List ℕ → Option ℕ
digits_number radix text =
    if not (length text == 0) && list_all (λ c. is_digit c radix) text then Some (digits_value radix text) else None

-- the value of a hexadecimal digit, and for any other byte more than four of them have
abbrev pub nibble : ℕ → ℕ
nibble byte = if nat_lt (digit_value byte) 16 then digit_value byte else 65536

-- the text begins with 0x or 0X
abbrev pub is_hexadecimal : List ℕ → Bool
is_hexadecimal text = (slice_index text 0 == 48) && ((slice_index text 1 == 120) || (slice_index text 1 == 88))

-- decimal digits, or 0x or 0X and hexadecimal digits
unfoldable pub number_of : List ℕ → Option ℕ
number_of text = if is_hexadecimal text then digits_number 16 (drop 2 text) else digits_number 10 text

-- such a number below 2 ^ width
abbrev pub result_within : ℕ → Option ℕ → Result ℕ NumberFault
result_within width None = Err NotNumber
result_within width (Some value) = if nat_lt value (2 ^ width) then Ok value else Err TooWide

unfoldable pub number_within : ℕ → List ℕ → Result ℕ NumberFault
number_within width text = result_within width (number_of text)
