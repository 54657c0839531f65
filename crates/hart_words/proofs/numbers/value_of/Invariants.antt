use Rattle.std.proofs.Common.{◌≡◌, ◌^◌, min, take, true}
use Rattle.std.specs.List.{list_all}
use Rattle.std.specs.Char.{is_digit}
use Rattle.std.specs.Str.Parse.{digits_value}
use Rattle.hart_words.proofs.numbers.value_of.Given as goal

-- what stands before the index are digits, and their value as far as it is kept
abbrev pub invariant-loop-digit : goal.invariant-loop-digit
invariant-loop-digit l =
    (list_all (λ c. is_digit c l.radix) (take l.digit-index l.digits) ≡ true)
    × (l.value ≡ min (digits_value l.radix (take l.digit-index l.digits)) (2 ^ 64))
