use Rattle.std.proofs.Common.{◌≡◌, ◌^◌, ◌<◌, take, true}
use Rattle.std.specs.List.{list_all}
use Rattle.std.specs.Char.{is_digit}
use Rattle.std.specs.Str.Parse.{digits_value}
use Rattle.hart_words.proofs.numbers.short_value_of.Given as goal

-- what stands before the index are digits, with their value, which so many digits can have
abbrev pub invariant-loop-digit : goal.invariant-loop-digit
invariant-loop-digit l = record {
  digits : list_all (λ c. is_digit c l.radix) (take l.digit-index l.digits) ≡ true;
  value : l.value ≡ digits_value l.radix (take l.digit-index l.digits);
  below : l.value < l.radix ^ l.digit-index;
}
