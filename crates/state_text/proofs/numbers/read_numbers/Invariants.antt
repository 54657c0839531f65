use Rattle.std.proofs.Common.{◌≡◌, [], take, drop, length}
use Rattle.state_text.specs.Numbers.{number_names}
use Rattle.state_text.specs.Reading.{numbers_in}
use Rattle.state_text.specs.Views.{remaining_of}
use Rattle.state_text.proofs.numbers.read_numbers.Given as goal

abbrev pub invariant-loop-place : goal.invariant-loop-place
invariant-loop-place l = record {
  len : length l.numbers ≡ 70;
  leads :
      numbers_in l.profile (drop l.place number_names) (drop l.place l.kinds) (take l.place l.numbers)
      (remaining_of l.remaining)
      ≡ numbers_in l.profile number_names l.kinds [] (remaining_of l.fn.remaining);
}
