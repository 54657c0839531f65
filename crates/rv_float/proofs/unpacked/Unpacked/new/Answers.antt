use Rattle.std.proofs.Common.{◌≡◌, ℕ, ◌/◌, ◌%◌, ◌==◌, subst}
use Rattle.float_rounding.specs.Formats.{magnitude_value, value_of}
use Rattle.rv_float.specs.Unpacked.{value_shown}
use Rattle.rv_float.proofs.unpacked.Unpacked.new.Goals as goal

pub returns : goal.returns
unfolding value_of
returns c =
    subst
    (λ (sign : ℕ). value_shown c.of_magnitude.result ≡ magnitude_value c.args.format (c.args.bits / sign % 2 == 1)
    (c.args.bits % sign))
    c.sign_bit-sign.ensures c.of_magnitude.ensures
