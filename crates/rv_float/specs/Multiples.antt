-- What the code has of an exact product.
use Rattle.std.specs.Prelude.{◌*◌, ◌^◌}
use Rattle.rv_float.specs.declared.fused.Multiple.{Multiple}
use Rattle.rv_float.specs.declared.fused.Multiple.TheVariants.{Exactly, Endless, Undefined, Unordered}
use Rattle.rv_float.specs.Sums.{Product, exactly, endless, undefined, unordered}

abbrev pub product_shown : Multiple → Product
product_shown (Exactly term) = exactly term.negative (term.m * 2 ^ term.e)
product_shown (Endless negative) = endless negative
product_shown Undefined = undefined
product_shown Unordered = unordered
