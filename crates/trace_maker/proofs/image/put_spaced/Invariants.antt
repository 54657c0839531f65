use Rattle.std.proofs.Common.{◌≡◌, ◌++◌, ◌∷◌, [], codes, take}
use Rattle.std.specs.List.{flat_map}
use Rattle.hex.specs.Hex.{encode_lower}
use Rattle.trace_maker.proofs.image.put_spaced.Given as goal

abbrev pub invariant-loop-byte : goal.invariant-loop-byte
invariant-loop-byte l =
    l.text ≡ l.initial.text ++ flat_map (λ byte. codes " " ++ encode_lower (byte ∷ [])) (take l.byte-index l.others)
