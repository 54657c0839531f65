-- What a sink holds, piece by piece.
use Rattle.std.proofs.Common.{◌≡◌, ℕ, ◌+◌, List, ◌++◌, take, drop, Option, Some, None, option_map, Ok, refl, sym, ap}
use Rattle.std.proofs.Common.{◌∙◌, append_assoc}
use Rattle.std.proofs.Math.Seq.{take-add}
use Rattle.outside_ports.specs.Ports.{held_after}

-- some bytes more
pub wrote_more : {now later : Option (List ℕ)} {piece : List ℕ} (before : Option (List ℕ)) (text : List ℕ)
    (done count : ℕ) → piece ≡ drop done text
    → now ≡ option_map (λ bytes. bytes ++ take done text) before
    → later ≡ option_map (held_after (Ok count) piece) now
    → later ≡ option_map (λ bytes. bytes ++ take (done + count) text) before
wrote_more {now} {later} {piece} before text done count rest so_far after =
    after ∙ ap (λ held. option_map (held_after (Ok count) piece) held) so_far ∙ by before
  where
    by : (held : Option (List ℕ))
        → option_map (held_after (Ok count) piece) (option_map (λ bytes. bytes ++ take done text) held)
        ≡ option_map (λ bytes. bytes ++ take (done + count) text) held
    by None = refl
    by (Some bytes) =
        ap (λ all. Some all)
        (append_assoc bytes (take done text) (take count piece)
        ∙ ap (λ more. bytes ++ more) (ap (λ p. take done text ++ take count p) rest ∙ sym (take-add done count text)))
