-- Texts that begin with a given front.
use Rattle.std.proofs.Common.{◌≡◌, ℕ, Bool, true, false, ◌&&◌, List, [], ◌∷◌, ◌++◌, length, take, drop, nat_eq, refl}
use Rattle.std.specs.Cmp.Lexicographic.{pointwise}
use Rattle.std.specs.Str.{bytes_eq}

both : (b c d e : Bool) → (b && c) ≡ true → (c ≡ true → d ≡ e) → (b && d) ≡ e
both true c d e h same = same h
both false c d e h same = cc

neither : (b c d : Bool) → (b && c) ≡ false → (c ≡ false → d ≡ false) → (b && d) ≡ false
neither true c d h differs = differs h
neither false c d h differs = refl

-- after an equal front, the rest decides
pub bytes_eq-front : (s p more : List ℕ) → pointwise nat_eq (take (length p) s) p ≡ true
    → bytes_eq s (p ++ more) ≡ bytes_eq (drop (length p) s) more
bytes_eq-front s [] more h = refl
bytes_eq-front [] (x ∷ p) more h = cc
bytes_eq-front (y ∷ s) (x ∷ p) more h = both _ _ _ _ h (bytes_eq-front s p more)

-- where the front differs, the whole does
pub bytes_eq-other_front : (s p more : List ℕ) → pointwise nat_eq (take (length p) s) p ≡ false
    → bytes_eq s (p ++ more) ≡ false
bytes_eq-other_front s [] more h = cc
bytes_eq-other_front [] (x ∷ p) more h = refl
bytes_eq-other_front (y ∷ s) (x ∷ p) more h = neither _ _ _ h (bytes_eq-other_front s p more)
