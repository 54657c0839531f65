use Rattle.std.proofs.Common.{◌≡◌, ℕ, true, false, List, ◌++◌, length, take, drop, MatchOption, Option, Some, None, ◌+◌}
use Rattle.std.proofs.Common.{nat_eq, Bor}
use Rattle.std.specs.Cmp.Lexicographic.{pointwise}
use Rattle.std.specs.Str.{bytes_eq}
use Rattle.hart_words.proofs.Texts.{bytes_eq-front, bytes_eq-other_front}
use Rattle.hart_words.proofs.signal.rest_after.Goals as goal

cases : (s p more : List ℕ) (r : Option (Bor (List ℕ)))
    → MatchOption r (pointwise nat_eq (take (length p) s) p ≡ false)
    (λ x. (pointwise nat_eq (take (length p) s) p ≡ true) × (x.now ≡ drop (length p) s)
    × (length x.now + length p ≡ length s))
    → MatchOption r (bytes_eq s (p ++ more) ≡ false) (λ rest. bytes_eq s (p ++ more) ≡ bytes_eq rest.now more)
cases s p more None h = bytes_eq-other_front s p more h
cases s p more (Some x) h = rw h.1 (bytes_eq-front s p more h.0)

pub returns : goal.returns
returns c = λ more. cases c.args.text.now c.args.front.now more _ c.strip_prefix.ensures.cases
