-- Entries of which none is configured.
use Rattle.std.proofs.Common.{◌≡◌, ◌∙◌, ℕ, ◌+◌, ◌<◌, ◌==◌, ◌&&◌, List, ap, arith, bit_or, get_or, length, sym, take}
use Rattle.std.specs.List.{list_all}
use Rattle.std.proofs.lemmas.Bool.Decides.{nat_tests}
use Rattle.std.specs.Int.Bits.{or_add_and}
use Rattle.std.proofs.lemmas.Nat.{le_or_l, le_or_r}
use Rattle.std.proofs.lemmas.List.Folds.{list_all_more}
use Rattle.hart_words.specs.declared.privilege.PmpEntry.{PmpEntry}

neither_set : (a b : ℕ) → (bit_or a b == 0) ≡ ((a == 0) && (b == 0))
neither_set a b = grind (arith, nat_tests, le_or_l a b, le_or_r a b, or_add_and a b)

pub unset-next : (entries : List PmpEntry) (i configured : ℕ) (none : PmpEntry) → i < length entries
    → (configured == 0) ≡ list_all (λ entry. entry.cfg == 0) (take i entries)
    → (bit_or configured (get_or entries i none).cfg == 0) ≡ list_all (λ entry. entry.cfg == 0) (take (i + 1) entries)
unset-next entries i configured none more so_far =
    neither_set configured (get_or entries i none).cfg
    ∙ ap (λ all. all && ((get_or entries i none).cfg == 0)) so_far
    ∙ sym (list_all_more (λ (entry : PmpEntry). entry.cfg == 0) entries i none more)
