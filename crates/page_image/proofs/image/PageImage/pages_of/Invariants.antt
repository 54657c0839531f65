use Rattle.std.proofs.Common.{◌≡◌, ◌<◌, ℕ, None, nat_cmp}
use Rattle.std.specs.Prelude.{nat_eq}
use Rattle.std.specs.BTreeMap as tree
use Rattle.std.specs.HashMap.{get}
use Rattle.std.specs.Map.{lookup}
use Rattle.page_image.proofs.Filling.{over, page_byte, piece_byte}
use Rattle.page_image.proofs.image.PageImage.pages_of.Given as goal

abbrev pub invariant-loop-number : goal.invariant-loop-number
invariant-loop-number l =
    (q k : ℕ) → k < 4096
    → over page_byte piece_byte (get nat_eq l.pages q) (lookup (tree.is_at (nat_cmp q)) l.number-iterator) k
    ≡ over page_byte piece_byte None (tree.get nat_cmp l.pieces.pages q) k
