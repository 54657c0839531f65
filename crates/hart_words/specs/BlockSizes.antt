-- How many bytes a reservation may have: the aligned block that LR reserves, of the Unprivileged ISA's chapter "A
-- Extension for Atomic Instructions".
use Rattle.std.specs.Prelude.{ℕ, ◌==◌, Bool, List, [], ◌∷◌}
use Rattle.std.specs.List.{list_any}

abbrev pub block_sizes : List ℕ
block_sizes = 8 ∷ 16 ∷ 32 ∷ 64 ∷ 128 ∷ 256 ∷ 512 ∷ 1024 ∷ 2048 ∷ 4096 ∷ []

abbrev pub is_block_size : ℕ → Bool
is_block_size size = list_any (λ allowed. size == allowed) block_sizes
