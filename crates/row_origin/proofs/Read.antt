-- The bytes that were read, one after another.
use Rattle.std.proofs.Common.{◌≡◌, ℕ, zero, suc, ◌+◌, List, [], ◌∷◌, ◌++◌, length, Option, refl, sym, ap, ◌∙◌, arith}
use Rattle.std.proofs.Common.{add-one, length-append}
use Rattle.std.proofs.lemmas.List.{append_assoc, append-nil, map-append}
use Rattle.row_origin.specs.declared.origins.ByteOrigin.{ByteOrigin}
use Rattle.row_origin.specs.Origins.{byte_origins}
use Rattle.row_origin.specs.Sources.{addresses_from}

-- one address more
from_suc : (pa k : ℕ) → addresses_from pa (suc k) ≡ addresses_from pa k ++ (pa + k) ∷ []
unfolding addresses_from
from_suc pa zero = ap (λ at. at ∷ []) (omega arith)
from_suc pa (suc k) =
    ap (λ rest. pa ∷ rest) (from_suc (pa + 1) k ∙ ap (λ at. addresses_from (pa + 1) k ++ at ∷ []) (omega arith))

-- one byte more
pub origins_more : (rows : ℕ → Option ℕ) (pa k : ℕ) (start now next : List ByteOrigin)
    → now ≡ start ++ byte_origins rows (addresses_from pa k)
    → next ≡ now ++ record { address = pa + k; row = rows (pa + k) } ∷ []
    → next ≡ start ++ byte_origins rows (addresses_from pa (k + 1))
origins_more rows pa k start now next had is =
    let one : List ByteOrigin = record { address = pa + k; row = rows (pa + k) } ∷ [] in
    let front = byte_origins rows (addresses_from pa k) in
    let all : byte_origins rows (addresses_from pa (k + 1)) ≡ front ++ one =
    ap (byte_origins rows) (ap (addresses_from pa) (add-one k) ∙ from_suc pa k)
    ∙ map-append _ (addresses_from pa k) ((pa + k) ∷ []) in
    is ∙ ap (λ list. list ++ one) had ∙ append_assoc start front one ∙ ap (λ rest. start ++ rest) (sym all)

-- none yet
pub no_origins : (rows : ℕ → Option ℕ) (pa : ℕ) (start : List ByteOrigin)
    → start ≡ start ++ byte_origins rows (addresses_from pa 0)
unfolding addresses_from
no_origins rows pa start = sym (append-nil start)

-- how many
count_from : (rows : ℕ → Option ℕ) (pa k : ℕ) → length (byte_origins rows (addresses_from pa k)) ≡ k
unfolding addresses_from
count_from rows pa zero = refl
count_from rows pa (suc k) = ap suc (count_from rows (pa + 1) k)

pub origins_count : (rows : ℕ → Option ℕ) (pa k : ℕ) (start now : List ByteOrigin)
    → now ≡ start ++ byte_origins rows (addresses_from pa k) → length now ≡ length start + k
origins_count rows pa k start now is =
    ap length is ∙ length-append start (byte_origins rows (addresses_from pa k))
    ∙ ap (λ n. length start + n) (count_from rows pa k)
