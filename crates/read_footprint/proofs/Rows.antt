-- A footprint after one row more.
use Rattle.std.proofs.Common.{◌≡◌, ℕ, zero, suc, ◌+◌, Bool, true, false, ◌==◌, ◌&&◌, ◌||◌, List, [], ◌∷◌, ◌++◌, refl}
use Rattle.std.proofs.Common.{ap, ◌∙◌, sym, arith}
use Rattle.std.specs.Prelude.{not}
use Rattle.std.specs.List.{filter}
use Rattle.std.proofs.lemmas.List.Folds.{list_any-append}
use Rattle.std.proofs.lemmas.Map.Views.{any-filter_same}
use Rattle.std.proofs.lemmas.Bool.{eqb-true}
use Rattle.std.proofs.lemmas.Grind.{common_steps}
use Rattle.hart_words.specs.declared.accesses.Read.{Read}
use Rattle.hart_words.specs.declared.accesses.Write.{Write}
use Rattle.hart_words.specs.Memory.{is_within}
use Rattle.read_footprint.specs.declared.footprint.Footprint.{Footprint}
use Rattle.read_footprint.specs.Footprints.{Accesses, addresses_from, bytes_read, is_written, writes_of, footprint_of}
use Rattle.read_footprint.specs.Sets.{IsAsBefore, IsFootprintOf, has_read, has_written, has_address, is_read}
use Rattle.read_footprint.proofs.Noting.{or_false}

-- the addresses of an access are those within it
bytes_among : (pa len address : ℕ) → has_address (addresses_from pa len) address ≡ is_within pa len address
unfolding addresses_from
bytes_among pa zero address = sym (none_within pa address)
  where
    none_within : (pa address : ℕ) → is_within pa 0 address ≡ false
    none_within pa address = grind (arith, common_steps)
bytes_among pa (suc len) address =
    ap (λ b. (pa == address) || b) (bytes_among (pa + 1) len address) ∙ first_or_later pa len address
  where
    first_or_later : (pa len address : ℕ)
        → ((pa == address) || is_within (pa + 1) len address) ≡ is_within pa (suc len) address
    first_or_later pa len address = grind (arith, common_steps)

pub read_among : (reads : List Read) (address : ℕ) → has_address (bytes_read reads) address ≡ is_read reads address
read_among [] address = refl
read_among (read ∷ reads) address =
    list_any-append (λ other. other == address) (addresses_from read.pa read.len) (bytes_read reads)
    ∙ ap (λ b. b || has_address (bytes_read reads) address) (bytes_among read.pa read.len address)
    ∙ ap (λ b. is_within read.pa read.len address || b) (read_among reads address)

-- what is left of addresses by a test
pub among_filtered : (test : ℕ → Bool) (addresses : List ℕ) (address : ℕ)
    → has_address (filter test addresses) address ≡ (test address && has_address addresses address)
among_filtered test addresses address =
    any-filter_same (λ other. other == address) test (test address)
    (λ other same. ap test (eqb-true other address same)) addresses

either_first : (a b c d e : Bool)
    → ((a || (not b && (c || (d && not e))))) ≡ ((a || (not b && c)) || (d && not (b || e)))
either_first true b c d e = refl
either_first false true c true e = refl
either_first false true c false e = refl
either_first false false c d e = refl

-- the footprint of rows and more rows
pub footprint_joined : (xs ys : List Accesses) (address : ℕ)
    → has_address (footprint_of (xs ++ ys)) address
    ≡ (has_address (footprint_of xs) address
    || (has_address (footprint_of ys) address && not (is_written (writes_of xs) address)))
unfolding footprint_of
footprint_joined [] ys address = sym (and_true (has_address (footprint_of ys) address))
  where
    and_true : (b : Bool) → (b && true) ≡ b
    and_true true = refl
    and_true false = refl
footprint_joined (row ∷ xs) ys address =
    let test : ℕ → Bool = λ address. not (is_written row.wrote address) in
    list_any-append (λ other. other == address) (bytes_read row.reads) (filter test (footprint_of (xs ++ ys)))
    ∙ ap (λ b. has_address (bytes_read row.reads) address || b)
    (among_filtered test (footprint_of (xs ++ ys)) address
    ∙ ap (λ b. test address && b) (footprint_joined xs ys address))
    ∙ either_first (has_address (bytes_read row.reads) address) (is_written row.wrote address)
    (has_address (footprint_of xs) address) (has_address (footprint_of ys) address)
    (is_written (writes_of xs) address)
    ∙ ap (λ b. b
    || (has_address (footprint_of ys) address
    && not (is_written row.wrote address || is_written (writes_of xs) address)))
    (sym
    (list_any-append (λ other. other == address) (bytes_read row.reads) (filter test (footprint_of xs))
    ∙ ap (λ b. has_address (bytes_read row.reads) address || b) (among_filtered test (footprint_of xs) address)))
    ∙ ap (λ w. has_address (footprint_of (row ∷ xs)) address || (has_address (footprint_of ys) address && not w))
    (sym (list_any-append (λ write. is_within write.pa write.len address) row.wrote (writes_of xs)))

pub writes_joined : (xs ys : List Accesses) (address : ℕ)
    → is_written (writes_of (xs ++ ys)) address
    ≡ (is_written (writes_of xs) address || is_written (writes_of ys) address)
writes_joined [] ys address = refl
writes_joined (row ∷ xs) ys address =
    let test : Write → Bool = λ write. is_within write.pa write.len address in
    list_any-append test row.wrote (writes_of (xs ++ ys))
    ∙ ap (λ b. is_written row.wrote address || b) (writes_joined xs ys address)
    ∙ assoc (is_written row.wrote address) (is_written (writes_of xs) address) (is_written (writes_of ys) address)
    ∙ ap (λ b. b || is_written (writes_of ys) address) (sym (list_any-append test row.wrote (writes_of xs)))
  where
    assoc : (a b c : Bool) → (a || (b || c)) ≡ ((a || b) || c)
    assoc true b c = refl
    assoc false b c = refl

pub one_row_read : (row : Accesses) (address : ℕ)
    → has_address (footprint_of (row ∷ [])) address ≡ is_read row.reads address
unfolding footprint_of
one_row_read row address =
    list_any-append (λ other. other == address) (bytes_read row.reads) [] ∙ or_false _ ∙ read_among row.reads address

one_row_wrote : (row : Accesses) (address : ℕ)
    → is_written (writes_of (row ∷ [])) address ≡ is_written row.wrote address
one_row_wrote row address = list_any-append (λ write. is_within write.pa write.len address) row.wrote [] ∙ or_false _

-- a footprint of rows to which one row more was added
pub row_added : (before after : Footprint) (row : Accesses)
    → ((address : ℕ)
    → has_read after address
    ≡ (has_read before address || (is_read row.reads address && not (has_written before address))))
    → ((address : ℕ) → has_written after address ≡ (has_written before address || is_written row.wrote address))
    → (rows : List Accesses) → IsFootprintOf before rows → IsFootprintOf after (rows ++ row ∷ [])
row_added before after row read wrote rows is = record {
  read = λ address.
      read address
      ∙ ap (λ b. b || (is_read row.reads address && not (has_written before address))) (is.read address)
      ∙ ap (λ b. has_address (footprint_of rows) address || (is_read row.reads address && not b)) (is.wrote address)
      ∙ ap (λ b. has_address (footprint_of rows) address || (b && not (is_written (writes_of rows) address)))
      (sym (one_row_read row address))
      ∙ sym (footprint_joined rows (row ∷ []) address);
  wrote = λ address.
      wrote address
      ∙ ap (λ b. b || is_written row.wrote address) (is.wrote address)
      ∙ ap (λ b. is_written (writes_of rows) address || b) (sym (one_row_wrote row address))
      ∙ sym (writes_joined rows (row ∷ []) address);
}

-- reads that were noted, and then writes
pub added_read : {start kept : Footprint} {reads all : List Read} (mid end : Footprint) → reads ≡ all
    → IsAsBefore start kept
    → ((address : ℕ)
    → has_read mid address ≡ (has_read kept address || (is_read reads address && not (has_written kept address))))
    → ((address : ℕ) → has_read end address ≡ has_read mid address)
    → (address : ℕ)
    → has_read end address ≡ (has_read start address || (is_read all address && not (has_written start address)))
added_read {start} {kept} {reads} mid end are same noted stays address =
    stays address ∙ noted address
    ∙ ap (λ b. b || (is_read reads address && not (has_written kept address))) (same.read address)
    ∙ ap (λ b. has_read start address || (is_read reads address && not b)) (same.wrote address)
    ∙ ap (λ r. has_read start address || (is_read r address && not (has_written start address))) are

pub added_written : {start kept : Footprint} {writes all : List Write} (mid end : Footprint) → writes ≡ all
    → IsAsBefore start kept
    → ((address : ℕ) → has_written mid address ≡ has_written kept address)
    → ((address : ℕ) → has_written end address ≡ (has_written mid address || is_written writes address))
    → (address : ℕ) → has_written end address ≡ (has_written start address || is_written all address)
added_written {start} {writes = writes} mid end are same stays noted address =
    noted address ∙ ap (λ b. b || is_written writes address) (stays address ∙ same.wrote address)
    ∙ ap (λ w. has_written start address || is_written w address) are
