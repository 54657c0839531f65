-- What agreement on a footprint gives, row by row, and what is written.
use Rattle.std.proofs.Common.{◌≡◌, ℕ, zero, suc, ◌+◌, ◌-◌, ◌/◌, ◌%◌, ◌^◌, Bool, true, false, ◌==◌, ◌&&◌, ◌||◌, List, []}
use Rattle.std.proofs.Common.{◌∷◌, ◌++◌, refl, ap, ◌∙◌, sym, if◌then◌else◌}
use Rattle.std.specs.Prelude.{not}
use Rattle.std.specs.List.{filter}
use Rattle.std.proofs.Math.Path.{fun_ext}
use Rattle.std.proofs.lemmas.Bool.{eqb-true}
use Rattle.std.proofs.lemmas.List.Folds.{list_all-append}
use Rattle.hart_words.specs.declared.accesses.Read.{Read}
use Rattle.hart_words.specs.declared.accesses.Write.{Write}
use Rattle.hart_words.specs.Memory.{AgreeOn, Bytes, SameBytes, after_writes, is_within, bytes_after_store}
use Rattle.read_footprint.specs.Footprints.{Accesses, agree, addresses_from, bytes_read, footprint_of, is_written}
use Rattle.read_footprint.specs.Footprints.{moved}
use Rattle.read_footprint.specs.Footprints.{writes_of}
use Rattle.read_footprint.specs.Sets.{has_address}
use Rattle.read_footprint.proofs.Entries.{all_agree, among_agree}
use Rattle.read_footprint.proofs.Places.{both_hold}
use Rattle.read_footprint.proofs.Rows.{among_filtered}

parts : (one other : Bytes) (first second : List ℕ) → agree one other (first ++ second) ≡ true
    → (agree one other first ≡ true) × (agree one other second ≡ true)
parts one other first second all =
    both_hold (agree one other first) (agree one other second)
    (sym (list_all-append (λ address. one address == other address) first second) ∙ all)

bytes_alike : (pa len : ℕ) (one other : Bytes) → agree one other (addresses_from pa len) ≡ true
    → SameBytes pa len one other
unfolding addresses_from SameBytes
bytes_alike pa zero one other all = tt
bytes_alike pa (suc len) one other all =
    let both = both_hold (one pa == other pa) (agree one other (addresses_from (pa + 1) len)) all in
    (sym (eqb-true (one pa) (other pa) both.0), bytes_alike (pa + 1) len one other both.1)

reads_alike : (reads : List Read) (one other : Bytes) → agree one other (bytes_read reads) ≡ true
    → AgreeOn reads one other
unfolding AgreeOn
reads_alike [] one other all = tt
reads_alike (read ∷ reads) one other all =
    let both = parts one other (addresses_from read.pa read.len) (bytes_read reads) all in
    (bytes_alike read.pa read.len one other both.0, reads_alike reads one other both.1)

first_alike : (one other : Bytes) (row : Accesses) (rows : List Accesses)
    → agree one other (footprint_of (row ∷ rows)) ≡ true
    → (agree one other (bytes_read row.reads) ≡ true)
    × (agree one other (filter (λ address. not (is_written row.wrote address)) (footprint_of rows)) ≡ true)
unfolding footprint_of
first_alike one other row rows all =
    parts one other (bytes_read row.reads)
    (filter (λ address. not (is_written row.wrote address)) (footprint_of rows)) all

pub first_reads_alike : (one other : Bytes) (row : Accesses) (rows : List Accesses)
    → agree one other (footprint_of (row ∷ rows)) ≡ true → AgreeOn row.reads one other
first_reads_alike one other row rows all = reads_alike row.reads one other (first_alike one other row rows all).0

or_true : (b : Bool) → (b || true) ≡ true
or_true true = refl
or_true false = refl

-- a byte after writes: the same over any memory where it was written, and else as before
pub after_either : (writes : List Write) (address : ℕ) (one other : Bytes)
    → after_writes writes other address
    ≡ (if is_written writes address then after_writes writes one address else other address)
unfolding after_writes bytes_after_store
after_either [] address one other = refl
after_either (write ∷ writes) address one other =
    by (is_within write.pa write.len address) (is_written writes address) refl refl
    (after_either writes address (bytes_after_store write.pa write.len write.value one)
    (bytes_after_store write.pa write.len write.value other))
    (after_either writes address (bytes_after_store write.pa write.len write.value other)
    (bytes_after_store write.pa write.len write.value one))
  where
    value : ℕ
    value = write.value / 256 ^ (address - write.pa) % 256

    on : Bytes → Bytes
    on bytes = bytes_after_store write.pa write.len write.value bytes

    by : (within written : Bool) → is_within write.pa write.len address ≡ within → is_written writes address ≡ written
        → after_writes writes (bytes_after_store write.pa write.len write.value other) address
        ≡ (if is_written writes address then after_writes writes
        (bytes_after_store write.pa write.len write.value one) address else bytes_after_store write.pa write.len
        write.value other address)
        → after_writes writes (bytes_after_store write.pa write.len write.value one) address
        ≡ (if is_written writes address then after_writes writes
        (bytes_after_store write.pa write.len write.value other) address else bytes_after_store write.pa write.len
        write.value one address)
        → after_writes writes (bytes_after_store write.pa write.len write.value other) address
        ≡ (if is_within write.pa write.len address
        || is_written writes address then after_writes writes
        (bytes_after_store write.pa write.len write.value one) address else other address)
    by within true here later there back =
        rw (later, or_true (is_within write.pa write.len address)) (rw later at there)
    by true false here later there back = rw here (rw (later, here) at there ∙ sym (rw (later, here) at back))
    by false false here later there back = rw (here, later) (rw (later, here) at there)

pub written_is_moved : (one other : Bytes) (rows : List Accesses)
    → after_writes (writes_of rows) other ≡ moved (writes_of rows) (after_writes (writes_of rows) one) other
written_is_moved one other rows = fun_ext (λ address. after_either (writes_of rows) address one other)

pub written_in_parts : (writes more : List Write) (bytes : Bytes)
    → after_writes (writes ++ more) bytes ≡ after_writes more (after_writes writes bytes)
unfolding after_writes
written_in_parts [] more bytes = refl
written_in_parts (write ∷ writes) more bytes =
    written_in_parts writes more (bytes_after_store write.pa write.len write.value bytes)

pub written_by_rows : (bytes : Bytes) (row : Accesses) (rows : List Accesses)
    → after_writes (writes_of (row ∷ rows)) bytes ≡ after_writes (writes_of rows) (after_writes row.wrote bytes)
written_by_rows bytes row rows = written_in_parts row.wrote (writes_of rows) bytes

-- a byte that agrees, or was written in both memories, agrees after the writes
still_alike : (one other : Bytes) (writes : List Write) (address : ℕ)
    → (not (is_written writes address) ≡ true → other address ≡ one address)
    → after_writes writes other address ≡ after_writes writes one address
still_alike one other writes address same = by (is_written writes address) refl
  where
    by : (test : Bool) → is_written writes address ≡ test
        → after_writes writes other address ≡ after_writes writes one address
    by true is =
        after_either writes address one other
        ∙ ap (λ t. if t then after_writes writes one address else other address) is
    by false isnt =
        after_either writes address one other
        ∙ ap (λ t. if t then after_writes writes one address else other address) isnt
        ∙ same (ap not isnt)
        ∙ sym
        (after_either writes address other one
        ∙ ap (λ t. if t then after_writes writes other address else one address) isnt)

pub goes_on : (one other : Bytes) (row : Accesses) (rows : List Accesses)
    → agree one other (footprint_of (row ∷ rows)) ≡ true
    → agree (after_writes row.wrote one) (after_writes row.wrote other) (footprint_of rows) ≡ true
goes_on one other row rows all =
    all_agree (after_writes row.wrote one) (after_writes row.wrote other) (footprint_of rows) (λ address there.
    still_alike one other row.wrote address (λ clear.
    among_agree one other (filter (λ a. not (is_written row.wrote a)) (footprint_of rows))
    (first_alike one other row rows all).1 address
    (among_filtered (λ a. not (is_written row.wrote a)) (footprint_of rows) address
    ∙ ap (λ b. b && has_address (footprint_of rows) address) clear ∙ there)))
