-- What an address names in the table is what it names in the first part that lists it.
use Rattle.std.proofs.Common.{◌≡◌, ℕ, List, ◌++◌, Option, Some, None, refl, ◌∙◌, ap}
use Rattle.std.specs.List.{find}
use Rattle.std.specs.Option.{option_map, option_or}
use Rattle.std.proofs.lemmas.List.Folds.{find-append}
use Rattle.csr_table.specs.Addresses.{CsrRange, csr_in, lists, csr_ranges, machine_ranges, supervisor_ranges}
use Rattle.csr_table.specs.Addresses.{protection_ranges, counter_ranges}

named_or : (address : ℕ) (here there : Option CsrRange)
    → option_map (λ range. range.names address) (option_or here there)
    ≡ option_or (option_map (λ range. range.names address) here) (option_map (λ range. range.names address) there)
named_or address (Some range) there = refl
named_or address None there = refl

in_two : (one other : List CsrRange) (address : ℕ)
    → csr_in (one ++ other) address ≡ option_or (csr_in one address) (csr_in other address)
unfolding csr_in
in_two one other address =
    rw (find-append (λ range. lists range address) one other)
    (named_or address (find (λ range. lists range address) one) (find (λ range. lists range address) other))

in_three : (address : ℕ)
    → csr_in (machine_ranges ++ supervisor_ranges ++ protection_ranges) address
    ≡ option_or (option_or (csr_in machine_ranges address) (csr_in supervisor_ranges address))
    (csr_in protection_ranges address)
in_three address =
    ap (λ part. csr_in part address) refl ∙ in_two (machine_ranges ++ supervisor_ranges) protection_ranges address
    ∙ ap (λ here. option_or here (csr_in protection_ranges address)) (in_two machine_ranges supervisor_ranges address)

pub in_four : (address : ℕ)
    → csr_in csr_ranges address
    ≡ option_or
    (option_or (option_or (csr_in machine_ranges address) (csr_in supervisor_ranges address))
    (csr_in protection_ranges address)) (csr_in counter_ranges address)
in_four address =
    ap (λ part. csr_in part address) refl
    ∙ in_two (machine_ranges ++ supervisor_ranges ++ protection_ranges) counter_ranges address
    ∙ ap (λ here. option_or here (csr_in counter_ranges address)) (in_three address)
