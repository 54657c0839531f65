use Rattle.std.proofs.Common.{ℕ, sym, ap, ◌∙◌, ◌-◌, arith}
use Rattle.hart_words.specs.Memory.{after_writes, number_at}
use Rattle.mem_access.specs.Accesses.{joined_value}
use Rattle.mem_access.proofs.Joined.{first_joined, high_fits, one_byte}
use Rattle.mem_access.proofs.address_space.AddressSpace.+number_after_sets.Goals as goal

pub returns-then-len-eq1-clause-value : goal.returns-then-len-eq1-clause-value
returns-then-len-eq1-clause-value g t c =
    let bytes = after_writes c.args.sets.now (g.M.PhysMem.bytes c.args.self.now.mem.now) in
    c.from-byte.ensures ∙ c.byte_after_sets.ensures ∙ one_byte bytes c.args.pa
    ∙ ap (λ (n : ℕ). number_at bytes c.args.pa n) (sym c.if-len-eq1.true)

pub join_numbers-requires-clause-high : goal.join_numbers-requires-clause-high
join_numbers-requires-clause-high g t c =
    high_fits 1 (c.args.len - 1) c.number_after_sets.result (omega (arith, c.requires.at_most_8))
    c.number_after_sets.ensures.fits

pub returns-clause-value : goal.returns-clause-value
returns-clause-value g t c =
    let bytes = after_writes c.args.sets.now (g.M.PhysMem.bytes c.args.self.now.mem.now) in
    c.join_numbers.ensures.value
    ∙ ap (λ (b : ℕ). joined_value 1 b c.number_after_sets.result) (c.from-byte.ensures ∙ c.byte_after_sets.ensures)
    ∙ ap (λ (n : ℕ). joined_value 1 (bytes c.args.pa) n) c.number_after_sets.ensures.value
    ∙ first_joined bytes c.args.pa c.args.len c.requires.nonempty
