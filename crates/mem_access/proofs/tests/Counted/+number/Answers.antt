use Rattle.std.proofs.Common.{ℕ, sym, ap, ◌∙◌, ◌+◌, ◌-◌, ◌%◌, arith}
use Rattle.hart_words.specs.Memory.{Bytes, after_writes, number_at}
use Rattle.mem_access.specs.Accesses.{joined_value}
use Rattle.mem_access.proofs.Joined.{first_joined, high_fits, one_byte}
use Rattle.mem_access.proofs.tests.Counted.+number.Goals as goal

pub returns-then-len-eq1-clause-value : goal.returns-then-len-eq1-clause-value
returns-then-len-eq1-clause-value t c =
    let bytes : Bytes = λ at. after_writes c.args.self.now.entries (λ a. a + 1) at % 256 in
    c.from-byte.ensures ∙ c.byte.ensures ∙ one_byte bytes c.args.pa
    ∙ ap (λ (n : ℕ). number_at bytes c.args.pa n) (sym c.if-len-eq1.true)

pub join_numbers-requires-clause-high : goal.join_numbers-requires-clause-high
join_numbers-requires-clause-high t c =
    high_fits 1 (c.args.len - 1) c.number.result (omega (arith, c.requires.at_most_8)) c.number.ensures.fits

pub returns-clause-value : goal.returns-clause-value
returns-clause-value t c =
    let bytes : Bytes = λ at. after_writes c.args.self.now.entries (λ a. a + 1) at % 256 in
    c.join_numbers.ensures.value
    ∙ ap (λ (b : ℕ). joined_value 1 b c.number.result) (c.from-byte.ensures ∙ c.byte.ensures)
    ∙ ap (λ (n : ℕ). joined_value 1 (bytes c.args.pa) n) c.number.ensures.value
    ∙ first_joined bytes c.args.pa c.args.len c.requires.nonempty
