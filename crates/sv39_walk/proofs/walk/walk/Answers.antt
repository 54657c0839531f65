use Rattle.std.proofs.Common.{◌≡◌, ◌+◌, ◌-◌, ◌<◌, Some, None, Ok, Err, [], ◌∷◌, length, sym, ◌∙◌, ap, true, arith}
use Rattle.std.specs.Prelude.{nat_lt}
use Rattle.std.proofs.lemmas.Bool.{and_parts, ltb-true}
use Rattle.std.proofs.lemmas.List.{append-nil, length-append}
use Rattle.sv39_walk.specs.Entries.{is_link, leads_on}
use Rattle.sv39_walk.specs.Walk.{entry_read}
use Rattle.sv39_walk.proofs.Noted.{refused, goes_on, ends}
use Rattle.sv39_walk.proofs.walk.walk.Goals as goal

pub returns-in_default-clause-walk : goal.returns-in_default-clause-walk
returns-in_default-clause-walk g c =
    c.loop-bits.invariant.walk _ _ _
    (refused _ _ c.args.request c.loop-bits.table c.entry_address-pa.ensures.value
    (sym c.entry_after_sets.ensures ∙ c.in_default.is) c.access_fault.ensures)

pub returns-in-Ok-default-None-clause-walk : goal.returns-in-Ok-default-None-clause-walk
returns-in-Ok-default-None-clause-walk g c =
    c.loop-bits.invariant.walk _ _ _
    (ends _ _ c.args.request c.loop-bits.table {result = Ok (c.in-Ok-default-None.address, None)}
    (record {
      place = c.entry_address-pa.ensures.value;
      got = sym c.entry_after_sets.ensures ∙ c.in-Some.is ∙ ap (λ bits. Some bits) (sym c.new-entry.ensures);
      read = c.put.ensures;
    })
    (sym c.leads_on.ensures ∙ c.if-not-leads_on.true)
    (sym
    (c.in-Ok-default-None.is ∙ ap (λ set. Ok (c.in-Ok-default-None.address, set)) c.in-Ok-default-None.field-0-1-is)
    ∙ c.final_result.ensures.value)
    (sym (append-nil _)))

pub returns-in-Ok-default-Some-clause-walk : goal.returns-in-Ok-default-Some-clause-walk
returns-in-Ok-default-Some-clause-walk g c =
    c.loop-bits.invariant.walk _ _ _
    (ends _ _ c.args.request c.loop-bits.table
    {result = Ok (c.in-Ok-default-Some.address, Some c.in-Ok-default-Some.set)}
    (record {
      place = c.entry_address-pa.ensures.value;
      got = sym c.entry_after_sets.ensures ∙ c.in-Some.is ∙ ap (λ bits. Some bits) (sym c.new-entry.ensures);
      read = c.put.ensures;
    })
    (sym c.leads_on.ensures ∙ c.if-not-leads_on.true)
    (sym
    (c.in-Ok-default-Some.is ∙ ap (λ set. Ok (c.in-Ok-default-Some.address, set)) c.in-Ok-default-Some.field-0-1-is)
    ∙ c.final_result.ensures.value)
    c.put-in-Ok-default-Some.ensures)

pub returns-in-Err-clause-walk : goal.returns-in-Err-clause-walk
returns-in-Err-clause-walk g c =
    c.loop-bits.invariant.walk _ _ _
    (ends _ _ c.args.request c.loop-bits.table {result = Err c.in-Err.fault}
    (record {
      place = c.entry_address-pa.ensures.value;
      got = sym c.entry_after_sets.ensures ∙ c.in-Some.is ∙ ap (λ bits. Some bits) (sym c.new-entry.ensures);
      read = c.put.ensures;
    })
    (sym c.leads_on.ensures ∙ c.if-not-leads_on.true) (sym c.in-Err.is ∙ c.final_result.ensures.value)
    (sym (append-nil _)))

pub loop-bits-preserved : goal.loop-bits-preserved
loop-bits-preserved g c =
    let on : leads_on c.loop-bits.table.level c.new-entry.result.bits ≡ true =
    sym c.leads_on.ensures ∙ c.if-not-leads_on.false in
    let above : 0 < c.loop-bits.table.level =
    ltb-true 0 c.loop-bits.table.level
    (and_parts (nat_lt 0 c.loop-bits.table.level) (is_link c.new-entry.result.bits) on).0 in
    let one_more : length c.put.new.self ≡ length c.loop-bits.seen + 1 =
    ap length c.put.ensures ∙ length-append c.loop-bits.seen (entry_read c.entry_address-pa.result ∷ []) in
    record {
      levels = omega (arith, above, c.loop-bits.invariant.levels);
      bound = c.page_number.ensures.bound;
      reads = omega (arith, above, one_more, c.loop-bits.invariant.reads);
      sets = c.loop-bits.invariant.sets;
      walk = λ value s1 w1 noted. c.loop-bits.invariant.walk value s1 w1
          (goes_on _ _ c.args.request c.loop-bits.table
          (record {
            place = c.entry_address-pa.ensures.value;
            got = sym c.entry_after_sets.ensures ∙ c.in-Some.is ∙ ap (λ bits. Some bits) (sym c.new-entry.ensures);
            read = c.put.ensures;
          })
          on (ap (λ n. record { level = c.loop-bits.table.level - 1; number = n }) c.page_number.ensures.value) noted);
    }
