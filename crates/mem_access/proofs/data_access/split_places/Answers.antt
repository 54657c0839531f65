use Rattle.std.proofs.Common.{ℕ, ◌+◌, ◌%◌, ◌^◌, ap}
use Rattle.mem_access.proofs.Looks.{RunsOver, split_both, split_refused}
use Rattle.mem_access.proofs.data_access.split_places.Goals as goal

pub returns-in-Err-clause-found : goal.returns-in-Err-clause-found
returns-in-Err-clause-found g c =
    let space = c.args.space.now in
    let len = c.first_len-low_len.result in
    let over : RunsOver c.args.va c.args.request.len len ((c.args.va + c.from.result) % 2 ^ 64) =
    record {
      first = c.first_len-low_len.ensures;
      over = c.if-low_len-request.false;
      next_page = ap (λ (n : ℕ). (c.args.va + n) % 2 ^ 64) c.from.ensures;
    } in
    split_refused space.csrs.now space.map.now space.choices.now c.args.request c.args.va over c.in-Err.ensures.found

pub returns-in-Err-part_place-clause-found : goal.returns-in-Err-part_place-clause-found
returns-in-Err-part_place-clause-found g c =
    let space = c.args.space.now in
    let len = c.first_len-low_len.result in
    let over : RunsOver c.args.va c.args.request.len len ((c.args.va + c.from.result) % 2 ^ 64) =
    record {
      first = c.first_len-low_len.ensures;
      over = c.if-low_len-request.false;
      next_page = ap (λ (n : ℕ). (c.args.va + n) % 2 ^ 64) c.from.ensures;
    } in
    split_both space.csrs.now space.map.now space.choices.now c.args.request c.args.va over c.in-Ok.ensures.found
    c.in-Err-part_place.ensures.found

pub returns-in-Ok-part_place-clause-found : goal.returns-in-Ok-part_place-clause-found
returns-in-Ok-part_place-clause-found g c =
    let space = c.args.space.now in
    let len = c.first_len-low_len.result in
    let over : RunsOver c.args.va c.args.request.len len ((c.args.va + c.from.result) % 2 ^ 64) =
    record {
      first = c.first_len-low_len.ensures;
      over = c.if-low_len-request.false;
      next_page = ap (λ (n : ℕ). (c.args.va + n) % 2 ^ 64) c.from.ensures;
    } in
    split_both space.csrs.now space.map.now space.choices.now c.args.request c.args.va over c.in-Ok.ensures.found
    c.in-Ok-part_place.ensures.found
