use Rattle.std.proofs.Common.{◌∙◌, arith}
use Rattle.page_layers.specs.Memories.{layered_bytes}
use Rattle.state_text.proofs.Underway.{ends, fails, last_kept, on_err_more, on_ok_more, page_kept, sent_on}
use Rattle.state_text.proofs.writing.write_memory.Goals as goal

pub returns-in-None-clause-text : goal.returns-in-None-clause-text
returns-in-None-clause-text g c =
    let last = last_kept (layered_bytes c.args.mem.now) c.args.ram c.pages.from c.as_slice.result.now
    c.pages.invariant.text c.in-None.ensures.found c.pages.invariant.high (c.as_slice.ensures ∙ c.put.ensures.bytes) in
    on_ok_more c.write_piece.result (ends last) c.write_piece.ensures.all

pub returns-in-None-clause-front : goal.returns-in-None-clause-front
returns-in-None-clause-front g c =
    let last = last_kept (layered_bytes c.args.mem.now) c.args.ram c.pages.from c.as_slice.result.now
    c.pages.invariant.text c.in-None.ensures.found c.pages.invariant.high (c.as_slice.ensures ∙ c.put.ensures.bytes) in
    on_err_more c.write_piece.result (fails last) c.write_piece.ensures.front

pub returns-in-Err-clause-front : goal.returns-in-Err-clause-front
returns-in-Err-clause-front g c =
    let kept = page_kept (layered_bytes c.args.mem.now) c.args.ram c.pages.from c.in-Some.page c.put_page.new.piece
    c.pages.invariant.text c.pages.invariant.whole c.pages.invariant.low c.in-Some.ensures.found
    c.put_page.ensures.text in
    fails kept c.in-Err.ensures.front

pub pages-preserved : goal.pages-preserved
pages-preserved g c =
    let found = c.in-Some.ensures.found in
    let kept = page_kept (layered_bytes c.args.mem.now) c.args.ram c.pages.from c.in-Some.page c.put_page.new.piece
    c.pages.invariant.text c.pages.invariant.whole c.pages.invariant.low found c.put_page.ensures.text in
    record {
      room = c.in-Ok.ensures.room;
      whole = omega (arith, found.0);
      low = omega (arith, c.pages.invariant.low, found.1);
      high = grind (arith, found.0, found.2, c.args.ram.whole_base, c.args.ram.whole_size);
      no_fault = c.in-Ok.ensures.no_fault ∙ c.pages.invariant.no_fault;
      text = sent_on kept c.in-Ok.ensures.sent;
    }
