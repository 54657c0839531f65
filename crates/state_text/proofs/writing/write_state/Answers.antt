use Rattle.std.proofs.Common.{◌≡◌, ◌∙◌, ◌++◌, ◌/◌, All, List, ℕ, ap, length, option_map, subst, sym}
use Rattle.std.specs.Prelude.{OnOk, OnErr}
use Rattle.std.specs.List.{concat}
use Rattle.hart_step.specs.declared.state.Core.{Core}
use Rattle.page_layers.specs.Memories.{layered_bytes}
use Rattle.state_text.specs.Laws.{IsWhole}
use Rattle.state_text.specs.Lines.{end_line}
use Rattle.state_text.specs.Memory.{memory_lines}
use Rattle.state_text.specs.Texts.{cores_lines}
use Rattle.state_text.specs.Writes.{Sends, WritesFront}
use Rattle.state_text.proofs.TextBack.{saved_set, text_back}
use Rattle.state_text.proofs.Underway.{first_ram, first_there, longer_front, on_err_more, on_ok_more}
use Rattle.state_text.proofs.Underway.{sends_fails, sends_more, whole_text}
use Rattle.state_text.proofs.writing.write_state.Goals as goal

pub returns-in-Ok-clause-text : goal.returns-in-Ok-clause-text
returns-in-Ok-clause-text g c =
    let cores = c.args.set.now.cores.items in
    let bytes = layered_bytes c.args.set.now.mem in
    let ram = c.index.result.now.map.ram in
    let rest = concat (memory_lines bytes ram.base (ram.size / 16)) ++ end_line in
    let count = c.len.ensures ∙ sym c.as_slice.ensures.len
    ∙ ap (λ (cores : List Core). length cores) c.as_slice.ensures.value in
    let whole = whole_text cores bytes ram c.len.result count c.new-piece.ensures c.put_front.ensures.text
    (first_ram cores bytes c.index.result.now c.requires.can.some c.index.ensures) in
    let sent = subst (λ (cores : List Core). Sends (c.put_front.new.piece ++ concat (cores_lines cores)) c.in-Ok.piece
    (g.S.Sink.held c.args.sink.now) (g.S.Sink.held c.write_cores.new.sink)) c.as_slice-2.ensures.value
    c.in-Ok.ensures.sent in
    subst (λ (text : List ℕ). OnOk c.write_memory.result (g.S.Sink.held c.write_memory.new.sink
    ≡ option_map (λ bytes. bytes ++ text) (g.S.Sink.held c.args.sink.now))) whole
    (on_ok_more c.write_memory.result (sends_more rest sent) c.write_memory.ensures.text)

pub returns-in-Ok-clause-front : goal.returns-in-Ok-clause-front
returns-in-Ok-clause-front g c =
    let cores = c.args.set.now.cores.items in
    let bytes = layered_bytes c.args.set.now.mem in
    let ram = c.index.result.now.map.ram in
    let rest = concat (memory_lines bytes ram.base (ram.size / 16)) ++ end_line in
    let count = c.len.ensures ∙ sym c.as_slice.ensures.len
    ∙ ap (λ (cores : List Core). length cores) c.as_slice.ensures.value in
    let whole = whole_text cores bytes ram c.len.result count c.new-piece.ensures c.put_front.ensures.text
    (first_ram cores bytes c.index.result.now c.requires.can.some c.index.ensures) in
    let sent = subst (λ (cores : List Core). Sends (c.put_front.new.piece ++ concat (cores_lines cores)) c.in-Ok.piece
    (g.S.Sink.held c.args.sink.now) (g.S.Sink.held c.write_cores.new.sink)) c.as_slice-2.ensures.value
    c.in-Ok.ensures.sent in
    subst (λ (text : List ℕ). OnErr c.write_memory.result (WritesFront text (g.S.Sink.held c.args.sink.now)
    (g.S.Sink.held c.write_memory.new.sink))) whole
    (on_err_more c.write_memory.result (sends_fails rest sent) c.write_memory.ensures.front)

pub returns-in-Ok-clause-back : goal.returns-in-Ok-clause-back
returns-in-Ok-clause-back g c = λ profile map choices over outside.
    let whole = subst (All IsWhole) c.as_slice.ensures.value c.hold_whole.ensures in
    text_back profile map choices c.args.set.now.cores.items (layered_bytes c.args.set.now.mem)
    (saved_set profile map choices c.args.set.now.cores.items (layered_bytes c.args.set.now.mem) c.requires.can.some
    c.requires.few c.requires.can.sound c.set_holds_words.ensures.cores whole
    over c.set_holds_words.ensures.bytes outside)

pub returns-in-Err-clause-back : goal.returns-in-Err-clause-back
returns-in-Err-clause-back g c = λ profile map choices over outside.
    let whole = subst (All IsWhole) c.as_slice.ensures.value c.hold_whole.ensures in
    text_back profile map choices c.args.set.now.cores.items (layered_bytes c.args.set.now.mem)
    (saved_set profile map choices c.args.set.now.cores.items (layered_bytes c.args.set.now.mem) c.requires.can.some
    c.requires.few c.requires.can.sound c.set_holds_words.ensures.cores whole
    over c.set_holds_words.ensures.bytes outside)

pub returns-in-Err-clause-front : goal.returns-in-Err-clause-front
returns-in-Err-clause-front g c =
    let cores = c.args.set.now.cores.items in
    let bytes = layered_bytes c.args.set.now.mem in
    let first = first_there cores c.requires.can.some in
    let ram = first.0.map.ram in
    let count = c.len.ensures ∙ sym c.as_slice.ensures.len
    ∙ ap (λ (cores : List Core). length cores) c.as_slice.ensures.value in
    let whole = whole_text cores bytes ram c.len.result count c.new-piece.ensures c.put_front.ensures.text
    (first_ram cores bytes first.0 c.requires.can.some first.1) in
    let front = subst (λ (cores : List Core). WritesFront (c.put_front.new.piece ++ concat (cores_lines cores))
    (g.S.Sink.held c.args.sink.now) (g.S.Sink.held c.write_cores.new.sink)) c.as_slice-2.ensures.value
    c.in-Err.ensures.front in
    subst (λ (text : List ℕ). WritesFront text (g.S.Sink.held c.args.sink.now) (g.S.Sink.held c.write_cores.new.sink))
    whole
    (longer_front (concat (memory_lines bytes ram.base (ram.size / 16)) ++ end_line) front)
