use Rattle.std.proofs.Common.{ℕ, List, ◌∙◌, ◌++◌, codes}
use Rattle.std.proofs.lemmas.List.{append_assoc}
use Rattle.trace_report.specs.Numerals.{hexadecimal}
use Rattle.trace_report.specs.Origins.{byte_origin_text, writer_text}
use Rattle.trace_report.proofs.origin_lines.put_byte.Goals as goal

pub returns-clause-bytes : goal.returns-clause-bytes
unfolding byte_origin_text
returns-clause-bytes c =
    let name : List ℕ = codes "origin byte " in
    let address : List ℕ = hexadecimal c.args.origin.address in
    let writer : List ℕ = writer_text (codes "image") c.args.origin.row in
    rw (c.put_writer.ensures.bytes, c.put_hexadecimal.ensures.bytes, c.put.ensures.bytes)
    (append_assoc (c.args.text.now ++ name) address writer ∙ append_assoc c.args.text.now name (address ++ writer))
