use Rattle.std.proofs.Common.{◌≡◌, ◌≤◌, length, sym, ◌∙◌, arith}
use Rattle.std.proofs.lemmas.Bool.Decides.{nat_tests}
use Rattle.image_text.specs.Bytes.{byte_at}
use Rattle.elf_image.proofs.Bytes.{put_none, put_parts}
use Rattle.elf_image.proofs.segments.put_bytes.Goals as goal

pub loop-rest-preserved : goal.loop-rest-preserved
loop-rest-preserved c =
    let split = c.split_at.ensures in
    let within : c.min.result ≤ length c.loop-rest.rest.now = omega (arith, split.back_len) in
    record {
      whole =
          rw (c.in_ok-put_bytes.ensures.put, split.front_len, split.front, split.back)
          (put_parts (byte_at c.loop-rest.pieces) c.loop-rest.at c.min.result c.loop-rest.rest.now within
          ∙ c.loop-rest.invariant.whole);
      room = omega (arith, split.front_len, split.back_len, c.loop-rest.invariant.room);
    }

pub returns : goal.returns
returns c =
    let none : length c.loop-rest.rest.now ≡ 0 =
    grind (arith, nat_tests, c.is_empty.ensures, c.loop-rest-test.false) in
    sym (put_none (byte_at c.loop-rest.pieces) c.loop-rest.at c.loop-rest.rest.now none) ∙ c.loop-rest.invariant.whole
