use Rattle.std.proofs.Common.{◌<◌, ap, ◌∙◌, arith}
use Rattle.std.proofs.lemmas.Bool.Decides.{nat_tests}
use Rattle.elf_image.specs.Image.{with_segment, segment_bytes}
use Rattle.elf_image.specs.Loading.{AreApart}
use Rattle.elf_image.proofs.Bytes.{put_segment, ends_more}
use Rattle.elf_image.proofs.segments.LoadedSegments.keep.Goals as goal

pub returns : goal.returns
unfolding segment_bytes AreApart
returns c = λ earlier loaded apart.
    let file = c.args.segment.file.now in
    let header = c.args.segment.header in
    let some : 0 < header.memsz = grind (arith, nat_tests, c.requires.loading) in
    record {
      bytes =
          c.in_ok-put_bytes.ensures ∙ put_segment file header _ _ c.file_bytes.ensures
          ∙ ap (with_segment file header) loaded.bytes;
      ends = ends_more header earlier _ _ c.in_ok-insert.ensures.updates.0 loaded.ends;
      apart = (some, apart, loaded.apart);
    }
