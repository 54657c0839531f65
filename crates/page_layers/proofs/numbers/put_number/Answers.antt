use Rattle.std.proofs.Common.{◌+◌, ◌%◌, refl, sym, ◌∙◌, ap, lit<}
use Rattle.std.proofs.Math.Nat.{div-one, mod-lt}
use Rattle.hart_words.specs.Memory.{bytes_after_store}
use Rattle.page_image.proofs.Stored.{stored-none, stored-more, rest_more}
use Rattle.page_layers.proofs.numbers.put_number.Goals as goal

pub loop-k-init : goal.loop-k-init
loop-k-init g c = record {
  bytes = sym (stored-none c.args.pa c.args.value (g.M.ByteMem.bytes c.args.mem.now));
  ram = refl;
  rest = sym (div-one c.args.value);
  admits = λ page h. h;
}

pub loop-k-preserved : goal.loop-k-preserved
loop-k-preserved g c =
    let byte = ap (λ v. v % 256) c.loop-k.invariant.rest in
    record {
      bytes =
          c.set.ensures.bytes
          ∙ ap (bytes_after_store (c.args.pa + c.loop-k.k) 1 (c.loop-k.rest % 256)) c.loop-k.invariant.bytes
          ∙ stored-more c.args.pa c.loop-k.k c.args.value (c.loop-k.rest % 256) (g.M.ByteMem.bytes c.args.mem.now)
          byte (mod-lt c.loop-k.rest (lit< tt));
      ram = c.set.ensures.ram ∙ c.loop-k.invariant.ram;
      rest = rest_more c.args.value c.loop-k.k c.loop-k.rest c.loop-k.invariant.rest;
      admits = λ page h. c.set.ensures.keeps page (c.loop-k.invariant.admits page h);
    }
