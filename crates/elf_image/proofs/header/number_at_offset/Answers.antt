use Rattle.std.proofs.Common.{◌≡◌, ◌+◌, ◌-◌, ◌<◌, arith, refl, sym, lit<}
use Rattle.std.specs.Prelude.{slice_index}
use Rattle.hart_words.specs.Memory.{number_at}
use Rattle.elf_image.proofs.Numbers.{number_more, number_grows, number_fits}
use Rattle.elf_image.proofs.header.number_at_offset.Goals as goal

pub loop-k-init : goal.loop-k-init
unfolding number_at
loop-k-init c =
    let none : c.args.len - c.from-k.result ≡ 0 = omega arith in
    record { number = rw none refl; small = rw none (lit< tt); within = omega arith }

pub overflow_mul-number : goal.overflow_mul-number
overflow_mul-number c =
    let fits =
    number_fits c.loop-k.number 0 (c.args.len - c.loop-k.k) c.loop-k.invariant.small (lit< tt) (omega arith) in
    record { fits = omega (arith, fits) }

pub overflow_add-number : goal.overflow_add-number
overflow_add-number c =
    let byte : c.from.result < 256 = omega arith in
    let fits =
    number_fits c.loop-k.number c.from.result (c.args.len - c.loop-k.k) c.loop-k.invariant.small byte
    (omega arith) in
    record { fits = fits }

pub loop-k-preserved : goal.loop-k-preserved
loop-k-preserved c =
    let byte : c.from.result < 256 = omega arith in
    let bytes = slice_index c.args.file.now in
    let place : c.args.at + (c.loop-k.k - 1) + 1 ≡ c.args.at + c.loop-k.k = omega arith in
    let left : c.args.len - (c.loop-k.k - 1) ≡ c.args.len - c.loop-k.k + 1 = omega arith in
    let more =
    number_more (c.args.at + (c.loop-k.k - 1)) (c.args.len - c.loop-k.k) (c.args.len - (c.loop-k.k - 1)) bytes
    left in
    let read : bytes (c.args.at + (c.loop-k.k - 1)) ≡ c.from.result = sym c.from.ensures in
    let same = c.loop-k.invariant.number in
    record {
      number = rw (more, place, read, ← same) refl;
      small =
          rw left (number_grows c.loop-k.number c.from.result (c.args.len - c.loop-k.k) c.loop-k.invariant.small byte);
      within = omega arith;
    }
