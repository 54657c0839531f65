-- What the words of the image mean.
use Rattle.std.proofs.Common.{◌≡◌, ℕ, ◌+◌, ◌-◌, ◌*◌, ◌^◌, ◌<◌, List, map, get_or, Option, Some, None, refl, ap, sym}
use Rattle.std.proofs.Common.{◌∙◌, arith}
use Rattle.std.specs.List.{range_with_len}
use Rattle.std.proofs.lemmas.List.FromFn.{get_or-map-range_with_len}
use Rattle.hart_words.specs.Choices.{plain_choices}
use Rattle.hart_words.specs.Words.{sign_extended}
use Rattle.rv_decode.specs.declared.operation.Op.{Op}
use Rattle.rv_decode.specs.declared.operation.Op.TheVariants.{Auipc, Jal, Load, Store, Immediate, Register}
use Rattle.rv_decode.specs.declared.operation.LoadOp.TheVariants.{Ld}
use Rattle.rv_decode.specs.declared.operation.StoreOp.TheVariants.{Sd}
use Rattle.rv_decode.specs.declared.operation.ImmediateOp.TheVariants.{Addi}
use Rattle.rv_decode.specs.declared.operation.RegisterOp.TheVariants.{Xor}
use Rattle.rv_decode.specs.Table.{decoded_op_of, decoded_op_by, decoded_op_with, opcodes}
use Rattle.trace_maker.specs.Rows.{addi_of, immediate_of}

-- where none is said there is no bit manipulation
pub decoded_plainly : (word : ℕ) → decoded_op_with word plain_choices.bits ≡ decoded_op_of word
unfolding decoded_op_with decoded_op_of plain_choices
decoded_plainly word = refl

pub auipc_means : decoded_op_of 0x00001117 ≡ Some (Auipc 2 4096)
unfolding decoded_op_of decoded_op_by opcodes sign_extended
auipc_means = refl

pub xor_means : decoded_op_of 0x0011c1b3 ≡ Some (Register Xor 3 3 1)
unfolding decoded_op_of decoded_op_by opcodes sign_extended
xor_means = refl

pub sd_means : decoded_op_of 0x00313023 ≡ Some (Store Sd 2 3 0)
unfolding decoded_op_of decoded_op_by opcodes sign_extended
sd_means = refl

pub ld_means : decoded_op_of 0x00013203 ≡ Some (Load Ld 4 2 0)
unfolding decoded_op_of decoded_op_by opcodes sign_extended
ld_means = refl

pub jal_means : decoded_op_of 0xff1ff06f ≡ Some (Jal 0 (2 ^ 64 - 16))
unfolding decoded_op_of decoded_op_by opcodes sign_extended
jal_means = refl

-- ADDI with each immediate
immediates_mean : map (λ i. decoded_op_of (0x00008093 + i * 2 ^ 20)) (range_with_len 0 2048)
    ≡ map (λ i. Some (Immediate Addi 1 1 i)) (range_with_len 0 2048)
unfolding decoded_op_of decoded_op_by opcodes sign_extended
immediates_mean = refl

pub addi_means : (number : ℕ) → decoded_op_of (addi_of number) ≡ Some (Immediate Addi 1 1 (immediate_of number))
addi_means number =
    let i : ℕ = immediate_of number in
    let small : i < 2048 = omega arith in
    let here : 0 + i ≡ i = omega arith in
    sym (get_or-map-range_with_len (λ (n : ℕ). decoded_op_of (0x00008093 + n * 2 ^ 20)) 0 2048 i i None small here)
    ∙ ap (λ (meant : List (Option Op)). get_or meant i None) immediates_mean
    ∙ get_or-map-range_with_len (λ (n : ℕ). Some (Immediate Addi 1 1 n)) 0 2048 i i None small here
