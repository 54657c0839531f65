use Rattle.std.proofs.Common.{refl}
use Rattle.std.proofs.lemmas.Result.{IfOk-weaker}
use Rattle.judge_words.proofs.CommandLine.{adds_rule}
use Rattle.judge_words.proofs.command_line.with_registers.Goals as goal

pub returns : goal.returns
returns c =
    let insn =
    adds_rule c.in_ok-arg.ensures refl c.requires c.option.ensures.rule c.option.ensures.local in
    let io_faults =
    adds_rule c.in_ok-arg-2.ensures insn.0 insn.1 c.option-2.ensures.rule c.option-2.ensures.local in
    let csr =
    adds_rule c.in_ok-arg-3.ensures io_faults.0 io_faults.1 c.option-3.ensures.rule c.option-3.ensures.local in
    let pmp =
    adds_rule c.in_ok-arg-4.ensures csr.0 csr.1 c.option-4.ensures.rule c.option-4.ensures.local in
    let pmp_bits =
    adds_rule c.in_ok-arg-5.ensures pmp.0 pmp.1 c.option-5.ensures.rule c.option-5.ensures.local in
    IfOk-weaker c.arg-6.result _ _
    (λ command h. adds_rule h pmp_bits.0 pmp_bits.1 c.option-6.ensures.rule c.option-6.ensures.local)
    c.arg-6.ensures
