-- The flag `--origin`.
use Rattle.std.proofs.Common.{◌≡◌, [], ◌∷◌, Some, None, codes, refl}
use Rattle.std.specs.Prelude.{option_map}
use Rattle.hart_words.specs.Map.{map_beside, map_with}
use Rattle.hart_words.specs.Numbers.{digits_number, number_of, number_within}
use Rattle.hart_words.specs.Spans.{span_of}
use Rattle.hart_words.specs.Choices.{choices_of, with_rows}
use Rattle.csr_file.specs.Profiles.{plain_profile}
use Rattle.clap.proofs.OnLiterals.{clap_on_literals}
use Rattle.judge_words.specs.Commands.{command_line, command_entered}
use Rattle.judge_words.specs.Job.{files_job, given_choices, given_map, given_profile, job_of, rows_choices, sharing_of}
use Rattle.judge_words.specs.Values.{bits_in, device_faults_in, insn_bits_in, marks_in, misaligned_in, number_of_text}
use Rattle.judge_words.specs.Values.{number_up_to, span_in}
use Rattle.judge_words.specs.Lists.{trap_values_in}
use Rattle.judge_words.specs.Profiles.{entry_bits_in, entry_count_in, lines_in}
use Rattle.judge_words.specs.Cores.{plain_words, said}
use Rattle.judge_words.specs.declared.job.Command.TheVariants.{Judge}
use Rattle.judge_words.specs.declared.job.Product.TheVariants.{Line, Origins}

pub flag_taken : option_map (λ job. job.command)
    (job_of (codes "rvjudge" ∷ codes "judge" ∷ codes "i" ∷ codes "t" ∷ codes "--origin" ∷ []))
    ≡ Some (Judge (codes "i") (codes "t") Origins)
unfolding job_of command_line command_entered files_job given_map rows_choices given_choices given_profile sharing_of
    said plain_words misaligned_in trap_values_in marks_in bits_in insn_bits_in device_faults_in entry_count_in
    entry_bits_in lines_in span_in number_up_to number_of_text number_within number_of digits_number span_of map_with
    map_beside choices_of with_rows plain_profile clap_on_literals
flag_taken = refl

pub flag_left_out : option_map (λ job. job.command)
    (job_of (codes "rvjudge" ∷ codes "judge" ∷ codes "i" ∷ codes "t" ∷ []))
    ≡ Some (Judge (codes "i") (codes "t") Line)
unfolding job_of command_line command_entered files_job given_map rows_choices given_choices given_profile sharing_of
    said plain_words misaligned_in trap_values_in marks_in bits_in insn_bits_in device_faults_in entry_count_in
    entry_bits_in lines_in span_in number_up_to number_of_text number_within number_of digits_number span_of map_with
    map_beside choices_of with_rows plain_profile clap_on_literals
flag_left_out = refl

pub flag_refused : job_of (codes "rvjudge" ∷ codes "state" ∷ codes "i" ∷ codes "t" ∷ codes "--origin" ∷ []) ≡ None
unfolding job_of command_line command_entered clap_on_literals
flag_refused = refl
