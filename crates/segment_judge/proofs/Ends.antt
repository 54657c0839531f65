-- Where the judging of rows ends.
use Rattle.std.proofs.Common.{◌≡◌, ℕ, Bool, List, [], ◌∷◌, ◌++◌, if◌then◌else◌, Option, Some, None, option_map, refl}
use Rattle.std.proofs.Common.{sym, ap, ◌∙◌, subst, append_assoc}
use Rattle.std.proofs.Math.Path.{fun_ext}
use Rattle.hart_words.specs.Memory.{Bytes, after_writes}
use Rattle.rvfi_rows.specs.declared.verdict.Verdict.{Verdict}
use Rattle.rvfi_rows.specs.declared.verdict.Verdict.TheVariants.{Agrees}
use Rattle.rvfi_rows.specs.Rows.{RowReading}
use Rattle.hart_set.specs.declared.set.HartSet.{HartSet}
use Rattle.hart_step.specs.declared.state.Core.{Core}
use Rattle.hart_step.specs.HartSets.{SetState, set_state_of}
use Rattle.read_footprint.specs.declared.footprint.Footprint.{Footprint}
use Rattle.read_footprint.specs.Footprints.{Accesses, footprint_of, is_written, writes_of}
use Rattle.read_footprint.specs.Sets.{IsFootprintOf, has_written}
use Rattle.read_footprint.proofs.Agreement.{written_in_parts}
use Rattle.read_footprint.proofs.Entries.{all_agree}
use Rattle.row_origin.specs.declared.history.History.{History}
use Rattle.segment_judge.specs.declared.judged.Judged.{Judged}
use Rattle.segment_judge.specs.Judgements.{Judgement, by_set}
use Rattle.segment_judge.specs.Laws.{bytes_after_judgement, judgement_from}
use Rattle.segment_judge.specs.Judged.{IsJudgement, HoldsInOtherMemories}
use Rattle.segment_judge.proofs.Framed.{framed}

-- what was touched is written after what was touched before
pub bytes_turn : (start before now : Bytes) (accesses more : List Accesses)
    → before ≡ after_writes (writes_of accesses) start → now ≡ after_writes (writes_of more) before
    → now ≡ after_writes (writes_of (accesses ++ more)) start
bytes_turn start before now accesses more so_far is =
    is ∙ ap (λ bytes. after_writes (writes_of more) bytes) so_far
    ∙ sym (written_in_parts (writes_of accesses) (writes_of more) start)
    ∙ ap (λ writes. after_writes writes start) (sym (writes_joined accesses more))
  where
    writes_joined : (xs ys : List Accesses) → writes_of (xs ++ ys) ≡ writes_of xs ++ writes_of ys
    writes_joined [] ys = refl
    writes_joined (x ∷ xs) ys =
        ap (λ rest. x.wrote ++ rest) (writes_joined xs ys) ∙ sym (append_assoc x.wrote (writes_of xs) (writes_of ys))

-- the state after a judgement, by its end and what was touched
abbrev end_with : Option (List Core) → SetState → List Accesses → Option SetState
end_with end start accesses =
    option_map (λ core. record { core = core; bytes = after_writes (writes_of accesses) start.bytes }) end

abbrev judgement_at : Verdict → Option (List Core) → List Accesses → Judgement (List Core)
judgement_at verdict end accesses = record { verdict = verdict; end = end; accesses = accesses }

-- a row ended it
pub ended : {M : Type 0} (bytes_of : M → Bytes) (start : SetState) (rows : List RowReading) (verdict : Verdict)
    (accesses : List Accesses) (footprint : Footprint) (history : Option History)
    → judgement_at verdict None accesses ≡ judgement_from by_set start rows → IsFootprintOf footprint accesses
    → IsJudgement bytes_of start rows (record { verdict = verdict; end = None; footprint = footprint; history = history })
ended bytes_of start rows verdict accesses footprint history whole is = record {
  verdict = ap (λ judgement. judgement.verdict) whole;
  end = ap (λ judgement. end_with judgement.end start judgement.accesses) whole;
  footprint = subst (λ judgement. IsFootprintOf footprint judgement.accesses) whole is;
}

-- all rows agreed
pub agreed : {M : Type 0} (bytes_of : M → Bytes) (start : SetState) (rows : List RowReading) (set : HartSet Core M)
    {count valid : ℕ} {accesses : List Accesses} {footprint : Footprint} (history : Option History)
    → judgement_at (Agrees count valid) (Some set.cores.items) accesses ≡ judgement_from by_set start rows
    → bytes_of set.mem ≡ after_writes (writes_of accesses) start.bytes → IsFootprintOf footprint accesses
    → IsJudgement bytes_of start rows
    (record { verdict = Agrees count valid; end = Some set; footprint = footprint; history = history })
agreed bytes_of start rows set {count} {valid} {accesses} {footprint} history whole bytes is =
    let here : Some (set_state_of bytes_of set) ≡ end_with (Some set.cores.items) start accesses = rw bytes refl in
    record {
      verdict = ap (λ judgement. judgement.verdict) whole;
      end = here ∙ ap (λ judgement. end_with judgement.end start judgement.accesses) whole;
      footprint = subst (λ judgement. IsFootprintOf footprint judgement.accesses) whole is;
    }

mapped_twice : {A B D : Type 0} (f : B → D) (g : A → B) (x : Option A)
    → option_map f (option_map g x) ≡ option_map (λ a. f (g a)) x
mapped_twice f g None = refl
mapped_twice f g (Some a) = refl

-- a state over another memory, with the bytes of a set as they are in it
abbrev over : (ℕ → Bool) → Bytes → SetState → SetState
over is_moved other state =
    record { core = state.core; bytes = λ address. if is_moved address then state.bytes address else other address }

-- the judgement stands over each memory that agrees on what was read
pub stands : {M : Type 0} (bytes_of : M → Bytes) (start : SetState) (rows : List RowReading) (judged : Judged M)
    → IsJudgement bytes_of start rows judged → HoldsInOtherMemories bytes_of start rows judged
stands bytes_of start rows judged is other same =
    let judgement = judgement_from by_set start rows in
    let agrees =
    all_agree start.bytes other (footprint_of judgement.accesses)
    (λ address among. same address (is.footprint.read address ∙ among)) in
    let frame = framed by_set start.core rows start.bytes other agrees in
    let moves : (ℕ → Bool) → Option SetState =
    λ is_moved. option_map (λ set. over is_moved other (set_state_of bytes_of set)) judged.end in
    let goes : is_written (writes_of judgement.accesses) ≡ has_written judged.footprint =
    fun_ext (λ address. sym (is.footprint.wrote address)) in
    record {
      verdict = ap (λ (judgement : Judgement (List Core)). judgement.verdict) frame.same ∙ sym is.verdict;
      end =
          ap (λ (judgement : Judgement (List Core)). end_with judgement.end
          (record { core = start.core; bytes = other }) judgement.accesses) frame.same
          ∙ ap (λ bytes. end_over bytes judgement.end) frame.moves
          ∙ sym
          (mapped_twice (over (is_written (writes_of judgement.accesses)) other)
          (λ core. record { core = core; bytes = bytes_after_judgement judgement start.bytes }) judgement.end)
          ∙ ap (option_map (over (is_written (writes_of judgement.accesses)) other)) (sym is.end)
          ∙ mapped_twice (over (is_written (writes_of judgement.accesses)) other) (set_state_of bytes_of) judged.end
          ∙ ap moves goes;
    }
  where
    end_over : Bytes → Option (List Core) → Option SetState
    end_over bytes end = option_map (λ core. record { core = core; bytes = bytes }) end
