-- The tests of values decide what a register can have.
use Rattle.std.proofs.Common.{◌≡◌, ◌≢◌, ℕ, ◌-◌, ◌%◌, ◌⊎◌, Bool, true, false, refl, arith, inl, inr, bit_and, ap, ◌∙◌, sym}
use Rattle.std.proofs.Common.{subst}
use Rattle.std.specs.Prelude.{◌&&◌, ◌==◌, not}
use Rattle.std.specs.Int.Bits.{and_zero_r}
use Rattle.std.proofs.lemmas.Nat.{and_mask}
use Rattle.std.specs.Bool.{Decides}
use Rattle.std.proofs.lemmas.Bool.Decides.{Decides-eqb, nat_tests}
use Rattle.csr_file.specs.declared.stored_csr.StoredCsr.{StoredCsr}
use Rattle.csr_file.specs.declared.stored_csr.StoredCsr.TheVariants.{Mstatus, Mepc, Satp, Sepc}
use Rattle.csr_file.specs.declared.stored_row.FieldRule.{FieldRule}
use Rattle.csr_file.specs.declared.stored_row.FieldRule.TheVariants.{Free, PreviousMode, TranslationMode}
use Rattle.csr_file.specs.declared.profile.CsrProfile.{CsrProfile}
use Rattle.csr_file.specs.declared.fields.TheConstants.{BARE, SV39}
use Rattle.csr_file.specs.Fields.{all_bits, is_supported_mode, mpp_of, satp_mode_of}
use Rattle.csr_file.specs.Table.{held, pc_bits, stored_row_of}
use Rattle.csr_file.specs.Legal.{FollowsRule, IsLegalValue, IsLegalConfiguration, follows_rule, is_legal_value}
use Rattle.csr_file.specs.Legal.{is_legal_configuration, keeps_fixed}
use Rattle.csr_file.specs.Laws.{HoldsInWords}
use Rattle.csr_file.proofs.Profiles.{held_fixed, held_writable}

pub both : (a b : Bool) → (a && b) ≡ true → (a ≡ true) × (b ≡ true)
both true b h = (refl, h)
both false b h = absurd cc

pub and_both : (a b : Bool) → a ≡ true → b ≡ true → (a && b) ≡ true
and_both a b p q = rw (p, q) refl

not_two : (n : ℕ) → not (n == 2) ≡ true → n ≢ 2
not_two n h = λ is. grind (arith, nat_tests)

other_than_two : (n : ℕ) → n ≢ 2 → not (n == 2) ≡ true
other_than_two n h = grind (arith, nat_tests)

rule_followed : (rule : FieldRule) (value : ℕ) → follows_rule rule value ≡ true → FollowsRule rule value
rule_followed Free value h = tt
rule_followed PreviousMode value h = not_two (mpp_of value) h
rule_followed TranslationMode value h = one_of_two (satp_mode_of value) h
  where
    one_of_two : (mode : ℕ) → is_supported_mode mode ≡ true → (mode ≡ BARE) ⊎ (mode ≡ SV39)
    one_of_two mode supported = grind (arith, nat_tests, supported)

rule_told : (rule : FieldRule) (value : ℕ) → FollowsRule rule value → follows_rule rule value ≡ true
rule_told Free value h = refl
rule_told PreviousMode value h = other_than_two (mpp_of value) h
rule_told TranslationMode value (inl bare) = rw bare refl
rule_told TranslationMode value (inr sv39) = rw sv39 refl

-- a value that passes the test is one that the register can have, and the other way round
pub legal_value : (profile : CsrProfile) (stored : StoredCsr) (value : ℕ) → is_legal_value profile stored value ≡ true
    → IsLegalValue profile stored value
unfolding is_legal_value
legal_value profile stored value h = record {
  constant = (Decides-eqb _ _).0 (both _ _ h).0;
  rule = rule_followed (stored_row_of stored).rule value (both (keeps_fixed profile stored value) _ h).1;
}

pub value_legal : (profile : CsrProfile) (stored : StoredCsr) (value : ℕ) → IsLegalValue profile stored value
    → is_legal_value profile stored value ≡ true
unfolding is_legal_value
value_legal profile stored value h =
    and_both _ _ ((Decides-eqb _ _).1 h.constant) (rule_told (stored_row_of stored).rule value h.rule)

pub value_decided : (profile : CsrProfile) (stored : StoredCsr) (value : ℕ) (result : Bool)
    → result ≡ is_legal_value profile stored value → Decides result (IsLegalValue profile stored value)
value_decided profile stored value result is =
    rw is (legal_value profile stored value, value_legal profile stored value)

-- ---- registers whose bits no core chooses

-- one of all bits can have every value
pub whole_legal : (profile : CsrProfile) (stored : StoredCsr) (value : ℕ) → stored_row_of stored ≡ held all_bits
    → IsLegalValue profile stored value
whole_legal profile stored value is = record {
  constant = ap (λ writable. bit_and value (all_bits - writable)) (held_writable profile stored all_bits is)
      ∙ and_zero_r value ∙ sym (held_fixed profile stored all_bits is);
  rule = subst (λ row. FollowsRule row.rule value) (sym is) tt;
}

-- one that holds an address of an instruction can have every even one
pub even_legal : (profile : CsrProfile) (stored : StoredCsr) (value : ℕ) → stored_row_of stored ≡ held pc_bits
    → value % 2 ≡ 0 → IsLegalValue profile stored value
even_legal profile stored value is even = record {
  constant = ap (λ writable. bit_and value (all_bits - writable)) (held_writable profile stored pc_bits is)
      ∙ and_mask value 1 ∙ even ∙ sym (held_fixed profile stored pc_bits is);
  rule = subst (λ row. FollowsRule row.rule value) (sym is) tt;
}

pub legal_even : (profile : CsrProfile) (stored : StoredCsr) (value : ℕ) → stored_row_of stored ≡ held pc_bits
    → IsLegalValue profile stored value → value % 2 ≡ 0
legal_even profile stored value is legal =
    sym (and_mask value 1)
    ∙ ap (λ writable. bit_and value (all_bits - writable)) (sym (held_writable profile stored pc_bits is))
    ∙ legal.constant ∙ held_fixed profile stored pc_bits is

-- what a register can have, in words
pub in_words : (profile : CsrProfile) (stored : StoredCsr) (value : ℕ) → IsLegalValue profile stored value
    → HoldsInWords profile stored value
in_words profile Mepc value legal = legal_even profile Mepc value refl legal
in_words profile Sepc value legal = legal_even profile Sepc value refl legal
in_words profile Mstatus value legal = legal.rule
in_words profile Satp value legal = legal.rule
in_words profile _ value legal = tt

pub legal_configuration : (byte : ℕ) → is_legal_configuration byte ≡ true → IsLegalConfiguration byte
legal_configuration byte h = record {
  reserved = (Decides-eqb _ _).0 (both _ _ h).0;
  rights = not_two (byte % 4) (both _ _ h).1;
}

pub configuration_legal : (byte : ℕ) → IsLegalConfiguration byte → is_legal_configuration byte ≡ true
configuration_legal byte h =
    and_both _ _ ((Decides-eqb _ _).1 h.reserved) (other_than_two (byte % 4) h.rights)

pub configuration_decided : (byte : ℕ) (result : Bool) → result ≡ is_legal_configuration byte
    → Decides result (IsLegalConfiguration byte)
configuration_decided byte result is = rw is (legal_configuration byte, configuration_legal byte)
