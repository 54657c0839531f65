use Rattle.std.proofs.Common.{◌≡◌, ℕ, ◌≤◌, false, lit<, refl, replicate, set, subst, sym}
use Rattle.std.proofs.lemmas.Bool.{ltb-false}
use Rattle.std.proofs.lemmas.List.Elements.{All-set}
use Rattle.std.proofs.Math.ListN.{get_or-eq_default}
use Rattle.hart_words.specs.declared.privilege.PmpEntry.{PmpEntry}
use Rattle.csr_file.specs.declared.csrs.Csrs.{Csrs}
use Rattle.csr_file.specs.Legal.{IsLegal, IsLegalEntry}
use Rattle.csr_file.specs.Profiles.{plain_profile}
use Rattle.csr_file.specs.Registers.{at, csrs_at_reset, csrs_at_reset_of, no_entry, pmp_entry_of}
use Rattle.csr_file.specs.Values.{has_entry}
use Rattle.step_tests.proofs.modes.open_csrs.Goals as goal

abbrev open_entry : PmpEntry
open_entry = record { cfg = 0x1f; addr = 0x3fffffffffffff }

abbrev opened : Csrs → Csrs
opened csrs = record csrs { entries = set csrs.entries 0 open_entry }

all_rights : IsLegalEntry plain_profile open_entry
unfolding plain_profile
all_rights = record { configuration = record { reserved = refl; rights = λ e. cc }; address = lit< tt }

none_past : (number : ℕ) → has_entry (opened csrs_at_reset) number ≡ false
    → pmp_entry_of (opened csrs_at_reset) number ≡ no_entry
unfolding csrs_at_reset csrs_at_reset_of plain_profile
none_past number none =
    let past : 16 ≤ number = ltb-false number 16 none in
    get_or-eq_default (set (replicate 16 no_entry) 0 open_entry) no_entry past

open_is_legal : IsLegal csrs_at_reset → IsLegal (opened csrs_at_reset)
unfolding at csrs_at_reset csrs_at_reset_of
open_is_legal before = record {
  whole = before.whole;
  values = before.values;
  entries = All-set (IsLegalEntry plain_profile) (replicate 16 no_entry) 0 open_entry all_rights before.entries;
  missing = none_past;
}

pub returns : goal.returns
returns c =
    let P : Csrs → Type 0 = λ csrs. IsLegal csrs → IsLegal (opened csrs) in
    subst P (sym c.reset-csrs.ensures.value) open_is_legal c.reset-csrs.ensures.legal
