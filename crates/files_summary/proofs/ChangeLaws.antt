-- What a change comes to, refused or made.
use Rattle.std.specs.Prelude.{ℕ, suc, ◌≡◌, refl, ◌*◌, ◌<◌, ◌≤◌, Bool, true, ⊤, Result, Ok, Err, List}
use Rattle.std.proofs.Common.{sym, ap, ap₂, ◌∙◌, arith}
use borrow.Author.Tests.{eqb-true}
use Rattle.bits.specs.declared.refusal.Refusal.{Refusal}
use Rattle.bits.specs.Refusal.{number_in}
use Rattle.bits.proofs.RefusalLaws.{number_bounds}
use Rattle.files_records.proofs.Steps.{more}
use Rattle.files_summary.specs.declared.entries.Roster.{Roster}
use Rattle.files_summary.specs.declared.changes.Change.{Change}
use Rattle.files_summary.specs.Changes.{◌⟫◌, one_each, Asked, refusal_of, centre_asked, run_asked, count_asked, changed, if_made, change_of, run_of}
use Rattle.files_summary.proofs.RefusalLaws.{granted}

pub if_refused : {A : Type 0} (r : Result ⊤ Refusal) (before after : A) → (number_in r ≡ 0 → ⊥) → before ≡ if_made r before after
if_refused (Ok done) before after h = absurd (h refl)
if_refused (Err refusal) before after h = refl

pub if_made_lem : {A : Type 0} (r : Result ⊤ Refusal) (before after : A) → number_in r ≡ 0 → after ≡ if_made r before after
if_made_lem (Ok done) before after h = refl
if_made_lem (Err refusal) before after h = absurd (omega (arith, number_bounds refusal, h))

module _ (asked : Asked) (run : List ℕ) (roster : Roster) (listed : Bool) where
  abbrev made : Change
  made = changed roster.edition (run_asked asked run roster) (count_asked asked roster) (centre_asked asked run roster)

  pub change_refused : {r : Refusal} → refusal_of asked run roster listed ≡ Err r → (Err r ≡ change_of asked run roster listed) × (run ≡ run_of asked run roster listed)
  unfolding change_of run_of
  change_refused e = (ap (λ (a : Result ⊤ Refusal). a ⟫ Ok made) (sym e), ap (λ (a : Result ⊤ Refusal). if_made a run (run_asked asked run roster)) (sym e))

  pub change_made_lem : {after : List ℕ} {centre : ℕ} {change : Change} → refusal_of asked run roster listed ≡ Ok tt → after ≡ run_asked asked run roster → centre ≡ centre_asked asked run roster
      → change ≡ changed roster.edition after (count_asked asked roster) centre → (Ok change ≡ change_of asked run roster listed) × (after ≡ run_of asked run roster listed)
  unfolding change_of run_of
  change_made_lem e a c p = (
    ap (λ (x : Change). Ok x) (p ∙ ap₂ (λ (l : List ℕ) (k : ℕ). changed roster.edition l (count_asked asked roster) k) a c) ∙ ap (λ (x : Result ⊤ Refusal). x ⟫ Ok made) (sym e),
    a ∙ ap (λ (x : Result ⊤ Refusal). if_made x run (run_asked asked run roster)) (sym e),
  )

  -- A change answers the refusal; and the centre that it changes, where there is none, is one of those listed.
  pub number_is : number_in (change_of asked run roster listed) ≡ number_in (refusal_of asked run roster listed)
  unfolding change_of
  number_is = go (refusal_of asked run roster listed)
    where
      go : (r : Result ⊤ Refusal) → number_in (r ⟫ Ok made) ≡ number_in r
      go (Ok done) = refl
      go (Err refusal) = refl

  pub within : {change : Change} → change_of asked run roster listed ≡ Ok change → (listed ≡ true) × (change.at < roster.centres)
  unfolding change_of
  within {change} e = go (refusal_of asked run roster listed) refl e
    where
      go : (r : Result ⊤ Refusal) → refusal_of asked run roster listed ≡ r → (r ⟫ Ok made) ≡ Ok change → (listed ≡ true) × (change.at < roster.centres)
      go (Ok done) f e = let g = granted asked run roster listed f in let same : made ≡ change = cc in (g.0, omega (arith, g.1, ap (λ (x : Change). x.at) same))
      go (Err refusal) f e = cc

-- Within a list of entries, each of so many words, or of one struct.
pub within_list : {long centres at : ℕ} (each : ℕ) → one_each each long centres ≡ true → at < centres → suc at * each ≤ long
within_list {long} {centres} {at} each e h = omega (arith, more each {i = suc at} {j = centres} h, eqb-true long (centres * each) e)
