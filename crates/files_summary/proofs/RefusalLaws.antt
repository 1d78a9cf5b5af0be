-- The refusals by their tests: what no refusal says, and which one the tests give.
use Rattle.std.specs.Prelude.{ℕ, ◌≡◌, refl, ◌*◌, ◌<◌, ◌≤◌, Bool, true, false, ⊤, Result, Ok, Err, List, length}
use Rattle.std.proofs.Common.{arith}
use borrow.Author.Tests.{eqb-true, leb-true, ltb-true, eq-eqb, le-leb}
use Rattle.bits.specs.declared.refusal.Refusal.{Refusal}
use Rattle.bits.specs.Refusal.{number_in}
use Rattle.bits.proofs.RefusalLaws.{number_bounds}
use Rattle.files_records.proofs.Steps.{more}
use Rattle.files_formats.specs.declared.elements.Section.TheVariants.{States}
use Rattle.files_formats.specs.Elements.{limit_of}
use Rattle.files_summary.specs.declared.entries.Roster.{Roster}
use Rattle.files_summary.specs.Entries.{state_width, centre_of}
use Rattle.files_summary.specs.Changes.{refuse, ◌⟫◌, lent_refusal, append_refusal, withdraw_refusal, state_at}
use Rattle.files_summary.specs.Changes.{Asked, append, withdraw, refusal_of, centre_asked}

-- Nothing is refused exactly where the number is 0.
pub accepted : (r : Result ⊤ Refusal) → number_in r ≡ 0 → r ≡ Ok tt
accepted (Ok done) e = refl
accepted (Err refusal) e = absurd (omega (arith, number_bounds refusal, e))

-- A test that did not refuse holds, and where two did not refuse, neither did.
held : (holds : Bool) (r : Refusal) → refuse holds r ≡ Ok tt → holds ≡ true
held true r e = refl
held false r e = cc

both : (a b : Result ⊤ Refusal) → (a ⟫ b) ≡ Ok tt → (a ≡ Ok tt) × (b ≡ Ok tt)
both (Ok done) b e = (refl, e)
both (Err r) b e = cc

-- ---- 27 and 41: the run is a whole section, with a count that it may have, and the list has one entry for each centre.
pub record Lent (words : ℕ) (roster : Roster) (listed : Bool) : Type 0 where
  pub whole : words ≡ limit_of States * state_width roster.edition
  pub few : roster.count ≤ limit_of States
  pub is_listed : listed ≡ true

module _ (words : ℕ) (roster : Roster) (listed : Bool) where
  pub lent_well : lent_refusal words roster listed ≡ Ok tt → Lent words roster listed
  lent_well h =
      let whole = both _ _ h in
      let few = both _ _ whole.1 in
      record { whole = eqb-true _ _ (held _ _ whole.0); few = leb-true _ _ (held _ _ few.0); is_listed = held _ _ few.1 }

  pub lent_none : Lent words roster listed → lent_refusal words roster listed ≡ Ok tt
  lent_none l = simp (eq-eqb words (limit_of States * state_width roster.edition) l.whole, le-leb roster.count (limit_of States) l.few, l.is_listed)

  -- The run has room for as many states as a section may have.
  pub has_room : Lent words roster listed → (n : ℕ) → n ≤ limit_of States → n * state_width roster.edition ≤ words
  has_room l n h = omega (arith, l.whole, more (state_width roster.edition) {i = n} {j = limit_of States} h)

-- ---- A state to append: one record, of a centre that is there, and room for it.
pub record Appendable (state : List ℕ) (words : ℕ) (roster : Roster) (listed : Bool) : Type 0 where
  pub lent : Lent words roster listed
  pub one_record : length state ≡ state_width roster.edition
  pub has_centre : centre_of roster.edition state < roster.centres
  pub not_full : roster.count < limit_of States

pub appendable : (state : List ℕ) (words : ℕ) (roster : Roster) (listed : Bool) → append_refusal state words roster listed ≡ Ok tt → Appendable state words roster listed
unfolding append_refusal
appendable state words roster listed h =
    let one = both _ _ h in
    let lent = both _ _ one.1 in
    let centre = both _ _ lent.1 in
    record {
      lent = lent_well words roster listed lent.0;
      one_record = eqb-true _ _ (held _ _ one.0);
      has_centre = ltb-true _ _ (held _ _ centre.0);
      not_full = ltb-true _ _ (held _ _ centre.1);
    }

-- ---- A state to withdraw: one that is there, of a centre that is there.
pub record Withdrawable (which : ℕ) (run : List ℕ) (roster : Roster) (listed : Bool) : Type 0 where
  pub lent : Lent (length run) roster listed
  pub there : which < roster.count
  pub has_centre : centre_of roster.edition (state_at roster.edition run which) < roster.centres

pub withdrawable : (which : ℕ) (run : List ℕ) (roster : Roster) (listed : Bool) → withdraw_refusal which run roster listed ≡ Ok tt → Withdrawable which run roster listed
unfolding withdraw_refusal
withdrawable which run roster listed h =
    let lent = both _ _ h in
    let there = both _ _ lent.1 in
    record { lent = lent_well (length run) roster listed lent.0; there = ltb-true _ _ (held _ _ there.0); has_centre = ltb-true _ _ (held _ _ there.1) }

-- ---- A change that is not refused: the list has an entry for each centre, and the centre is one of them.
pub granted : (asked : Asked) (run : List ℕ) (roster : Roster) (listed : Bool) → refusal_of asked run roster listed ≡ Ok tt → (listed ≡ true) × (centre_asked asked run roster < roster.centres)
granted (append state) run roster listed e = let a = appendable state (length run) roster listed e in (a.lent.is_listed, a.has_centre)
granted (withdraw which) run roster listed e = let a = withdrawable which run roster listed e in (a.lent.is_listed, a.has_centre)
