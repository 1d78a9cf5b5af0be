-- The refusals by their numbers and in their order.
use Rattle.std.specs.Prelude.{ℕ, ◌≡◌, refl, ◌*◌, Bool, true, false, ⊤, Result, Err, List, length, eqb}
use Rattle.std.proofs.Common.{arith}
use borrow.Author.Tests.{eq-eqb, ne_eqb, le-leb, lt-leb, lt-ltb, le-ltb}
use Rattle.bits.specs.declared.refusal.Refusal.{Refusal}
use Rattle.bits.specs.declared.refusal.Refusal.TheVariants.{NotWholeRecords}
use Rattle.bits.specs.Refusal.{number_in}
use Rattle.files_formats.specs.declared.elements.Edition.TheVariants.{One}
use Rattle.files_summary.specs.Entries.{centre_of}
use Rattle.files_summary.specs.Changes.{refuse, ◌⟫◌, append_refusal, withdraw_refusal, state_at}
use Rattle.files_summary.specs.Kept.{RefusesInOrder, AppendRefused, WithdrawRefused, SummaryRefused}

-- 27 twice is 27, whichever of the two it is.
twice : (b : Bool) → number_in {T = ⊤} (refuse b NotWholeRecords ⟫ Err NotWholeRecords) ≡ 27
twice true = refl
twice false = refl

twice_then : (b : Bool) (next : Result ⊤ Refusal) → number_in {T = ⊤} ((refuse b NotWholeRecords ⟫ Err NotWholeRecords) ⟫ next) ≡ 27
twice_then true next = refl
twice_then false next = refl

thrice : (a b : Bool) (next : Result ⊤ Refusal) → number_in {T = ⊤} (refuse a NotWholeRecords ⟫ (refuse b NotWholeRecords ⟫ Err NotWholeRecords) ⟫ next) ≡ 27
thrice true b next = twice_then b next
thrice false b next = refl

append_refused : (state : List ℕ) (words count centres : ℕ) (listed : Bool) → AppendRefused state words count centres listed
unfolding append_refusal
append_refused state words count centres listed = record {
  no_record = λ h. simp (ne_eqb (length state) 8 h);
  no_section = λ h. simp (ne_eqb words 4000 h) (twice (eqb (length state) 8));
  too_many = λ h. simp (lt-leb count 500 h) (thrice (eqb (length state) 8) (eqb words 4000) _);
  no_list = λ one r l. simp (eq-eqb (length state) 8 one, eq-eqb words 4000 r.0, le-leb count 500 r.1, l);
  no_centre = λ one r l c. simp (eq-eqb (length state) 8 one, eq-eqb words 4000 r.0, le-leb count 500 r.1, l, le-ltb (centre_of One state) centres c);
  full = λ one r l c n. simp (eq-eqb (length state) 8 one, eq-eqb words 4000 r.0, le-leb count 500 r.1, l, lt-ltb (centre_of One state) centres c, le-ltb count 500 (omega (arith, n)));
  none = λ one r l c n. simp (eq-eqb (length state) 8 one, eq-eqb words 4000 r.0, le-leb count 500 r.1, l, lt-ltb (centre_of One state) centres c, lt-ltb count 500 n);
}

withdraw_refused : (which : ℕ) (run : List ℕ) (count centres : ℕ) (listed : Bool) → WithdrawRefused which run count centres listed
unfolding withdraw_refusal
withdraw_refused which run count centres listed =
    let its = centre_of One (state_at One run which) in
    record {
      no_section = λ h. simp (ne_eqb (length run) 4000 h);
      too_many = λ h. simp (lt-leb count 500 h) (twice_then (eqb (length run) 4000) _);
      no_list = λ r l. simp (eq-eqb (length run) 4000 r.0, le-leb count 500 r.1, l);
      no_centre = λ r l t c. simp (eq-eqb (length run) 4000 r.0, le-leb count 500 r.1, l, lt-ltb which count t, le-ltb its centres c);
      not_there = λ r l t. simp (eq-eqb (length run) 4000 r.0, le-leb count 500 r.1, l, le-ltb which count t);
      none = λ r l t c. simp (eq-eqb (length run) 4000 r.0, le-leb count 500 r.1, l, lt-ltb which count t, lt-ltb its centres c);
    }

summary_refused : (run : List ℕ) (count centres : ℕ) (list : List ℕ) → SummaryRefused run count centres list
summary_refused run count centres list = record {
  no_section = λ h. simp (ne_eqb (length run) 4000 h);
  too_many = λ h. simp (lt-leb count 500 h) (twice (eqb (length run) 4000));
  no_list = λ r h. simp (eq-eqb (length run) 4000 r.0, le-leb count 500 r.1, ne_eqb (length list) (centres * 4) h);
  none = λ r e. simp (eq-eqb (length run) 4000 r.0, le-leb count 500 r.1, eq-eqb (length list) (centres * 4) e);
}

pub refuses_in_order : RefusesInOrder
refuses_in_order = (append_refused, withdraw_refused, summary_refused)
