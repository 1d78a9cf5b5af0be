-- The order of refusals, and what the lent run holds after each.
use Prim.Native.Nat.{ℕ}
use mathlib.Core.Path.{◌≡◌, refl, sym, ap, subst}
use mathlib.Core.Bool.{Bool}
use mathlib.Core.List.{List, ◌++◌}
use native.Mathlib.Omega.{arith}
use borrow.Author.Tests.{le-leb, lt-leb, eq-eqb, ne_eqb, eqb-true}
use lib.Dec.{eqb, leb}
use lib.ListN.{drop}
use Rattle.std.specs.Prelude.{⊤, Option, Some, None, Result, Ok, Err}
use Rattle.bits.specs.declared.refusal.Refusal.TheVariants.{CountsDiffer, RoomTooShort}
use Rattle.files_words.specs.Bytes.{word_at}
use Rattle.files_checks.specs.declared.Fault.{Fault}
use Rattle.files_checks.specs.Checks.{Check, sound, need, edition_check}
use Rattle.files_formats.specs.Rows.{result_edition, result_count_place, result_width, most_results}
use Rattle.files_checks.proofs.CheckLaws.{both}
use Rattle.files_checks.proofs.CountedLaws.{filled_sound, edition_is}
use Rattle.files_differences.specs.declared.told.Side.{Side}
use Rattle.files_differences.specs.declared.told.Side.TheVariants as side
use Rattle.files_differences.specs.declared.told.Compared.{Compared}
use Rattle.files_differences.specs.declared.told.Refused.{Refused}
use Rattle.files_compare.specs.Compare.{edition_known, results_check, row_count, rows_told, largest_of, words_needed, unless_fault, comparison_of, unless_compared, run_after}
use Rattle.files_compare.specs.ComparePromise.{SoundSo, IsRefused, RefusesInOrder, KeepsOrTells}

pub sound_so : SoundSo
unfolding results_check
sound_so file e =
    let b = both (edition_check file (edition_known file)) _ e in
    let filled = filled_sound file result_count_place most_results result_width b.1 in
    record {
      edition = eqb-true (word_at file 0) result_edition (edition_is file (edition_known file) b.0).1;
      few = filled.0;
      size = omega (arith, filled.1);
    }

-- A fault is told of its side, and a file without one is sound.
pub stops : {T : Type 0} (s : Option Side) (check : Check) (next : Result T Refused) {r : Refused} → unless_fault {T = ⊤} s check (Ok tt) ≡ Err r → Err r ≡ unless_fault s check next
stops s (Ok done) next e = cc
stops s (Err fault) next e = cc

pub faulty : {T : Type 0} (s : Option Side) (next : Result T Refused) {check : Check} {fault : Fault} → check ≡ Err fault → Err (record { fault = fault; side = s }) ≡ unless_fault s check next
faulty s next e = ap (λ (k : Check). unless_fault s k next) (sym e)

pub passes : (s : Option Side) (check : Check) → unless_fault {T = ⊤} s check (Ok tt) ≡ Ok tt → check ≡ sound
passes s (Ok done) e = refl
passes s (Err fault) e = cc

module _ (left right : List ℕ) (room : ℕ) where
  abbrev pub count : ℕ
  count = row_count left

  -- The answer, by what each test came to.
  abbrev pub by_tests : Check → Check → (same enough : Bool) → Result Compared Refused
  by_tests l r same enough =
      unless_fault (Some side.Left) l
      (unless_fault (Some side.Right) r
      (unless_fault None (need same CountsDiffer 0)
      (unless_fault None (need enough RoomTooShort (words_needed left))
      (Ok (record { count = count; largest = largest_of left right count })))))

  pub by : {l r : Check} {same enough : Bool} → results_check left ≡ l → results_check right ≡ r → eqb count (row_count right) ≡ same → leb (words_needed left) room ≡ enough → comparison_of left right room ≡ by_tests l r same enough
  unfolding comparison_of
  by el er es ee = λ i. by_tests (el i) (er i) (es i) (ee i)

is_refused : {c d : Result Compared Refused} (number place : ℕ) (s : Option Side) → c ≡ d → IsRefused d number s place → IsRefused c number s place
is_refused number place s e h = subst (λ (c : Result Compared Refused). IsRefused c number s place) (sym e) h

pub refuses_in_order : RefusesInOrder
refuses_in_order left right room =
    let c = row_count left in
    record {
      left_first = λ fault el. by left right room el refl refl refl;
      then_right = λ el fault er. by left right room el er refl refl;
      then_51 = λ el er h. is_refused _ _ _ (by left right room el er (ne_eqb c (row_count right) h) refl) (refl, refl, refl);
      then_26 = λ el er h s. is_refused _ _ _ (by left right room el er (eq-eqb c (row_count right) h) (lt-leb (words_needed left) room s)) (refl, refl, refl);
      else_compared = λ el er h s. by left right room el er (eq-eqb c (row_count right) h) (le-leb (words_needed left) room s);
    }

pub keeps_or_tells : KeepsOrTells
unfolding run_after
keeps_or_tells left right run =
    let told = rows_told left right (row_count left) ++ drop (words_needed left) run in
    record {
      kept = λ r e. ap (λ (c : Result Compared Refused). unless_compared c run told) e;
      told = λ c e. ap (λ (c : Result Compared Refused). unless_compared c run told) e;
    }
