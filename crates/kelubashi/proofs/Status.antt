-- The header: "Every call returns a status: 0, or the number of the refusal"; the first word of every answer but the root's and the
-- interval's is "the status once more"; the answer run is "left alone by refusal 60", and written whole on every other call.
use mathlib.Core.Path.{◌≡◌, sym, ap, subst, ◌∙◌}
use mathlib.Core.Bool.{Bool, true, false, not}
use mathlib.Core.List.{List, [], ◌∷◌}
use Rattle.std.specs.Prelude.{Result, Ok, Err}
use Prim.Native.Nat.{ℕ, ◌<◌}
use native.Mathlib.Omega.{arith}
use borrow.Author.Tests.{eq-eqb, ne_eqb}
use contract.Lifetimes.{Lfts}
use lib.Dec.{eqb, leb}
use lib.ListN.{length}
use Rattle.bits.specs.Choice.{pick}
use Rattle.bits.specs.Words.{infinity, minus_zero}
use Rattle.bits.specs.Root.{root_refusal_of, root_word_of}
use Rattle.bits.specs.Refusal.{number_of, number_in as refusal_in}
use Rattle.bits.specs.declared.refusal.Refusal.{Refusal}
use Rattle.states.specs.Call.{answer_words}
use Rattle.states.specs.CallPromise.{ByName}
use Rattle.states.proofs.NamedFigures.{calls_name}
use Rattle.files_results.specs.Requests.{tau_of}
use Rattle.files_summary.specs.declared.changes.Change.{Change}
use Rattle.kelubashi.specs.Face.{returned, answer_after, number_in, change_words}
use Rattle.kelubashi.proofs.Calls.{Places, Root, Interval, Propagate, Partials, Read, Write, Results, Summary, Append, Withdraw, Check, Compare}

-- For an answer of n words: what is returned, and what the answer run held and holds.
pub record Status (n : ℕ) (before : List ℕ) (number : ℕ) (after : List ℕ) : Type 0 where
  pub first_word : length before ≡ n → number ≡ number_in after
  pub sixty : (length before ≡ n → ⊥) → (number ≡ 60) × (after ≡ before)

-- The root's answer is the root alone: "Under 9 the answer is +0."
pub record RootStatus (before : List ℕ) (number : ℕ) (after : List ℕ) : Type 0 where
  pub zero_under_nine : number ≡ 9 → after ≡ 0 ∷ []
  pub sixty : (length before ≡ 1 → ⊥) → (number ≡ 60) × (after ≡ before)

-- The interval's answer is the interval alone, whatever words the time and the epoch are.
pub record IntervalStatus (before : List ℕ) (number : ℕ) (after : List ℕ) : Type 0 where
  pub never_refused : length before ≡ 1 → number ≡ 0
  pub sixty : (length before ≡ 1 → ⊥) → (number ≡ 60) × (after ≡ before)

-- The two ways out: a run of n words, and any other.
module _ (n : ℕ) (before : List ℕ) {number : ℕ} where
  passed : (refusal : ℕ) → number ≡ returned n before refusal → length before ≡ n → number ≡ refusal
  passed refusal p h = rw (eq-eqb (length before) n h) at p

  left_alone : {after : List ℕ} (refusal : ℕ) (words : List ℕ) → number ≡ returned n before refusal → after ≡ answer_after n before words →
      (length before ≡ n → ⊥) → (number ≡ 60) × (after ≡ before)
  left_alone refusal words p q h = let e = ne_eqb (length before) n h in (rw e at p, rw e at q)

  status : {after : List ℕ} (words : List ℕ) → number ≡ returned n before (number_in words) → after ≡ answer_after n before words → Status n before number after
  status words p q =
      record {
        first_word = λ h. passed (number_in words) p h ∙ sym (ap number_in (rw (eq-eqb (length before) n h) at q));
        sixty = left_alone (number_in words) words p q;
      }

module _ (at : Places) (answer : List ℕ) (number : ℕ) (after : List ℕ) where
  pub root_status : (κs : Lfts 1) (word : ℕ) → Root κs at word answer number after → RootStatus answer number after
  unfolding root_word_of
  root_status κs word p =
      record {
        zero_under_nine = nine (leb infinity word) (eqb word minus_zero) (eqb (length answer) 1) _ p.0 p.1;
        sixty = left_alone 1 answer (root_refusal_of word) (root_word_of word ∷ []) p.0 p.1;
      }
    where
      nine : (large is_zero long : Bool) (root : ℕ) →
          number ≡ pick (not long) 60 (pick large (pick is_zero 0 9) 0) → after ≡ pick (not long) answer (pick large 0 root ∷ []) → number ≡ 9 → after ≡ 0 ∷ []
      nine true is_zero true root e f h = f
      nine false is_zero true root e f h = absurd (omega arith)
      nine true is_zero false root e f h = absurd (omega arith)
      nine false is_zero false root e f h = absurd (omega arith)

  pub interval_status : (κs : Lfts 1) (time epoch : ℕ) → Interval κs at time epoch answer number after → IntervalStatus answer number after
  interval_status κs time epoch p =
      record { never_refused = passed 1 answer 0 p.0; sixty = left_alone 1 answer 0 (tau_of time epoch ∷ []) p.0 p.1 }

  pub propagate_status : (κs : Lfts 1) (mu x y z vx vy vz tau : ℕ) → Propagate κs at mu x y z vx vy vz tau answer number after → Status 15 answer number after
  unfolding answer_words
  propagate_status κs mu x y z vx vy vz tau p = status 15 answer _ p.0 p.1

  pub partials_status : (κs : Lfts 2) (mu x y z vx vy vz tau : ℕ) (partials partials_after : List ℕ) →
      Partials κs at mu x y z vx vy vz tau answer partials number after partials_after → Status 15 answer number after
  unfolding answer_words
  partials_status κs mu x y z vx vy vz tau partials partials_after p = status 15 answer _ p.0 p.1.0

  pub read_status : (κs : Lfts 2) (file : List ℕ) → Read κs at file answer number after → Status 8 answer number after
  read_status κs file p = status 8 answer _ p.0 p.1

  pub write_status : (κs : Lfts 5) (centres states requests room room_after : List ℕ) →
      Write κs at centres states requests room answer number room_after after → Status 2 answer number after
  write_status κs centres states requests room room_after p = status 2 answer _ p.0 p.1.0

  pub results_status : (κs : Lfts 3) (file room room_after : List ℕ) → Results κs at file room answer number room_after after → Status 2 answer number after
  results_status κs file room room_after p = status 2 answer _ p.0 p.1.0

  pub summary_status : (κs : Lfts 3) (states : List ℕ) (count centres : ℕ) (list list_after : List ℕ) →
      Summary κs at states count centres list answer number list_after after → Status 2 answer number after
  summary_status κs states count centres list list_after p = status 2 answer _ p.0 p.1.0

  pub append_status : (κs : Lfts 4) (state states : List ℕ) (count centres : ℕ) (list states_after list_after : List ℕ) →
      Append κs at state states count centres list answer number states_after list_after after → Status 2 answer number after
  append_status κs state states count centres list states_after list_after p = status 2 answer _ p.0 p.1.0

  pub withdraw_status : (κs : Lfts 3) (which : ℕ) (states : List ℕ) (count centres : ℕ) (list states_after list_after : List ℕ) →
      Withdraw κs at which states count centres list answer number states_after list_after after → Status 2 answer number after
  withdraw_status κs which states count centres list states_after list_after p = status 2 answer _ p.0 p.1.0

  pub check_status : (κs : Lfts 3) (file verdicts verdicts_after : List ℕ) →
      Check κs at file verdicts answer number verdicts_after after → Status 2 answer number after
  check_status κs file verdicts verdicts_after p = status 2 answer _ p.0 p.1.0

  pub compare_status : (κs : Lfts 4) (left right rows rows_after : List ℕ) →
      Compare κs at left right rows answer number rows_after after → Status 7 answer number after
  compare_status κs left right rows rows_after p = status 7 answer _ p.0 p.1.0

  -- T-02: a refused change answers, behind its number, "the count given".
  keeps : (count : ℕ) (change : Result Change Refusal) → number ≡ returned 2 answer (refusal_in change) →
      after ≡ answer_after 2 answer (change_words count change) → length answer ≡ 2 → 0 < number → after ≡ number ∷ count ∷ []
  keeps count (Ok change) p q h made = absurd (omega (arith, passed 2 answer 0 p h))
  keeps count (Err refusal) p q h made =
      let n = passed 2 answer (number_of refusal) p h in
      let words : after ≡ number_of refusal ∷ count ∷ [] = rw (eq-eqb (length answer) 2 h) at q in
      words ∙ ap (λ (m : ℕ). m ∷ count ∷ []) (sym n)

  pub append_keeps_count : (κs : Lfts 4) (state states : List ℕ) (count centres : ℕ) (list states_after list_after : List ℕ) →
      Append κs at state states count centres list answer number states_after list_after after → length answer ≡ 2 → 0 < number → after ≡ number ∷ count ∷ []
  append_keeps_count κs state states count centres list states_after list_after p = keeps count _ p.0 p.1.0

  pub withdraw_keeps_count : (κs : Lfts 3) (which : ℕ) (states : List ℕ) (count centres : ℕ) (list states_after list_after : List ℕ) →
      Withdraw κs at which states count centres list answer number states_after list_after after → length answer ≡ 2 → 0 < number → after ≡ number ∷ count ∷ []
  withdraw_keeps_count κs which states count centres list states_after list_after p = keeps count _ p.0 p.1.0

  -- T-05: 31 to 38 by the parameters of the C call, in their order.
  pub propagate_names : (κs : Lfts 1) (mu x y z vx vy vz tau : ℕ) →
      Propagate κs at mu x y z vx vy vz tau answer number after → length answer ≡ 15 → ByName mu x y z vx vy vz tau number
  propagate_names κs mu x y z vx vy vz tau p h =
      subst (ByName mu x y z vx vy vz tau) (sym (passed 15 answer _ p.0 h)) (calls_name _ _ mu x y z vx vy vz tau).0

  pub partials_names : (κs : Lfts 2) (mu x y z vx vy vz tau : ℕ) (partials partials_after : List ℕ) →
      Partials κs at mu x y z vx vy vz tau answer partials number after partials_after →
      length answer ≡ 15 → length partials ≡ 36 → ByName mu x y z vx vy vz tau number
  partials_names κs mu x y z vx vy vz tau partials partials_after p h l =
      subst (ByName mu x y z vx vy vz tau) (sym (passed 15 answer _ p.0 h)) ((calls_name _ _ mu x y z vx vy vz tau).1 partials l)
