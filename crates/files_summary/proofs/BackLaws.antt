-- A state that is appended and then withdrawn leaves the states in use as they were.
use mathlib.Core.Path.{◌≡◌, refl, sym, ap, subst, ◌∙◌}
use mathlib.Core.Bool.{Bool}
use mathlib.Core.List.{List, [], ◌∷◌, ◌++◌}
use Prim.Native.Nat.{ℕ, zero, suc, ◌+◌, ◌-◌, ◌*◌, ◌<◌, ◌≤◌}
use native.Mathlib.Omega.{arith}
use borrow.Author.Tests.{lt-ltb}
use lib.ListN.{length}
use Rattle.bits.specs.Refusal.{number_in}
use Rattle.files_records.specs.Records.{without}
use Rattle.files_records.proofs.RecordLaws.{length_records, record_put_lem, length-record_put}
use Rattle.files_summary.specs.declared.entries.Roster.{Roster}
use Rattle.files_summary.specs.declared.entries.Summary.{Summary}
use Rattle.files_summary.specs.Entries.{state_width, centre_of}
use Rattle.files_summary.specs.Changes.{one_each, withdraw_refusal, state_at, append, withdraw}
use Rattle.files_summary.specs.Kept.{Kept, counting, change_by, changes_by, refusal_beside, kept_states, kept_entry, GivenBack}
use Rattle.files_summary.proofs.RefusalLaws.{accepted, has_room, appendable, lent_none, Withdrawable}
use Rattle.files_summary.proofs.AnewLaws.{done, made, as_asked}

-- The last of a list, appended and left out.
without_last : {A : Type 0} (xs : List A) (x : A) (n : ℕ) → n ≡ length xs → without (xs ++ (x ∷ [])) n ≡ xs
unfolding without
without_last [] x zero e = refl
without_last [] x (suc n) e = absurd (omega (arith, e))
without_last (y ∷ ys) x zero e = absurd (omega (arith, e))
without_last (y ∷ ys) x (suc n) e = ap (λ l. y ∷ l) (without_last ys x n (omega (arith, e)))

-- One is withdrawn where all tests hold.
withdraw_passes : (which : ℕ) (run : List ℕ) (roster : Roster) (listed : Bool) → Withdrawable which run roster listed → number_in (withdraw_refusal which run roster listed) ≡ 0
unfolding withdraw_refusal
withdraw_passes which run roster listed w =
    rw (lent_none (length run) roster listed w.lent, lt-ltb which roster.count w.there, lt-ltb (centre_of roster.edition (state_at roster.edition run which)) roster.centres w.has_centre)

-- ---- The state that was appended may be withdrawn, and what is left is what was there.
module _ {A : Type 0} (each : ℕ) (store : List A → ℕ → Summary → List A) (keeps : (list : List A) (at : ℕ) (entry : Summary) → length (store list at entry) ≡ length list)
    (state : List ℕ) (k : Kept A) (e : refusal_beside each (append state) k ≡ 0) where
  abbrev w : ℕ
  w = state_width k.roster.edition

  abbrev n : ℕ
  n = k.roster.count

  abbrev listed : Bool
  listed = one_each each (length k.list) k.roster.centres

  abbrev then : Kept A
  then = done each store (append state) k

  abbrev back : Kept A
  back = done each store (withdraw n) then

  may_go : refusal_beside each (withdraw n) then ≡ 0
  may_go =
      let a = appendable state (length k.run) k.roster listed (accepted _ e) in
      let room : suc n * w ≤ length k.run = has_room (length k.run) k.roster listed a.lent (suc n) (omega (arith, a.not_full)) in
      let its = record_put_lem w k.run n state a.one_record room in
      withdraw_passes n then.run then.roster (one_each each (length then.list) k.roster.centres)
      (record {
        lent = record {
          whole = length-record_put w k.run n state a.one_record room ∙ a.lent.whole;
          few = omega (arith, a.not_full);
          is_listed = ap (λ (m : ℕ). one_each each m k.roster.centres) (keeps k.list (centre_of k.roster.edition state) (kept_entry (centre_of k.roster.edition state) then)) ∙ a.lent.is_listed;
        };
        there = omega arith;
        has_centre = subst (λ (s : List ℕ). centre_of k.roster.edition s < k.roster.centres) (sym its) a.has_centre;
      })

  fewer : kept_states back ≡ kept_states k
  fewer =
      as_asked each store (withdraw n) then may_go
      ∙ ap (λ (l : List (List ℕ)). without l n) (as_asked each store (append state) k e)
      ∙ without_last (kept_states k) state n (sym (length_records w k.run n))

  left : let after = change_by each store (withdraw n) then in (after.roster ≡ k.roster) × (kept_states after ≡ kept_states k)
  left =
      let one_fewer : n + 1 - 1 ≡ n = omega arith in
      let so = made each store (withdraw n) then may_go in
      (ap (λ (z : Kept A). z.roster) so ∙ ap (counting k.roster) one_fewer, ap (λ (z : Kept A). kept_states z) so ∙ fewer)

pub given_back : GivenBack
unfolding changes_by
given_back A each store keeps state k e = rw (made each store (append state) k e) (left each store keeps state k e)
