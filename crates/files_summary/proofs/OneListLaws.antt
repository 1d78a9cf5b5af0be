-- The functions over words and those over structs keep one list; so a right list of words stays right too.
use mathlib.Core.Path.{◌≡◌, refl, sym, ap, ap₂, ◌∙◌}
use mathlib.Core.Bool.{Bool, true, false}
use mathlib.Core.List.{List, [], ◌∷◌}
use Rattle.std.specs.Prelude.{Result, Ok, Err}
use Prim.Native.Nat.{ℕ, ◌*◌, ◌<◌}
use Rattle.bits.specs.declared.refusal.Refusal.{Refusal}
use native.Mathlib.Omega.{arith}
use borrow.Author.Tests.{eq-eqb, ne_eqb, eqb-true, eqb-false}
use lib.Dec.{eqb}
use lib.ListN.{length, set}
use Rattle.files_formats.specs.Rows.{entry_width}
use Rattle.files_summary.specs.declared.entries.Roster.{Roster}
use Rattle.files_summary.specs.declared.entries.Summary.{Summary}
use Rattle.files_summary.specs.declared.changes.Change.{Change}
use Rattle.files_summary.specs.Changes.{one_each, Asked, change_of, run_of, count_after, settled_by, put_entry, entries_in, as_words}
use Rattle.files_summary.specs.Kept.{Kept, counting, change_by, changes_by, in_words, OneList, RightWordsStay}
use Rattle.files_summary.proofs.ChangeLaws.{within, within_list}
use Rattle.files_summary.proofs.WordLaws.{length-as_words, words_set}
use Rattle.files_summary.proofs.RightLaws.{right_stays}

settled_alike : (list : List Summary) (change : Result Change Refusal) → ((made : Change) → change ≡ Ok made → made.at < length list)
    → settled_by put_entry (as_words list) change ≡ as_words (settled_by set list change)
settled_alike list (Ok made) h = sym (words_set list made.at made.entry (h made refl))
settled_alike list (Err refusal) h = refl

-- Whether there is one entry for each centre is the same of both.
same_each : (list : List Summary) (centres : ℕ) → one_each entry_width (length (as_words list)) centres ≡ one_each 1 (length list) centres
same_each list centres = ap (λ (n : ℕ). eqb n (centres * entry_width)) (length-as_words list) ∙ go (eqb (length list) (centres * 1)) refl
  where
    go : (b : Bool) → eqb (length list) (centres * 1) ≡ b → eqb (length list * entry_width) (centres * entry_width) ≡ b
    go true e = let l = eqb-true (length list) (centres * 1) e in eq-eqb (length list * entry_width) (centres * entry_width) (omega (arith, l))
    go false e = ne_eqb (length list * entry_width) (centres * entry_width) (λ z. eqb-false (length list) (centres * 1) e (omega (arith, z)))

-- ---- One change, and changes one after another.
change_alike : (asked : Asked) (k : Kept Summary) → change_by entry_width put_entry asked (in_words k) ≡ in_words (change_by 1 set asked k)
unfolding change_by
change_alike asked k =
    let listed = one_each 1 (length k.list) k.roster.centres in
    let by : Bool → Result Change Refusal = change_of asked k.run k.roster in
    let run : Bool → List ℕ = run_of asked k.run k.roster in
    let e = same_each k.list k.roster.centres in
    let there : (made : Change) → by listed ≡ Ok made → made.at < length k.list =
    λ made z. let g = within asked k.run k.roster listed z in omega (arith, within_list {long = length k.list} {centres = k.roster.centres} {at = made.at} 1 g.0 g.1)
    in
    (λ i. record { run = run (e i); roster = counting k.roster (count_after (by (e i)) k.roster.count); list = settled_by put_entry (as_words k.list) (by (e i)) })
    ∙ (λ i. record { run = run listed; roster = counting k.roster (count_after (by listed) k.roster.count); list = settled_alike k.list (by listed) there i })

pub one_list : OneList
unfolding changes_by
one_list [] k = refl
one_list (asked ∷ rest) k = ap (changes_by entry_width put_entry rest) (change_alike asked k) ∙ one_list rest (change_by 1 set asked k)

pub right_words_stay : RightWordsStay
right_words_stay asked k right =
    let structs : Kept Summary = record { run = k.run; roster = k.roster; list = entries_in k.roster k.run } in
    let same : k ≡ in_words structs = λ i. record { run = k.run; roster = k.roster; list = right i } in
    let after = ap (changes_by entry_width put_entry asked) same ∙ one_list asked structs in
    ap (λ (z : Kept ℕ). z.list) after
    ∙ ap as_words (right_stays asked structs refl)
    ∙ ap₂ (λ (run : List ℕ) (roster : Roster). as_words (entries_in roster run)) (sym (ap (λ (z : Kept ℕ). z.run) after)) (sym (ap (λ (z : Kept ℕ). z.roster) after))
