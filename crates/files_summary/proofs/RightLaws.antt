-- A right list stays right: a state that is appended or withdrawn changes the entry of its own centre alone.
use mathlib.Core.Path.{◌≡◌, refl, sym, ap, subst, ◌∙◌}
use mathlib.Core.Bool.{Bool, true, false}
use mathlib.Core.List.{List, [], ◌∷◌, ◌++◌}
use Prim.Native.Nat.{ℕ, zero, suc, ◌<◌}
use native.Mathlib.Decide.{dec_lt}
use native.Mathlib.Omega.{arith}
use borrow.Author.Tests.{eqb-true, eqb-false, ne_eqb}
use lib.Dec.{eqb}
use lib.ListN.{length, get_or, set, length-append, length-set, get_or-append}
use lib.Seq.{ext_get_or, get_or-append_seam, get_or-set_same, get_or-set_other}
use Rattle.bits.specs.Choice.{pick}
use Rattle.files_records.specs.Records.{without}
use Rattle.files_records.proofs.RecordLaws.{record_at_lem}
use Rattle.files_formats.specs.declared.elements.Edition.{Edition}
use Rattle.files_summary.specs.declared.entries.Summary.{Summary}
use Rattle.files_summary.specs.Entries.{state_width, centre_of, is_dated, is_undated, chosen, centre_entry, no_entry}
use Rattle.files_summary.specs.Changes.{one_each, Asked, append, withdraw, entries_of}
use Rattle.files_summary.specs.Kept.{Kept, change_by, changes_by, refusal_beside, centre_beside, kept_states, kept_entry, states_asked, Right, RightStays}
use Rattle.files_summary.proofs.RefusalLaws.{accepted, withdrawable, granted}
use Rattle.files_summary.proofs.AnewLaws.{done, made, not_made, as_asked}

-- ---- States that are chosen, with one more and with one fewer that is not.
module _ (test : List ℕ → Bool) where
  chosen_append : (xs : List (List ℕ)) (s : List ℕ) → test s ≡ false → chosen test (xs ++ (s ∷ [])) ≡ chosen test xs
  unfolding chosen
  chosen_append [] s h = rw h
  chosen_append (x ∷ xs) s h = ap (λ (ss : List (List ℕ)). pick (test x) (x ∷ ss) ss) (chosen_append xs s h)

  chosen_without : (xs : List (List ℕ)) (k : ℕ) → test (get_or xs k []) ≡ false → chosen test (without xs k) ≡ chosen test xs
  unfolding chosen without
  chosen_without [] k h = refl
  chosen_without (x ∷ xs) zero h = rw h
  chosen_without (x ∷ xs) (suc k) h = ap (λ (ss : List (List ℕ)). pick (test x) (x ∷ ss) ss) (chosen_without xs k h)

-- The entry of a centre, with a state more and with one fewer, which is another centre's.
module _ (edition : Edition) (c : ℕ) where
  abbrev Other : List ℕ → Type 0
  Other s = (is_dated edition c s ≡ false) × (is_undated edition c s ≡ false)

  others : (s : List ℕ) → (centre_of edition s ≡ c → ⊥) → Other s
  others s h = (rw (ne_eqb (centre_of edition s) c h), rw (ne_eqb (centre_of edition s) c h))

  by_chosen : (xs ys : List (List ℕ)) → chosen (is_dated edition c) xs ≡ chosen (is_dated edition c) ys → chosen (is_undated edition c) xs ≡ chosen (is_undated edition c) ys
      → centre_entry edition c xs ≡ centre_entry edition c ys
  unfolding centre_entry
  by_chosen xs ys p q = rw (p, q)

  entry_append : (xs : List (List ℕ)) (s : List ℕ) → Other s → centre_entry edition c (xs ++ (s ∷ [])) ≡ centre_entry edition c xs
  entry_append xs s o = by_chosen (xs ++ (s ∷ [])) xs (chosen_append (is_dated edition c) xs s o.0) (chosen_append (is_undated edition c) xs s o.1)

  entry_without : (xs : List (List ℕ)) (k : ℕ) → Other (get_or xs k []) → centre_entry edition c (without xs k) ≡ centre_entry edition c xs
  entry_without xs k o = by_chosen (without xs k) xs (chosen_without (is_dated edition c) xs k o.0) (chosen_without (is_undated edition c) xs k o.1)

-- ---- The entries of all centres, by their numbers.
module _ (edition : Edition) where
  length_entries : (states : List (List ℕ)) (n : ℕ) → length (entries_of edition states n) ≡ n
  unfolding entries_of
  length_entries states zero = refl
  length_entries states (suc n) = length-append (entries_of edition states n) (centre_entry edition n states ∷ []) ∙ omega (arith, length_entries states n)

  entry_at : (states : List (List ℕ)) (n i : ℕ) → i < n → get_or (entries_of edition states n) i no_entry ≡ centre_entry edition i states
  unfolding entries_of
  entry_at states zero i h = absurd (omega arith)
  entry_at states (suc n) i h = elim (dec_lt i n) [
    | yes l ↦ get_or-append (entries_of edition states n) (centre_entry edition n states ∷ []) no_entry i (omega (arith, length_entries states n)) ∙ entry_at states n i l
    | no g ↦
        let last : i ≡ n = omega arith in
        let seam : i ≡ length (entries_of edition states n) = omega (arith, length_entries states n) in
        ap (λ (k : ℕ). get_or (entries_of edition states n ++ (centre_entry edition n states ∷ [])) k no_entry) seam
        ∙ get_or-append_seam (entries_of edition states n) (centre_entry edition n states) [] no_entry ∙ ap (λ (k : ℕ). centre_entry edition k states) (sym last)
  ]

  -- One entry anew makes the list that of the new states, where no other centre's entry differs.
  one_anew : (before after : List (List ℕ)) (centres c : ℕ) → c < centres → ((d : ℕ) → (c ≡ d → ⊥) → centre_entry edition d after ≡ centre_entry edition d before)
      → set (entries_of edition before centres) c (centre_entry edition c after) ≡ entries_of edition after centres
  one_anew before after centres c h others =
      let list = set (entries_of edition before centres) c (centre_entry edition c after) in
      let l : length list ≡ centres = length-set (entries_of edition before centres) c (centre_entry edition c after) ∙ length_entries before centres in
      ext_get_or no_entry list (entries_of edition after centres) (l ∙ sym (length_entries after centres)) (λ i k. at i (omega (arith, k, l)) (eqb i c) refl)
    where
      at : (i : ℕ) → i < centres → (b : Bool) → eqb i c ≡ b
          → get_or (set (entries_of edition before centres) c (centre_entry edition c after)) i no_entry ≡ get_or (entries_of edition after centres) i no_entry
      at i k true e =
          let there = get_or-set_same (entries_of edition before centres) c (centre_entry edition c after) no_entry (omega (arith, length_entries before centres)) in
          rw (eqb-true i c e, there, entry_at after centres c h)
      at i k false e =
          let other = eqb-false i c e in
          let kept = get_or-set_other (entries_of edition before centres) c i (centre_entry edition c after) no_entry other in
          rw (kept, entry_at before centres i k, entry_at after centres i k) (sym (others i (λ z. other (sym z))))

-- ---- A change touches the entry of its own centre alone.
other_centres : (asked : Asked) (k : Kept Summary) → refusal_beside 1 asked k ≡ 0 → (d : ℕ) → (centre_beside asked k ≡ d → ⊥) → centre_entry k.roster.edition d (states_asked asked (kept_states k)) ≡ kept_entry d k
other_centres (append state) k e d other = entry_append k.roster.edition d (kept_states k) state (others k.roster.edition d state other)
other_centres (withdraw which) k e d other =
    let a = withdrawable which k.run k.roster (one_each 1 (length k.list) k.roster.centres) (accepted _ e) in
    let its = record_at_lem (state_width k.roster.edition) k.run k.roster.count which a.there in
    entry_without k.roster.edition d (kept_states k) which (others k.roster.edition d (get_or (kept_states k) which []) (λ z. other (ap (centre_of k.roster.edition) (sym its) ∙ z)))

-- ---- One change, and changes one after another.
after_one : (asked : Asked) (k : Kept Summary) → Right k → Right (change_by 1 set asked k)
after_one asked k right = go (refusal_beside 1 asked k) refl
  where
    go : (n : ℕ) → refusal_beside 1 asked k ≡ n → Right (change_by 1 set asked k)
    go zero e =
        let c = centre_beside asked k in
        let edition = k.roster.edition in
        let after = kept_states (done 1 set asked k) in
        let same = as_asked 1 set asked k e in
        subst Right (sym (made 1 set asked k e))
        (ap (λ (l : List Summary). set l c (centre_entry edition c after)) right
        ∙ one_anew edition (kept_states k) after k.roster.centres c (granted asked k.run k.roster (one_each 1 (length k.list) k.roster.centres) (accepted _ e)).1
        (λ d other. ap (centre_entry edition d) same ∙ other_centres asked k e d other))
    go (suc n) e = subst Right (sym (not_made 1 set asked k (λ z. omega (arith, e, z)))) right

pub right_stays : RightStays
unfolding changes_by
right_stays [] k right = right
right_stays (asked ∷ rest) k right = right_stays rest (change_by 1 set asked k) (after_one asked k right)
