-- The walk over the words of a section: where it ends, how many words it looks at, and what a sound one says of each.
use Prim.Native.Nat.{ℕ, zero, suc, ◌+◌, ◌*◌, ◌<◌, ◌≤◌}
use native.Mathlib.Omega.{arith}
use mathlib.Core.Path.{◌≡◌, refl, sym, ap, ◌∙◌}
use mathlib.Core.List.{List, [], ◌∷◌, ◌++◌, append-nil}
use Rattle.std.specs.Prelude.{Option, None, Some}
use lib.ListN.{length, get_or, take}
use lib.Seq.{append_snoc}
use Rattle.bits.specs.declared.refusal.Refusal.{Refusal}
use Rattle.bits.specs.declared.refusal.Refusal.TheVariants.{WordMissing}
use Rattle.files_checks.specs.Checks.{Check, sound, fault, told, ◌⟫◌, Ruling, walk, unasked}
use Rattle.files_checks.proofs.CheckLaws.{both, fault_is_not_sound}

told_sound : (told_of : Option Refusal) (place : ℕ) → told told_of place ≡ sound → told_of ≡ None
told_sound None place e = refl
told_sound (Some refusal) place e = fault_is_not_sound e

-- ---- What the walk tells of word k, and that it tells nothing of the first n.
module _ (ruling : Ruling) where
  abbrev pub tells_of : (before ws : List ℕ) (k : ℕ) → Option Refusal
  tells_of before ws k = ruling (before ++ take k ws) (get_or ws k 0)

  abbrev pub Quiet : (before ws : List ℕ) (n : ℕ) → Type 0
  Quiet before ws n = (k : ℕ) → k < n → tells_of before ws k ≡ None

  module _ (place : ℕ) (before : List ℕ) (n w : ℕ) (ws : List ℕ) where
    at_first : tells_of before (w ∷ ws) 0 ≡ ruling before w
    at_first = ap (λ (l : List ℕ). ruling l w) (append-nil before)

    at_next : (k : ℕ) → tells_of before (w ∷ ws) (suc k) ≡ tells_of (before ++ (w ∷ [])) ws k
    at_next k = ap (λ (l : List ℕ). ruling l (get_or ws k 0)) (sym (append_snoc before w (take k ws)))

    quiet_on : {m : ℕ} → Quiet before (w ∷ ws) (suc m) → Quiet (before ++ (w ∷ [])) ws m
    quiet_on q k h = sym (at_next k) ∙ q (suc k) (omega arith)

    walk_on : {m : ℕ} → Quiet before (w ∷ ws) (suc m) → walk ruling place before (suc n) (w ∷ ws) ≡ walk ruling (place + 8) (before ++ (w ∷ [])) n ws
    unfolding walk
    walk_on q = ap (λ (k : Option Refusal). told k place ⟫ walk ruling (place + 8) (before ++ (w ∷ [])) n ws) (sym at_first ∙ q 0 (omega arith))

  -- ---- Where it ends: behind all words; at the first that is missing; at the first that it tells something of.
  pub walk_quiet : (place : ℕ) (before : List ℕ) (n : ℕ) (ws : List ℕ) → n ≤ length ws → Quiet before ws n → walk ruling place before n ws ≡ sound
  unfolding walk
  walk_quiet place before zero ws h q = refl
  walk_quiet place before (suc n) [] h q = absurd (omega arith)
  walk_quiet place before (suc n) (w ∷ ws) h q =
      walk_on place before n w ws q ∙ walk_quiet (place + 8) (before ++ (w ∷ [])) n ws (omega arith) (quiet_on place before n w ws q)

  pub walk_short : (place : ℕ) (before : List ℕ) (n : ℕ) (ws : List ℕ) → length ws < n → Quiet before ws (length ws) →
      walk ruling place before n ws ≡ fault WordMissing (place + 8 * length ws)
  unfolding walk
  walk_short place before zero ws h q = absurd (omega arith)
  walk_short place before (suc n) [] h q = ap (λ (p : ℕ). fault WordMissing p) (omega arith)
  walk_short place before (suc n) (w ∷ ws) h q =
      let further : place + 8 + 8 * length ws ≡ place + 8 * suc (length ws) = omega arith in
      walk_on place before n w ws q
      ∙ walk_short (place + 8) (before ++ (w ∷ [])) n ws (omega arith) (quiet_on place before n w ws q)
      ∙ ap (λ (p : ℕ). fault WordMissing p) further

  pub walk_stops : (place : ℕ) (before : List ℕ) (n : ℕ) (ws : List ℕ) (j : ℕ) {refusal : Refusal} → j < n → j < length ws → Quiet before ws j →
      tells_of before ws j ≡ Some refusal → walk ruling place before n ws ≡ fault refusal (place + 8 * j)
  unfolding walk
  walk_stops place before zero ws j h l q b = absurd (omega arith)
  walk_stops place before (suc n) [] j h l q b = absurd (omega arith)
  walk_stops place before (suc n) (w ∷ ws) zero {refusal} h l q b =
      let here : place ≡ place + 8 * 0 = omega arith in
      ap (λ (k : Option Refusal). told k place ⟫ walk ruling (place + 8) (before ++ (w ∷ [])) n ws) (sym (at_first place before n w ws) ∙ b)
      ∙ ap (λ (p : ℕ). fault refusal p) here
  walk_stops place before (suc n) (w ∷ ws) (suc j) {refusal} h l q b =
      let next = at_next place before n w ws j in
      let further : place + 8 + 8 * j ≡ place + 8 * suc j = omega arith in
      walk_on place before n w ws q
      ∙ walk_stops (place + 8) (before ++ (w ∷ [])) n ws j (omega arith) (omega arith) (quiet_on place before n w ws q) (sym next ∙ b)
      ∙ ap (λ (p : ℕ). fault refusal p) further

  -- ---- A sound walk tells nothing of any word, and had them all.
  pub walk_needs : (place : ℕ) (before : List ℕ) (n : ℕ) (ws : List ℕ) → walk ruling place before n ws ≡ sound → n ≤ length ws
  unfolding walk
  walk_needs place before zero ws e = omega arith
  walk_needs place before (suc n) [] e = fault_is_not_sound e
  walk_needs place before (suc n) (w ∷ ws) e =
      omega (arith, walk_needs (place + 8) (before ++ (w ∷ [])) n ws (both (told (ruling before w) place) _ e).1)

  pub sound_walk : (place : ℕ) (before : List ℕ) (n : ℕ) (ws : List ℕ) → walk ruling place before n ws ≡ sound → Quiet before ws n
  unfolding walk
  sound_walk place before zero ws e k h = absurd (omega arith)
  sound_walk place before (suc n) [] e k h = fault_is_not_sound e
  sound_walk place before (suc n) (w ∷ ws) e zero h =
      at_first place before n w ws ∙ told_sound (ruling before w) place (both (told (ruling before w) place) _ e).0
  sound_walk place before (suc n) (w ∷ ws) e (suc k) h =
      at_next place before n w ws k ∙ sound_walk (place + 8) (before ++ (w ∷ [])) n ws (both (told (ruling before w) place) _ e).1 k (omega arith)

-- ---- It looks at no more words than it needs.
pub walk_front : (ruling : Ruling) (place : ℕ) (before : List ℕ) (n : ℕ) (xs rest : List ℕ) → n ≤ length xs →
    walk ruling place before n (xs ++ rest) ≡ walk ruling place before n xs
unfolding walk
walk_front ruling place before zero xs rest h = refl
walk_front ruling place before (suc n) [] rest h = absurd (omega arith)
walk_front ruling place before (suc n) (x ∷ xs) rest h =
    ap (λ (r : Check). told (ruling before x) place ⟫ r) (walk_front ruling (place + 8) (before ++ (x ∷ [])) n xs rest (omega arith))

-- ---- Words of which nothing is asked.
pub walk_any : (place : ℕ) (n : ℕ) (ws : List ℕ) → n ≤ length ws → walk unasked place [] n ws ≡ sound
walk_any place n ws h = walk_quiet unasked place [] n ws h (λ k l. refl)

pub walk_any_short : (place : ℕ) (n : ℕ) (ws : List ℕ) → length ws < n → walk unasked place [] n ws ≡ fault WordMissing (place + 8 * length ws)
walk_any_short place n ws h = walk_short unasked place [] n ws h (λ k l. refl)
