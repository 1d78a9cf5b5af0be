-- The first fault, looked for column by column; over any fault of a word's number and any width.
use Prim.Native.Nat.{ℕ, suc, ◌+◌, ◌*◌, ◌/◌, ◌%◌, ◌<◌, ◌≤◌}
use native.Mathlib.Nat.{div-add-mod', mod-lt}
use native.Mathlib.Decide.{dec_lt}
use native.Mathlib.Omega.{arith}
use mathlib.Core.Path.{◌≡◌, sym, ap, ◌∙◌}
use Rattle.std.specs.Prelude.{Option, None, Some, IfSome}
use Rattle.bits.specs.declared.refusal.Refusal.{Refusal}
use Rattle.files_records.proofs.Steps.{more, column_of_lem}
use Rattle.files_formats.specs.declared.firsts.Found.{Found}
use Rattle.files_formats.specs.Kinds.{reached, FirstOfColumn, FirstOf}

fewer : (w i j : ℕ) → i * w < j * w → i < j
fewer w i j h = elim (dec_lt i j) [
  | yes l ↦ l
  | no g ↦ absurd (omega (arith, more w {i = j} {j = i} (omega arith)))
]

-- ---- Along a column: the number reached, and no fault before it.
module _ (fault : ℕ → Option Refusal) (w column : ℕ) where
  pub record Passed (k : ℕ) : Type 0 where
    pub at : ℕ
    pub is : k ≡ at * w + column
    pub none : (i : ℕ) → i < at → fault (i * w + column) ≡ None

  pub none_passed : Passed column
  none_passed = record { at = 0; is = omega arith; none = λ i h. absurd (omega arith) }

  pub one_passed : (k : ℕ) → Passed k → fault k ≡ None → Passed (k + w)
  one_passed k p z =
      let e = p.is in
      record {
        at = suc p.at;
        is = omega arith;
        none = λ i h. elim (dec_lt i p.at) [
          | yes l ↦ p.none i l
          | no g ↦
              let same : i ≡ p.at = omega arith in
              ap (λ (n : ℕ). fault (n * w + column)) same ∙ ap fault (sym p.is) ∙ z
        ];
      }

  pub column_stops : (bound : ℕ) (first : Found) → column < w → Passed first.at → first.at < bound → fault first.at ≡ Some first.refusal →
      FirstOfColumn fault w column bound (Some first)
  column_stops bound first inside p h b =
      let e = p.is in
      record {
        quiet = λ i l. p.none i (fewer w i p.at (omega arith));
        bad = (h, ap (λ (n : ℕ). n % w) p.is ∙ column_of_lem w p.at column inside, b);
      }

  none_at_bound : {bound : ℕ} → ((i : ℕ) → i * w + column < bound → fault (i * w + column) ≡ None) → FirstOfColumn fault w column bound None
  none_at_bound q = record { quiet = q; bad = tt }

  pub column_ends : (k bound : ℕ) → Passed k → bound ≤ k → FirstOfColumn fault w column bound None
  column_ends k bound p h =
      let e = p.is in
      none_at_bound (λ i l. p.none i (fewer w i p.at (omega arith)))

  pub column_unasked : (bound : ℕ) → ((k : ℕ) → fault k ≡ None) → FirstOfColumn fault w column bound None
  column_unasked bound z = none_at_bound (λ i l. z (i * w + column))

-- ---- Column after column.
module _ (fault : ℕ → Option Refusal) (w bound : ℕ) where
  pub record Upto (c : ℕ) (found : Option Found) : Type 0 where
    pub quiet : (d i : ℕ) → d < c → i * w + d < reached found bound → fault (i * w + d) ≡ None
    pub bad : IfSome found (λ first. (first.at < bound) × (fault first.at ≡ Some first.refusal))

  pub no_column : Upto 0 None
  no_column = record { quiet = λ d i h. absurd (omega arith); bad = tt }

  pub within : (c : ℕ) (found : Option Found) → Upto c found → reached found bound ≤ bound
  within c None u = omega arith
  within c (Some first) u = omega (arith, u.bad.0)

  -- No fault in the next column below what is reached, or an earlier one.
  module _ (c : ℕ) (found : Option Found) (g : ℕ → Option Refusal) (u : Upto c found) (h : c < w) (same : (k : ℕ) → k < bound → k % w ≡ c → fault k ≡ g k) where
    quiet_on : (next : Option Found) → reached next (reached found bound) ≤ reached found bound → FirstOfColumn g w c (reached found bound) next →
        (d i : ℕ) → d < c + 1 → i * w + d < reached next (reached found bound) → fault (i * w + d) ≡ None
    quiet_on next few f d i l n = elim (dec_lt d c) [
      | yes p ↦ u.quiet d i p (omega arith)
      | no q ↦
          let here : d ≡ c = omega arith in
          let b = within c found u in
          ap (λ (e : ℕ). fault (i * w + e)) here ∙ same (i * w + c) (omega arith) (column_of_lem w i c h) ∙ f.quiet i (omega arith)
    ]

    pub column_quiet : FirstOfColumn g w c (reached found bound) None → Upto (c + 1) found
    column_quiet f = record { quiet = quiet_on None (omega arith) f; bad = u.bad }

    pub column_bad : (first : Found) → FirstOfColumn g w c (reached found bound) (Some first) → Upto (c + 1) (Some first)
    column_bad first f =
        let b = f.bad in
        let few = within c found u in
        record { quiet = quiet_on (Some first) (omega (arith, b.0)) f; bad = (omega (arith, b.0), same first.at (omega (arith, b.0)) b.1 ∙ b.2) }

  pub all_columns : (found : Option Found) → 0 < w → Upto w found → FirstOf fault bound found
  all_columns found some u =
      record {
        quiet = λ j l. ap fault (sym (div-add-mod' j w)) ∙ u.quiet (j % w) (j / w) (mod-lt j some) (omega (arith, div-add-mod' j w));
        bad = u.bad;
      }
