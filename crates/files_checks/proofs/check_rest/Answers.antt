-- A word is missing, or the end decides.
use Prim.Native.Nat.{ℕ, ◌+◌, ◌*◌, ◌<◌, ◌≤◌}
use native.Mathlib.Omega.{arith}
use lib.ListN.{length}
use mathlib.Core.List.{List}
use mathlib.Core.Path.{◌≡◌, sym, ap, ◌∙◌}
use Rattle.files_words.specs.Bytes.{words_from}
use Rattle.bits.specs.declared.refusal.Refusal.TheVariants.{WordMissing}
use Rattle.files_checks.specs.Checks.{Check, fault, ◌⟫◌, end_check, words_there, rest_check}
use Rattle.files_checks.proofs.WalkLaws.{walk_any, walk_any_short}
use Rattle.files_checks.proofs.check_rest.Goals as goal

module _ (file : List ℕ) (place count : ℕ) {there : ℕ} (e : there ≡ words_there file place count) where
  abbrev last : Check → Check
  last words = words ⟫ end_check file (place + 8 * count)

  pub missing : there < count → fault WordMissing (place + 8 * there) ≡ rest_check file place count
  missing h =
      let all : there ≡ length (words_from file place) = omega (arith, e, h) in
      ap (λ (n : ℕ). fault WordMissing (place + 8 * n)) all ∙ sym (ap last (walk_any_short place count (words_from file place) (omega (arith, e, h))))

  pub none_missing : count ≤ there → {r : Check} → r ≡ end_check file (place + 8 * count) → r ≡ rest_check file place count
  none_missing h f = f ∙ sym (ap last (walk_any place count (words_from file place) (omega (arith, e, h))))

pub returns-then-there-words : goal.returns-then-there-words
returns-then-there-words c = missing _ _ _ c.words_there-there.ensures c.if-there-words.true

pub returns : goal.returns
returns c = none_missing _ _ _ c.words_there-there.ensures c.if-there-words.false c.need.ensures
