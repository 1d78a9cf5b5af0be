use mathlib.Core.Path.{◌≡◌, sym, ◌∙◌}
use Prim.Native.Nat.{ℕ, ◌≤◌, ◌<◌}
use mathlib.Core.Bool.{true, false}
use Rattle.std.proofs.Common.{rules, length, get_or}
use Rattle.std.proofs.lemmas.List.Sums.{position_or_len_is}
use Rattle.bits.specs.Runs.{is_sought}
use Rattle.bits.proofs.RunLaws.{first_place}
use Rattle.bits.proofs.runs.first_of.Goals as goal

pub returns : goal.returns
returns c = let ws = c.args.words.now in let s = c.args.sought in let i = c.unwrap_or.result in
    let a : i ≤ length ws = search rules in
    let b : (k : ℕ) → k < i → is_sought s (get_or ws k 0) ≡ false = λ k l. search rules in
    let d : i < length ws → is_sought s (get_or ws i 0) ≡ true = λ l. search rules in
    sym (first_place s ws ∙ position_or_len_is (is_sought s) ws i 0 a b d)
