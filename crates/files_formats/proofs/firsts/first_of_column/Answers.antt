use Prim.Native.Nat.{ℕ, ◌+◌, ◌<◌, ◌≤◌}
use native.Mathlib.Omega.{arith}
use mathlib.Core.List.{List, []}
use mathlib.Core.Path.{◌≡◌, sym, ap, ◌∙◌}
use Rattle.std.specs.Prelude.{Option, map}
use Rattle.std.proofs.lemmas.List.{get_or-map}
use lib.ListN.{length, get_or}
use Rattle.bits.specs.declared.refusal.Refusal.{Refusal}
use Rattle.files_formats.specs.declared.kinds.Kind.{Kind}
use Rattle.files_formats.specs.Kinds.{fault_of, kind_fault}
use Rattle.files_formats.proofs.FirstLaws.{one_passed, column_stops, column_ends, column_unasked}
use Rattle.files_formats.proofs.TableLaws.{nothing_asked, judged}
use Rattle.files_formats.proofs.firsts.first_of_column.Goals as goal

-- What is worked out of item k, whose number is the word.
reached : {X : Type 0} (number : X → ℕ) (items : List X) (kind : Kind) (below w k bound : ℕ) {item : X} {word : ℕ} {ruled r : Option Refusal} →
    k < bound → bound ≤ length items → item ≡ get_or items k item → word ≡ number item → ruled ≡ fault_of kind below [] word → ruled ≡ r →
    kind_fault kind below w (map number items) k ≡ r
reached number items kind below w k bound {item} more few is e f same =
    let there : k < length items = omega arith in
    sym (judged kind below w (map number items) k (e ∙ ap number is ∙ sym (get_or-map number items k item 0 there)) f) ∙ same

pub returns-then-not-asks : goal.returns-then-not-asks
returns-then-not-asks g c =
    let a = c.args in
    column_unasked _ a.w a.column a.bound
    (λ k. nothing_asked a.kind a.below a.w (map g.W.Word.number a.words.now) k (sym c.asks.ensures ∙ c.if-not-asks.true))

pub returns-in-Some : goal.returns-in-Some
returns-in-Some g c =
    let l = c.loop-k in
    let a = c.args in
    column_stops _ a.w a.column a.bound _ c.requires.2 l.invariant c.loop-k-test.true
    (reached g.W.Word.number a.words.now a.kind a.below a.w l.k a.bound c.loop-k-test.true c.requires.3 c.index-words-k.is c.number.ensures c.fault.ensures c.in-Some.is)

pub loop-k-preserved : goal.loop-k-preserved
loop-k-preserved g c =
    let l = c.loop-k in
    let a = c.args in
    one_passed _ a.w a.column l.k l.invariant
    (reached g.W.Word.number a.words.now a.kind a.below a.w l.k a.bound c.loop-k-test.true c.requires.3 c.index-words-k.is c.number.ensures c.fault.ensures c.in_default.is)

pub returns-in_default : goal.returns-in_default
returns-in_default g c =
    let a = c.args in
    let l = c.loop-k in
    column_ends _ a.w a.column (l.k + a.w) a.bound
    (one_passed _ a.w a.column l.k l.invariant
    (reached g.W.Word.number a.words.now a.kind a.below a.w l.k a.bound c.loop-k-test.true c.requires.3 c.index-words-k.is c.number.ensures c.fault.ensures c.in_default.is))
    (omega arith)
