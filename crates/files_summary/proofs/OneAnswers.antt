-- Each function that the crate shows leaves one answer open, one content of the states and one of the list.
use mathlib.Core.Path.{sym, ◌∙◌}
use mathlib.Core.List.{List}
use Rattle.std.specs.Prelude.{Result}
use Prim.Native.Nat.{ℕ}
use seplogic.Ra.Ura.{Ura}
use base.Logic.{ent, sep, via, fst∗, snd∗}
use contract.Monad.{fact, fact_i, fact_use}
use lib.ListN.{length, set}
use Rattle.bits.specs.declared.refusal.Refusal.{Refusal}
use Rattle.bits.specs.OneAnswer.{OneAnswer, OneAnswerOf}
use Rattle.files_summary.specs.declared.entries.Roster.{Roster}
use Rattle.files_summary.specs.declared.entries.Summary.{Summary}
use Rattle.files_summary.specs.declared.changes.Change.{Change}
use Rattle.files_summary.specs.Changes.{Asked, append, withdraw, change_beside, run_beside, settled_by}
use Rattle.files_summary.proofs.words.summary.Kinds as summary-kinds
use Rattle.files_summary.proofs.words.summary.Reads as summary-reads
use Rattle.files_summary.proofs.words.append.Kinds as append-kinds
use Rattle.files_summary.proofs.words.append.Reads as append-reads
use Rattle.files_summary.proofs.words.withdraw.Kinds as withdraw-kinds
use Rattle.files_summary.proofs.words.withdraw.Reads as withdraw-reads
use Rattle.files_summary.specs.contracts.lists.append as listed-append
use Rattle.files_summary.specs.contracts.lists.withdraw as listed-withdraw
use Rattle.files_summary.proofs.lists.append.Kinds as listed-append-kinds
use Rattle.files_summary.proofs.lists.append.Reads as listed-append-reads
use Rattle.files_summary.proofs.lists.withdraw.Kinds as listed-withdraw-kinds
use Rattle.files_summary.proofs.lists.withdraw.Reads as listed-withdraw-reads

pub summary_one : OneAnswer 2 summary-kinds.ps summary-kinds.r summary-reads.Post
summary_one κs a x y v w p q = (p.0 ∙ sym q.0, λ i. ((p.1 ∙ sym q.1) i, (tt, (tt, tt))))

pub append_one : OneAnswer 3 append-kinds.ps append-kinds.r append-reads.Post
append_one κs a x y v w p q = (p.0 ∙ sym q.0, λ i. ((p.1.1 ∙ sym q.1.1) i, (tt, ((p.1.0 ∙ sym q.1.0) i, (tt, tt)))))

pub withdraw_one : OneAnswer 2 withdraw-kinds.ps withdraw-kinds.r withdraw-reads.Post
withdraw_one κs a x y v w p q = (p.0 ∙ sym q.0, λ i. ((p.1.1 ∙ sym q.1.1) i, (tt, ((p.1.0 ∙ sym q.1.0) i, (tt, tt)))))

pub listed_append_alike : OneAnswer 3 listed-append-kinds.ps listed-append-kinds.r listed-append-reads.Post
listed_append_alike κs a x y v w p q = (p.0 ∙ sym q.0, λ i. ((p.1.1 ∙ sym q.1.1) i, (tt, ((p.1.0 ∙ sym q.1.0) i, (tt, tt)))))

pub listed_withdraw_alike : OneAnswer 2 listed-withdraw-kinds.ps listed-withdraw-kinds.r listed-withdraw-reads.Post
listed_withdraw_alike κs a x y v w p q = (p.0 ∙ sym q.0, λ i. ((p.1.1 ∙ sym q.1.1) i, (tt, ((p.1.0 ∙ sym q.1.0) i, (tt, tt)))))

-- Three facts beside one another, and what follows from them.
pub three : {M : Type 1} (𝓤 : Ura M) (a b c φ : Type 0) → (a → b → c → φ) → ent 𝓤 (sep 𝓤 (fact 𝓤 a) (sep 𝓤 (fact 𝓤 b) (fact 𝓤 c))) (fact 𝓤 φ)
three 𝓤 a b c φ k =
    let all = sep 𝓤 (fact 𝓤 a) (sep 𝓤 (fact 𝓤 b) (fact 𝓤 c)) in
    let rest = snd∗ 𝓤 (fact 𝓤 a) (sep 𝓤 (fact 𝓤 b) (fact 𝓤 c)) in
    fact_use 𝓤 a (fst∗ 𝓤 (fact 𝓤 a) (sep 𝓤 (fact 𝓤 b) (fact 𝓤 c))) (λ x.
    fact_use 𝓤 b (via 𝓤 (sep 𝓤 (fact 𝓤 b) (fact 𝓤 c)) rest (fst∗ 𝓤 (fact 𝓤 b) (fact 𝓤 c))) (λ y.
    fact_use 𝓤 c (via 𝓤 (sep 𝓤 (fact 𝓤 b) (fact 𝓤 c)) rest (snd∗ 𝓤 (fact 𝓤 b) (fact 𝓤 c))) (λ z. fact_i 𝓤 φ all (k x y z))))

-- The one answer over structs, and what it leaves; said once more of the contract as an assertion of the logic, with the answer named.
abbrev answered : (list : List Summary) → Asked → (run : List ℕ) → Roster → Result Change Refusal × (List Summary × (Unit {0} × (List ℕ × (Unit {0} × Unit {0}))))
answered list asked run roster =
    let change = change_beside 1 (length list) asked run roster in
    (change, (settled_by set list change, (tt, (run_beside 1 (length list) asked run roster, (tt, tt)))))

pub listed_append_one : {M : Type 1} → OneAnswerOf M listed-append.ended (λ 𝓤 𝓛. listed-append.clauses 𝓛)
listed_append_one κs a = (
  answered a.0.now (append a.1.0.now) a.1.1.0.now a.1.1.1.0,
  λ 𝓤 𝓛 mem run g x v. three 𝓤 _ _ _ _ (λ p q r. (p, λ i. (r i, (tt, (q i, (tt, tt)))))),
)

pub listed_withdraw_one : {M : Type 1} → OneAnswerOf M listed-withdraw.ended (λ 𝓤 𝓛. listed-withdraw.clauses 𝓛)
listed_withdraw_one κs a = (
  answered a.0.now (withdraw a.1.0) a.1.1.0.now a.1.1.1.0,
  λ 𝓤 𝓛 mem run g x v. three 𝓤 _ _ _ _ (λ p q r. (p, λ i. (r i, (tt, (q i, (tt, tt)))))),
)
