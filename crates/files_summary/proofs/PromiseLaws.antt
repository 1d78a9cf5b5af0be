-- What the calls promise, by their contracts as they stand: a summary leaves a right list, and a change is the one that the laws speak of.
use mathlib.Core.Path.{◌≡◌, sym, ap, ◌∙◌}
use mathlib.Core.List.{List}
use Prim.Native.Nat.{ℕ}
use Rattle.std.specs.Prelude.{Result}
use seplogic.Ra.Ura.{Ura}
use base.Logic.{SProp, ent}
use prog.Memory.{Memory}
use prog.Routine.{Routine}
use types.Logic.{Logic}
use contract.Lifetimes.{Lfts}
use contract.Monad.{Fun, fact}
use borrow.Fn.Kinds.{ParamKind, ResultKind, Out, Dens, res_t, ended_of}
use denote.Triple.Entry.{Args, Res}
use denote.Triple.Clauses.{Ended, Clauses, Lasts, at_exit}
use lib.ListN.{length, set}
use Rattle.bits.specs.declared.refusal.Refusal.{Refusal}
use Rattle.bits.specs.Refusal.{number_in}
use Rattle.files_formats.specs.Rows.{entry_width}
use Rattle.files_summary.specs.declared.entries.Roster.{Roster}
use Rattle.files_summary.specs.declared.entries.Summary.{Summary}
use Rattle.files_summary.specs.declared.changes.Change.{Change}
use Rattle.files_summary.specs.Changes.{one_each, Asked, append, withdraw, change_beside, run_beside, count_after, settled_by, put_entry}
use Rattle.files_summary.specs.Kept.{Kept, counting, change_by, Answered, Afresh}
use Rattle.files_summary.proofs.ChangeLaws.{number_is}
use Rattle.files_summary.proofs.SummaryLaws.{summary_right}
use Rattle.files_summary.proofs.OneAnswers.{three}
use Rattle.files_summary.proofs.words.summary.Kinds as summary-kinds
use Rattle.files_summary.proofs.words.summary.Reads as summary-reads
use Rattle.files_summary.proofs.words.append.Kinds as append-kinds
use Rattle.files_summary.proofs.words.append.Reads as append-reads
use Rattle.files_summary.proofs.words.withdraw.Kinds as withdraw-kinds
use Rattle.files_summary.proofs.words.withdraw.Reads as withdraw-reads
use Rattle.files_summary.specs.contracts.lists.append as listed-append
use Rattle.files_summary.specs.contracts.lists.withdraw as listed-withdraw
use Rattle.files_summary.proofs.lists.append.Kinds as listed-append-kinds
use Rattle.files_summary.proofs.lists.append.Reads as listed-append-reads
use Rattle.files_summary.proofs.lists.withdraw.Kinds as listed-withdraw-kinds
use Rattle.files_summary.proofs.lists.withdraw.Reads as listed-withdraw-reads

-- Whatever a contract allows, for any arguments, result and contents of lent memory, is so; likewise of a contract as an assertion of the logic.
abbrev Promises : (n : ℕ) (ps : List (ParamKind n)) (r : ResultKind n) → Out n ps r → ((κs : Lfts n) (a : Dens κs ps) → (res_t r κs).Denot → Lasts (ended_of n ps r) κs a → Type 0) → Type 0
Promises n ps r allows so =
    (κs : Lfts n) (a : Dens κs ps) (x : (res_t r κs).Denot) (v : Lasts (ended_of n ps r) κs a) → allows κs a x (at_exit (ended_of n ps r) κs a v) → so κs a x v

abbrev PromisesOf : (M : Type 1) (T : Ended) → ((𝓤 : Ura M) (𝓛 : Logic 𝓤) → (Memory → SProp 𝓤) → (Routine → Fun 𝓤) → Clauses 𝓤 T)
    → ((κs : Lfts T.signature.lifetimes) (a : Args T.signature κs) → Res T.signature κs → Lasts T κs a → Type 0) → Type 2
PromisesOf M T clauses so =
    (κs : Lfts T.signature.lifetimes) (a : Args T.signature κs) (𝓤 : Ura M) (𝓛 : Logic 𝓤) (mem : Memory → SProp 𝓤) (run : Routine → Fun 𝓤)
    (g : (clauses 𝓤 𝓛 mem run κs a).ghost) (x : Res T.signature κs) (v : Lasts T κs a) →
    ent 𝓤 ((clauses 𝓤 𝓛 mem run κs a).ensures g x (at_exit T κs a v)) (fact 𝓤 (so κs a x v))

abbrev keeping : {A : Type 0} → List ℕ → Roster → List A → Kept A
keeping run roster list = record { run = run; roster = roster; list = list }

pub summary_promise : Promises 2 summary-kinds.ps summary-kinds.r summary-reads.Post (λ κs a x v.
    let run = a.1.0.now in
    let roster = a.1.1.0 in
    Afresh (number_in x) (keeping run roster a.0.now) (keeping run roster v.0))
summary_promise κs a x v p =
    let run = a.1.0.now in
    let roster = a.1.1.0 in
    let s = summary_right (keeping run roster a.0.now) in
    record {
      told = ap number_in p.0;
      right = λ e. p.1 ∙ s.right (sym (ap number_in p.0) ∙ e);
      stays = λ h. ap (keeping run roster) p.1 ∙ s.stays (λ z. h (ap number_in p.0 ∙ z));
    }

-- ---- The calls that change something, over words and over structs.
answers : {A : Type 0} (each : ℕ) (store : List A → ℕ → Summary → List A) (asked : Asked) (k : Kept A) {change : Result Change Refusal} {run : List ℕ} {list : List A} →
    change ≡ change_beside each (length k.list) asked k.run k.roster →
    run ≡ run_beside each (length k.list) asked k.run k.roster →
    list ≡ settled_by store k.list (change_beside each (length k.list) asked k.run k.roster) →
    Answered each store asked k change run list
unfolding change_by
answers each store asked k p q r =
    record {
      number = ap number_in p ∙ number_is asked k.run k.roster (one_each each (length k.list) k.roster.centres);
      kept = λ i. keeping (q i) (counting k.roster (count_after (p i) k.roster.count)) (r i);
    }

pub append_promise : Promises 3 append-kinds.ps append-kinds.r append-reads.Post (λ κs a x v.
    Answered entry_width put_entry (append a.1.0.now) (keeping a.1.1.0.now a.1.1.1.0 a.0.now) x v.1.1.0 v.0)
append_promise κs a x v p = answers entry_width put_entry (append a.1.0.now) (keeping a.1.1.0.now a.1.1.1.0 a.0.now) p.0 p.1.0 p.1.1

pub withdraw_promise : Promises 2 withdraw-kinds.ps withdraw-kinds.r withdraw-reads.Post (λ κs a x v.
    Answered entry_width put_entry (withdraw a.1.0) (keeping a.1.1.0.now a.1.1.1.0 a.0.now) x v.1.1.0 v.0)
withdraw_promise κs a x v p = answers entry_width put_entry (withdraw a.1.0) (keeping a.1.1.0.now a.1.1.1.0 a.0.now) p.0 p.1.0 p.1.1

pub listed_append_promised : Promises 3 listed-append-kinds.ps listed-append-kinds.r listed-append-reads.Post (λ κs a x v.
    Answered 1 set (append a.1.0.now) (keeping a.1.1.0.now a.1.1.1.0 a.0.now) x v.1.1.0 v.0)
listed_append_promised κs a x v p = answers 1 set (append a.1.0.now) (keeping a.1.1.0.now a.1.1.1.0 a.0.now) p.0 p.1.0 p.1.1

pub listed_withdraw_promised : Promises 2 listed-withdraw-kinds.ps listed-withdraw-kinds.r listed-withdraw-reads.Post (λ κs a x v.
    Answered 1 set (withdraw a.1.0) (keeping a.1.1.0.now a.1.1.1.0 a.0.now) x v.1.1.0 v.0)
listed_withdraw_promised κs a x v p = answers 1 set (withdraw a.1.0) (keeping a.1.1.0.now a.1.1.1.0 a.0.now) p.0 p.1.0 p.1.1

pub listed_append_promise : {M : Type 1} → PromisesOf M listed-append.ended (λ 𝓤 𝓛. listed-append.clauses 𝓛) (λ κs a x v.
    Answered 1 set (append a.1.0.now) (keeping a.1.1.0.now a.1.1.1.0 a.0.now) x v.1.1.0 v.0)
listed_append_promise κs a 𝓤 𝓛 mem run g x v =
    three 𝓤 _ _ _ _ (answers 1 set (append a.1.0.now) (keeping a.1.1.0.now a.1.1.1.0 a.0.now))

pub listed_withdraw_promise : {M : Type 1} → PromisesOf M listed-withdraw.ended (λ 𝓤 𝓛. listed-withdraw.clauses 𝓛) (λ κs a x v.
    Answered 1 set (withdraw a.1.0) (keeping a.1.1.0.now a.1.1.1.0 a.0.now) x v.1.1.0 v.0)
listed_withdraw_promise κs a 𝓤 𝓛 mem run g x v =
    three 𝓤 _ _ _ _ (answers 1 set (withdraw a.1.0) (keeping a.1.1.0.now a.1.1.1.0 a.0.now))
