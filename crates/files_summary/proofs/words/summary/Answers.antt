-- Refused, the list stays; else its entries are those of all centres.
use Rattle.std.specs.Prelude.{ℕ, ◌≡◌, ◌*◌, ⊤, Result, List, length}
use Rattle.std.proofs.Common.{sym, ap, ◌∙◌, arith}
use borrow.Author.Tests.{eqb-true}
use Rattle.bits.specs.declared.refusal.Refusal.{Refusal}
use Rattle.files_formats.specs.Rows.{entry_width}
use Rattle.files_summary.specs.declared.entries.Roster.{Roster}
use Rattle.files_summary.specs.Changes.{if_made, entries_in, as_words, summary_refusal, summary_list}
use Rattle.files_summary.proofs.RefusalLaws.{lent_well, has_room}
use Rattle.files_summary.proofs.words.summary.Goals as goal

-- What the two ways out show of a list, by the refusal.
module _ (run : List ℕ) (roster : Roster) (list : List ℕ) where
  abbrev afresh : List ℕ
  afresh = as_words (entries_in roster run)

  by_refusal : {r : Result ⊤ Refusal} → summary_refusal run roster list ≡ r → if_made r list afresh ≡ summary_list run roster list
  unfolding summary_list
  by_refusal e = ap (λ (r : Result ⊤ Refusal). if_made r list afresh) (sym e)

pub invariant_of-used : goal.invariant_of-used
invariant_of-used c =
    let a = c.args in
    let lent = lent_well (length a.states.now) a.roster c.one_each-listed.result (sym c.lent_refusal.ensures ∙ c.in_ok-lent_refusal.was) in
    record { held = (omega (arith, lent.few), has_room (length a.states.now) a.roster c.one_each-listed.result lent a.roster.count (omega (arith, lent.few))) }

pub put_entries-requires : goal.put_entries-requires
put_entries-requires c =
    let a = c.args in
    let lent = lent_well (length a.states.now) a.roster c.one_each-listed.result (sym c.lent_refusal.ensures ∙ c.in_ok-lent_refusal.was) in
    eqb-true (length a.list.now) (a.roster.centres * entry_width) (sym c.one_each-listed.ensures ∙ lent.is_listed)

pub returns-in_err-lent_refusal-clause-list : goal.returns-in_err-lent_refusal-clause-list
returns-in_err-lent_refusal-clause-list c =
    let told = rw c.one_each-listed.ensures at c.lent_refusal.ensures in
    by_refusal c.args.states.now c.args.roster c.args.list.now (sym told ∙ c.in_err-lent_refusal.was)

pub returns-clause-list : goal.returns-clause-list
returns-clause-list c =
    let told = rw c.one_each-listed.ensures at c.lent_refusal.ensures in
    c.put_entries.ensures ∙ by_refusal c.args.states.now c.args.roster c.args.list.now (sym told ∙ c.in_ok-lent_refusal.was)
