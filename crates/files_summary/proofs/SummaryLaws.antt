-- A summary leaves a right list, or none touched.
use mathlib.Core.Path.{refl, sym}
use mathlib.Core.List.{List}
use Prim.Native.Nat.{ℕ}
use Rattle.files_summary.specs.Changes.{entries_in, as_words, summary_refusal, summary_list}
use Rattle.files_summary.specs.Kept.{SummaryRight}
use Rattle.files_summary.proofs.ChangeLaws.{if_refused, if_made_lem}

pub summary_right : SummaryRight
unfolding summary_list
summary_right k =
    let refusal = summary_refusal k.run k.roster k.list in
    let afresh : List ℕ = as_words (entries_in k.roster k.run) in
    record {
      told = refl;
      right = λ e. sym (if_made_lem refusal k.list afresh e);
      stays = λ h i. record { run = k.run; roster = k.roster; list = sym (if_refused refusal k.list afresh h) i };
    }
