-- Where the check finds nothing wrong, the word is that of an edition.
use Rattle.std.specs.Prelude.{◌≡◌, Bool, true, List, ℕ, Ok, leb, length}
use Rattle.std.proofs.Common.{sym, ◌∙◌}
use Rattle.bits.specs.declared.refusal.Refusal.TheVariants.{WordMissing}
use Rattle.files_checks.specs.Checks.{need, sound, edition_check}
use Rattle.files_checks.proofs.CheckLaws.{both, needed}
use Rattle.files_reader.proofs.read_edition.Goals as goal

known_edition : (file : List ℕ) (known : Bool) → edition_check file known ≡ sound → known ≡ true
unfolding edition_check
known_edition file known e = needed _ _ _ (both (need (leb 8 (length file)) WordMissing 0) _ e).1

pub unwrap-requires : goal.unwrap-requires
unwrap-requires c = sym c.is_ok.ensures.value ∙ known_edition _ _ (sym c.check_edition.ensures ∙ c.in_ok-check_edition.was)
