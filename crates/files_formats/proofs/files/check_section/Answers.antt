-- The count, then the walk over as many words as it tells.
use Prim.Native.Nat.{ℕ, ◌+◌, ◌*◌, ◌^◌, ◌≤◌}
use native.Mathlib.Omega.{arith}
use mathlib.Core.List.{List, []}
use mathlib.Core.Path.{◌≡◌, sym, ap, ap₂, ◌∙◌}
use borrow.Author.Rules.{rules}
use lib.ListN.{length}
use Rattle.files_words.specs.Bytes.{word_at, words_from}
use Rattle.files_checks.specs.Checks.{Check, walk, count_check, counted_check}
use Rattle.files_checks.proofs.CheckLaws.{goes_on}
use Rattle.files_checks.proofs.CountedLaws.{few_words}
use Rattle.files_formats.specs.Kinds.{ruling_of}
use Rattle.files_formats.specs.Elements.{kinds_of}
use Rattle.files_formats.specs.Shapes.{below_of, section_check}
use Rattle.files_formats.proofs.files.check_section.Goals as goal

-- The count's check is that of the definition.
counted : (file : List ℕ) {check : Check} {place limit : ℕ} {p l : ℕ} → check ≡ count_check file place limit → place ≡ p → limit ≡ l → check ≡ count_check file p l
counted file e p l = e ∙ ap₂ (count_check file) p l

-- the count word is whole, and the words are few
few : (c : goal.After-width) → (c.place-place.result + 8 ≤ length c.args.file.now) × (c.word_at.result * c.width.result ≤ 2 ^ 16 * 2 ^ 16)
few c =
    few_words c.args.file.now c.place-place.result c.limit.result c.width.result (search rules) (omega (arith, c.width.ensures.2))
    (sym c.check_count.ensures ∙ c.in_ok-check_count.was) c.word_at.ensures

pub returns-in_err-check_count : goal.returns-in_err-check_count
unfolding section_check counted_check
returns-in_err-check_count c =
    let k = counted c.args.file.now c.check_count.ensures c.place-place.ensures.0 c.limit.ensures in
    grind (arith, k)

pub overflow_mul-words : goal.overflow_mul-words
overflow_mul-words c = omega (arith, few c)

pub walk_words-requires : goal.walk_words-requires
walk_words-requires c = (omega (arith, few c), omega (arith, few c, c.place-place.ensures.1))

pub returns : goal.returns
unfolding section_check counted_check
returns c =
    let a = c.args in
    let place = c.place-place.ensures.0 in
    let words = ap₂ ◌*◌ (c.word_at.ensures ∙ ap (word_at a.file.now) place) c.width.ensures.0 in
    let rule = ruling_of (kinds_of a.shape.edition a.section) (below_of a.shape a.section) in
    goes_on (counted a.file.now c.check_count.ensures place c.limit.ensures) c.in_ok-check_count.was
    (c.walk_words.ensures ∙ ap₂ (λ (p n : ℕ). walk rule (p + 8) [] n (words_from a.file.now (p + 8))) place words)
