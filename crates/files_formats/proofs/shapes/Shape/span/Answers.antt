-- A count word, and the bytes of the records.
use Prim.Native.Nat.{ℕ, ◌+◌, ◌*◌}
use mathlib.Core.Path.{ap, ◌∙◌}
use borrow.Author.Rules.{rules}
use Rattle.files_formats.specs.Elements.{width_of}
use Rattle.files_formats.proofs.shapes.Shape.span.Goals as goal

pub returns : goal.returns
returns c =
    let a = c.args in (
      ap (λ (n : ℕ). 8 + n) (c.bytes_of.ensures.0 ∙ ap (λ (n : ℕ). 8 * (n * width_of a.self.edition a.section)) c.count.ensures),
      search rules,
    )
