-- The kind of a word is `NotFinite` exactly where its field is 2047, and so exactly where its double is not finite.
use mathlib.Core.Path.{◌≡◌, refl, sym}
use mathlib.Core.Bool.{Bool, true, false, not}
use Prim.Native.Nat.{ℕ}
use native.Mathlib.Omega.{arith}
use borrow.Author.Tests.{eqb-true, le-leb}
use denote.Enum.Bare.{sameb}
use Rattle.std.proofs.Common.{rules}
use lib.Dec.{eqb, leb}
use Rattle.bits.specs.contracts.words.Kind.{the_type}
use Rattle.bits.specs.Choice.{pick}
use Rattle.bits.specs.Words.{field_of}
use Rattle.bits.specs.declared.words.Kind.{Kind}
use Rattle.bits.specs.declared.words.Kind.TheVariants.{ZeroOrSubnormal, Normal, NotFinite}
use Rattle.bits.proofs.Doubles.{finite_by_field}
use Rattle.bits.proofs.words.is_finite_word.Goals as goal

-- What `!= Kind::NotFinite` says.
abbrev finite_kind : Kind → Bool
finite_kind k = not (sameb the_type k NotFinite)

by_field : (n : ℕ) → finite_kind (pick (eqb n 0) ZeroOrSubnormal (pick (leb n 2046) Normal NotFinite)) ≡ leb n 2046
by_field n = go (eqb n 0) (leb n 2046) (λ e. le-leb n 2046 (omega (arith, eqb-true n 0 e)))
  where
    go : (a b : Bool) → (a ≡ true → b ≡ true) → finite_kind (pick a ZeroOrSubnormal (pick b Normal NotFinite)) ≡ b
    go true b h = sym (h refl)
    go false true h = refl
    go false false h = refl

pub returns : goal.returns
returns c = search (rules, by_field (field_of c.args.word), finite_by_field c.args.word)
