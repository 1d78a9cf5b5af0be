-- One column more, up to what is reached so far.
use Prim.Native.Nat.{ℕ}
use native.Mathlib.Omega.{arith}
use borrow.Author.Rules.{rules}
use mathlib.Core.Path.{◌≡◌, sym}
use lib.ListN.{length}
use Rattle.std.proofs.lemmas.List.{length-map}
use Rattle.std.specs.Prelude.{map, Option, None, Some, MatchOption}
use Rattle.files_formats.specs.declared.firsts.Found.{Found}
use Rattle.files_formats.specs.Kinds.{reached}
use Rattle.files_formats.proofs.FirstLaws.{all_columns}
use Rattle.files_formats.proofs.TableLaws.{next_column}
use Rattle.files_formats.proofs.firsts.first_fault.Goals as goal

until_reached : (found : Option Found) (bound until : ℕ) → MatchOption found (until ≡ bound) (λ first. until ≡ first.at) → until ≡ reached found bound
until_reached None bound until e = e
until_reached (Some first) bound until e = e

pub loop-column-preserved : goal.loop-column-preserved
loop-column-preserved g c =
    let a = c.args in
    let w = c.width-w in
    let l = c.loop-column in
    let until = until_reached l.found (length a.words.now) c.map_or-until.result (search rules) in
    rw c.or-found.ensures
    (next_column _ c.below-below.result (map g.W.Word.number a.words.now) (length a.words.now) w.result l.column c.kind_at-kind.result l.found c.first_of_column.result w.ensures.0
    (omega (arith, length-map a.words.now g.W.Word.number)) c.loop-column-test.true c.kind_at-kind.ensures l.invariant (rw until at c.first_of_column.ensures))

pub returns : goal.returns
returns g c =
    let all : c.loop-column.column ≡ c.width-w.result = omega arith in
    rw (sym c.below-below.ensures) (all_columns _ c.width-w.result (length c.args.words.now) c.loop-column.found c.width-w.ensures.1 (rw all at c.loop-column.invariant))
