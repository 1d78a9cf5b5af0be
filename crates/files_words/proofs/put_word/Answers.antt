-- By whether there is room.
use Prim.Native.Nat.{◌+◌}
use mathlib.Core.Path.{sym, ◌∙◌}
use borrow.Author.Tests.{leb-false}
use lib.ListN.{length}
use Rattle.files_words.specs.Bytes.{bytes_of}
use Rattle.files_words.proofs.PutLaws.{put_outside}
use Rattle.files_words.proofs.put_word.Goals as goal

pub returns-else-is_whole : goal.returns-else-is_whole
unfolding bytes_of
returns-else-is_whole c =
    let a = c.args in
    let short = leb-false (a.place + 8) (length a.room.now) (sym c.is_whole.ensures ∙ c.if-is_whole.false) in
    sym (put_outside a.room.now (bytes_of 8 a.word) a.place short)
