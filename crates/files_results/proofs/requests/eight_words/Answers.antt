-- Each word is what `field` ensures of it, in the column that its name has.
use Rattle.files_results.proofs.requests.eight_words.Goals as goal

pub returns : goal.returns
returns c =
    let at5 = c in
    let at4 = at5 in
    let at3 = at4 in
    let at2 = at3 in
    rw (c.tau_of.ensures, c.field-8.ensures, c.field-9.ensures, c.field.ensures, c.field-2.ensures, c.field-3.ensures, c.field-4.ensures)
    (rw (c.field-5.ensures, c.field-6.ensures, c.field-7.ensures)
    (rw (at2.column_at-mu.ensures.0, at2.column_at-x.ensures.0, at3.column_at-vx.ensures.0, at4.column_at-time.ensures.0, at5.column_at-epoch.ensures.0)))
