-- The records are those that the numbers of an accepted file name: each number is that of a record, and so small.
use Rattle.std.specs.Prelude.{ℕ, ◌≡◌, List}
use Rattle.std.proofs.Common.{ap, ◌∙◌, arith}
use Rattle.files_formats.specs.declared.elements.Section.TheVariants.{Centres, States}
use Rattle.files_formats.specs.Shapes.{record_of}
use Rattle.files_reader.proofs.Accepted.{accepted_counts}
use Rattle.files_results.specs.Requests.{field, eight_words, request_words}
use Rattle.files_results.proofs.Numbers.{state_number, centre_number}
use Rattle.files_results.proofs.requests.request_words.Goals as goal

-- A number that is read of a record: its place and its column are right.
number_at : (file : List ℕ) {at place n column : ℕ} → at ≡ place → n ≡ column → {s : ℕ} → s ≡ field file at n → s ≡ field file place column
number_at file p q e = e ∙ (λ i. field file (p i) (q i))

pub overflow_cast-s : goal.overflow_cast-s
overflow_cast-s c =
    let f = c.args.file in
    let s = number_at f.bytes.now c.record-request.ensures.0 c.column_at.ensures.0 c.field-s.ensures in
    omega (arith, s, state_number f.bytes.now f.shape f.accepted c.args.k c.requires, accepted_counts f.bytes.now f.shape f.accepted)

pub overflow_cast-c : goal.overflow_cast-c
overflow_cast-c c =
    let f = c.args.file in
    let t = number_at f.bytes.now c.record-request.ensures.0 c.column_at.ensures.0 c.field-s.ensures in
    let state = c.record-state.ensures.0 ∙ ap (record_of f.shape States) t in
    let s = number_at f.bytes.now state c.column_at-2.ensures.0 c.field-c.ensures in
    omega (arith, s, centre_number f.bytes.now f.shape f.accepted c.args.k c.requires, accepted_counts f.bytes.now f.shape f.accepted)

pub returns : goal.returns
unfolding request_words
returns c =
    let f = c.args.file in
    let t = number_at f.bytes.now c.record-request.ensures.0 c.column_at.ensures.0 c.field-s.ensures in
    let state = c.record-state.ensures.0 ∙ ap (record_of f.shape States) t in
    let s = number_at f.bytes.now state c.column_at-2.ensures.0 c.field-c.ensures in
    let m = c.record-centre.ensures.0 ∙ ap (record_of f.shape Centres) s in
    c.eight_words.ensures ∙ (λ i. eight_words f.bytes.now f.shape.edition (c.record-request.ensures.0 i) (state i) (m i))
