-- Bytes put into a room, one run right after another.
use Prim.Native.Nat.{ℕ, suc, ◌+◌, ◌-◌, ◌*◌, ◌<◌, ◌≤◌}
use native.Mathlib.Nat.{add-zero, add_assoc}
use native.Mathlib.Omega.{arith}
use mathlib.Core.Path.{◌≡◌, refl, ap, sym, ◌∙◌}
use mathlib.Core.List.{List, [], ◌∷◌, ◌++◌, append_assoc, append-nil}
use borrow.Author.Tests.{le-leb, lt-leb}
use lib.ListN.{length, get_or, take, drop, set, length-append, length-drop, take-append-drop}
use lib.Seq.{take_at, take-suc, drop-append-add, drop-drop, length-take-le, set_split}
use borrow.Rule.Slice.PartMut.{put_mid, Post-is}
use Rattle.files_words.specs.Bytes.{put, bytes_of, as_bytes}
use Rattle.files_words.proofs.WordLaws.{length_bytes, length-as_bytes, as_bytes_append}

pub put_fits : (room bs : List ℕ) (place : ℕ) → place + length bs ≤ length room → put room place bs ≡ take place room ++ bs ++ drop (place + length bs) room
unfolding put
put_fits room bs place h = simp (le-leb _ _ h)

pub put_outside : (room bs : List ℕ) (place : ℕ) → length room < place + length bs → put room place bs ≡ room
unfolding put
put_outside room bs place h = simp (lt-leb _ _ h)

pub length-put : (room bs : List ℕ) (place : ℕ) → place + length bs ≤ length room → length (put room place bs) ≡ length room
length-put room bs place h =
    let front : length (take place room) ≡ place = length-take-le place room (omega arith) in
    ap length (put_fits room bs place h) ∙ simp (length-append, length-drop, front) (omega arith)

pub put_nothing : (room : List ℕ) (place : ℕ) → place ≤ length room → put room place [] ≡ room
put_nothing room place h = put_fits room [] place (omega arith) ∙ simp (add-zero, append-nil, take-append-drop)

-- b right after a
pub put_next : (room a b : List ℕ) (place n : ℕ) → n ≡ place + length a → place + length a + length b ≤ length room →
    put (put room place a) n b ≡ put room place (a ++ b)
put_next room a b place n e h =
    let p : List ℕ = take place room ++ a in
    let rest : List ℕ = drop (place + length a) room in
    let l : length p ≡ place + length a = length-append (take place room) a ∙ ap (λ (k : ℕ). k + length a) (length-take-le place room (omega arith)) in
    let m : length (a ++ b) ≡ length a + length b = length-append a b in
    let first : put room place a ≡ p ++ rest = put_fits room a place (omega arith) in
    let kept : length (p ++ rest) ≡ length room = ap length (sym first) ∙ length-put room a place (omega arith) in
    let front : take (place + length a) (p ++ rest) ≡ p = take_at p rest (place + length a) l in
    let back : drop (place + length a + length b) (p ++ rest) ≡ drop (place + length a + length b) room =
    ap (λ (k : ℕ). drop (k + length b) (p ++ rest)) (sym l) ∙ drop-append-add p rest (length b) ∙ drop-drop (length b) (place + length a) room
    in
    ap (λ (d : List ℕ). put d n b) first
    ∙ ap (λ (k : ℕ). put (p ++ rest) k b) e
    ∙ put_fits (p ++ rest) b (place + length a) (omega arith)
    ∙ rw (front, back, append_assoc (take place room) a b, add_assoc, ← m) (sym (put_fits room (a ++ b) place (omega arith)))

-- one byte or word, stored
pub put_byte : (room : List ℕ) (place b : ℕ) → place < length room → set room place b ≡ put room place (b ∷ [])
put_byte room place b h =
    let next : place + 1 ≡ suc place = omega arith in
    set_split room place b h
    ∙ sym
    (put_fits room (b ∷ []) place (omega arith)
    ∙ append_assoc (take place room) (b ∷ []) (drop (place + 1) room)
    ∙ ap (λ (k : ℕ). take place room ++ b ∷ drop k room) next)

-- A part of as many bytes or words as are copied to it.
pub part_put : (room bs part : List ℕ) (at n : ℕ) → length bs ≡ n → at + n ≤ length room → part ≡ bs → put_mid at (at + n - at) room part ≡ put room at bs
part_put room bs part at n l h all =
    let end : at + n ≡ at + length bs = ap (λ (k : ℕ). at + k) (sym l) in
    ap (λ (p : List ℕ). put_mid at (at + n - at) room p) all
    ∙ ap (λ (rest : List ℕ). take at room ++ (bs ++ rest)) (Post-is at (at + n) room (omega arith) ∙ ap (λ (k : ℕ). drop k room) end)
    ∙ sym (append_assoc (take at room) bs (drop (at + length bs) room))
    ∙ sym (put_fits room bs at (omega (arith, l)))

-- A run's words so far, and its next one after them.
pub next_put : (room run : List ℕ) (place j : ℕ) → j < length run → place + 8 * length run ≤ length room →
    put (put room place (as_bytes (take j run))) (place + 8 * j) (bytes_of 8 (get_or run j 0)) ≡ put room place (as_bytes (take (j + 1) run))
unfolding as_bytes
next_put room run place j more h =
    let w = get_or run j 0 in
    let so_far : length (as_bytes (take j run)) ≡ 8 * j = length-as_bytes (take j run) ∙ ap (λ (n : ℕ). 8 * n) (length-take-le j run (omega arith)) in
    let next : suc j ≡ j + 1 = omega arith in
    put_next room (as_bytes (take j run)) (bytes_of 8 w) place (place + 8 * j) (omega (arith, so_far)) (omega (arith, so_far, length_bytes 8 w))
    ∙ ap (put room place)
    (ap (λ (bs : List ℕ). as_bytes (take j run) ++ bs) (sym (append-nil (bytes_of 8 w)))
    ∙ sym (as_bytes_append (take j run) (w ∷ []))
    ∙ ap as_bytes (sym (take-suc run j 0 more) ∙ ap (λ (n : ℕ). take n run) next))

-- a run's first word, and its others after it
pub first_put : (room : List ℕ) (place w : ℕ) (ws : List ℕ) → place + 8 * suc (length ws) ≤ length room →
    put room place (as_bytes (w ∷ ws)) ≡ put (put room place (bytes_of 8 w)) (place + 8) (as_bytes ws)
unfolding as_bytes bytes_of
first_put room place w ws h =
    let l : length (as_bytes ws) ≡ 8 * length ws = length-as_bytes ws in
    sym (put_next room (bytes_of 8 w) (as_bytes ws) place (place + 8) refl (omega arith))
