-- The records of a run after a record is put among them, appended or withdrawn: by induction over the records. And no other word is touched.
use Prim.Native.Nat.{ℕ, zero, suc, ◌+◌, ◌-◌, ◌*◌, ◌<◌, ◌≤◌}
use native.Mathlib.Omega.{arith}
use native.Mathlib.Nat.{zero-add}
use mathlib.Core.Path.{◌≡◌, refl, sym, ap, ap₂, ◌∙◌}
use mathlib.Core.List.{List, [], ◌∷◌, ◌++◌, append_assoc}
use borrow.Author.Tests.{eq-eqb, ne_eqb, le-leb, lt-leb, lt-ltb, le-ltb}
use lib.ListN.{length, get_or, take, drop, set, length-append, length-drop, take-append-drop, drop_of_length-le}
use lib.Seq.{take_at, drop_at, drop-drop, drop-cons, get_or-take, get_or-drop, take-add, take-append-le, drop-append-le, length-take-le}
use Rattle.files_words.specs.Bytes.{put}
use Rattle.files_words.proofs.PutLaws.{put_fits, length-put}
use Rattle.files_records.specs.Records.{record_at, records_of, put_at, record_put, followers, moved_down, withdrawn, without, word_in, column}
use Rattle.files_records.proofs.Steps.{ends_within, among}
use Rattle.files_records.proofs.PartLaws.{untouched_before, untouched_behind, put_in}

-- ---- Words put behind the first n are put into what stands behind them.
pub put_behind : (run words : List ℕ) (n p : ℕ) → n + p + length words ≤ length run → put run (n + p) words ≡ take n run ++ put (drop n run) p words
put_behind run words n p h =
    let rest : n + p + length words ≡ n + (p + length words) = omega arith in
    put_fits run words (n + p) h
    ∙ ap₂ (λ (a b : List ℕ). a ++ words ++ b) (take-add n p run) (ap (λ (k : ℕ). drop k run) rest ∙ sym (drop-drop (p + length words) n run))
    ∙ ap (λ (l : List ℕ). l ++ drop (p + length words) (drop n run)) (append_assoc (take n run) (take p (drop n run)) words)
    ∙ append_assoc (take n run) (take p (drop n run) ++ words) (drop (p + length words) (drop n run))
    ∙ sym (ap (λ (l : List ℕ). take n run ++ l) (put_fits (drop n run) words p (omega (arith, length-drop n run))))

pub put_first : (w : ℕ) (run words : List ℕ) → length words ≤ length run → put run (0 * w) words ≡ words ++ drop (length words) run
put_first w run words h =
    let start : 0 * w ≡ 0 = omega arith in
    ap (λ (p : ℕ). put run p words) start ∙ put_fits run words 0 (omega arith) ∙ ap (λ (k : ℕ). words ++ drop k run) (zero-add (length words))

-- ---- The records of a run whose first is known, and of one whose first words are.
pub records_next : (w : ℕ) (one rest : List ℕ) (n : ℕ) → length one ≡ w → records_of w (one ++ rest) (suc n) ≡ one ∷ records_of w rest n
unfolding records_of
records_next w one rest n l = ap₂ (λ (a b : List ℕ). a ∷ records_of w b n) (take_at one rest w l) (drop_at one rest w l)

zero_is : (w : ℕ) → 0 ≡ 0 * w
zero_is w = omega arith

pub length_records : (w : ℕ) (run : List ℕ) (n : ℕ) → length (records_of w run n) ≡ n
unfolding records_of
length_records w run zero = refl
length_records w run (suc n) = ap suc (length_records w (drop w run) n)

pub record_at_lem : (w : ℕ) (run : List ℕ) (n i : ℕ) → i < n → get_or (records_of w run n) i [] ≡ record_at w run i
unfolding records_of
record_at_lem w run zero i h = absurd (omega arith)
record_at_lem w run (suc n) zero h = ap (λ (k : ℕ). take w (drop k run)) (zero_is w)
record_at_lem w run (suc n) (suc i) h =
    let next : w + i * w ≡ suc i * w = omega arith in
    record_at_lem w (drop w run) n i (omega arith) ∙ ap (take w) (drop-drop (i * w) w run ∙ ap (λ (k : ℕ). drop k run) next)

pub records_front : (w : ℕ) (run behind : List ℕ) (n : ℕ) → n * w ≤ length run → records_of w (run ++ behind) n ≡ records_of w run n
unfolding records_of
records_front w run behind zero h = refl
records_front w run behind (suc n) h =
    ap₂ (λ (a b : List ℕ). a ∷ records_of w b n) (take-append-le w run behind (omega arith)) (drop-append-le w run behind (omega arith))
    ∙ ap (λ (rs : List (List ℕ)). take w run ∷ rs) (records_front w (drop w run) behind n (omega (arith, length-drop w run)))

-- ---- One put at i, among n.
put_among : (w : ℕ) (run one : List ℕ) (n i : ℕ) → length one ≡ w → i < n → n * w ≤ length run → records_of w (put_at w run i one) n ≡ set (records_of w run n) i one
unfolding records_of
put_among w run one zero i l h room = absurd (omega arith)
put_among w run one (suc n) zero l h room =
    ap (λ (r : List ℕ). records_of w r (suc n)) (put_first w run one (omega arith))
    ∙ records_next w one (drop (length one) run) n l
    ∙ ap (λ (k : ℕ). one ∷ records_of w (drop k run) n) l
put_among w run one (suc n) (suc i) l h room =
    let next : suc i * w ≡ w + i * w = omega arith in
    let m = ends_within w i n (omega arith) in
    ap (λ (r : List ℕ). records_of w r (suc n)) (ap (λ (k : ℕ). put run k one) next ∙ put_behind run one w (i * w) (omega arith))
    ∙ records_next w (take w run) (put (drop w run) (i * w) one) n (length-take-le w run (omega arith))
    ∙ ap (λ (rs : List (List ℕ)). take w run ∷ rs) (put_among w (drop w run) one n i l (omega arith) (omega (arith, length-drop w run)))

-- ---- One appended behind n.
put_behind_all : (w : ℕ) (run one : List ℕ) (n : ℕ) → length one ≡ w → suc n * w ≤ length run → records_of w (put_at w run n one) (suc n) ≡ records_of w run n ++ (one ∷ [])
unfolding records_of
put_behind_all w run one zero l room =
    ap (λ (r : List ℕ). records_of w r 1) (put_first w run one (omega arith)) ∙ records_next w one (drop (length one) run) 0 l
put_behind_all w run one (suc n) l room =
    let next : suc n * w ≡ w + n * w = omega arith in
    ap (λ (r : List ℕ). records_of w r (suc (suc n))) (ap (λ (k : ℕ). put run k one) next ∙ put_behind run one w (n * w) (omega arith))
    ∙ records_next w (take w run) (put (drop w run) (n * w) one) (suc n) (length-take-le w run (omega arith))
    ∙ ap (λ (rs : List (List ℕ)). take w run ∷ rs) (put_behind_all w (drop w run) one n l (omega (arith, length-drop w run)))

-- ---- One withdrawn of n.
pub length-followers : (w : ℕ) (run : List ℕ) (n which : ℕ) → which < n → n * w ≤ length run → length (followers w run n which) ≡ (n - suc which) * w
length-followers w run n which h room =
    let m = among w n which h in
    length-take-le ((n - suc which) * w) (drop (suc which * w) run) (omega (arith, length-drop (suc which * w) run))

moved_among : (w : ℕ) (run : List ℕ) (n which : ℕ) → which < suc n → suc n * w ≤ length run → records_of w (moved_down w run (suc n) which) n ≡ without (records_of w run (suc n)) which
unfolding records_of without
moved_among w run n zero h room =
    let moved = followers w run (suc n) 0 in
    let all : suc n - 1 ≡ n = omega arith in
    let l : length moved ≡ n * w = length-followers w run (suc n) 0 h room ∙ ap (λ (k : ℕ). k * w) all in
    let first : 1 * w ≡ w = omega arith in
    ap (λ (r : List ℕ). records_of w r n) (put_first w run moved (omega (arith, l)))
    ∙ records_front w moved (drop (length moved) run) n (omega (arith, l))
    ∙ ap₂ (λ (j k : ℕ). records_of w (take (j * w) (drop k run)) n) all first
    ∙ sym (records_front w (take (n * w) (drop w run)) (drop (n * w) (drop w run)) n (omega (arith, length-take-le (n * w) (drop w run) (omega (arith, length-drop w run)))))
    ∙ ap (λ (r : List ℕ). records_of w r n) (take-append-drop (n * w) (drop w run))
moved_among w run zero (suc k) h room = absurd (omega arith)
moved_among w run (suc n) (suc k) h room =
    let moved = followers w run (suc (suc n)) (suc k) in
    let l = length-followers w run (suc (suc n)) (suc k) h room in
    let m = among w (suc (suc n)) (suc k) h in
    let next : suc k * w ≡ w + k * w = omega arith in
    let from : w + suc k * w ≡ suc (suc k) * w = omega arith in
    let many : suc n - suc k ≡ suc (suc n) - suc (suc k) = omega arith in
    let same : followers w (drop w run) (suc n) k ≡ moved = ap₂ (λ (j : ℕ) (l : List ℕ). take (j * w) l) many (drop-drop (suc k * w) w run ∙ ap (λ (p : ℕ). drop p run) from) in
    ap (λ (r : List ℕ). records_of w r (suc n)) (ap (λ (p : ℕ). put run p moved) next ∙ put_behind run moved w (k * w) (omega (arith, l)))
    ∙ records_next w (take w run) (put (drop w run) (k * w) moved) n (length-take-le w run (omega arith))
    ∙ ap (λ (ws : List ℕ). take w run ∷ records_of w (put (drop w run) (k * w) ws) n) (sym same)
    ∙ ap (λ (rs : List (List ℕ)). take w run ∷ rs) (moved_among w (drop w run) n k (omega arith) (omega (arith, length-drop w run)))

-- ---- A record that is put: there is room for it, and it is a record. Where either is not so, nothing is put.
module _ (w : ℕ) (run : List ℕ) (i : ℕ) (one : List ℕ) where
  pub no_record_put : (length one ≡ w → ⊥) → record_put w run i one ≡ run
  unfolding record_put
  no_record_put l = simp (ne_eqb (length one) w l)

  pub no_room_put : length one ≡ w → length run < suc i * w → record_put w run i one ≡ run
  unfolding record_put
  no_room_put l h = simp (eq-eqb (length one) w l, lt-leb (suc i * w) (length run) h)

  module _ (l : length one ≡ w) (room : suc i * w ≤ length run) where
    fits : i * w + length one ≤ length run
    fits = omega (arith, l, room)

    pub is_put : record_put w run i one ≡ put_at w run i one
    unfolding record_put
    is_put = simp (eq-eqb (length one) w l, le-leb (suc i * w) (length run) room)

    pub length-record_put : length (record_put w run i one) ≡ length run
    length-record_put = ap length is_put ∙ length-put run one (i * w) fits

    pub record_put_lem : record_at w (record_put w run i one) i ≡ one
    record_put_lem = ap (λ (r : List ℕ). record_at w r i) is_put ∙ ap (λ (k : ℕ). take k (drop (i * w) (put_at w run i one))) (sym l) ∙ put_in run one (i * w) fits

    pub words_before : take (i * w) (record_put w run i one) ≡ take (i * w) run
    words_before = ap (take (i * w)) is_put ∙ untouched_before run one (i * w) fits

    pub front_put : take (suc i * w) (record_put w run i one) ≡ take (i * w) run ++ one
    front_put =
        let front = length-append (take (i * w) run) one ∙ ap₂ (λ (a b : ℕ). a + b) (length-take-le (i * w) run (omega (arith, fits))) l in
        ap (take (suc i * w)) (is_put ∙ put_fits run one (i * w) fits) ∙ take_at (take (i * w) run ++ one) (drop (i * w + length one) run) (suc i * w) (omega (arith, front))

    pub words_behind : drop (suc i * w) (record_put w run i one) ≡ drop (suc i * w) run
    words_behind = ap (drop (suc i * w)) is_put ∙ untouched_behind run one (i * w) fits (suc i * w) (omega (arith, l))

    pub one_put : (n : ℕ) → i < n → n * w ≤ length run → records_of w (record_put w run i one) n ≡ set (records_of w run n) i one
    one_put n h all = ap (λ (r : List ℕ). records_of w r n) is_put ∙ put_among w run one n i l h all

    pub one_appended : records_of w (record_put w run i one) (suc i) ≡ records_of w run i ++ (one ∷ [])
    one_appended = ap (λ (r : List ℕ). records_of w r (suc i)) is_put ∙ put_behind_all w run one i l room

-- ---- A record that is withdrawn: it is one of so many, and the run has them. Where either is not so, nothing is withdrawn.
module _ (w : ℕ) (run : List ℕ) (n which : ℕ) where
  pub not_there : n ≤ which → withdrawn w run n which ≡ run
  unfolding withdrawn
  not_there h = simp (le-ltb which n h)

  pub not_so_many : which < n → length run < n * w → withdrawn w run n which ≡ run
  unfolding withdrawn
  not_so_many h less = simp (lt-ltb which n h, lt-leb (n * w) (length run) less)

  module _ (here : which < n) (room : n * w ≤ length run) where
    fits_followers : which * w + length (followers w run n which) ≤ length run
    fits_followers = omega (arith, length-followers w run n which here room, among w n which here, room)

    pub is_withdrawn : withdrawn w run n which ≡ moved_down w run n which
    unfolding withdrawn
    is_withdrawn = simp (lt-ltb which n here, le-leb (n * w) (length run) room)

    pub words_before_it : take (which * w) (withdrawn w run n which) ≡ take (which * w) run
    words_before_it = ap (take (which * w)) is_withdrawn ∙ untouched_before run (followers w run n which) (which * w) fits_followers

    pub freed_and_behind : drop ((n - 1) * w) (withdrawn w run n which) ≡ drop ((n - 1) * w) run
    freed_and_behind =
        let end : (n - 1) * w ≡ which * w + length (followers w run n which) = omega (arith, length-followers w run n which here room, among w n which here) in
        ap (drop ((n - 1) * w)) is_withdrawn ∙ untouched_behind run (followers w run n which) (which * w) fits_followers ((n - 1) * w) end

    pub one_withdrawn : records_of w (withdrawn w run n which) (n - 1) ≡ without (records_of w run n) which
    one_withdrawn =
        let whole : suc (n - 1) ≡ n = omega (arith, here) in
        ap (λ (r : List ℕ). records_of w r (n - 1)) (is_withdrawn ∙ ap (λ (k : ℕ). moved_down w run k which) (sym whole))
        ∙ moved_among w run (n - 1) which (omega (arith, here)) (omega (arith, room, ap (λ (k : ℕ). k * w) whole))
        ∙ ap (λ (k : ℕ). without (records_of w run k) which) whole

-- ---- A word of a record, and a column from a record on.
pub word_in_lem : (w : ℕ) (run : List ℕ) (i j : ℕ) → j < w → word_in w run i j ≡ get_or run (i * w + j) 0
word_in_lem w run i j h = get_or-take w (drop (i * w) run) j 0 h ∙ get_or-drop (i * w) run j 0

pub records_from : (w : ℕ) (run : List ℕ) (n i : ℕ) → i < n → drop i (records_of w run n) ≡ record_at w run i ∷ drop (suc i) (records_of w run n)
records_from w run n i h =
    drop-cons (records_of w run n) i [] (omega (arith, length_records w run n))
    ∙ ap (λ (r : List ℕ). r ∷ drop (suc i) (records_of w run n)) (record_at_lem w run n i h)

pub column_from : (w : ℕ) (run : List ℕ) (n i j : ℕ) → i < n → j < w
    → column j (drop i (records_of w run n)) ≡ get_or run (i * w + j) 0 ∷ column j (drop (suc i) (records_of w run n))
unfolding column
column_from w run n i j h k =
    ap (column j) (records_from w run n i h) ∙ ap (λ (x : ℕ). x ∷ column j (drop (suc i) (records_of w run n))) (word_in_lem w run i j k)

pub column_ends : (w : ℕ) (run : List ℕ) (n i j : ℕ) → n ≤ i → column j (drop i (records_of w run n)) ≡ []
unfolding column
column_ends w run n i j h = ap (column j) (drop_of_length-le (records_of w run n) {i = i} (omega (arith, length_records w run n)))
