-- Checks one after another: the first fault stands, and nothing is wrong where each finds nothing.
use Rattle.std.specs.Prelude.{ℕ, ◌≡◌, refl, Bool, true, false, ◌⊎◌, Result, Ok, Err}
use Rattle.std.proofs.Common.{sym, ap, ◌∙◌, inl, inr}
use Rattle.bits.specs.declared.refusal.Refusal.{Refusal}
use Rattle.bits.specs.Refusal.{number_of}
use Rattle.files_checks.specs.declared.Fault.{Fault}
use Rattle.files_checks.specs.Checks.{Check, IsFault, sound, fault, need, ◌⟫◌}

pub fault_is_not_sound : {refusal : Refusal} {place : ℕ} {A : Type 0} → fault refusal place ≡ sound → A
fault_is_not_sound e = cc

-- The check r came to what a is: a fault is the answer to both, and where there is none, what follows is.
pub stops : {T : Type 0} {r a : Check} (b : Result T Fault) (f : Fault) → r ≡ a → r ≡ Err f → Err f ≡ (a ⟫ b)
stops {r} {a} b f e was = by a (sym e ∙ was)
  where
    by : (a : Check) → a ≡ Err f → Err f ≡ (a ⟫ b)
    by (Ok done) e = cc
    by (Err g) e = cc

pub goes_on : {T : Type 0} {r a : Check} {x b : Result T Fault} → r ≡ a → r ≡ sound → x ≡ b → x ≡ (a ⟫ b)
goes_on {r} {a} {x} {b} e s f = f ∙ ap (λ (k : Check). k ⟫ b) (sym s ∙ e)

pub both : (a b : Check) → (a ⟫ b) ≡ sound → (a ≡ sound) × (b ≡ sound)
both (Ok done) b e = (refl, e)
both (Err f) b e = cc

pub sound_both : (a b : Check) → a ≡ sound → b ≡ sound → (a ⟫ b) ≡ sound
sound_both a b p q = ap (λ (k : Check). k ⟫ b) p ∙ q

pub sound_need : (holds : Bool) (refusal : Refusal) (place : ℕ) → holds ≡ true → need holds refusal place ≡ sound
sound_need holds refusal place e = ap (λ (b : Bool). need b refusal place) e

pub needed : (holds : Bool) (refusal : Refusal) (place : ℕ) → need holds refusal place ≡ sound → holds ≡ true
needed true refusal place e = refl
needed false refusal place e = fault_is_not_sound e

-- Three checks, the last two together or the first two.
pub in_a_row : {T : Type 0} (a b : Check) (c : Result T Fault) → ((a ⟫ b) ⟫ c) ≡ (a ⟫ (b ⟫ c))
in_a_row (Ok done) b c = refl
in_a_row (Err f) b c = refl

-- ---- Where a fault comes from: the first check, or the next where the first finds nothing; a need that does not hold.
pub first_fault_lem : (a b : Check) {f : Fault} → (a ⟫ b) ≡ Err f → (a ≡ Err f) ⊎ ((a ≡ sound) × (b ≡ Err f))
first_fault_lem (Ok done) b e = inr (refl, e)
first_fault_lem (Err g) b e = inl e

pub same_fault : {T : Type 0} {r s : Refusal} {p q : ℕ} → fault {T = T} r p ≡ fault s q → (r ≡ s) × (p ≡ q)
same_fault {r} {s} {p} {q} e =
    let f : ◌≡◌ {A = Fault} (record { refusal = r; place = p }) (record { refusal = s; place = q }) = cc e in
    (ap (λ (x : Fault). x.refusal) f, ap (λ (x : Fault). x.place) f)

pub needed_not : (holds : Bool) (r : Refusal) (p : ℕ) {refusal : Refusal} {place : ℕ} → need holds r p ≡ fault refusal place →
    (holds ≡ false) × (refusal ≡ r) × (place ≡ p)
needed_not true r p e = cc
needed_not false r p e = let same = same_fault (sym e) in (refl, same.0, same.1)

-- What is known of an answer that is a fault by its number and place.
pub is_fault : {T : Type 0} (r : Result T Fault) {number place : ℕ} → IsFault r number place →
    (f : Fault) × (r ≡ Err f) × (number_of f.refusal ≡ number) × (f.place ≡ place)
is_fault (Ok v) h = absurd h
is_fault (Err f) h = (f, refl, h.0, h.1)

pub fault_is : {T : Type 0} {r : Result T Fault} {f : Fault} {number place : ℕ} → r ≡ Err f → number_of f.refusal ≡ number → f.place ≡ place → IsFault r number place
fault_is e n p = rw e (n, p)

-- ---- A check, then an answer: what it says of a check that the answer is given, or a fault.
pub answered : {T : Type 0} (a : Check) (v : T) {x : T} → (a ⟫ Ok v) ≡ Ok x → (a ≡ sound) × (v ≡ x)
answered (Ok done) v e = (refl, cc)
answered (Err f) v e = cc

pub unanswered : {T : Type 0} (a : Check) (v : T) {f : Fault} → (a ⟫ Ok v) ≡ Err f → a ≡ Err f
unanswered (Ok done) v e = cc
unanswered (Err g) v e = cc
