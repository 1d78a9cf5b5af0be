-- Document 01: "For each public call, its promise leaves one possible answer, and one possible content of lent memory, on every input and every refusal. Show
-- that any two answers it allows are equal."
-- The promise is read off the function itself: Rattle makes a module `Reads` of each function, and `Post` there is its `ensures` as written in the source. So a
-- law always speaks of the contract as it stands.
use Rattle.std.specs.Prelude.{◌≡◌, List, ℕ}
use seplogic.Ra.Ura.{Ura}
use base.Logic.{SProp, ent}
use prog.Memory.{Memory}
use prog.Routine.{Routine}
use types.Logic.{Logic}
use contract.Lifetimes.{Lfts}
use contract.Monad.{Fun, fact}
use borrow.Fn.Kinds.{ParamKind, ResultKind, Out, Dens, res_t, ended_of}
use denote.Triple.Entry.{Args, Res}
use denote.Triple.Clauses.{Ended, Clauses, Lasts, at_exit}

-- For a function with parameters `ps`, a result `r` and the promise `allows`: where the promise allows two results for the same arguments, each with contents
-- of all lent memory, the results are equal and so are the contents.
abbrev pub OneAnswer : (n : ℕ) (ps : List (ParamKind n)) (r : ResultKind n) → Out n ps r → Type 0
OneAnswer n ps r allows =
    (κs : Lfts n) (a : Dens κs ps) (x y : (res_t r κs).Denot) (v w : Lasts (ended_of n ps r) κs a) →
    allows κs a x (at_exit (ended_of n ps r) κs a v) →
    allows κs a y (at_exit (ended_of n ps r) κs a w) →
    (x ≡ y) × (v ≡ w)

-- The same for a function that is proved by a walk, whose promise Rattle reads off as an assertion of the logic: for given arguments there is one result, with
-- one content of all lent memory, and where the promise holds of a result and contents, they are these.
abbrev pub OneAnswerOf : (M : Type 1) (T : Ended) → ((𝓤 : Ura M) (𝓛 : Logic 𝓤) → (Memory → SProp 𝓤) → (Routine → Fun 𝓤) → Clauses 𝓤 T) → Type 2
OneAnswerOf M T clauses =
    (κs : Lfts T.signature.lifetimes) (a : Args T.signature κs) →
    (only : Res T.signature κs × Lasts T κs a)
    × ((𝓤 : Ura M) (𝓛 : Logic 𝓤) (mem : Memory → SProp 𝓤) (run : Routine → Fun 𝓤)
    (g : (clauses 𝓤 𝓛 mem run κs a).ghost) (x : Res T.signature κs) (v : Lasts T κs a) →
    ent 𝓤 ((clauses 𝓤 𝓛 mem run κs a).ensures g x (at_exit T κs a v)) (fact 𝓤 ((x ≡ only.0) × (v ≡ only.1))))
