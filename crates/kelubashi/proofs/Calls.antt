-- The twelve calls as the header declares them: the parameters in C's order, then the number that is returned, then what each lent run holds afterwards, in the
-- same order. Each says that the contract allows these; it is the contract itself, `Post`, the `ensures` as written, which allows no others (`OneAnswers`).
use mathlib.Core.List.{List}
use Prim.Native.Nat.{ℕ}
use contract.Lifetimes.{Lfts}
use borrow.Fn.Kinds.{ParamKind, ResultKind, Out, Dens, res_t, ended_of}
use denote.Bor.{Bor}
use denote.MutBor.{MutBor}
use denote.Triple.Clauses.{Lasts, at_exit}
use Rattle.kelubashi.proofs.kelubashi1_root.Kinds as root-kinds
use Rattle.kelubashi.proofs.kelubashi1_root.Reads as root-reads
use Rattle.kelubashi.proofs.kelubashi1_propagate.Kinds as propagate-kinds
use Rattle.kelubashi.proofs.kelubashi1_propagate.Reads as propagate-reads
use Rattle.kelubashi.proofs.kelubashi1_partials.Kinds as partials-kinds
use Rattle.kelubashi.proofs.kelubashi1_partials.Reads as partials-reads
use Rattle.kelubashi.proofs.kelubashi1_read.Kinds as read-kinds
use Rattle.kelubashi.proofs.kelubashi1_read.Reads as read-reads
use Rattle.kelubashi.proofs.kelubashi1_write.Kinds as write-kinds
use Rattle.kelubashi.proofs.kelubashi1_write.Reads as write-reads
use Rattle.kelubashi.proofs.kelubashi1_interval.Kinds as interval-kinds
use Rattle.kelubashi.proofs.kelubashi1_interval.Reads as interval-reads
use Rattle.kelubashi.proofs.kelubashi1_results.Kinds as results-kinds
use Rattle.kelubashi.proofs.kelubashi1_results.Reads as results-reads
use Rattle.kelubashi.proofs.kelubashi1_summary.Kinds as summary-kinds
use Rattle.kelubashi.proofs.kelubashi1_summary.Reads as summary-reads
use Rattle.kelubashi.proofs.kelubashi1_append.Kinds as append-kinds
use Rattle.kelubashi.proofs.kelubashi1_append.Reads as append-reads
use Rattle.kelubashi.proofs.kelubashi1_withdraw.Kinds as withdraw-kinds
use Rattle.kelubashi.proofs.kelubashi1_withdraw.Reads as withdraw-reads
use Rattle.kelubashi.proofs.kelubashi1_check.Kinds as check-kinds
use Rattle.kelubashi.proofs.kelubashi1_check.Reads as check-reads
use Rattle.kelubashi.proofs.kelubashi1_compare.Kinds as compare-kinds
use Rattle.kelubashi.proofs.kelubashi1_compare.Reads as compare-reads

-- Where the runs of a call stand, the first, the second and so on: no answer depends on it.
abbrev pub Places : Type 0
Places = ℕ → (ℕ × ℕ) × ℕ

-- A run that is read, and a lent one, which the call may write.
abbrev run : Places → ℕ → List ℕ → Bor (List ℕ)
run at k words = record { ref_ptr = (at k).0; now = words }

abbrev lent : Places → ℕ → List ℕ → MutBor (List ℕ)
lent at k words = record { ref_ptr = (at k).0; ghost_name = (at k).1; now = words }

abbrev Allowed : (n : ℕ) (ps : List (ParamKind n)) (r : ResultKind n) → Out n ps r → (κs : Lfts n) (a : Dens κs ps) → (res_t r κs).Denot → Lasts (ended_of n ps r) κs a → Type 0
Allowed n ps r allows κs a number after = allows κs a number (at_exit (ended_of n ps r) κs a after)

module _ (κs : Lfts 1) (at : Places) where
  abbrev pub Root : (word : ℕ) (answer : List ℕ) (number : ℕ) (answer_after : List ℕ) → Type 0
  Root word answer number answer_after =
      Allowed 1 root-kinds.ps root-kinds.r root-reads.Post κs (word, (lent at 0 answer, tt)) number (tt, (answer_after, tt))

  abbrev pub Interval : (time epoch : ℕ) (answer : List ℕ) (number : ℕ) (answer_after : List ℕ) → Type 0
  Interval time epoch answer number answer_after =
      Allowed 1 interval-kinds.ps interval-kinds.r interval-reads.Post κs (time, (epoch, (lent at 0 answer, tt))) number (tt, (tt, (answer_after, tt)))

  abbrev pub Propagate : (mu x y z vx vy vz tau : ℕ) (answer : List ℕ) (number : ℕ) (answer_after : List ℕ) → Type 0
  Propagate mu x y z vx vy vz tau answer number answer_after =
      Allowed 1 propagate-kinds.ps propagate-kinds.r propagate-reads.Post κs
      (mu, (x, (y, (z, (vx, (vy, (vz, (tau, (lent at 0 answer, tt))))))))) number
      (tt, (tt, (tt, (tt, (tt, (tt, (tt, (tt, (answer_after, tt)))))))))

module _ (κs : Lfts 2) (at : Places) where
  abbrev pub Partials : (mu x y z vx vy vz tau : ℕ) (answer partials : List ℕ) (number : ℕ) (answer_after partials_after : List ℕ) → Type 0
  Partials mu x y z vx vy vz tau answer partials number answer_after partials_after =
      Allowed 2 partials-kinds.ps partials-kinds.r partials-reads.Post κs
      (mu, (x, (y, (z, (vx, (vy, (vz, (tau, (lent at 0 answer, (lent at 1 partials, tt)))))))))) number
      (tt, (tt, (tt, (tt, (tt, (tt, (tt, (tt, (answer_after, (partials_after, tt))))))))))

  abbrev pub Read : (file answer : List ℕ) (number : ℕ) (answer_after : List ℕ) → Type 0
  Read file answer number answer_after =
      Allowed 2 read-kinds.ps read-kinds.r read-reads.Post κs (run at 0 file, (lent at 1 answer, tt)) number (tt, (answer_after, tt))

module _ (κs : Lfts 5) (at : Places) where
  abbrev pub Write : (centres states requests room answer : List ℕ) (number : ℕ) (room_after answer_after : List ℕ) → Type 0
  Write centres states requests room answer number room_after answer_after =
      Allowed 5 write-kinds.ps write-kinds.r write-reads.Post κs
      (run at 0 centres, (run at 1 states, (run at 2 requests, (lent at 3 room, (lent at 4 answer, tt))))) number
      (tt, (tt, (tt, (room_after, (answer_after, tt)))))

module _ (κs : Lfts 3) (at : Places) where
  abbrev pub Results : (file room answer : List ℕ) (number : ℕ) (room_after answer_after : List ℕ) → Type 0
  Results file room answer number room_after answer_after =
      Allowed 3 results-kinds.ps results-kinds.r results-reads.Post κs (run at 0 file, (lent at 1 room, (lent at 2 answer, tt))) number
      (tt, (room_after, (answer_after, tt)))

  abbrev pub Check : (file verdicts answer : List ℕ) (number : ℕ) (verdicts_after answer_after : List ℕ) → Type 0
  Check file verdicts answer number verdicts_after answer_after =
      Allowed 3 check-kinds.ps check-kinds.r check-reads.Post κs (run at 0 file, (lent at 1 verdicts, (lent at 2 answer, tt))) number
      (tt, (verdicts_after, (answer_after, tt)))

  abbrev pub Summary : (states : List ℕ) (count centres : ℕ) (list answer : List ℕ) (number : ℕ) (list_after answer_after : List ℕ) → Type 0
  Summary states count centres list answer number list_after answer_after =
      Allowed 3 summary-kinds.ps summary-kinds.r summary-reads.Post κs
      (run at 0 states, (count, (centres, (lent at 1 list, (lent at 2 answer, tt))))) number
      (tt, (tt, (tt, (list_after, (answer_after, tt)))))

  abbrev pub Withdraw :
      (which : ℕ) (states : List ℕ) (count centres : ℕ) (list answer : List ℕ) (number : ℕ) (states_after list_after answer_after : List ℕ) → Type 0
  Withdraw which states count centres list answer number states_after list_after answer_after =
      Allowed 3 withdraw-kinds.ps withdraw-kinds.r withdraw-reads.Post κs
      (which, (lent at 0 states, (count, (centres, (lent at 1 list, (lent at 2 answer, tt)))))) number
      (tt, (states_after, (tt, (tt, (list_after, (answer_after, tt))))))

module _ (κs : Lfts 4) (at : Places) where
  abbrev pub Append :
      (state states : List ℕ) (count centres : ℕ) (list answer : List ℕ) (number : ℕ) (states_after list_after answer_after : List ℕ) → Type 0
  Append state states count centres list answer number states_after list_after answer_after =
      Allowed 4 append-kinds.ps append-kinds.r append-reads.Post κs
      (run at 0 state, (lent at 1 states, (count, (centres, (lent at 2 list, (lent at 3 answer, tt)))))) number
      (tt, (states_after, (tt, (tt, (list_after, (answer_after, tt))))))

  abbrev pub Compare : (left right rows answer : List ℕ) (number : ℕ) (rows_after answer_after : List ℕ) → Type 0
  Compare left right rows answer number rows_after answer_after =
      Allowed 4 compare-kinds.ps compare-kinds.r compare-reads.Post κs
      (run at 0 left, (run at 1 right, (lent at 2 rows, (lent at 3 answer, tt)))) number
      (tt, (tt, (rows_after, (answer_after, tt))))
