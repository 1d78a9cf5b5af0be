-- Each export leaves one answer open, and one content of the run it was lent: its contract is that of the function which it calls, and so is this law.
use Rattle.bits.specs.OneAnswer.{OneAnswer}
use Rattle.kelubashi.proofs.OneAnswers as face
use Rattle.kelubashi_c.proofs.kelubashi1_root.Kinds as root-kinds
use Rattle.kelubashi_c.proofs.kelubashi1_root.Reads as root-reads
use Rattle.kelubashi_c.proofs.kelubashi1_propagate.Kinds as propagate-kinds
use Rattle.kelubashi_c.proofs.kelubashi1_propagate.Reads as propagate-reads
use Rattle.kelubashi_c.proofs.kelubashi1_partials.Kinds as partials-kinds
use Rattle.kelubashi_c.proofs.kelubashi1_partials.Reads as partials-reads
use Rattle.kelubashi_c.proofs.kelubashi1_read.Kinds as read-kinds
use Rattle.kelubashi_c.proofs.kelubashi1_read.Reads as read-reads
use Rattle.kelubashi_c.proofs.kelubashi1_write.Kinds as write-kinds
use Rattle.kelubashi_c.proofs.kelubashi1_write.Reads as write-reads
use Rattle.kelubashi_c.proofs.kelubashi1_interval.Kinds as interval-kinds
use Rattle.kelubashi_c.proofs.kelubashi1_interval.Reads as interval-reads
use Rattle.kelubashi_c.proofs.kelubashi1_results.Kinds as results-kinds
use Rattle.kelubashi_c.proofs.kelubashi1_results.Reads as results-reads
use Rattle.kelubashi_c.proofs.kelubashi1_summary.Kinds as summary-kinds
use Rattle.kelubashi_c.proofs.kelubashi1_summary.Reads as summary-reads
use Rattle.kelubashi_c.proofs.kelubashi1_append.Kinds as append-kinds
use Rattle.kelubashi_c.proofs.kelubashi1_append.Reads as append-reads
use Rattle.kelubashi_c.proofs.kelubashi1_withdraw.Kinds as withdraw-kinds
use Rattle.kelubashi_c.proofs.kelubashi1_withdraw.Reads as withdraw-reads
use Rattle.kelubashi_c.proofs.kelubashi1_check.Kinds as check-kinds
use Rattle.kelubashi_c.proofs.kelubashi1_check.Reads as check-reads
use Rattle.kelubashi_c.proofs.kelubashi1_compare.Kinds as compare-kinds
use Rattle.kelubashi_c.proofs.kelubashi1_compare.Reads as compare-reads

pub root_one : OneAnswer 1 root-kinds.ps root-kinds.r root-reads.Post
root_one = face.root_one

pub propagate_one : OneAnswer 1 propagate-kinds.ps propagate-kinds.r propagate-reads.Post
propagate_one = face.propagate_one

pub partials_one : OneAnswer 2 partials-kinds.ps partials-kinds.r partials-reads.Post
partials_one = face.partials_one

pub read_one : OneAnswer 2 read-kinds.ps read-kinds.r read-reads.Post
read_one = face.read_one

pub write_one : OneAnswer 5 write-kinds.ps write-kinds.r write-reads.Post
write_one = face.write_one

pub interval_one : OneAnswer 1 interval-kinds.ps interval-kinds.r interval-reads.Post
interval_one = face.interval_one

pub results_one : OneAnswer 3 results-kinds.ps results-kinds.r results-reads.Post
results_one = face.results_one

pub summary_one : OneAnswer 3 summary-kinds.ps summary-kinds.r summary-reads.Post
summary_one = face.summary_one

pub append_one : OneAnswer 4 append-kinds.ps append-kinds.r append-reads.Post
append_one = face.append_one

pub withdraw_one : OneAnswer 3 withdraw-kinds.ps withdraw-kinds.r withdraw-reads.Post
withdraw_one = face.withdraw_one

pub check_one : OneAnswer 3 check-kinds.ps check-kinds.r check-reads.Post
check_one = face.check_one

pub compare_one : OneAnswer 4 compare-kinds.ps compare-kinds.r compare-reads.Post
compare_one = face.compare_one
