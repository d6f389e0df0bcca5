-- Two outcomes of a public call that both meet its contract are equal: the answer, and every lent table or room afterwards.
-- `Post` is the contract itself, as the check reads it from the source: of the arguments, the answer, and what is lent at exit.
-- Assumes nothing.
use mathlib.Core.Path.{◌≡◌}
use Rattle.words.proofs.Order.Search.{promised_one}
use Rattle.ring.proofs.ToldLaws.{check_one, factors_one, duels_one, repeat_one, marks_one, compared_one}
use contract.Lifetimes
use borrow.Fn.World
use borrow.Fn.Kinds as Fn
use denote.Triple.Clauses
use Rattle.ring.specs.contracts.judge.check
use Rattle.ring.proofs.judge.check.Kinds as check-kinds
use Rattle.ring.proofs.judge.check.Reads as check-reads
use Rattle.ring.specs.contracts.kind.strands_of
use Rattle.ring.proofs.kind.strands_of.Kinds as strands-of-kinds
use Rattle.ring.proofs.kind.strands_of.Reads as strands-of-reads
use Rattle.ring.specs.contracts.factor.factors
use Rattle.ring.proofs.factor.factors.Kinds as factors-kinds
use Rattle.ring.proofs.factor.factors.Reads as factors-reads
use Rattle.ring.specs.contracts.suffix.suffixes
use Rattle.ring.proofs.suffix.suffixes.Kinds as suffixes-kinds
use Rattle.ring.proofs.suffix.suffixes.Reads as suffixes-reads
use Rattle.ring.specs.contracts.start_table.starts
use Rattle.ring.proofs.start_table.starts.Kinds as starts-kinds
use Rattle.ring.proofs.start_table.starts.Reads as starts-reads
use Rattle.ring.specs.contracts.duels.duel
use Rattle.ring.proofs.duels.duel.Kinds as duel-kinds
use Rattle.ring.proofs.duels.duel.Reads as duel-reads
use Rattle.ring.specs.contracts.repeats.repeat
use Rattle.ring.proofs.repeats.repeat.Kinds as repeat-kinds
use Rattle.ring.proofs.repeats.repeat.Reads as repeat-reads
use Rattle.ring.specs.contracts.marking.mark
use Rattle.ring.proofs.marking.mark.Kinds as mark-kinds
use Rattle.ring.proofs.marking.mark.Reads as mark-reads
use Rattle.ring.specs.contracts.keys.write_key
use Rattle.ring.proofs.keys.write_key.Kinds as write-key-kinds
use Rattle.ring.proofs.keys.write_key.Reads as write-key-reads
use Rattle.ring.specs.contracts.keys.key
use Rattle.ring.proofs.keys.key.Kinds as key-kinds
use Rattle.ring.proofs.keys.key.Reads as key_reads
use Rattle.ring.specs.contracts.comparison.compare
use Rattle.ring.proofs.comparison.compare.Kinds as compare-kinds
use Rattle.ring.proofs.comparison.compare.Reads as compare-reads
use Rattle.ring.specs.contracts.marking.write_letters
use Rattle.ring.proofs.marking.write_letters.Kinds as write-letters-kinds
use Rattle.ring.proofs.marking.write_letters.Reads as write-letters-reads
use Rattle.ring.specs.contracts.key_test.check_key
use Rattle.ring.proofs.key_test.check_key.Kinds as check-key-kinds
use Rattle.ring.proofs.key_test.check_key.Reads as check-key-reads
use Rattle.ring.specs.contracts.deposits.write_deposit
use Rattle.ring.proofs.deposits.write_deposit.Kinds as write-deposit-kinds
use Rattle.ring.proofs.deposits.write_deposit.Reads as write-deposit-reads
use Rattle.ring.specs.contracts.marking.refusal
use Rattle.ring.proofs.marking.refusal.Kinds as refusal-kinds
use Rattle.ring.proofs.marking.refusal.Reads as refusal-reads

pub check_determined : (κs : Lifetimes.Lfts 1) (a : World.ArgsD check.signature κs) (r s : World.ResD check.signature κs) (e f : Clauses.AtExit (Fn.ended_of 1 check-kinds.ps check-kinds.r) κs)
    → check-reads.Post κs a r e → check-reads.Post κs a s f → r ≡ s
check_determined κs a r s e f p q = check_one r s (promised_one p q)

pub strands_of_determined : (κs : Lifetimes.Lfts 0) (a : World.ArgsD strands_of.signature κs) (r s : World.ResD strands_of.signature κs) (e f : Clauses.AtExit (Fn.ended_of 0 strands-of-kinds.ps strands-of-kinds.r) κs)
    → strands-of-reads.Post κs a r e → strands-of-reads.Post κs a s f → r ≡ s
strands_of_determined κs a r s e f p q = promised_one p q

pub factors_determined : (κs : Lifetimes.Lfts 2) (a : World.ArgsD factors.signature κs) (r s : World.ResD factors.signature κs) (e f : Clauses.AtExit (Fn.ended_of 2 factors-kinds.ps factors-kinds.r) κs)
    → factors-reads.Post κs a r e → factors-reads.Post κs a s f → (r ≡ s) × (e.1.1.0.now ≡ f.1.1.0.now)
factors_determined κs a r s e f p q = (factors_one r s (promised_one p.0 q.0), promised_one p.1 q.1)

pub suffixes_determined : (κs : Lifetimes.Lfts 2) (a : World.ArgsD suffixes.signature κs) (r s : World.ResD suffixes.signature κs) (e f : Clauses.AtExit (Fn.ended_of 2 suffixes-kinds.ps suffixes-kinds.r) κs)
    → suffixes-reads.Post κs a r e → suffixes-reads.Post κs a s f → (r ≡ s) × (e.1.1.0.now ≡ f.1.1.0.now)
suffixes_determined κs a r s e f p q = (check_one r s (promised_one p.0 q.0), promised_one p.1 q.1)

pub starts_determined : (κs : Lifetimes.Lfts 2) (a : World.ArgsD starts.signature κs) (r s : World.ResD starts.signature κs) (e f : Clauses.AtExit (Fn.ended_of 2 starts-kinds.ps starts-kinds.r) κs)
    → starts-reads.Post κs a r e → starts-reads.Post κs a s f → (r ≡ s) × (e.1.1.0.now ≡ f.1.1.0.now)
starts_determined κs a r s e f p q = (check_one r s (promised_one p.0 q.0), promised_one p.1 q.1)

pub duel_determined : (κs : Lifetimes.Lfts 1) (a : World.ArgsD duel.signature κs) (r s : World.ResD duel.signature κs) (e f : Clauses.AtExit (Fn.ended_of 1 duel-kinds.ps duel-kinds.r) κs)
    → duel-reads.Post κs a r e → duel-reads.Post κs a s f → r ≡ s
duel_determined κs a r s e f p q = duels_one r s (promised_one p q)

pub repeat_determined : (κs : Lifetimes.Lfts 1) (a : World.ArgsD repeat.signature κs) (r s : World.ResD repeat.signature κs) (e f : Clauses.AtExit (Fn.ended_of 1 repeat-kinds.ps repeat-kinds.r) κs)
    → repeat-reads.Post κs a r e → repeat-reads.Post κs a s f → r ≡ s
repeat_determined κs a r s e f p q = repeat_one r s (promised_one p q)

pub mark_determined : (κs : Lifetimes.Lfts 1) (a : World.ArgsD mark.signature κs) (r s : World.ResD mark.signature κs) (e f : Clauses.AtExit (Fn.ended_of 1 mark-kinds.ps mark-kinds.r) κs)
    → mark-reads.Post κs a r e → mark-reads.Post κs a s f → r ≡ s
mark_determined κs a r s e f p q = marks_one r s (promised_one p q)

pub write_key_determined : (κs : Lifetimes.Lfts 3) (a : World.ArgsD write_key.signature κs) (r s : World.ResD write_key.signature κs) (e f : Clauses.AtExit (Fn.ended_of 3 write-key-kinds.ps write-key-kinds.r) κs)
    → write-key-reads.Post κs a r e → write-key-reads.Post κs a s f → (r ≡ s) × (e.1.1.0.now ≡ f.1.1.0.now) × (e.1.1.1.0.now ≡ f.1.1.1.0.now)
write_key_determined κs a r s e f p q = (marks_one r s (promised_one p.0 q.0), promised_one p.1.0 q.1.0, promised_one p.1.1 q.1.1)

pub key_determined : (κs : Lifetimes.Lfts 2) (a : World.ArgsD key.signature κs) (r s : World.ResD key.signature κs) (e f : Clauses.AtExit (Fn.ended_of 2 key-kinds.ps key-kinds.r) κs)
    → key_reads.Post κs a r e → key_reads.Post κs a s f → (r.now ≡ s.now) × (r.ref_ptr ≡ s.ref_ptr)
key_determined κs a r s e f p q = (promised_one p.0 q.0, promised_one p.1 q.1)

pub compare_determined : (κs : Lifetimes.Lfts 2) (a : World.ArgsD compare.signature κs) (r s : World.ResD compare.signature κs) (e f : Clauses.AtExit (Fn.ended_of 2 compare-kinds.ps compare-kinds.r) κs)
    → compare-reads.Post κs a r e → compare-reads.Post κs a s f → r ≡ s
compare_determined κs a r s e f p q = compared_one r s (promised_one p q)

pub refusal_determined : (κs : Lifetimes.Lfts 0) (a : World.ArgsD refusal.signature κs) (r s : World.ResD refusal.signature κs) (e f : Clauses.AtExit (Fn.ended_of 0 refusal-kinds.ps refusal-kinds.r) κs)
    → refusal-reads.Post κs a r e → refusal-reads.Post κs a s f → r ≡ s
refusal_determined κs a r s e f p q = promised_one p q

pub write_letters_determined : (κs : Lifetimes.Lfts 2) (a : World.ArgsD write_letters.signature κs) (r s : World.ResD write_letters.signature κs) (e f : Clauses.AtExit (Fn.ended_of 2 write-letters-kinds.ps write-letters-kinds.r) κs)
    → write-letters-reads.Post κs a r e → write-letters-reads.Post κs a s f → (r ≡ s) × (e.1.1.0.now ≡ f.1.1.0.now)
write_letters_determined κs a r s e f p q = (marks_one r s (promised_one p.0 q.0), promised_one p.1 q.1)

pub check_key_determined : (κs : Lifetimes.Lfts 1) (a : World.ArgsD check_key.signature κs) (r s : World.ResD check_key.signature κs) (e f : Clauses.AtExit (Fn.ended_of 1 check-key-kinds.ps check-key-kinds.r) κs)
    → check-key-reads.Post κs a r e → check-key-reads.Post κs a s f → r ≡ s
check_key_determined κs a r s e f p q = marks_one r s (promised_one p q)

pub write_deposit_determined : (κs : Lifetimes.Lfts 2) (a : World.ArgsD write_deposit.signature κs) (r s : World.ResD write_deposit.signature κs) (e f : Clauses.AtExit (Fn.ended_of 2 write-deposit-kinds.ps write-deposit-kinds.r) κs)
    → write-deposit-reads.Post κs a r e → write-deposit-reads.Post κs a s f → (r ≡ s) × (e.1.1.1.1.0.now ≡ f.1.1.1.1.0.now)
write_deposit_determined κs a r s e f p q = (marks_one r s (promised_one p.0 q.0), promised_one p.1 q.1)
