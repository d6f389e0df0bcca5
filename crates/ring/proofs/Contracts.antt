-- Whatever meets a public call's contract is the call that `specs/Calls` names: the theorems of the demands speak of the contracts, and of an
-- answer as it is told in 01's numbers (`specs/Told`).
-- `Post` is the contract itself, as the check reads it from the source: of the arguments, the answer, and what is lent at exit.
-- Assumes nothing.
use contract.Lifetimes
use borrow.Fn.World
use borrow.Fn.Kinds as Fn
use denote.Triple.Clauses
use Rattle.ring.specs.Calls.{CheckCall, FactorsCall, SuffixesCall, StartsCall, DuelCall, RepeatCall, MarkCall, WriteLettersCall, WriteKeyCall, KeyCall, CheckKeyCall, WriteDepositCall, CompareCall}
use Rattle.ring.specs.Told.{told_check, told_factors, told_duels, told_repeat, told_marks, told_compare}
use Rattle.ring.specs.contracts.judge.check
use Rattle.ring.proofs.judge.check.Kinds as check-kinds
use Rattle.ring.proofs.judge.check.Reads as check-reads
use Rattle.ring.specs.contracts.factor.factors
use Rattle.ring.proofs.factor.factors.Kinds as factors-kinds
use Rattle.ring.proofs.factor.factors.Reads as factors-reads
use Rattle.ring.specs.contracts.suffix.suffixes
use Rattle.ring.proofs.suffix.suffixes.Kinds as suffixes-kinds
use Rattle.ring.proofs.suffix.suffixes.Reads as suffixes-reads
use Rattle.ring.specs.contracts.start_table.starts
use Rattle.ring.proofs.start_table.starts.Kinds as starts-kinds
use Rattle.ring.proofs.start_table.starts.Reads as starts-reads
use Rattle.ring.specs.contracts.duels.duel
use Rattle.ring.proofs.duels.duel.Kinds as duel-kinds
use Rattle.ring.proofs.duels.duel.Reads as duel-reads
use Rattle.ring.specs.contracts.repeats.repeat
use Rattle.ring.proofs.repeats.repeat.Kinds as repeat-kinds
use Rattle.ring.proofs.repeats.repeat.Reads as repeat-reads
use Rattle.ring.specs.contracts.marking.mark
use Rattle.ring.proofs.marking.mark.Kinds as mark-kinds
use Rattle.ring.proofs.marking.mark.Reads as mark-reads
use Rattle.ring.specs.contracts.marking.write_letters
use Rattle.ring.proofs.marking.write_letters.Kinds as write-letters-kinds
use Rattle.ring.proofs.marking.write_letters.Reads as write-letters-reads
use Rattle.ring.specs.contracts.key_test.check_key
use Rattle.ring.proofs.key_test.check_key.Kinds as check-key-kinds
use Rattle.ring.proofs.key_test.check_key.Reads as check-key-reads
use Rattle.ring.specs.contracts.deposits.write_deposit
use Rattle.ring.proofs.deposits.write_deposit.Kinds as write-deposit-kinds
use Rattle.ring.proofs.deposits.write_deposit.Reads as write-deposit-reads
use Rattle.ring.specs.contracts.keys.write_key
use Rattle.ring.proofs.keys.write_key.Kinds as write-key-kinds
use Rattle.ring.proofs.keys.write_key.Reads as write-key-reads
use Rattle.ring.specs.contracts.keys.key
use Rattle.ring.proofs.keys.key.Kinds as key-kinds
use Rattle.ring.proofs.keys.key.Reads as key_reads
use Rattle.ring.specs.contracts.comparison.compare
use Rattle.ring.proofs.comparison.compare.Kinds as compare-kinds
use Rattle.ring.proofs.comparison.compare.Reads as compare-reads

pub check_call : (κs : Lifetimes.Lfts 1) (a : World.ArgsD check.signature κs) (r : World.ResD check.signature κs) (e : Clauses.AtExit (Fn.ended_of 1 check-kinds.ps check-kinds.r) κs)
    → check-reads.Post κs a r e → CheckCall a.0.now a.1.0 (told_check r)
check_call κs a r e p = record { answer = p }

pub factors_call : (κs : Lifetimes.Lfts 2) (a : World.ArgsD factors.signature κs) (r : World.ResD factors.signature κs) (e : Clauses.AtExit (Fn.ended_of 2 factors-kinds.ps factors-kinds.r) κs)
    → factors-reads.Post κs a r e → FactorsCall a.0.now a.1.0 a.1.1.0.now (told_factors r) e.1.1.0.now
factors_call κs a r e p = record { answer = p.0; leaves = p.1 }

pub suffixes_call : (κs : Lifetimes.Lfts 2) (a : World.ArgsD suffixes.signature κs) (r : World.ResD suffixes.signature κs) (e : Clauses.AtExit (Fn.ended_of 2 suffixes-kinds.ps suffixes-kinds.r) κs)
    → suffixes-reads.Post κs a r e → SuffixesCall a.0.now a.1.0 a.1.1.0.now (told_check r) e.1.1.0.now
suffixes_call κs a r e p = record { answer = p.0; leaves = p.1 }

pub starts_call : (κs : Lifetimes.Lfts 2) (a : World.ArgsD starts.signature κs) (r : World.ResD starts.signature κs) (e : Clauses.AtExit (Fn.ended_of 2 starts-kinds.ps starts-kinds.r) κs)
    → starts-reads.Post κs a r e → StartsCall a.0.now a.1.0 a.1.1.0.now (told_check r) e.1.1.0.now
starts_call κs a r e p = record { answer = p.0; leaves = p.1 }

pub duel_call : (κs : Lifetimes.Lfts 1) (a : World.ArgsD duel.signature κs) (r : World.ResD duel.signature κs) (e : Clauses.AtExit (Fn.ended_of 1 duel-kinds.ps duel-kinds.r) κs)
    → duel-reads.Post κs a r e → DuelCall a.0.now a.1.0 (told_duels r)
duel_call κs a r e p = record { answer = p }

pub repeat_call : (κs : Lifetimes.Lfts 1) (a : World.ArgsD repeat.signature κs) (r : World.ResD repeat.signature κs) (e : Clauses.AtExit (Fn.ended_of 1 repeat-kinds.ps repeat-kinds.r) κs)
    → repeat-reads.Post κs a r e → RepeatCall a.0.now a.1.0 (told_repeat r)
repeat_call κs a r e p = record { answer = p }

pub mark_call : (κs : Lifetimes.Lfts 1) (a : World.ArgsD mark.signature κs) (r : World.ResD mark.signature κs) (e : Clauses.AtExit (Fn.ended_of 1 mark-kinds.ps mark-kinds.r) κs)
    → mark-reads.Post κs a r e → MarkCall a.0.now a.1.0 (told_marks r)
mark_call κs a r e p = record { answer = p }

pub write_key_call : (κs : Lifetimes.Lfts 3) (a : World.ArgsD write_key.signature κs) (r : World.ResD write_key.signature κs) (e : Clauses.AtExit (Fn.ended_of 3 write-key-kinds.ps write-key-kinds.r) κs)
    → write-key-reads.Post κs a r e → WriteKeyCall a.0.now a.1.0 a.1.1.0.now a.1.1.1.0.now (told_marks r) e.1.1.0.now e.1.1.1.0.now
write_key_call κs a r e p = record { answer = p.0; front = p.1.0; back = p.1.1 }

pub key_call : (κs : Lifetimes.Lfts 2) (a : World.ArgsD key.signature κs) (r : World.ResD key.signature κs) (e : Clauses.AtExit (Fn.ended_of 2 key-kinds.ps key-kinds.r) κs)
    → key_reads.Post κs a r e → KeyCall a.0.now a.1.0 a.1.1.0.now a.1.1.1.0.now a.1.1.0.ref_ptr a.1.1.1.0.ref_ptr r.now r.ref_ptr
key_call κs a r e p = record { is = p.0; stands = p.1 }

pub compare_call : (κs : Lifetimes.Lfts 2) (a : World.ArgsD compare.signature κs) (r : World.ResD compare.signature κs) (e : Clauses.AtExit (Fn.ended_of 2 compare-kinds.ps compare-kinds.r) κs)
    → compare-reads.Post κs a r e → CompareCall a.0.now a.1.0.now a.1.1.0 (told_compare r)
compare_call κs a r e p = record { answer = p }

pub write_letters_call : (κs : Lifetimes.Lfts 2) (a : World.ArgsD write_letters.signature κs) (r : World.ResD write_letters.signature κs) (e : Clauses.AtExit (Fn.ended_of 2 write-letters-kinds.ps write-letters-kinds.r) κs)
    → write-letters-reads.Post κs a r e → WriteLettersCall a.0.now a.1.0 a.1.1.0.now (told_marks r) e.1.1.0.now
write_letters_call κs a r e p = record { answer = p.0; leaves = p.1 }

pub check_key_call : (κs : Lifetimes.Lfts 1) (a : World.ArgsD check_key.signature κs) (r : World.ResD check_key.signature κs) (e : Clauses.AtExit (Fn.ended_of 1 check-key-kinds.ps check-key-kinds.r) κs)
    → check-key-reads.Post κs a r e → CheckKeyCall a.0.now a.1.0 a.1.1.0 a.1.1.1.0 (told_marks r)
check_key_call κs a r e p = record { answer = p }

pub write_deposit_call : (κs : Lifetimes.Lfts 2) (a : World.ArgsD write_deposit.signature κs) (r : World.ResD write_deposit.signature κs) (e : Clauses.AtExit (Fn.ended_of 2 write-deposit-kinds.ps write-deposit-kinds.r) κs)
    → write-deposit-reads.Post κs a r e → WriteDepositCall a.0.now a.1.0 a.1.1.0 a.1.1.1.0 a.1.1.1.1.0.now (told_marks r) e.1.1.1.1.0.now
write_deposit_call κs a r e p = record { answer = p.0; leaves = p.1 }
