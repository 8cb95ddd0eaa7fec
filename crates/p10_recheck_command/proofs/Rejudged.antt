-- What the texts of both certificates come to, by what is read of them.
use Rattle.std.proofs.Common.{◌≡◌, ◌∙◌, ℕ, List, map, refl, sym, ap, subst, Option, Some, None, Result, Ok, Err, IfOk}
use Rattle.p10_base.specs.declared.digest.Digests.{Digests}
use Rattle.p10_core.specs.Typed.{PlainProgram}
use Rattle.p10_cert.specs.declared.fault.CertFault.{CertFault}
use Rattle.p10_cert.specs.declared.sealed.Cert2.{Cert2}
use Rattle.p10_cert.specs.declared.sealed.Section.{Section as CodeSection}
use Rattle.p10_cert.specs.Reading.{ReadsAsSealed}
use Rattle.p10_cert.specs.Sealed.{bytes_of, section_of, statement_of}
use Rattle.p10_cert.specs.Statements.{Statement, is_there}
use Rattle.p10_cert.proofs.TextLaws.{text_tells_statement}
use Rattle.p10_check.specs.Texts.{digests_of}
use Rattle.p10_check.proofs.TextVerdicts.{never_wrong}
use Rattle.p10_diff.specs.Evidence.{Rank, stands_by_differences}
use Rattle.p10_turns.specs.Evidence.{stands_by_ranges}
use Rattle.p10_diff_evidence.specs.declared.evidence.DiffEvidence.{DiffEvidence}
use Rattle.p10_diff_evidence.specs.Placing.{IsBad, no_line, no_rank}
use Rattle.p10_diff_evidence.specs.Reading.{ranks_in}
use Rattle.p10_diff_evidence.specs.Standing.{standing_by}
use Rattle.p10_front.specs.Digests.{plain_digests}
use Rattle.p10_judge.specs.declared.ranks.Ranks.{Ranks}
use Rattle.p10_judge.specs.declared.ranks.Ranks.TheVariants.{Bad, Absent, Listed}
use Rattle.p10_judge.specs.Ranks.{AreFound, HasSections, SayRanks}
use Rattle.p10_rejudge.specs.declared.rejudging.Rejudgement.{Rejudgement}
use Rattle.p10_rejudge.specs.declared.rejudging.Rejudgement.TheVariants as said
use Rattle.p10_rejudge.specs.Rejudging.{Rejudges}
use Rattle.p10_recheck_command.specs.declared.rechecking.Rechecking.{Rechecking}
use Rattle.p10_recheck_command.specs.declared.rechecking.Rechecking.TheVariants.{TooLong, BadCertificate, OldTooLong, BadOld, Judged}
use Rattle.p10_recheck_command.specs.Rechecking as both
use Rattle.p10_recheck_command.specs.Rechecking.{IsBadSealed, IsNewCertificate, IsNoNewCertificate, Rechecks}
use Rattle.p10_recheck_command.specs.private.Judging.{IsUnread, rechecking_by}

-- ## The new text

pub has_sections : (new : List ℕ) (c : Cert2) (sections : List CodeSection) → ReadsAsSealed new (Ok c) → sections ≡ c.sections → HasSections new (map section_of sections)
has_sections new c sections reads same = record { statement = statement_of c; good = reads.2; exact = reads.1; are = ap (map section_of) same }

told : {E : Type 0} (p : PlainProgram) (found : Digests) (new old : List ℕ) (r : Result Rechecking E) → IfOk r (IsUnread new) → IfOk r (Rechecks p (plain_digests found) new old)
told p found new old (Err e) why = tt
told p found new old (Ok TooLong) why = why
told p found new old (Ok (BadCertificate line)) why = why
told p found new old (Ok OldTooLong) why = absurd why
told p found new old (Ok (BadOld line)) why = absurd why
told p found new old (Ok (Judged judgement passed)) why = absurd why

-- it isn't read
pub unread_told : {E : Type 0} (p : PlainProgram) (found : Digests) (new old : List ℕ) (read : Result Cert2 CertFault) (fault : CertFault) (r : Result Rechecking E)
    → ReadsAsSealed new read → read ≡ Err fault → ((text : List ℕ) → ReadsAsSealed text (Err fault) → IfOk r (IsUnread text)) → IfOk r (Rechecks p (plain_digests found) new old)
unread_told p found new old read fault r reads is why = told p found new old r (why new (subst (ReadsAsSealed new) is reads))

-- one of its ranks has another form
bad_sealed : (new : List ℕ) (c : Cert2) (line : ℕ) → ReadsAsSealed new (Ok c) → IsBad new line → IsBadSealed new line
bad_sealed new c line reads (no_line wrong) = absurd (never_wrong new line (statement_of c) reads.2 reads.1 wrong)
bad_sealed new c line reads (no_rank s good exact other) =
    let same : s ≡ statement_of c = text_tells_statement s (statement_of c) good reads.2 (sym exact ∙ reads.1) in
    both.no_rank s (record { short = reads.0.short; good = good; sealed = ap (λ (t : Statement). is_there t.ending.outside) same; exact = exact }) other

pub bad_new : (new : List ℕ) (c : Cert2) (ranks : Ranks) (line : ℕ) → ReadsAsSealed new (Ok c) → ranks ≡ Bad line → AreFound new ranks → IsNoNewCertificate new line
bad_new new c ranks line reads is found = record { short = reads.0.short; wrong = bad_sealed new c line reads (subst (AreFound new) is found) }

-- its ranks have their form
is_read : (new : List ℕ) (c : Cert2) (ranks : Option (List Rank)) → ReadsAsSealed new (Ok c) → SayRanks new ranks → IsNewCertificate new (statement_of c)
is_read new c ranks reads say = record {
  text = record { short = reads.0.short; good = reads.2; sealed = refl; exact = reads.1 };
  ranked = record { ranks = ranks; are = say (statement_of c) reads.2 reads.1 };
}

-- ## The old text

rechecked : (p : PlainProgram) (found : Digests) (new old : List ℕ) (c : Cert2) (ranks : Option (List Rank)) (r : Rejudgement) → ReadsAsSealed new (Ok c) → SayRanks new ranks
    → Rejudges (standing_by p ranks) p (digests_of found) (bytes_of found.outside) (statement_of c) old r → Rechecks p (plain_digests found) new old (rechecking_by r)
unfolding is_read
rechecked p found new old c ranks said.TooLong reads say long = (statement_of c, is_read new c ranks reads say, long)
rechecked p found new old c ranks (said.BadOld line) reads say bad = (statement_of c, is_read new c ranks reads say, bad)
rechecked p found new old c ranks (said.Judged verdict passed) reads say (s, text, is) =
    record { after = statement_of c; is_new = is_read new c ranks reads say; before = s; is_old = text; verdict = verdict; is = is; told = refl }

pub absent_rechecked : (p : PlainProgram) (found : Digests) (new old : List ℕ) (c : Cert2) (ranks : Ranks) (r : Rejudgement) → ReadsAsSealed new (Ok c) → ranks ≡ Absent → AreFound new ranks
    → Rejudges (stands_by_ranges p) p (digests_of found) (bytes_of found.outside) (statement_of c) old r → Rechecks p (plain_digests found) new old (rechecking_by r)
absent_rechecked p found new old c ranks r reads is say judges = rechecked p found new old c None r reads (subst (AreFound new) is say) judges

pub listed_rechecked : (p : PlainProgram) (found : Digests) (new old : List ℕ) (c : Cert2) (ranks : Ranks) (e : DiffEvidence) (r : Rejudgement) → ReadsAsSealed new (Ok c) → ranks ≡ Listed e → AreFound new ranks
    → Rejudges (stands_by_differences (ranks_in e) p) p (digests_of found) (bytes_of found.outside) (statement_of c) old r → Rechecks p (plain_digests found) new old (rechecking_by r)
listed_rechecked p found new old c ranks e r reads is say judges = rechecked p found new old c (Some (ranks_in e)) r reads (subst (AreFound new) is say) judges
