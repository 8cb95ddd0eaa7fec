-- A text that is that of no certificate of version 2.
use Rattle.std.proofs.Common.{◌≡◌, ℕ, List, Result, Ok, Err, IfOk, subst}
use Rattle.p10_cert.specs.declared.fault.CertFault.{CertFault}
use Rattle.p10_cert.specs.declared.sealed.Cert2.{Cert2}
use Rattle.p10_cert.specs.Reading.{ReadsAsSealed}
use Rattle.p10_cert.specs.Statements.{Statement}
use Rattle.p10_check.specs.Passes.{Standing}
use Rattle.p10_core.specs.Typed.{PlainProgram}
use Rattle.p10_rejudge.specs.declared.rejudging.Rejudgement.{Rejudgement}
use Rattle.p10_rejudge.specs.declared.rejudging.Rejudgement.TheVariants.{TooLong, BadOld, Judged}
use Rattle.p10_rejudge.specs.Rejudging.{Rejudges, TellsUnread}

told : {E : Type 0} (stands : Standing) (p : PlainProgram) (digests : List (List ℕ)) (outside : List ℕ) (new : Statement) (old : List ℕ) (r : Result Rejudgement E) → IfOk r (TellsUnread old) → IfOk r (Rejudges stands p digests outside new old)
told stands p digests outside new old (Err e) why = tt
told stands p digests outside new old (Ok TooLong) why = why
told stands p digests outside new old (Ok (BadOld line)) why = why
told stands p digests outside new old (Ok (Judged verdict passed)) why = absurd why

pub unread_told : {E : Type 0} (stands : Standing) (p : PlainProgram) (digests : List (List ℕ)) (outside : List ℕ) (new : Statement) (old : List ℕ) (read : Result Cert2 CertFault) (fault : CertFault) (r : Result Rejudgement E)
    → ReadsAsSealed old read → read ≡ Err fault → ((text : List ℕ) → ReadsAsSealed text (Err fault) → IfOk r (TellsUnread text)) → IfOk r (Rejudges stands p digests outside new old)
unread_told stands p digests outside new old read fault r reads is why = told stands p digests outside new old r (why old (subst (ReadsAsSealed old) is reads))
