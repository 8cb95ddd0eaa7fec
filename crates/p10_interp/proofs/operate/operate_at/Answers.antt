-- Each operation is done by its own function.
use Rattle.std.proofs.Common.{◌∷◌, subst}
use Rattle.p10_core.specs.Types.{plain_type}
use Rattle.p10_core.specs.Views.{plain_program}
use Rattle.p10_interp.specs.private.Tasks.{call_library}
use Rattle.p10_interp.specs.private.Operations.{done_by}
use Rattle.p10_interp.specs.private.Views.{Answers, left_with}
use Rattle.p10_interp.specs.private.OpenCalls.{calls_in}
use Rattle.p10_interp.specs.private.Machines.{state_of}
use Rattle.p10_interp.proofs.Operated.{done_as, done_kept}
use Rattle.p10_interp.proofs.operate.operate_at.Goals as goal

pub returns-in-ReadAt-clause-done : goal.returns-in-ReadAt-clause-done
returns-in-ReadAt-clause-done c = λ io f calls e. done_as (plain_program c.args.p.now) _ _ _ _ _ _ _ _ c.in-ReadAt.is (c.read.ensures.done (plain_program c.args.p.now) io f calls e)

pub returns-in-DecayAt-clause-done : goal.returns-in-DecayAt-clause-done
returns-in-DecayAt-clause-done c = λ io f calls e. done_kept (plain_program c.args.p.now) _ _ _ _ _ _ _ _ _ c.in-DecayAt.is e (c.decay.ensures io (f ∷ calls))

pub returns-in-IndexAt-clause-done : goal.returns-in-IndexAt-clause-done
returns-in-IndexAt-clause-done c = λ io f calls e. done_kept (plain_program c.args.p.now) _ _ _ _ _ _ _ _ _ c.in-IndexAt.is e (c.index.ensures (plain_program c.args.p.now) io (f ∷ calls))

pub returns-in-DereferenceAt-clause-done : goal.returns-in-DereferenceAt-clause-done
returns-in-DereferenceAt-clause-done c = λ io f calls e. done_kept (plain_program c.args.p.now) _ _ _ _ _ _ _ _ _ c.in-DereferenceAt.is e (c.dereference.ensures (plain_program c.args.p.now) io (f ∷ calls))

pub returns-in-WriteAt-clause-done : goal.returns-in-WriteAt-clause-done
returns-in-WriteAt-clause-done c = λ io f calls e. done_as (plain_program c.args.p.now) _ _ _ _ _ _ _ _ c.in-WriteAt.is (c.write.ensures.done (plain_program c.args.p.now) io f calls e)

pub returns-in-ReadOld-clause-done : goal.returns-in-ReadOld-clause-done
returns-in-ReadOld-clause-done c = λ io f calls e. done_as (plain_program c.args.p.now) _ _ _ _ _ _ _ _ c.in-ReadOld.is (c.read_old.ensures.done (plain_program c.args.p.now) io f calls e)

pub returns-in-WriteNew-clause-done : goal.returns-in-WriteNew-clause-done
returns-in-WriteNew-clause-done c = λ io f calls e. done_as (plain_program c.args.p.now) _ _ _ _ _ _ _ _ c.in-WriteNew.is (c.write_new.ensures.done (plain_program c.args.p.now) io f calls e)

pub returns-in-CallLibrary-clause-done : goal.returns-in-CallLibrary-clause-done
returns-in-CallLibrary-clause-done c = λ io f calls e.
    done_as (plain_program c.args.p.now) _ _ _ _ _ _ _ _ c.in-CallLibrary.is
    (subst (λ cs. Answers (done_by (plain_program c.args.p.now) (call_library c.in-CallLibrary.function c.in-CallLibrary.span (plain_type c.in-CallLibrary.t.now) c.in-CallLibrary.count) c.args.stacks.now.operands cs (state_of c.args.outside.now io)) c.call_library.result (left_with c.call_library.new.stacks.operands (calls_in c.call_library.new.stacks.calls)) (state_of c.call_library.new.outside io)) e
    (c.call_library.ensures.done io))

pub returns-in-MemberAt-clause-done : goal.returns-in-MemberAt-clause-done
returns-in-MemberAt-clause-done c = λ io f calls e. done_kept (plain_program c.args.p.now) _ _ _ _ _ _ _ _ _ c.in-MemberAt.is e (c.member.ensures io (f ∷ calls))

pub returns-in-FillFrom-clause-done : goal.returns-in-FillFrom-clause-done
returns-in-FillFrom-clause-done c = λ io f calls e. done_as (plain_program c.args.p.now) _ _ _ _ _ _ _ _ c.in-FillFrom.is (c.fill.ensures.done io f calls e)
