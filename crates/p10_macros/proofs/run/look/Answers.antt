use Rattle.p10_macros.specs.private.KnownMacros.{plain_known}
use Rattle.p10_macros.specs.Answers.{table_of}
use Rattle.p10_macros.proofs.Results.{on_ok_so, on_ok_both, if_err_so}
use Rattle.p10_macros.proofs.Moves.{moved_stays}
use Rattle.p10_macros.proofs.Beginnings.{at_use}
use Rattle.std.proofs.Common.{refl, sym}
use Rattle.p10_macros.proofs.run.look.Goals as goal

pub returns-in-None-clause-ok : goal.returns-in-None-clause-ok
returns-in-None-clause-ok c =
    on_ok_both c.put_done.result c.put_done.ensures.words c.put_done.ensures.done (λ words done.
    moved_stays (table_of c.args.macros.now) c.args.run.now c.put_done.new.run c.args.next.traced words done c.put_done.ensures.pending c.put_done.ensures.open c.put_done.ensures.origins c.put_done.ensures.left
    c.put_done.ensures.stop (sym c.in-None.ensures) c.args.next refl)

pub returns-in-Some-clause-ok : goal.returns-in-Some-clause-ok
returns-in-Some-clause-ok c =
    on_ok_so c.begin_use.result c.begin_use.ensures.ok (λ leads. λ state plays. leads (table_of c.args.macros.now) state
    (at_use (table_of c.args.macros.now) c.args.run.now (plain_known c.in-Some.known.now) c.args.next state (sym c.in-Some.ensures) plays))

pub returns-in-Some-clause-err : goal.returns-in-Some-clause-err
returns-in-Some-clause-err c =
    if_err_so c.begin_use.result c.begin_use.ensures.err (λ f comes. λ state plays. comes (table_of c.args.macros.now) state
    (at_use (table_of c.args.macros.now) c.args.run.now (plain_known c.in-Some.known.now) c.args.next state (sym c.in-Some.ensures) plays))
