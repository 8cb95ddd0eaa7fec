use Rattle.std.proofs.Common.{map}
use Rattle.std.proofs.lemmas.Result.{IfOk-weaker}
use Rattle.p10_core.specs.Views.{plain_statement}
use Rattle.p10_cert.specs.Claims.{loop_of}
use Rattle.p10_pass.specs.Scopes.{assigns}
use Rattle.p10_pass.specs.Leaving.{failing_of, left_of}
use Rattle.p10_pass.specs.Manners.{manner_by}
use Rattle.p10_pass.specs.Rounds.{round_by}
use Rattle.p10_pass.proofs.Restoring.{loop_closed}
use Rattle.p10_pass.proofs.loops.loop_left.Goals as goal

pub returns : goal.returns
returns c =
    IfOk-weaker _ _ _ (λ l is. loop_closed (manner_by c.args.m.now) (loop_of c.args.claim.now) c.args.head (λ n. assigns n (plain_statement c.args.s.now)) c.args.entry.values (round_by c.args.round) (round_by c.restore.new.round)
    c.in_ok-judged.judged.enters c.in_ok-judged.judged.goes_back (map failing_of c.in_ok-judged.judged.fails.items) (left_of l)
    c.in_ok-judged.ensures.enters c.in_ok-judged.ensures.goes_back c.in_ok-judged.ensures.fails c.in_ok-restore.ensures is) c.after_loop.ensures
