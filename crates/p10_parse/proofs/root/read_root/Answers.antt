use Rattle.std.proofs.Common.{◌≡◌, ◌<◌, sym}
use Rattle.p10_base.specs.Words.{plain_words}
use Rattle.p10_parse.proofs.ListSteps.{added}
use Rattle.p10_parse.proofs.Reading.{reached_next, reached_end, reached_stuck, some_left, none_left, shorter}
use Rattle.p10_parse.proofs.root.read_root.Goals as goal

pub returns-in-Err-clause-fault : goal.returns-in-Err-clause-fault
returns-in-Err-clause-fault c = reached_stuck (plain_words c.args.words.now) _ _ _ _ c.loop-cursor.invariant (some_left _ (sym c.loop-cursor-test.ensures)) c.in-Err.ensures.fault

pub loop-cursor-smaller : goal.loop-cursor-smaller
loop-cursor-smaller c = shorter _ _ _ _ c.in-Ok.ensures.ok

pub loop-cursor-preserved : goal.loop-cursor-preserved
loop-cursor-preserved c = reached_next _ _ _ _ _ _ _ _ c.loop-cursor.invariant c.in-Ok.ensures.ok c.in-Ok.ensures.scope (sym (added _ _ _ _ c.in_ok-push_one.ensures))

pub returns-clause-read : goal.returns-clause-read
returns-clause-read c = reached_end (plain_words c.args.words.now) _ _ _ c.loop-cursor.invariant (none_left _ (sym c.loop-cursor-test.ensures))
