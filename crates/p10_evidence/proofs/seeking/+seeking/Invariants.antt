use Rattle.std.proofs.Common.{◌≡◌, drop}
use Rattle.p10_core.specs.Views.{plain_statements}
use Rattle.p10_turns.specs.LoopParts.{loops_among}
use Rattle.p10_evidence.specs.private.Seeking.{sought}
use Rattle.p10_evidence.proofs.seeking.+seeking.Given as goal

abbrev pub invariant-seek_among-loop-s : goal.invariant-seek_among-loop-s
invariant-seek_among-loop-s l = sought (loops_among (plain_statements (drop l.s-index l.all))) l.left ≡ sought (loops_among (plain_statements l.all)) l.fn.number
