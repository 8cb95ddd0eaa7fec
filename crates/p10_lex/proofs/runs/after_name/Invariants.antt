use Rattle.std.proofs.Common.{◌≡◌, length}
use Rattle.p10_lex.specs.Bytes.{is_name_byte}
use Rattle.p10_lex.specs.private.Runs.{after_run}
use Rattle.p10_lex.proofs.runs.after_name.Given as goal

abbrev pub invariant-loop-rest : goal.invariant-loop-rest
invariant-loop-rest l = after_run is_name_byte l.rest ≡ after_run is_name_byte l.text

abbrev pub decreases-loop-rest : goal.decreases-loop-rest
decreases-loop-rest l = length l.rest
