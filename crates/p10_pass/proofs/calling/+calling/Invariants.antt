use Rattle.std.proofs.Common.{◌≡◌, drop}
use Rattle.p10_core.specs.Views.{plain_values}
use Rattle.p10_pass.specs.private.Calling.{has_call_among}
use Rattle.p10_pass.proofs.calling.+calling.Given as goal

-- what is left decides what the whole decides
abbrev pub invariant-has_call_among-loop-v : goal.invariant-has_call_among-loop-v
invariant-has_call_among-loop-v l = has_call_among (plain_values (drop l.v-index l.all)) ≡ has_call_among (plain_values l.all)
