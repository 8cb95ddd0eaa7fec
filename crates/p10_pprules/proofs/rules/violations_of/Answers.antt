use Rattle.p10_pprules.proofs.Exact.{collected}
use Rattle.p10_pprules.proofs.rules.violations_of.Goals as goal

pub returns : goal.returns
returns c =
    collected _ _ _ _ _ _ _ _ _ c.as_slice-definitions.ensures.value c.as_slice.ensures.value c.in_ok-gathered.ensures c.in_ok-names.ensures.names c.in_ok-numbers.ensures
    c.new-violations.ensures.items c.in_ok-push_lines.ensures c.in_ok-push_definitions.ensures
