use Rattle.std.proofs.Common.{◌++◌, ap, ◌∙◌}
use Rattle.p10_cert.specs.Vars.{var_of}
use Rattle.p10_cert.proofs.PackingLaws.{same_packed, pushed, pushed_view}
use Rattle.p10_cert.proofs.var_ranges.VarRanges.push.Goals as goal

pub invariant_of-self : goal.invariant_of-self
invariant_of-self c = same_packed c.self.inside.count c.self.inside.last c.self.inside.bytes.items _ c.in_err-extend_from_slice.ensures.items c.self.invariant

pub invariant_of-self-2 : goal.invariant_of-self-2
invariant_of-self-2 c =
    pushed c.self.inside.count c.in-Some.count c.self.inside.last c.self.inside.bytes.items c.in_ok-bytes.bytes.items _ (var_of c.args.line) c.in-Some.ensures.1
    (c.in_ok-extend_from_slice.ensures.items ∙ ap (λ more. c.self.inside.bytes.items ++ more) c.as_slice.ensures.value) c.self.invariant c.in_ok-bytes.ensures

pub returns-clause-ok : goal.returns-clause-ok
returns-clause-ok c =
    pushed_view c.self.inside.count c.in-Some.count c.self.inside.last c.self.inside.bytes.items c.in_ok-bytes.bytes.items _ (var_of c.args.line) _ c.in-Some.ensures.1
    (c.in_ok-extend_from_slice.ensures.items ∙ ap (λ more. c.self.inside.bytes.items ++ more) c.as_slice.ensures.value) c.self.invariant c.in_ok-bytes.ensures c.self.view_is
