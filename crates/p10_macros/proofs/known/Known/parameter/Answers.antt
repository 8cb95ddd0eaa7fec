use Rattle.std.proofs.Common.{None, ◌∙◌}
use Rattle.p10_macros.specs.private.KnownMacros.{plain_known}
use Rattle.p10_macros.proofs.ByParameter.{parameter_at}
use Rattle.p10_macros.proofs.known.Known.parameter.Goals as goal

pub returns-in-Some : goal.returns-in-Some
returns-in-Some c = λ none.
    let (less, there) = c.in-Some.ensures.lookup.3 in
    parameter_at (plain_known c.args.self.now).parameters c.args.self.now.made.body.now c.deref.result.now c.args.place c.in-Some.parameter.now none
    (c.deref.ensures.value ∙ c.args.self.now.placed) less (there None)
