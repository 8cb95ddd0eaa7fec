use Rattle.std.proofs.Common.{rules}
use Rattle.p10_syn.specs.BuiltStatements.{definition_of}
use Rattle.p10_elab.proofs.definitions.function_by_type.Goals as goal

pub returns-in-Some-Refused : goal.returns-in-Some-Refused
returns-in-Some-Refused c =
    let known = c.in_ok-refused_defined-in-Some-Refused.ensures (definition_of c.args.f.now) in
    search rules
