-- Labels before statements.
use Rattle.std.specs.Prelude.{Bool, if◌then◌else◌}
use Rattle.p10_base.specs.declared.at.At.{At}
use Rattle.p10_core.specs.Typed.{PlainStatement}
use Rattle.p10_elabx.specs.First.{Keep}
use Rattle.p10_elabs.specs.Locals.{Done}
use Rattle.p10_elabs.specs.Statements.{refused_statement}

-- a label, where it may stand or may not
abbrev pub labelled_where : Keep → Bool → At → Done PlainStatement → Done PlainStatement
labelled_where h may at d = if may then d else refused_statement h at d
