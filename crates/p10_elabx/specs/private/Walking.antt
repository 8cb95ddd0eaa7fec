-- The parts of what is found in an expression that the walk makes in functions of their own.
use Rattle.std.specs.Prelude.{Bool, Some, Option}
use Rattle.p10_base.specs.declared.at.At.{At}
use Rattle.p10_syn.specs.Trees.{Identifier, Expressions, Parameter, parameter}
use Rattle.p10_core.specs.declared.typed.Library.{Library}
use Rattle.p10_core.specs.Types.{PlainType}
use Rattle.p10_elabx.specs.declared.allocations.Site.{Site}
use Rattle.p10_elabx.specs.declared.shape.Made.TheVariants as around
use Rattle.p10_elabx.specs.First.{Keep, Found, Judged}
use Rattle.p10_elabx.specs.Scopes.{PlainScope, named}
use Rattle.p10_elabx.specs.Operands.{PlainOperand}
use Rattle.p10_elabx.specs.Calls.{Callee, of_library, callee_of, library_wants, wants_of, wanted_of, no_arguments, call_judged, operand_call}
use Rattle.p10_elabx.specs.TypeNames.{Shape, name_place, parameter_judged, specifiers_judged}
use Rattle.p10_elabx.specs.Judging.{count_of, judge_arguments, judge_allocation, judge_declarator}

-- a call of a name where an operand is needed
abbrev pub named_call : Keep → PlainScope → At → Identifier At → Expressions At → Judged PlainOperand
named_call h s at f all =
    let callee : Callee = callee_of (named s f.name) f.name in
    operand_call h at callee (call_judged h at f.place callee (count_of all) (judge_arguments h s (wanted_of (wants_of callee) (count_of all)) 0 no_arguments all))

-- a call of a library function for memory
abbrev pub memory_call : Keep → PlainScope → Site → Library → Expressions At → Judged PlainOperand
memory_call h s site f all =
    call_judged h site.call_at site.name_at (of_library f) (count_of all) (judge_arguments h s (wanted_of (Some (library_wants f)) (count_of all)) 0 no_arguments all)

-- an allocation under a cast, with its call
abbrev pub allocation_call : Keep → PlainScope → Site → Judged Shape → Library → Expressions At → Judged PlainOperand
allocation_call h s site t f all = judge_allocation h s site t f (memory_call h s site f all) all

-- one parameter
abbrev pub one_parameter : Keep → PlainScope → Bool → Parameter At → Found (Option PlainType)
one_parameter h s alone (parameter at specifiers d) =
    parameter_judged h alone at d (judge_declarator h s (name_place at d) around.Nothing (specifiers_judged h s at specifiers) d)
