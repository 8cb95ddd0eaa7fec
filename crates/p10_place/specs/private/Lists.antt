-- Lists of the code as the definitions see them.
use Rattle.std.specs.Prelude.{map, Vec, Box, Option, Some, None}
use Rattle.std.specs.declared.alloc.Global.{Global}
use Rattle.p10_base.specs.declared.at.At.{At}
use Rattle.p10_syn.specs.declared.tree.Expr.{Expr}
use Rattle.p10_syn.specs.declared.tree.Member.{Member}
use Rattle.p10_syn.specs.declared.tree.Field.{Field}
use Rattle.p10_syn.specs.declared.tree.Enumerator.{Enumerator}
use Rattle.p10_syn.specs.declared.tree.Parameter.{Parameter}
use Rattle.p10_syn.specs.declared.statement.Init.{Init}
use Rattle.p10_syn.specs.declared.statement.Stmt.{Stmt}
use Rattle.p10_syn.specs.Built.{expression_of, member_of, field_of, enumerator_of, parameter_of}
use Rattle.p10_syn.specs.BuiltStatements.{initializer_of, statement_of}
use Rattle.p10_syn.specs.Trees.{Expressions, Optional, Absent, Present, Members, Fields, Enumerators, Parameters, Initializers, Statements, expression_row, member_row, field_row, enumerator_row, parameter_row, initializer_row, statement_row}

-- arguments of a call, or operands of a comma operator
abbrev pub expressions_in : Vec Expr Global → Expressions At
expressions_in v = expression_row (map expression_of v.items)

-- an expression in a box, which may be left out
abbrev pub boxed_of : Option (Box Expr Global) → Optional At
boxed_of None = Absent
boxed_of (Some b) = Present (expression_of b.value)

-- the declarations in the body of a structure
abbrev pub members_in : Vec Member Global → Members At
members_in v = member_row (map member_of v.items)

-- what one declaration of members declares
abbrev pub fields_in : Vec Field Global → Fields At
fields_in v = field_row (map field_of v.items)

-- the constants of an enumeration
abbrev pub enumerators_in : Vec Enumerator Global → Enumerators At
enumerators_in v = enumerator_row (map enumerator_of v.items)

-- the parameters of a function's declarator
abbrev pub parameters_in : Vec Parameter Global → Parameters At
parameters_in v = parameter_row (map parameter_of v.items)

-- the initialisers between braces
abbrev pub initializers_in : Vec Init Global → Initializers At
initializers_in v = initializer_row (map initializer_of v.items)

-- the items of a block
abbrev pub statements_in : Vec Stmt Global → Statements At
statements_in v = statement_row (map statement_of v.items)
