-- Parts of the code's trees as the definitions see them.
use Rattle.std.specs.Prelude.{List, map, Vec, Box, Option, Some, None}
use Rattle.std.specs.declared.alloc.Global.{Global}
use Rattle.p10_base.specs.declared.at.At.{At}
use Rattle.p10_syn.specs.declared.tree.Expr.{Expr}
use Rattle.p10_syn.specs.Trees.{Optional, Absent, Present}
use Rattle.p10_syn.specs.Built.{identifier_of, expression_of, declarator_of}
use Rattle.p10_syn.specs.BuiltStatements.{statement_of}
use Rattle.p10_synrules.specs.Parts.{Part, ExpressionPart, DeclaratorPart, StatementPart, NamePart}
use Rattle.p10_synrules.specs.declared.part.Part as part
use Rattle.p10_synrules.specs.declared.part.Part.TheVariants as kind

-- a part of a tree of the code
abbrev pub plain_part : part.Part → Part
plain_part (kind.Expression within e) = ExpressionPart within (expression_of e.now)
plain_part (kind.Declarator typedef d) = DeclaratorPart typedef (declarator_of d.now)
plain_part (kind.Statement s) = StatementPart (statement_of s.now)
plain_part (kind.Name x) = NamePart (identifier_of x)

-- parts of trees of the code
abbrev pub plain_parts : Vec part.Part Global → List Part
plain_parts parts = map plain_part parts.items

-- an expression in a box, which may be left out
abbrev pub boxed_of : Option (Box Expr Global) → Optional At
boxed_of None = Absent
boxed_of (Some b) = Present (expression_of b.value)
