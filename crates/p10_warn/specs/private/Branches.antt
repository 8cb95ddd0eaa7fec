-- What stands in the second branch of an `if`, which may be lacking.
use Rattle.std.specs.Prelude.{List, [], Option, Some, None}
use Rattle.p10_base.specs.Words.{Text}
use Rattle.p10_core.specs.Typed.{PlainStatement, PlainObject, PlainVariable}
use Rattle.p10_warn.specs.Jumps.{LabelledBlock, blocks_in}
use Rattle.p10_warn.specs.Scopes.{ScopedDeclaration, declarations_in}

-- the blocks in it
abbrev pub blocks_in_branch : Option PlainStatement → List LabelledBlock
blocks_in_branch None = []
blocks_in_branch (Some s) = blocks_in [] s

-- the declarations in it
abbrev pub declarations_in_branch : List PlainObject → List PlainVariable → List Text → Option PlainStatement → List ScopedDeclaration
declarations_in_branch objects variables around None = []
declarations_in_branch objects variables around (Some s) = declarations_in objects variables around s
