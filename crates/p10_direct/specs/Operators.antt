-- The operators of a condition, their spelling and how tightly they bind (C99 6.5.3.3, 6.5.5 to 6.5.14).
use Rattle.std.specs.Prelude.{ℕ, codes}
use Rattle.p10_int.specs.declared.operators.BinOp.TheVariants.{Add, Sub, Mul, Div, Rem, Shl, Shr, And, Or, Xor, Lt, Gt, Le, Ge, Eq, Ne}
use Rattle.p10_int.specs.declared.operators.UnOp.{UnOp}
use Rattle.p10_int.specs.declared.operators.UnOp.TheVariants.{Plus, Neg, Not, Com}
use Rattle.p10_direct.specs.declared.operator.Binary.{Binary}
use Rattle.p10_direct.specs.declared.operator.Binary.TheVariants.{Apply, AndAlso, OrElse}
use Rattle.p10_base.specs.Words.{Text}

-- the spelling of an operator before its operand
abbrev pub sign_text : UnOp → Text
sign_text Plus = codes "+"
sign_text Neg = codes "-"
sign_text Com = codes "~"
sign_text Not = codes "!"

-- the spelling of an operator between its operands
abbrev pub binary_text : Binary → Text
binary_text OrElse = codes "||"
binary_text AndAlso = codes "&&"
binary_text (Apply Or) = codes "|"
binary_text (Apply Xor) = codes "^"
binary_text (Apply And) = codes "&"
binary_text (Apply Eq) = codes "=="
binary_text (Apply Ne) = codes "!="
binary_text (Apply Lt) = codes "<"
binary_text (Apply Gt) = codes ">"
binary_text (Apply Le) = codes "<="
binary_text (Apply Ge) = codes ">="
binary_text (Apply Shl) = codes "<<"
binary_text (Apply Shr) = codes ">>"
binary_text (Apply Add) = codes "+"
binary_text (Apply Sub) = codes "-"
binary_text (Apply Mul) = codes "*"
binary_text (Apply Div) = codes "/"
binary_text (Apply Rem) = codes "%"

-- how tightly it binds: `||` least, `*`, `/` and `%` most
abbrev pub level_of_binary : Binary → ℕ
level_of_binary OrElse = 1
level_of_binary AndAlso = 2
level_of_binary (Apply Or) = 3
level_of_binary (Apply Xor) = 4
level_of_binary (Apply And) = 5
level_of_binary (Apply Eq) = 6
level_of_binary (Apply Ne) = 6
level_of_binary (Apply Lt) = 7
level_of_binary (Apply Gt) = 7
level_of_binary (Apply Le) = 7
level_of_binary (Apply Ge) = 7
level_of_binary (Apply Shl) = 8
level_of_binary (Apply Shr) = 8
level_of_binary (Apply Add) = 9
level_of_binary (Apply Sub) = 9
level_of_binary (Apply Mul) = 10
level_of_binary (Apply Div) = 10
level_of_binary (Apply Rem) = 10
