-- The operator that a word is.
use Rattle.std.specs.Prelude.{Option, Some, None, codes, if◌then◌else◌, Bool, ◌&&◌, bytes_eq}
use Rattle.p10_int.specs.declared.operators.BinOp.TheVariants.{Add, Sub, Mul, Div, Rem, Shl, Shr, And, Or, Xor, Lt, Gt, Le, Ge, Eq, Ne}
use Rattle.p10_int.specs.declared.operators.UnOp.{UnOp}
use Rattle.p10_int.specs.declared.operators.UnOp.TheVariants.{Plus, Neg, Not, Com}
use Rattle.p10_direct.specs.declared.operator.Binary.{Binary}
use Rattle.p10_direct.specs.declared.operator.Binary.TheVariants.{Apply, AndAlso, OrElse}
use Rattle.p10_base.specs.Words.{Text, is_punctuator_kind}
use Rattle.p10_direct.specs.Tokens.{Token}

-- whether it is this punctuator
abbrev pub is_mark : Text → Token → Bool
is_mark text token = is_punctuator_kind token.kind && bytes_eq token.text text

-- the operator that a word is before an operand
unfoldable pub sign_of : Token → Option UnOp
sign_of token =
    if is_mark (codes "+") token then Some Plus
    else if is_mark (codes "-") token then Some Neg
    else if is_mark (codes "~") token then Some Com
    else if is_mark (codes "!") token then Some Not
    else None

-- the logical or bitwise operator that a word is between two operands (C99 6.5.10 to 6.5.14)
unfoldable pub logical_of : Token → Option Binary
logical_of token =
    if is_mark (codes "||") token then Some OrElse
    else if is_mark (codes "&&") token then Some AndAlso
    else if is_mark (codes "|") token then Some (Apply Or)
    else if is_mark (codes "^") token then Some (Apply Xor)
    else if is_mark (codes "&") token then Some (Apply And)
    else None

-- the relational or equality operator that it is (C99 6.5.8, 6.5.9)
unfoldable pub comparison_of : Token → Option Binary
comparison_of token =
    if is_mark (codes "==") token then Some (Apply Eq)
    else if is_mark (codes "!=") token then Some (Apply Ne)
    else if is_mark (codes "<") token then Some (Apply Lt)
    else if is_mark (codes ">") token then Some (Apply Gt)
    else if is_mark (codes "<=") token then Some (Apply Le)
    else if is_mark (codes ">=") token then Some (Apply Ge)
    else None

-- the shift, additive or multiplicative operator that it is (C99 6.5.5 to 6.5.7)
unfoldable pub arithmetical_of : Token → Option Binary
arithmetical_of token =
    if is_mark (codes "<<") token then Some (Apply Shl)
    else if is_mark (codes ">>") token then Some (Apply Shr)
    else if is_mark (codes "+") token then Some (Apply Add)
    else if is_mark (codes "-") token then Some (Apply Sub)
    else if is_mark (codes "*") token then Some (Apply Mul)
    else if is_mark (codes "/") token then Some (Apply Div)
    else if is_mark (codes "%") token then Some (Apply Rem)
    else None

-- the first operator, or the other one where there is no first
abbrev pub or_other : Option Binary → Option Binary → Option Binary
or_other (Some op) other = Some op
or_other None other = other

-- the operator that a word is between two operands
unfoldable pub binary_of : Token → Option Binary
binary_of token = or_other (logical_of token) (or_other (comparison_of token) (arithmetical_of token))
