-- Keywords and punctuators, and how each is written.
use Rattle.std.specs.Prelude.{ℕ, List, [], ◌∷◌, Bool, eqb, bytes_eq, Option, Some, None, cond, codes}
use Rattle.p10_base.specs.Words.{Text}
use Rattle.p10_syn.specs.declared.sign.Sign.{Sign}
use Rattle.p10_syn.specs.declared.sign.Sign.TheVariants as sign

-- how a keyword (C99 6.4.1) or a punctuator (C99 6.4.6) is written
unfoldable pub spelling : Sign → Text
spelling sign.Auto = codes "auto"
spelling sign.Break = codes "break"
spelling sign.Case = codes "case"
spelling sign.Char = codes "char"
spelling sign.Const = codes "const"
spelling sign.Continue = codes "continue"
spelling sign.Default = codes "default"
spelling sign.Do = codes "do"
spelling sign.Double = codes "double"
spelling sign.Else = codes "else"
spelling sign.Enum = codes "enum"
spelling sign.Extern = codes "extern"
spelling sign.Float = codes "float"
spelling sign.For = codes "for"
spelling sign.Goto = codes "goto"
spelling sign.If = codes "if"
spelling sign.Inline = codes "inline"
spelling sign.Int = codes "int"
spelling sign.Long = codes "long"
spelling sign.Register = codes "register"
spelling sign.Restrict = codes "restrict"
spelling sign.Return = codes "return"
spelling sign.Short = codes "short"
spelling sign.Signed = codes "signed"
spelling sign.Sizeof = codes "sizeof"
spelling sign.Static = codes "static"
spelling sign.Struct = codes "struct"
spelling sign.Switch = codes "switch"
spelling sign.Typedef = codes "typedef"
spelling sign.Union = codes "union"
spelling sign.Unsigned = codes "unsigned"
spelling sign.Void = codes "void"
spelling sign.Volatile = codes "volatile"
spelling sign.While = codes "while"
spelling sign.Bool = codes "_Bool"
spelling sign.Complex = codes "_Complex"
spelling sign.Imaginary = codes "_Imaginary"
spelling sign.OpenSquare = codes "["
spelling sign.CloseSquare = codes "]"
spelling sign.Open = codes "("
spelling sign.Close = codes ")"
spelling sign.OpenBrace = codes "{"
spelling sign.CloseBrace = codes "}"
spelling sign.Dot = codes "."
spelling sign.Arrow = codes "->"
spelling sign.Increment = codes "++"
spelling sign.Decrement = codes "--"
spelling sign.And = codes "&"
spelling sign.Star = codes "*"
spelling sign.Plus = codes "+"
spelling sign.Minus = codes "-"
spelling sign.Tilde = codes "~"
spelling sign.Not = codes "!"
spelling sign.Slash = codes "/"
spelling sign.Percent = codes "%"
spelling sign.ShiftLeft = codes "<<"
spelling sign.ShiftRight = codes ">>"
spelling sign.Less = codes "<"
spelling sign.Greater = codes ">"
spelling sign.LessEqual = codes "<="
spelling sign.GreaterEqual = codes ">="
spelling sign.Equal = codes "=="
spelling sign.NotEqual = codes "!="
spelling sign.Caret = codes "^"
spelling sign.Bar = codes "|"
spelling sign.AndAnd = codes "&&"
spelling sign.OrOr = codes "||"
spelling sign.Question = codes "?"
spelling sign.Colon = codes ":"
spelling sign.Semicolon = codes ";"
spelling sign.Ellipsis = codes "..."
spelling sign.Assign = codes "="
spelling sign.StarAssign = codes "*="
spelling sign.SlashAssign = codes "/="
spelling sign.PercentAssign = codes "%="
spelling sign.PlusAssign = codes "+="
spelling sign.MinusAssign = codes "-="
spelling sign.ShiftLeftAssign = codes "<<="
spelling sign.ShiftRightAssign = codes ">>="
spelling sign.AndAssign = codes "&="
spelling sign.CaretAssign = codes "^="
spelling sign.BarAssign = codes "|="
spelling sign.Comma = codes ","
spelling sign.Hash = codes "#"
spelling sign.HashHash = codes "##"

-- the keywords of C99 (6.4.1)
unfoldable pub keywords : List Sign
keywords =
    sign.Auto ∷ sign.Break ∷ sign.Case ∷ sign.Char ∷ sign.Const ∷ sign.Continue ∷ sign.Default ∷ sign.Do ∷
    sign.Double ∷ sign.Else ∷ sign.Enum ∷ sign.Extern ∷ sign.Float ∷ sign.For ∷ sign.Goto ∷ sign.If ∷
    sign.Inline ∷ sign.Int ∷ sign.Long ∷ sign.Register ∷ sign.Restrict ∷ sign.Return ∷ sign.Short ∷ sign.Signed ∷
    sign.Sizeof ∷ sign.Static ∷ sign.Struct ∷ sign.Switch ∷ sign.Typedef ∷ sign.Union ∷ sign.Unsigned ∷
    sign.Void ∷ sign.Volatile ∷ sign.While ∷ sign.Bool ∷ sign.Complex ∷ sign.Imaginary ∷ []

-- the punctuators of C99 without digraphs (6.4.6)
unfoldable pub punctuators : List Sign
punctuators =
    sign.OpenSquare ∷ sign.CloseSquare ∷ sign.Open ∷ sign.Close ∷ sign.OpenBrace ∷ sign.CloseBrace ∷ sign.Dot ∷
    sign.Arrow ∷ sign.Increment ∷ sign.Decrement ∷ sign.And ∷ sign.Star ∷ sign.Plus ∷ sign.Minus ∷ sign.Tilde ∷
    sign.Not ∷ sign.Slash ∷ sign.Percent ∷ sign.ShiftLeft ∷ sign.ShiftRight ∷ sign.Less ∷ sign.Greater ∷
    sign.LessEqual ∷ sign.GreaterEqual ∷ sign.Equal ∷ sign.NotEqual ∷ sign.Caret ∷ sign.Bar ∷ sign.AndAnd ∷
    sign.OrOr ∷ sign.Question ∷ sign.Colon ∷ sign.Semicolon ∷ sign.Ellipsis ∷ sign.Assign ∷ sign.StarAssign ∷
    sign.SlashAssign ∷ sign.PercentAssign ∷ sign.PlusAssign ∷ sign.MinusAssign ∷ sign.ShiftLeftAssign ∷
    sign.ShiftRightAssign ∷ sign.AndAssign ∷ sign.CaretAssign ∷ sign.BarAssign ∷ sign.Comma ∷ sign.Hash ∷
    sign.HashHash ∷ []

-- the first of these signs that is written so
abbrev pub sign_among : List Sign → Text → Option Sign
sign_among [] text = None
sign_among (s ∷ signs) text = cond (bytes_eq text (spelling s)) (Some s) (sign_among signs text)

-- the number of a sign, by which two are told apart
abbrev pub number_of : Sign → ℕ
number_of sign.Auto = 0
number_of sign.Break = 1
number_of sign.Case = 2
number_of sign.Char = 3
number_of sign.Const = 4
number_of sign.Continue = 5
number_of sign.Default = 6
number_of sign.Do = 7
number_of sign.Double = 8
number_of sign.Else = 9
number_of sign.Enum = 10
number_of sign.Extern = 11
number_of sign.Float = 12
number_of sign.For = 13
number_of sign.Goto = 14
number_of sign.If = 15
number_of sign.Inline = 16
number_of sign.Int = 17
number_of sign.Long = 18
number_of sign.Register = 19
number_of sign.Restrict = 20
number_of sign.Return = 21
number_of sign.Short = 22
number_of sign.Signed = 23
number_of sign.Sizeof = 24
number_of sign.Static = 25
number_of sign.Struct = 26
number_of sign.Switch = 27
number_of sign.Typedef = 28
number_of sign.Union = 29
number_of sign.Unsigned = 30
number_of sign.Void = 31
number_of sign.Volatile = 32
number_of sign.While = 33
number_of sign.Bool = 34
number_of sign.Complex = 35
number_of sign.Imaginary = 36
number_of sign.OpenSquare = 37
number_of sign.CloseSquare = 38
number_of sign.Open = 39
number_of sign.Close = 40
number_of sign.OpenBrace = 41
number_of sign.CloseBrace = 42
number_of sign.Dot = 43
number_of sign.Arrow = 44
number_of sign.Increment = 45
number_of sign.Decrement = 46
number_of sign.And = 47
number_of sign.Star = 48
number_of sign.Plus = 49
number_of sign.Minus = 50
number_of sign.Tilde = 51
number_of sign.Not = 52
number_of sign.Slash = 53
number_of sign.Percent = 54
number_of sign.ShiftLeft = 55
number_of sign.ShiftRight = 56
number_of sign.Less = 57
number_of sign.Greater = 58
number_of sign.LessEqual = 59
number_of sign.GreaterEqual = 60
number_of sign.Equal = 61
number_of sign.NotEqual = 62
number_of sign.Caret = 63
number_of sign.Bar = 64
number_of sign.AndAnd = 65
number_of sign.OrOr = 66
number_of sign.Question = 67
number_of sign.Colon = 68
number_of sign.Semicolon = 69
number_of sign.Ellipsis = 70
number_of sign.Assign = 71
number_of sign.StarAssign = 72
number_of sign.SlashAssign = 73
number_of sign.PercentAssign = 74
number_of sign.PlusAssign = 75
number_of sign.MinusAssign = 76
number_of sign.ShiftLeftAssign = 77
number_of sign.ShiftRightAssign = 78
number_of sign.AndAssign = 79
number_of sign.CaretAssign = 80
number_of sign.BarAssign = 81
number_of sign.Comma = 82
number_of sign.Hash = 83
number_of sign.HashHash = 84

-- whether two signs are one
abbrev pub same_sign : Sign → Sign → Bool
same_sign a b = eqb (number_of a) (number_of b)
