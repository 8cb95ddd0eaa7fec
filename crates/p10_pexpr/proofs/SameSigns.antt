-- Signs are told apart by their numbers.
use Rattle.std.proofs.Common.{◌≡◌, List, [], ◌∷◌, get_or, true, refl, sym, ◌∙◌, ap}
use Rattle.std.proofs.lemmas.Bool.{eqb-true}
use Rattle.p10_syn.specs.declared.sign.Sign.{Sign}
use Rattle.p10_syn.specs.declared.sign.Sign.TheVariants as sign
use Rattle.p10_syn.specs.Signs.{number_of, same_sign}

-- all signs, in the order of their numbers
abbrev signs : List Sign
signs =
    sign.Auto ∷ sign.Break ∷ sign.Case ∷ sign.Char ∷ sign.Const ∷ sign.Continue ∷ sign.Default ∷ sign.Do ∷ sign.Double ∷ sign.Else ∷
    sign.Enum ∷ sign.Extern ∷ sign.Float ∷ sign.For ∷ sign.Goto ∷ sign.If ∷ sign.Inline ∷ sign.Int ∷ sign.Long ∷ sign.Register ∷
    sign.Restrict ∷ sign.Return ∷ sign.Short ∷ sign.Signed ∷ sign.Sizeof ∷ sign.Static ∷ sign.Struct ∷ sign.Switch ∷ sign.Typedef ∷ sign.Union ∷
    sign.Unsigned ∷ sign.Void ∷ sign.Volatile ∷ sign.While ∷ sign.Bool ∷ sign.Complex ∷ sign.Imaginary ∷ sign.OpenSquare ∷ sign.CloseSquare ∷ sign.Open ∷
    sign.Close ∷ sign.OpenBrace ∷ sign.CloseBrace ∷ sign.Dot ∷ sign.Arrow ∷ sign.Increment ∷ sign.Decrement ∷ sign.And ∷ sign.Star ∷ sign.Plus ∷
    sign.Minus ∷ sign.Tilde ∷ sign.Not ∷ sign.Slash ∷ sign.Percent ∷ sign.ShiftLeft ∷ sign.ShiftRight ∷ sign.Less ∷ sign.Greater ∷ sign.LessEqual ∷
    sign.GreaterEqual ∷ sign.Equal ∷ sign.NotEqual ∷ sign.Caret ∷ sign.Bar ∷ sign.AndAnd ∷ sign.OrOr ∷ sign.Question ∷ sign.Colon ∷ sign.Semicolon ∷
    sign.Ellipsis ∷ sign.Assign ∷ sign.StarAssign ∷ sign.SlashAssign ∷ sign.PercentAssign ∷ sign.PlusAssign ∷ sign.MinusAssign ∷ sign.ShiftLeftAssign ∷ sign.ShiftRightAssign ∷ sign.AndAssign ∷
    sign.CaretAssign ∷ sign.BarAssign ∷ sign.Comma ∷ sign.Hash ∷ sign.HashHash ∷ []

sign_at : (s : Sign) → get_or signs (number_of s) sign.Open ≡ s
sign_at sign.Open = refl
sign_at _ = refl

pub same_is : (a b : Sign) → same_sign a b ≡ true → a ≡ b
same_is a b h = sym (sign_at a) ∙ ap (λ n. get_or signs n sign.Open) (eqb-true _ _ h) ∙ sign_at b
