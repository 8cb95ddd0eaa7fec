-- What constant expressions give is a value of some integer type.
use Rattle.std.proofs.Common.{◌≡◌, ℤ, Result, Ok, Err, IfOk, refl, sym, ◌∙◌, subst, arith, FitsSigned, to_z, of_z}
use Rattle.std.proofs.lemmas.Int.{ints, to_z-of_z}
use Rattle.std.specs.Int.{w128}
use Rattle.p10_base.specs.declared.at.At.{At}
use Rattle.p10_int.specs.declared.types.IntType.{IntType}
use Rattle.p10_int.specs.declared.operators.Stop.{Stop}
use Rattle.p10_int.specs.declared.operators.BinOp.{BinOp}
use Rattle.p10_int.specs.declared.operators.UnOp.{UnOp}
use Rattle.p10_int.specs.Types.{InRange}
use Rattle.p10_int.specs.Operators.{operate, operate_unary}
use Rattle.p10_int.proofs.InRange.{operate_in, unary_in}
use Rattle.p10_int.proofs.Ranges.{IsWide, wide_in}
use Rattle.p10_core.specs.Constants.{IsSmall, or_place}

small_of : (z : ℤ) → IsWide z → IsSmall z
small_of z w = let l = w.low in let h = w.high in record { low = omega (arith, ints); high = omega (arith, ints) }

-- a number of a type fits 128 bits, and is handed on whole
handed_on : (kind : IntType) (z : ℤ) → InRange kind z → InRange kind (to_z w128 (of_z w128 z))
handed_on kind z i =
    let w : IsWide z = wide_in kind z i in
    let l = w.low in
    let h = w.high in
    let fits : FitsSigned w128 z = omega (arith, ints) in
    subst (InRange kind) (sym (to_z-of_z w128 z fits)) i

at_place : (at : At) (found : Result ℤ Stop) → ((z : ℤ) → found ≡ Ok z → IsSmall z) → IfOk (or_place at found) IsSmall
at_place at (Ok z) h = h z refl
at_place at (Err stop) h = tt

pub unary_small : (at : At) (op : UnOp) (kind : IntType) (a : ℤ) (r : Result ℤ Stop) (o : Result ℤ At) → InRange kind a → r ≡ operate_unary op kind (to_z w128 (of_z w128 a)) → o ≡ or_place at r → IfOk o IsSmall
unary_small at op kind a r o i e f =
    let P : Result ℤ At → Type 0 = λ x. IfOk x IsSmall in
    subst P (sym f) (at_place at r (λ z is. small_of z (wide_in kind z (unary_in op kind (to_z w128 (of_z w128 a)) z (handed_on kind a i) (sym e ∙ is)))))

pub binary_small : (at : At) (op : BinOp) (kind : IntType) (a b : ℤ) (r : Result ℤ Stop) (o : Result ℤ At) → InRange kind a → r ≡ operate op kind (to_z w128 (of_z w128 a)) b → o ≡ or_place at r → IfOk o IsSmall
binary_small at op kind a b r o i e f =
    let P : Result ℤ At → Type 0 = λ x. IfOk x IsSmall in
    subst P (sym f) (at_place at r (λ z is. small_of z (wide_in kind z (operate_in op kind (to_z w128 (of_z w128 a)) b z (handed_on kind a i) (sym e ∙ is)))))
