-- What comparisons and `!` give.
use Rattle.std.proofs.Common.{◌≡◌, true, false, Bool as Flag, ℤ, pos, refl, subst, inl, inr, Ok}
use Rattle.std.specs.Prelude.{int_le, int_lt, not, Result}
use Rattle.std.specs.Ordering.{int_eq}
use Rattle.p10_int.specs.declared.types.IntType.{IntType}
use Rattle.p10_int.specs.declared.types.IntType.TheVariants.{Int}
use Rattle.p10_int.specs.declared.operators.Stop.{Stop}
use Rattle.p10_int.specs.declared.operators.BinOp.{BinOp}
use Rattle.p10_int.specs.declared.operators.BinOp.TheVariants.{Add, Sub, Mul, Div, Rem, Shl, Shr, And, Or, Xor, Lt, Gt, Le, Ge, Eq, Ne}
use Rattle.p10_int.specs.declared.operators.UnOp.TheVariants.{Not}
use Rattle.p10_int.specs.Operators.{truth_of, operate, operate_unary}
use Rattle.p10_int.specs.Laws.{is_comparison, IsTruthValue}
use Rattle.p10_int.proofs.Conversions.{zero_in, one_in}

truth_is : (b : Flag) → IsTruthValue (truth_of b)
truth_is true = record { either = inl refl; of_int = one_in Int }
truth_is false = record { either = inr refl; of_int = zero_in Int }

given : (b : Flag) (r : ℤ) → ◌≡◌ {A = Result ℤ Stop} (Ok (truth_of b)) (Ok r) → IsTruthValue r
given b r e = let same : truth_of b ≡ r = cc in subst IsTruthValue same (truth_is b)

pub compared : (op : BinOp) (t : IntType) (a b r : ℤ) → is_comparison op ≡ true → operate op t a b ≡ Ok r → IsTruthValue r
compared Lt t a b r c e = given (int_lt a b) r e
compared Gt t a b r c e = given (int_lt b a) r e
compared Le t a b r c e = given (int_le a b) r e
compared Ge t a b r c e = given (int_le b a) r e
compared Eq t a b r c e = given (int_eq a b) r e
compared Ne t a b r c e = given (not (int_eq a b)) r e
compared Add t a b r c e = absurd cc
compared Sub t a b r c e = absurd cc
compared Mul t a b r c e = absurd cc
compared Div t a b r c e = absurd cc
compared Rem t a b r c e = absurd cc
compared Shl t a b r c e = absurd cc
compared Shr t a b r c e = absurd cc
compared And t a b r c e = absurd cc
compared Or t a b r c e = absurd cc
compared Xor t a b r c e = absurd cc

pub negated : (t : IntType) (a r : ℤ) → operate_unary Not t a ≡ Ok r → IsTruthValue r
negated t a r e = given (int_eq a (pos 0)) r e
