-- The places of string literals.
use Rattle.std.proofs.Common.{◌≡◌, sym, ℕ, suc, ◌+◌, eqb, Bool, true, false, cond, List, [], ◌∷◌, Option, Some, option_map, Result, Ok, Err, IfOk, refl, ◌∙◌, ap, arith}
use Rattle.std.specs.List.{position_from}
use Rattle.p10_core.specs.Typed.{PlainLiteral}
use Rattle.p10_meaning.specs.Values.{literal_number}

shifted_if : (b : Bool) (k i : ℕ) (o u : Option ℕ) → o ≡ option_map (λ j. k + j) u → cond b (Some (k + i)) o ≡ option_map (λ j. k + j) (cond b (Some i) u)
shifted_if true k i o u e = refl
shifted_if false k i o u e = e

literal_from : (n k i : ℕ) (ls : List PlainLiteral) → literal_number n (k + i) ls ≡ option_map (λ j. k + j) (position_from (λ (l : PlainLiteral). eqb l.number n) i ls)
literal_from n k i [] = refl
literal_from n k i (l ∷ ls) =
    let e : suc (k + i) ≡ k + (i + 1) = omega arith in
    shifted_if (eqb l.number n) k i (literal_number n (suc (k + i)) ls) (position_from (λ (l : PlainLiteral). eqb l.number n) (i + 1) ls)
    (ap (λ m. literal_number n m ls) e ∙ literal_from n k (i + 1) ls)

pub literal_is : (n k : ℕ) (ls : List PlainLiteral) → literal_number n k ls ≡ option_map (λ j. k + j) (position_from (λ (l : PlainLiteral). eqb l.number n) 0 ls)
literal_is n k ls = let e : k ≡ k + 0 = omega arith in ap (λ m. literal_number n m ls) e ∙ literal_from n k 0 ls

-- so many objects come before those of literals
pub object_found : {E : Type 0} (n k m : ℕ) (ls : List PlainLiteral) (p : Option ℕ) (r : Result (Option ℕ) E) → p ≡ position_from (λ (l : PlainLiteral). eqb l.number n) 0 ls → k ≡ m →
    IfOk r (λ o. o ≡ option_map (λ j. k + j) p) → IfOk r (λ o. o ≡ literal_number n m ls)
object_found n k m ls p (Ok o) h e is = is ∙ ((λ i. option_map (λ j. e i + j) (h i)) ∙ sym (literal_is n m ls))
object_found n k m ls p (Err x) h e is = tt
