-- The sums of all functions, as far as a loop has come.
use Rattle.std.proofs.Common.{◌≡◌, ℕ, suc, ◌+◌, ◌-◌, ◌<◌, ◌≤◌, cond, Bool, true, false, List, [], ◌∷◌, ◌++◌, length, refl, sym, ◌∙◌, ap, subst, arith, append_assoc, append-nil, Result, Ok, Err}
use Rattle.std.specs.List.{All}
use Rattle.std.specs.Prelude.{Contains}
use Rattle.std.proofs.lemmas.List.Elements.{All-push, Contains-append_right}
use Rattle.p10_base.specs.declared.report.Limit.{Limit}
use Rattle.p10_base.specs.declared.report.TheConstants.Limit.{SUM}
use Rattle.p10_core.specs.Typed.{PlainProgram}
use Rattle.p10_cert.specs.Claims.{Func}
use Rattle.p10_sums.specs.declared.sum.FuncSum.{FuncSum}
use Rattle.p10_sums.specs.declared.sum.SumFault.{SumFault}
use Rattle.p10_sums.specs.declared.sum.SumFault.TheVariants.{Over, Memory}
use Rattle.p10_sums.specs.Sums.{sum_at, keeps_limit, limited, sums_from, all_sums, IsFault}
use Rattle.p10_sums.specs.private.Totals.{IsFaultAt}

-- what an answer says of the sums
ok_of : (s x : FuncSum) (b : Bool) → (let r : Result FuncSum Limit = Ok x in r ≡ cond b (Ok s) (Err SUM)) → (x ≡ s) × (b ≡ true)
ok_of s x true e = (cc, refl)
ok_of s x false e = absurd cc

err_of : (s : FuncSum) (l : Limit) (b : Bool) → (let r : Result FuncSum Limit = Err l in r ≡ cond b (Ok s) (Err SUM)) → (l ≡ SUM) × (b ≡ false)
err_of s l true e = absurd cc
err_of s l false e = (cc, refl)

pub limited_ok : (s x : FuncSum) → (let r : Result FuncSum Limit = Ok x in r ≡ limited s) → (x ≡ s) × (keeps_limit s ≡ true)
limited_ok s x e = ok_of s x (keeps_limit s) e

pub limited_err : (s : FuncSum) (l : Limit) → (let r : Result FuncSum Limit = Err l in r ≡ limited s) → IsFaultAt s (Over l)
limited_err s l e = err_of s l (keeps_limit s) e

-- those that were found, and those that are left
pub record Lists (p : PlainProgram) (functions : List Func) (found : List FuncSum) (number count : ℕ) : Type 0 where
  pub is : all_sums p functions ≡ found ++ sums_from p functions number (count - number)
  pub within : All (λ s. keeps_limit s ≡ true) found

pub lists_start : (p : PlainProgram) (functions : List Func) (count : ℕ) → length p.functions ≡ count → Lists p functions [] 0 count
lists_start p functions count e = record {
  is = ap (λ n. sums_from p functions 0 n) (e ∙ none);
  within = λ k d h. absurd (omega (arith, h));
}
  where
    none : count ≡ count - 0
    none = omega arith

pub lists_next : (p : PlainProgram) (functions : List Func) (found new : List FuncSum) (number count : ℕ) → number < count → Lists p functions found number count →
    new ≡ found ++ sum_at p functions number ∷ [] → keeps_limit (sum_at p functions number) ≡ true → Lists p functions new (number + 1) count
lists_next p functions found new number count h l e w = record {
  is = l.is ∙ (ap (λ n. found ++ sums_from p functions number n) left ∙ (ap (λ n. found ++ (sum_at p functions number ∷ sums_from p functions n (count - (number + 1)))) one ∙
      (sym (append_assoc found (sum_at p functions number ∷ []) (sums_from p functions (number + 1) (count - (number + 1)))) ∙ ap (λ xs. xs ++ sums_from p functions (number + 1) (count - (number + 1))) (sym e))));
  within = subst (λ xs. All (λ s. keeps_limit s ≡ true) xs) (sym e) (All-push (λ s. keeps_limit s ≡ true) found (sum_at p functions number) l.within w);
}
  where
    left : count - number ≡ suc (count - (number + 1))
    left = omega (arith, h)

    one : suc number ≡ number + 1
    one = omega arith

pub lists_end : (p : PlainProgram) (functions : List Func) (found : List FuncSum) (number count : ℕ) → count ≤ number → Lists p functions found number count → found ≡ all_sums p functions
lists_end p functions found number count h l = sym (l.is ∙ (ap (λ n. found ++ sums_from p functions number n) none ∙ append-nil found))
  where
    none : count - number ≡ 0
    none = omega (arith, h)

pub lists_fault : (p : PlainProgram) (functions : List Func) (found : List FuncSum) (number count : ℕ) (fault : SumFault) → number < count → Lists p functions found number count →
    IsFaultAt (sum_at p functions number) fault → IsFault (all_sums p functions) fault
lists_fault p functions found number count (Over limit) h l f = (
  f.0,
  record {
    sum = sum_at p functions number;
    among = subst (λ xs. Contains xs (sum_at p functions number)) (sym (l.is ∙ ap (λ n. found ++ sums_from p functions number n) left))
        (Contains-append_right found (sum_at p functions number ∷ sums_from p functions (suc number) (count - (number + 1))) (sum_at p functions number) (0, omega arith, refl));
    passes = f.1;
  },
)
  where
    left : count - number ≡ suc (count - (number + 1))
    left = omega (arith, h)
lists_fault p functions found number count Memory h l f = tt
