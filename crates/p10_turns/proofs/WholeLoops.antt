-- The loops of a whole function are whole where they stand.
use Rattle.std.proofs.Common.{◌≡◌, ℕ, zero, suc, Bool, true, false, List, [], ◌∷◌, ◌++◌, refl, subst, Option, Some, slice_get}
use Rattle.std.proofs.lemmas.Option.{same_Some, none-some}
use Rattle.p10_core.specs.declared.statements.LoopKeyword.{LoopKeyword}
use Rattle.p10_core.specs.declared.statements.LoopKeyword.TheVariants.{While, Do, For}
use Rattle.p10_core.specs.Typed.{PlainValue, PlainStatement, statement, set, update, copy, evaluate as expression, asserts, declare, declare_static, block, if_then, if_else, loop, switch, break, continue, return, empty, mark, PlainStatements, no_statements, more_statements, PlainFunction, PlainProgram}
use Rattle.p10_core.specs.WholePrograms.{Region, after, after_all, AreClauses, IsWholeStatement, IsWholeStatementForm, AreWholeStatements, IsWholeProgram}
use Rattle.p10_meaning.specs.Calling.{call_at}
use Rattle.p10_meaning.specs.Sound.{region_at}
use Rattle.p10_meaning.proofs.LaidOut.{laid_out}
use Rattle.p10_meaning.proofs.SoundStatements.{AreFew, scope_after, scope_after_all, after_is, after_all_is}
use Rattle.p10_meaning.proofs.SoundCalls.{few_variables, calls_keep}
use Rattle.p10_turns.specs.LoopParts.{LoopParts, form_of, loops_within, loops_among}

-- `do` has no third clause
pub no_third : (keyword : LoopKeyword) (first : PlainStatements) (tested : Option PlainValue) (third : PlainStatements) → AreClauses keyword first tested third → keyword ≡ Do → third ≡ no_statements
no_third Do no_statements (Some v) no_statements h e = refl
no_third While first tested third h e = absurd cc
no_third For first tested third h e = absurd cc
no_third keyword first tested third h e = absurd h

-- an element of two lists in order
append_get : {A : Type 0} (xs ys : List A) (k : ℕ) (x : A) (P : Type 0) → slice_get (xs ++ ys) k ≡ Some x → ((j : ℕ) → slice_get xs j ≡ Some x → P) → ((j : ℕ) → slice_get ys j ≡ Some x → P) → P
append_get [] ys k x P e f g = g k e
append_get (y ∷ xs) ys zero x P e f g = f zero e
append_get (y ∷ xs) ys (suc k) x P e f g = append_get xs ys k x P e (λ j q. f (suc j) q) g

module _ (p : PlainProgram) (whole : IsWholeProgram p) (number : ℕ) (f : PlainFunction) (there : slice_get p.functions number ≡ Some f) where
  abbrev here : List ℕ → Bool → Bool → Region
  here scope l b = region_at p number f scope l b

  -- a loop is whole somewhere in the function
  pub record IsWholeSomewhere (l : LoopParts) : Type 0 where
    pub scope : List ℕ
    pub in_loop : Bool
    pub in_switch : Bool
    pub is_whole : IsWholeStatementForm (here scope in_loop in_switch) (form_of l)

  -- calls and depth don't count: the laws of regions ask for them
  few : AreFew p f.variables
  few = few_variables p whole number f (whole.functions number f there)

  pub region_after : (x : PlainStatement) (scope : List ℕ) (l b : Bool) → after (here scope l b) x ≡ here (scope_after x scope) l b
  region_after x scope l b = after_is p (laid_out p whole) whole (call_at 0 p (record { calls = 0; bytes = 0 })) (calls_keep p whole 0 (record { calls = 0; bytes = 0 })) 0 number f few x scope l b

  pub region_after_all : (xs : PlainStatements) (scope : List ℕ) (l b : Bool) → after_all (here scope l b) xs ≡ here (scope_after_all xs scope) l b
  region_after_all xs scope l b = after_all_is p (laid_out p whole) whole (call_at 0 p (record { calls = 0; bytes = 0 })) (calls_keep p whole 0 (record { calls = 0; bytes = 0 })) 0 number f few xs scope l b

  mutual
    pub within : (x : PlainStatement) (scope : List ℕ) (l b : Bool) → IsWholeStatement (here scope l b) x → (k : ℕ) (t : LoopParts) → slice_get (loops_within x) k ≡ Some t → IsWholeSomewhere t
    within (statement at (block xs)) scope l b i k t e = among xs scope l b i k t e
    within (statement at (if_then v x)) scope l b i k t e = within x scope l b i.1 k t e
    within (statement at (if_else v x z)) scope l b i k t e = append_get (loops_within x) (loops_within z) k t (IsWholeSomewhere t) e (λ j q. within x scope l b i.1 j t q) (λ j q. within z scope l b i.2 j t q)
    within (statement at (loop head first tested third body)) scope l b i zero t e = subst (λ t. IsWholeSomewhere t) (same_Some _ _ e) (record { scope = scope; in_loop = l; in_switch = b; is_whole = i })
    within (statement at (loop head first tested third body)) scope l b i (suc k) t e =
        within body (scope_after_all first scope) true b (subst (λ (r : Region). IsWholeStatement (record r { in_loop = true }) body) (region_after_all first scope l b) i.3) k t e
    within (statement at (switch span v labels body)) scope l b i k t e = within body scope l true i.1 k t e
    within (statement at (set q v)) scope l b i k t e = absurd (none-some _ e)
    within (statement at (update kind op u q v)) scope l b i k t e = absurd (none-some _ e)
    within (statement at (copy q r)) scope l b i k t e = absurd (none-some _ e)
    within (statement at (expression v)) scope l b i k t e = absurd (none-some _ e)
    within (statement at (asserts call v)) scope l b i k t e = absurd (none-some _ e)
    within (statement at (declare n initializer)) scope l b i k t e = absurd (none-some _ e)
    within (statement at (declare_static n)) scope l b i k t e = absurd (none-some _ e)
    within (statement at break) scope l b i k t e = absurd (none-some _ e)
    within (statement at continue) scope l b i k t e = absurd (none-some _ e)
    within (statement at (return keyword v)) scope l b i k t e = absurd (none-some _ e)
    within (statement at empty) scope l b i k t e = absurd (none-some _ e)
    within (statement at (mark kind)) scope l b i k t e = absurd (none-some _ e)

    pub among : (xs : PlainStatements) (scope : List ℕ) (l b : Bool) → AreWholeStatements (here scope l b) xs → (k : ℕ) (t : LoopParts) → slice_get (loops_among xs) k ≡ Some t → IsWholeSomewhere t
    among no_statements scope l b i k t e = absurd (none-some _ e)
    among (more_statements x rest) scope l b i k t e = append_get (loops_within x) (loops_among rest) k t (IsWholeSomewhere t) e (λ j q. within x scope l b i.0 j t q)
        (λ j q. among rest (scope_after x scope) l b (subst (λ r. AreWholeStatements r rest) (region_after x scope l b) i.1) j t q)

  pub loop_whole : (k : ℕ) (t : LoopParts) → slice_get (loops_among f.body) k ≡ Some t → IsWholeSomewhere t
  loop_whole k t e = among f.body _ false false (whole.functions number f there).body k t e
