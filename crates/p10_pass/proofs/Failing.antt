-- Names of failing calls that are put one after the other, and arguments by their numbers.
use Rattle.std.proofs.Common.{◌≡◌, ℕ, zero, suc, ◌≤◌, ◌&&◌, not, Bool, true, false, List, [], ◌∷◌, ◌++◌, drop, length, Option, Some, None, refl, ap, sym, ◌∙◌, arith, append_assoc}
use Rattle.std.specs.Prelude.{slice_get, if◌then◌else◌}
use Rattle.p10_base.specs.declared.span.Span.{Span}
use Rattle.p10_core.specs.declared.typed.LogicOp.{LogicOp}
use Rattle.p10_core.specs.declared.typed.Library.{Library}
use Rattle.p10_core.specs.Typed.{PlainValue, PlainForm, logic, conditional, call, built_in, PlainValues, no_values, more_values}
use Rattle.p10_cert.specs.Claims.{Value, Number, Address, Nothing, Claims}
use Rattle.p10_absx.specs.Environments.{Environment}
use Rattle.p10_absx.specs.Assessing.{assess, known_where}
use Rattle.p10_absx.specs.Entering.{claims_on}
use Rattle.p10_pass.specs.Arguments.{all_have_values, arguments_lie, where_reached, goes_on_where, failing_calls, failing_in_form, failing_in_values}
use Rattle.p10_pass.specs.private.Lying.{argument_lies, arguments_lie_from}

-- what is put where a test is true or false
abbrev pub put_there : Claims → Bool → PlainValue → PlainValue → Environment → List Span
put_there c truth v test env = where_reached (known_where truth env (assess (Some c) test env)) (λ e. failing_calls c v e)

-- two pieces put one after the other
pub two_put : {X : Type 0} (first mid last a b b2 : List X) → mid ≡ first ++ a → last ≡ mid ++ b → b ≡ b2 → last ≡ first ++ (a ++ b2)
two_put first mid last a b b2 p q r = q ∙ (ap (λ xs. xs ++ b) p ∙ (append_assoc first a b ∙ ap (λ xs. first ++ (a ++ xs)) r))

pub logic_put : (c : Claims) (form : PlainForm) (op : LogicOp) (truth : Bool) (a a2 b : PlainValue) (env mid : Environment) (first second last : List Span) → form ≡ logic op a b → a2 ≡ a → truth ≡ goes_on_where op → mid ≡ env →
    second ≡ first ++ failing_calls c a env → last ≡ second ++ put_there c truth b a2 mid → last ≡ first ++ failing_in_form c form env
logic_put c form op truth a a2 b env mid first second last is same goes kept p q =
    two_put first second last (failing_calls c a env) (put_there c truth b a2 mid) (put_there c (goes_on_where op) b a env) p q (λ i. put_there c (goes i) b (same i) (kept i)) ∙
    ap (λ f. first ++ failing_in_form c f env) (sym is)

pub conditional_put : (c : Claims) (form : PlainForm) (v v2 v3 a b : PlainValue) (env mid later : Environment) (first second third last : List Span) → form ≡ conditional v a b → v2 ≡ v → v3 ≡ v → mid ≡ env → later ≡ mid →
    second ≡ first ++ failing_calls c v env → third ≡ second ++ put_there c true a v2 mid → last ≡ third ++ put_there c false b v3 later → last ≡ first ++ failing_in_form c form env
conditional_put c form v v2 v3 a b env mid later first second third last is same same2 kept kept2 p q r =
    let rest : last ≡ second ++ (put_there c true a v2 mid ++ put_there c false b v3 later) = two_put second third last _ _ _ q r refl in
    two_put first second last (failing_calls c v env) _ (put_there c true a v env ++ put_there c false b v env) p rest (λ i. put_there c true a (same i) (kept i) ++ put_there c false b (same2 i) ((kept2 ∙ kept) i)) ∙
    ap (λ f. first ++ failing_in_form c f env) (sym is)

pub call_put : (c : Claims) (form : PlainForm) (name : Span) (n : ℕ) (arguments given : PlainValues) (env mid : Environment) (first second last : List Span) → form ≡ call name n arguments → given ≡ arguments → mid ≡ env →
    second ≡ first ++ (if all_have_values (Some c) arguments env && not (arguments_lie (Some c) (claims_on (slice_get c.funcs n)) arguments env) then name ∷ [] else []) → last ≡ second ++ failing_in_values c given mid →
    last ≡ first ++ failing_in_form c form env
call_put c form name n arguments given env mid first second last is same kept p q =
    two_put first second last _ (failing_in_values c given mid) (failing_in_values c arguments env) p q (λ i. failing_in_values c (same i) (kept i)) ∙ ap (λ f. first ++ failing_in_form c f env) (sym is)

pub built_in_put : (c : Claims) (form : PlainForm) (name : Span) (f : Library) (arguments : PlainValues) (env : Environment) (first last : List Span) → form ≡ built_in name f arguments →
    last ≡ first ++ failing_in_values c arguments env → last ≡ first ++ failing_in_form c form env
built_in_put c form name f arguments env first last is p = p ∙ ap (λ g. first ++ failing_in_form c g env) (sym is)

-- ## Arguments by their numbers

past_none : (claims : List Value) (k : ℕ) → length claims ≤ k → slice_get claims k ≡ None
past_none [] k h = refl
past_none (x ∷ claims) zero h = absurd (omega (arith, h))
past_none (x ∷ claims) (suc k) h = past_none claims k (omega (arith, h))

past_lie : (c : Option Claims) (claims : List Value) (k : ℕ) (vs : PlainValues) (env : Environment) → length claims ≤ k → arguments_lie_from c claims k vs env ≡ true
past_lie c claims k no_values env h = refl
past_lie c claims k (more_values v vs) env h =
    ap (λ o. argument_lies c o v env && arguments_lie_from c claims (suc k) vs env) (past_none claims k h) ∙ past_lie c claims (suc k) vs env (omega (arith, h))

lie_from : (c : Option Claims) (claims : List Value) (k : ℕ) (vs : PlainValues) (env : Environment) (rest : List Value) → drop k claims ≡ rest → arguments_lie_from c claims k vs env ≡ arguments_lie c rest vs env
lie_from c claims k no_values env [] d = refl
lie_from c claims k no_values env (Number r ∷ rest) d = refl
lie_from c claims k no_values env (Address ∷ rest) d = refl
lie_from c claims k no_values env (Nothing ∷ rest) d = refl
lie_from c claims k (more_values v vs) env [] d = past_lie c claims k (more_values v vs) env (ended claims k d)
  where
    ended : (xs : List Value) (k : ℕ) → drop k xs ≡ [] → length xs ≤ k
    ended [] k d = omega arith
    ended (x ∷ xs) zero d = absurd cc
    ended (x ∷ xs) (suc k) d = let h : length xs ≤ k = ended xs k d in omega arith
lie_from c claims k (more_values v vs) env (claim ∷ rest) d =
    ap (λ o. argument_lies c o v env && arguments_lie_from c claims (suc k) vs env) (here claims k claim rest d) ∙
    (ap (λ b. argument_lies c (Some claim) v env && b) (lie_from c claims (suc k) vs env rest (next claims k claim rest d)) ∙ at claim)
  where
    here : (xs : List Value) (k : ℕ) (e : Value) (rest : List Value) → drop k xs ≡ e ∷ rest → slice_get xs k ≡ Some e
    here [] zero e rest d = absurd cc
    here [] (suc k) e rest d = absurd cc
    here (x ∷ xs) zero e rest d = cc
    here (x ∷ xs) (suc k) e rest d = here xs k e rest d

    next : (xs : List Value) (k : ℕ) (e : Value) (rest : List Value) → drop k xs ≡ e ∷ rest → drop (suc k) xs ≡ rest
    next [] zero e rest d = absurd cc
    next [] (suc k) e rest d = absurd cc
    next (x ∷ xs) zero e rest d = cc
    next (x ∷ xs) (suc k) e rest d = next xs k e rest d

    at : (claim : Value) → argument_lies c (Some claim) v env && arguments_lie c rest vs env ≡ arguments_lie c (claim ∷ rest) (more_values v vs) env
    at (Number r) = refl
    at Address = refl
    at Nothing = refl

pub lie_by_number : (c : Option Claims) (claims : List Value) (vs : PlainValues) (env : Environment) → arguments_lie_from c claims 0 vs env ≡ arguments_lie c claims vs env
lie_by_number c claims vs env = lie_from c claims 0 vs env claims refl

pub call_failed : (c : Option Claims) (claims claimed : List Value) (vs : PlainValues) (env mid : Environment) (has lie : Bool) → has ≡ true → has ≡ all_have_values c vs env → mid ≡ env → claims ≡ claimed →
    lie ≡ arguments_lie_from c claims 0 vs mid → not lie ≡ all_have_values c vs env && not (arguments_lie c claimed vs env)
call_failed c claims claimed vs env mid has lie held is kept same lies =
    (λ i. not ((lies ∙ (lie_by_number c claims vs mid ∙ (λ j. arguments_lie c (same j) vs (kept j)))) i)) ∙ ap (λ b. b && not (arguments_lie c claimed vs env)) (sym held ∙ is)
