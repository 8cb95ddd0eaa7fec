-- The loops that are found in statements: how many, and that each one's claim fits where the pass under all of them comes to it.
use Rattle.std.proofs.Common.{◌≡◌, ℕ, zero, suc, ◌+◌, ◌<◌, ◌≤◌, length, true, false, List, [], ◌∷◌, ◌++◌, Option, Some, None, refl, ap, sym, ◌∙◌, subst, arith}
use Rattle.std.specs.Prelude.{slice_get, if◌then◌else◌}
use Rattle.std.proofs.lemmas.Option.{none-some}
use Rattle.std.proofs.lemmas.List.{length-append}
use Rattle.p10_core.specs.declared.statements.LoopHead.{LoopHead}
use Rattle.p10_core.specs.Typed.{PlainLabels, PlainStatement, statement, PlainStatementForm, block, if_then, if_else, loop, switch, PlainStatements, no_statements, more_statements, PlainFunction}
use Rattle.p10_core.specs.WholePrograms.{loops_in as heads_in, loops_in_form as heads_in_form, loops_of as heads_of}
use Rattle.p10_cert.specs.Claims.{Loop}
use Rattle.p10_absx.specs.Environments.{Environment, hull_reached}
use Rattle.p10_pass.specs.Claiming.{loop_claimed, claim_or_none}
use Rattle.p10_pass.specs.Passing.{is_labelled}
use Rattle.p10_candidates.specs.Trials.{LoopFound}
use Rattle.p10_finder.specs.Loops.{Search, LoopsFound, no_loops, with_loop, known_after_statement, known_where_value, known_after_value, LoopPassed, loop_passed, loops_in, loops_in_form, loops_in_all, loops_in_switch, loops_in_cases, loops_from}
use Rattle.p10_candidates.specs.Approaches.{Approach}
use Rattle.p10_acceptance.proofs.Ends.{Each}

-- ## How many loops are found

-- a list of found loops has some more than another one, which it begins with
pub record Extends (found next : LoopsFound) (n : ℕ) : Type 0 where
  pub count : length next.claims ≡ length found.claims + n
  pub keeps : (j : ℕ) (l : Loop) → slice_get found.claims j ≡ Some l → slice_get next.claims j ≡ Some l
  pub marked : length next.approaches ≡ length found.approaches + n
  pub marks : (j : ℕ) (x : Option Approach) → slice_get found.approaches j ≡ Some x → slice_get next.approaches j ≡ Some x
  pub bounded : next.unbounded ≡ [] → found.unbounded ≡ []

extends_itself : (found : LoopsFound) → Extends found found 0
extends_itself found = record { count = omega arith; keeps = λ j l e. e; marked = omega arith; marks = λ j x e. e; bounded = λ e. e }

extends_trans : (a b c : LoopsFound) (n k : ℕ) → Extends a b n → Extends b c k → Extends a c (n + k)
extends_trans a b c n k h g = record {
  count = let x = h.count in let y = g.count in omega (arith, x, y);
  keeps = λ j l e. g.keeps j l (h.keeps j l e);
  marked = let x = h.marked in let y = g.marked in omega (arith, x, y);
  marks = λ j x e. g.marks j x (h.marks j x e);
  bounded = λ e. h.bounded (g.bounded e);
}

extends_same : (a b : LoopsFound) (n k : ℕ) → n ≡ k → Extends a b n → Extends a b k
extends_same a b n k e h = subst (Extends a b) e h

kept_left : {A : Type 0} (xs ys : List A) (j : ℕ) (x : A) → slice_get xs j ≡ Some x → slice_get (xs ++ ys) j ≡ Some x
kept_left [] ys j x e = absurd (none-some _ e)
kept_left (y ∷ xs) ys zero x e = e
kept_left (y ∷ xs) ys (suc j) x e = kept_left xs ys j x e

pub last_one : {A : Type 0} (xs : List A) (x : A) → slice_get (xs ++ x ∷ []) (length xs) ≡ Some x
last_one [] x = refl
last_one (y ∷ xs) x = last_one xs x

no_left : {A : Type 0} (xs ys : List A) → xs ++ ys ≡ [] → xs ≡ []
no_left [] ys e = refl
no_left (x ∷ xs) ys e = absurd cc

pub no_right : {A : Type 0} (xs ys : List A) → xs ++ ys ≡ [] → ys ≡ []
no_right [] ys e = e
no_right (x ∷ xs) ys e = absurd cc

with_extends : (found : LoopsFound) (l : LoopFound) → Extends found (with_loop found l) 1
with_extends found l = record {
  count = length-append found.claims (l.claim ∷ []);
  keeps = λ j x e. kept_left found.claims (l.claim ∷ []) j x e;
  marked = length-append found.approaches (l.approach ∷ []);
  marks = λ j x e. kept_left found.approaches (l.approach ∷ []) j x e;
  bounded = λ e. no_left found.unbounded l.unbounded e;
}

module _ (s : Search) where
  mutual
    pub extends : (depth : ℕ) (x : PlainStatement) (env : Option Environment) (found : LoopsFound) → Extends found (loops_in s depth x env found) (length (heads_in x))
    extends depth (statement at form) env found = form_extends depth form env found

    form_extends : (depth : ℕ) (form : PlainStatementForm) (env : Option Environment) (found : LoopsFound) → Extends found (loops_in_form s depth form env found) (length (heads_in_form form))
    form_extends depth (block xs) env found = all_extend depth xs env found
    form_extends depth (if_then v x) env found = extends depth x (known_where_value s v true env) found
    form_extends depth (if_else v x y) env found =
        extends_same found _ (length (heads_in x) + length (heads_in y)) (length (heads_in x ++ heads_in y)) (sym (length-append (heads_in x) (heads_in y)))
        (extends_trans found (loops_in s depth x (known_where_value s v true env) found) _ (length (heads_in x)) (length (heads_in y)) (extends depth x (known_where_value s v true env) found) (extends depth y (known_where_value s v false env) _))
    form_extends depth (loop head first tested third body) env found =
        let l : LoopPassed = loop_passed s depth head first tested third body env found in
        extends_same found _ (1 + length (heads_in body)) (suc (length (heads_in body))) (omega arith) (extends_trans found l.found _ 1 (length (heads_in body)) (with_extends found _) (extends (suc depth) body l.inside l.found))
    form_extends depth (switch keyword v labels body) env found = switch_extends depth labels body (known_after_value s v env) found
    form_extends depth form env found = extends_itself found

    switch_extends : (depth : ℕ) (labels : PlainLabels) (x : PlainStatement) (env : Option Environment) (found : LoopsFound) → Extends found (loops_in_switch s depth labels x env found) (length (heads_in x))
    switch_extends depth labels (statement at form) env found = cases_extend depth labels form env found (loops_in_form s depth form None found) (form_extends depth form None found)

    cases_extend : (depth : ℕ) (labels : PlainLabels) (form : PlainStatementForm) (env : Option Environment) (found other : LoopsFound) → Extends found other (length (heads_in_form form)) → Extends found (loops_in_cases s depth labels form env found other) (length (heads_in_form form))
    cases_extend depth labels (block xs) env found other h = from_extends depth labels 0 xs env None found
    cases_extend depth labels form env found other h = h

    pub all_extend : (depth : ℕ) (xs : PlainStatements) (env : Option Environment) (found : LoopsFound) → Extends found (loops_in_all s depth xs env found) (length (heads_of xs))
    all_extend depth no_statements env found = extends_itself found
    all_extend depth (more_statements x rest) env found =
        let next : LoopsFound = loops_in s depth x env found in
        extends_same found _ (length (heads_in x) + length (heads_of rest)) (length (heads_in x ++ heads_of rest)) (sym (length-append (heads_in x) (heads_of rest)))
        (extends_trans found next _ (length (heads_in x)) (length (heads_of rest)) (extends depth x env found) (all_extend depth rest (known_after_statement s next x env) next))

    pub from_extends : (depth : ℕ) (labels : PlainLabels) (k : ℕ) (xs : PlainStatements) (env before : Option Environment) (found : LoopsFound) → Extends found (loops_from s depth labels k xs env before found) (length (heads_of xs))
    from_extends depth labels k no_statements env before found = extends_itself found
    from_extends depth labels k (more_statements x rest) env before found =
        let enters : Option Environment = if is_labelled k labels then hull_reached before env else before in
        let next : LoopsFound = loops_in s depth x enters found in
        extends_same found _ (length (heads_in x) + length (heads_of rest)) (length (heads_in x ++ heads_of rest)) (sym (length-append (heads_in x) (heads_of rest)))
        (extends_trans found next _ (length (heads_in x)) (length (heads_of rest)) (extends depth x enters found) (from_extends depth labels (suc k) rest env (known_after_statement s next x enters) next))

-- as many approaches are found as claims
pub loops_even : (s : Search) (f : PlainFunction) (env : Option Environment) → length (loops_in_all s 0 f.body env no_loops).approaches ≡ length (loops_in_all s 0 f.body env no_loops).claims
loops_even s f env = let all = all_extend s 0 f.body env no_loops in let claims = all.count in let marks = all.marked in omega (arith, claims, marks)

-- ## Numbers

-- loops have the numbers from one on
abbrev pub Numbered : ℕ → List LoopHead → Type 0
Numbered k [] = Unit {0}
Numbered k (h ∷ hs) = (h.number ≡ k) × Numbered (suc k) hs

pub numbered_left : (k : ℕ) (xs ys : List LoopHead) → Numbered k (xs ++ ys) → Numbered k xs
numbered_left k [] ys h = tt
numbered_left k (x ∷ xs) ys h = (h.0, numbered_left (suc k) xs ys h.1)

pub numbered_right : (k n : ℕ) (xs ys : List LoopHead) → n ≡ k + length xs → Numbered k (xs ++ ys) → Numbered n ys
numbered_right k n [] ys e h = let q : k ≡ n = omega (arith, e) in subst (λ (i : ℕ). Numbered i ys) q h
numbered_right k n (x ∷ xs) ys e h = numbered_right (suc k) n xs ys (omega (arith, e)) h.1

-- claims of loops with such numbers are the same where a list goes on
pub same_claims : (these those : List Loop) → ((j : ℕ) (l : Loop) → slice_get these j ≡ Some l → slice_get those j ≡ Some l) → (k : ℕ) (hs : List LoopHead) → k + length hs ≤ length these → Numbered k hs → Each (λ (h : LoopHead). loop_claimed those h.number ≡ loop_claimed these h.number) hs
same_claims these those keeps k [] l n = tt
same_claims these those keeps k (h ∷ hs) l n = (same, same_claims these those keeps (suc k) hs (omega (arith, l)) n.1)
  where
    there : (xs : List Loop) (j : ℕ) → j < length xs → (l : Loop) × (slice_get xs j ≡ Some l)
    there [] j e = absurd (omega (arith, e))
    there (x ∷ xs) zero e = (x, refl)
    there (x ∷ xs) (suc j) e = there xs j (omega (arith, e))

    same : loop_claimed those h.number ≡ loop_claimed these h.number
    same =
        let q = n.0 in
        let found = there these h.number (omega (arith, l, q)) in
        ap claim_or_none (keeps h.number found.0 found.1) ∙ sym (ap claim_or_none found.1)
