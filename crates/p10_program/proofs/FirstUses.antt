-- The first problem of the nodes of a walk.
use Rattle.std.proofs.Common.{◌≡◌, ℕ, List, [], ◌∷◌, ◌++◌, Option, Some, None, refl, sym, ◌∙◌, ap, subst}
use Rattle.p10_base.specs.declared.at.At.{At}
use Rattle.p10_base.specs.declared.codes.SubsetCode.TheVariants as subset
use Rattle.p10_syn.specs.Places.{nowhere}
use Rattle.p10_core.specs.Typed.{value, constant, read, sense, address, decay, convert, cast, unary, binary, logic, conditional, call, built_in, place, variable, global, literal, index, member, dereference}
use Rattle.p10_core.specs.Nodes.{PlainNode, a_statement, a_value, a_place}
use Rattle.p10_core.specs.declared.nodes.Node.{Node}
use Rattle.p10_core.specs.Walks.{plain_node, WalksOn}
use Rattle.p10_core.specs.Uses.{function_used, object_used}
use Rattle.p10_elabx.specs.declared.problem.Problem.{Problem}
use Rattle.p10_elabx.specs.First.{only_first, joined, problems}
use Rattle.p10_program.specs.Undefined.{undefined_among}
use Rattle.p10_program.specs.Mains.{calls_of_main, missing_main}
use Rattle.p10_program.specs.FirstProblems.{first_with}
use Rattle.p10_program.specs.private.Using.{use_undefined, main_used}

-- ## The first of problems

pub first_with_none : (found : Option Problem) → first_with found [] ≡ found
first_with_none None = refl
first_with_none (Some r) = refl

pub first_with_next : (found : Option Problem) (r : Problem) (rest : List Problem) → first_with found (r ∷ rest) ≡ first_with (first_with found (r ∷ [])) rest
first_with_next None r rest = refl
first_with_next (Some q) r rest = refl

pub first_with_append : (found : Option Problem) (rs qs : List Problem) → first_with found (rs ++ qs) ≡ first_with (first_with found rs) qs
first_with_append found [] qs = ap (λ r. first_with r qs) (sym (first_with_none found))
first_with_append found (r ∷ rs) qs =
    first_with_next found r (rs ++ qs)
    ∙ first_with_append (first_with found (r ∷ [])) rs qs
    ∙ ap (λ o. first_with o qs) (sym (first_with_next found r rs))

abbrev first_in : List Problem → Option Problem
first_in [] = None
first_in (r ∷ rest) = Some r

first_in_problems : (found : Option Problem) → first_in (problems found) ≡ found
first_in_problems None = refl
first_in_problems (Some r) = refl

first_in_joined : (found next : Option Problem) → first_in (joined only_first (problems found) (problems next)) ≡ first_with found (problems next)
first_in_joined None None = refl
first_in_joined None (Some q) = refl
first_in_joined (Some r) None = refl
first_in_joined (Some r) (Some q) = refl

-- the first of two that may hold
pub joined_first : (found next result : Option Problem) → problems result ≡ joined only_first (problems found) (problems next) → result ≡ first_with found (problems next)
joined_first found next result e = sym (first_in_problems result) ∙ ap first_in e ∙ first_in_joined found next

-- ## The next node of a walk

-- there is a next node
pub walked : (found : Option Node) (n : Node) (before after : List PlainNode) → found ≡ Some n → WalksOn found before after → before ≡ plain_node n ∷ after
walked found n before after p w = subst (λ f. WalksOn f before after) p w

-- there is none
pub ended : (found : Option Node) (before after : List PlainNode) → found ≡ None → WalksOn found before after → before ≡ []
ended found before after p w = subst (λ f. WalksOn f before after) p w

-- a problem of the next node is taken with those that were found
pub turned : (of : List PlainNode → List Problem) (of_next : List Problem) (found new : Option Problem) (n : PlainNode) (before after : List PlainNode) →
    before ≡ n ∷ after → of (n ∷ after) ≡ of_next ++ of after → new ≡ first_with found of_next → first_with new (of after) ≡ first_with found (of before)
turned of of_next found new n before after p q r =
    ap (λ o. first_with o (of after)) r
    ∙ sym (first_with_append found of_next (of after))
    ∙ ap (first_with found) (sym q ∙ ap of (sym p))

-- no node is left
pub turned_all : (of : List PlainNode → List Problem) (found : Option Problem) (before : List PlainNode) → of [] ≡ [] → before ≡ [] → found ≡ first_with found (of before)
turned_all of found before p q = sym (first_with_none found) ∙ ap (first_with found) (sym (ap of q ∙ p))

-- ## What a node uses

pub undefined_next : (functions objects : ℕ) (n : PlainNode) (rest : List PlainNode) →
    undefined_among functions objects (n ∷ rest) ≡ use_undefined functions objects (function_used n) (object_used n) ++ undefined_among functions objects rest
undefined_next functions objects (a_statement s) rest = refl
undefined_next functions objects (a_value (value at t (constant z))) rest = refl
undefined_next functions objects (a_value (value at t (read p))) rest = refl
undefined_next functions objects (a_value (value at t (sense m))) rest = refl
undefined_next functions objects (a_value (value at t (address p))) rest = refl
undefined_next functions objects (a_value (value at t (decay p))) rest = refl
undefined_next functions objects (a_value (value at t (convert v))) rest = refl
undefined_next functions objects (a_value (value at t (cast v))) rest = refl
undefined_next functions objects (a_value (value at t (unary op v))) rest = refl
undefined_next functions objects (a_value (value at t (binary op v w))) rest = refl
undefined_next functions objects (a_value (value at t (logic op v w))) rest = refl
undefined_next functions objects (a_value (value at t (conditional v w x))) rest = refl
undefined_next functions objects (a_value (value at t (call s m all))) rest = refl
undefined_next functions objects (a_value (value at t (built_in s f all))) rest = refl
undefined_next functions objects (a_place (place at t (variable m))) rest = refl
undefined_next functions objects (a_place (place at t (global m))) rest = refl
undefined_next functions objects (a_place (place at t (literal m bytes))) rest = refl
undefined_next functions objects (a_place (place at t (index v w))) rest = refl
undefined_next functions objects (a_place (place at t (member p m))) rest = refl
undefined_next functions objects (a_place (place at t (dereference v))) rest = refl

pub main_next : (main : ℕ) (n : PlainNode) (rest : List PlainNode) → calls_of_main (Some main) (n ∷ rest) ≡ main_used main (function_used n) ++ calls_of_main (Some main) rest
main_next main (a_statement s) rest = refl
main_next main (a_value (value at t (constant z))) rest = refl
main_next main (a_value (value at t (read p))) rest = refl
main_next main (a_value (value at t (sense m))) rest = refl
main_next main (a_value (value at t (address p))) rest = refl
main_next main (a_value (value at t (decay p))) rest = refl
main_next main (a_value (value at t (convert v))) rest = refl
main_next main (a_value (value at t (cast v))) rest = refl
main_next main (a_value (value at t (unary op v))) rest = refl
main_next main (a_value (value at t (binary op v w))) rest = refl
main_next main (a_value (value at t (logic op v w))) rest = refl
main_next main (a_value (value at t (conditional v w x))) rest = refl
main_next main (a_value (value at t (call s m all))) rest = refl
main_next main (a_value (value at t (built_in s f all))) rest = refl
main_next main (a_place p) rest = refl

-- ## `main` isn't defined

pub lacking_found : (declared : List Problem) (r : Problem) → Some r ≡ first_with None declared → Some r ≡ first_with None (missing_main None declared)
lacking_found [] r e = absurd cc
lacking_found (q ∷ rest) r e = e

pub lacking_missing : (declared : List Problem) (at : At) → None ≡ first_with None declared → at ≡ nowhere → Some (record { code = subset.BadMain; at = at }) ≡ first_with None (missing_main None declared)
lacking_missing [] at e p = ap (λ at. Some (record { code = subset.BadMain; at = at })) p
lacking_missing (q ∷ rest) at e p = absurd cc
