-- The pass over a function's body leaves the same as over its view, but for places.
use Rattle.std.proofs.Common.{◌≡◌, ◌∙◌, ℕ, suc, ◌&&◌, List, [], ◌∷◌, map, Option, Some, None, refl, sym}
use Rattle.std.specs.Prelude.{ltb, if◌then◌else◌, slice_get}
use Rattle.std.specs.List.{AllByRecursion}
use Rattle.p10_core.specs.Typed.{PlainVariable, PlainFunction, PlainProgram}
use Rattle.p10_core.specs.Nodes.{nodes_of_statements}
use Rattle.p10_cert.specs.Claims.{Value, Func, Claims}
use Rattle.p10_absx.specs.Abstract.{only_range}
use Rattle.p10_absx.specs.Environments.{Environment}
use Rattle.p10_absx.specs.Entering.{parameter_claimed, claims_on, entries_from, entry_of_function}
use Rattle.p10_sums.specs.Depths.{callees}
use Rattle.p10_pass.specs.Passing.{Left, as_block, claimed_manner, pass_statements, pass_body}
use Rattle.p10_check.specs.Passes.{left_by}
use Rattle.p10_views.specs.Erased.{erased_variable, erased_function, erased_statements}
use Rattle.p10_views.specs.Views.{SayTheSame}
use Rattle.p10_views.proofs.Types.{integer_erased, kind_erased}
use Rattle.p10_views.proofs.Called.{StatementsCall, calls_of_statements}
use Rattle.p10_views.proofs.Spans.{erased_left}
use Rattle.p10_views.proofs.Manners.{Twin, first_of, second_of}
use Rattle.p10_views.proofs.Statements.{block_erased, statements_erased}

-- what the pass over a function leaves
abbrev pub left_in : Claims → ℕ → PlainFunction → Left
left_in c n f = pass_body f (Some c) n (entry_of_function (slice_get c.funcs n) f)

-- the same for the function with a number
pub left_there : (p : PlainProgram) (c : Claims) (n : ℕ) (f : PlainFunction) → slice_get p.functions n ≡ Some f → left_by p c n ≡ left_in c n f
left_there p c n f there = by_function (slice_get p.functions n) refl there
  where
    by_function : (o : Option PlainFunction) → slice_get p.functions n ≡ o → o ≡ Some f → left_by p c n ≡ left_in c n f
    by_function o is same = rw (is, same) refl

-- ---- the entry

entries_erased : (p : PlainProgram) (n parameters : ℕ) (claims : List Value) (vs : List PlainVariable) → entries_from n parameters claims (map (erased_variable p) vs) ≡ entries_from n parameters claims vs
entries_erased p n parameters claims [] = refl
entries_erased p n parameters claims (v ∷ vs) =
    λ i. (if (ltb n parameters && v.frame) && integer_erased p v.type i then Some (only_range (parameter_claimed (kind_erased p v.type i) (slice_get claims n))) else None) ∷ entries_erased p (suc n) parameters claims vs i

pub entry_erased : (p : PlainProgram) (own : Option Func) (f : PlainFunction) → entry_of_function own (erased_function p f) ≡ entry_of_function own f
entry_erased p own f = entries_erased p 0 f.parameters (claims_on own) f.variables

-- ---- the body

-- under one claim on the function itself
by_claim : (p : PlainProgram) (own : Option Func) (c d : Claims) (f : PlainFunction) → StatementsCall (SayTheSame c.funcs d.funcs) f.body → (e : Environment)
    → as_block (erased_statements p f.body) (pass_statements (claimed_manner d own (map (erased_variable p) f.variables)) (erased_statements p f.body) e)
    ≡ erased_left (as_block f.body (pass_statements (claimed_manner c own f.variables) f.body e))
by_claim p None c d f h e =
    let t : Twin = record { program = p; c = Some c; d = Some d; stand = tt; loops = Some []; result = None; variables = f.variables } in
    block_erased t f.body (pass_statements (first_of t) f.body e) (pass_statements (second_of t) (erased_statements p f.body) e) (statements_erased t f.body h e)
by_claim p (Some own) c d f h e =
    let t : Twin = record { program = p; c = Some c; d = Some d; stand = tt; loops = Some own.loops; result = Some own.result; variables = f.variables } in
    block_erased t f.body (pass_statements (first_of t) f.body e) (pass_statements (second_of t) (erased_statements p f.body) e) (statements_erased t f.body h e)

pub left_erased : (p : PlainProgram) (c d : Claims) (n : ℕ) (f : PlainFunction) → SayTheSame c.funcs d.funcs n → AllByRecursion (SayTheSame c.funcs d.funcs) (callees (nodes_of_statements f.body))
    → left_in d n (erased_function p f) ≡ erased_left (left_in c n f)
left_erased p c d n f own called =
    (λ i. as_block (erased_statements p f.body) (pass_statements (claimed_manner d (slice_get d.funcs n) (map (erased_variable p) f.variables)) (erased_statements p f.body) (entry_erased p (slice_get d.funcs n) f i)))
    ∙ (λ i. as_block (erased_statements p f.body) (pass_statements (claimed_manner d (sym own i) (map (erased_variable p) f.variables)) (erased_statements p f.body) (entry_of_function (sym own i) f)))
    ∙ by_claim p (slice_get c.funcs n) c d f (calls_of_statements (SayTheSame c.funcs d.funcs) f.body called) (entry_of_function (slice_get c.funcs n) f)
