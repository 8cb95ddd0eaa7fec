-- What whole expressions become, by what is found in their parts.
use Rattle.std.specs.Prelude.{◌≡◌, ℕ, zero, suc, Bool, true, false, Ok, Err, Option, Some, None, List, [], ◌∷◌, ◌++◌, length, map, slice_index_or, Result, Vec, refl}
use Rattle.std.specs.declared.alloc.Global.{Global}
use Rattle.std.proofs.Common.{◌∙◌, ap, sym, Box}
use Rattle.p10_base.specs.declared.at.At.{At}
use Rattle.p10_base.specs.declared.span.Span.{Span}
use Rattle.p10_base.specs.declared.codes.SubsetCode.TheVariants as subset
use Rattle.p10_syn.specs.declared.tree.Form.TheVariants as form
use Rattle.p10_syn.specs.declared.tree.Expr.{Expr}
use Rattle.p10_syn.specs.declared.sign.Sign.{Sign}
use Rattle.p10_syn.specs.Trees.{Expression, Expressions, expression, Name, Number, Character, Strings, Unary, Step, Binary, Assign, Conditional, Call, Index, Member, Arrow, Cast, SizeofExpression, SizeofType, Comma, expression_row}
use Rattle.p10_syn.specs.Built.{expression_of}
use Rattle.p10_core.specs.declared.typed.Library.TheVariants.{Assert}
use Rattle.p10_core.specs.declared.statements.StmtForm.{StmtForm}
use Rattle.p10_core.specs.declared.typed.Value.{Value}
use Rattle.p10_core.specs.Types.{void}
use Rattle.p10_core.specs.Typed.{PlainValues, no_values, more_values, value, built_in, PlainValue, PlainPlace, PlainStatementForm, PlainStatement, evaluate, asserts}
use Rattle.p10_core.specs.Views.{plain_value, plain_values}
use Rattle.p10_elabx.specs.declared.problem.Problem.{Problem}
use Rattle.p10_elabx.specs.First.{Found, Ruled, Judged, lift, on, also, only_first, nothing_said}
use Rattle.p10_elabx.specs.Scopes.{PlainScope}
use Rattle.p10_elabx.specs.declared.operand.Operand.{Operand}
use Rattle.p10_elabx.specs.declared.operand.PlaceKind.{PlaceKind}
use Rattle.p10_elabx.specs.Built.{ruled_operand, ruled_form}
use Rattle.p10_elabs.specs.private.Parts.{unless_refused}
use Rattle.p10_elabx.specs.Operands.{PlainOperand, a_value, any_value, as_value}
use Rattle.p10_elabx.specs.Calls.{Wanted, Listed, of_library, wants_of, wanted_of, no_arguments, call_problem, with_problem, call_judged}
use Rattle.p10_elabx.specs.Judging.{called_name, judge, judge_arguments, by_sign, step_judged, target_judged, assignment_of, step_of, place_of, may_be_place}
use Rattle.p10_elabx.proofs.CallParts.{memory_is}
use Rattle.p10_int.specs.declared.operators.BinOp.{BinOp}
use Rattle.p10_elabs.specs.Expressions.{assertion, assert_called, assert_found, call_found, form_found, piece_done, pieces_done, clause_done}
use Rattle.p10_elabs.specs.Locals.{Local, Done}
use Rattle.p10_elabs.specs.private.Clauses.{no_pieces, one_piece, by_parens, clause_by}
use Rattle.p10_elabs.specs.private.Forming.{asserted, value_form, assigned_form, stepped_form, call_form, form_by}
use Rattle.p10_elabs.proofs.TreeNodes.{call_tree, comma_tree}

-- ## `assert`

-- nothing
abbrev pub no_form : Ruled PlainStatementForm
no_form = nothing_said

-- one argument
pub single : (at : At) (vs : List Value) (v : Value) → length vs ≡ 1 → v ≡ slice_index_or vs 0 v → Ok (asserts at (plain_value v)) ≡ asserted at (plain_values vs)
single at [] v one is = absurd cc
single at (x ∷ []) v one is = ap (λ y. Ok (asserts at (plain_value y))) is
single at (x ∷ y ∷ vs) v one is = absurd cc

-- none, or more
pub not_single : (at : At) (vs : List Value) → (length vs ≡ 1 → ⊥) → no_form ≡ asserted at (plain_values vs)
not_single at [] several = refl
not_single at (x ∷ []) several = absurd (several refl)
not_single at (x ∷ y ∷ vs) several = refl

-- a form, unless the call is refused
pub unless_is : (seen : Result Operand (Option Problem)) (form : Result StmtForm (Option Problem)) → lift (ruled_form (unless_refused seen form)) ≡ on (lift (ruled_operand seen)) (λ _. ruled_form form)
unless_is (Ok o) form = refl
unless_is (Err r) form = refl

-- the statement that a call of `assert` becomes
assertion_is : (at : At) (s : Span) (vs : PlainValues) → assertion (a_value (value at (void false) (built_in s Assert vs))) ≡ asserted at vs
assertion_is at s no_values = refl
assertion_is at s (more_values v no_values) = refl
assertion_is at s (more_values v (more_values w rest)) = refl

-- what is found in a call, with rows on its form
abbrev whole : Option Problem → Bool → At → Bool → Bool → Found PlainOperand → Found PlainOperand
whole r u at acts reads f = (also only_first u subset.UnspecifiedOrder at (with_problem only_first r (record { found = f; acts = acts; reads = reads }))).found

-- arguments that are found don't change whether a call is refused
found_alike : (r : Option Problem) (u : Bool) (at : At) (acts reads : Bool) (a b : PlainOperand) (go : PlainOperand → Ruled PlainStatementForm) (x : Ruled PlainStatementForm) →
    x ≡ go a → on (whole r u at acts reads (Ok b)) (λ _. x) ≡ on (whole r u at acts reads (Ok a)) go
found_alike None false at acts reads a b go x is = ap lift is
found_alike None true at acts reads a b go x is = refl
found_alike (Some r) false at acts reads a b go x is = refl
found_alike (Some r) true at acts reads a b go x is = refl

-- with arguments
abbrev pub listing : Found PlainValues → Listed → Listed
listing f k = record k { found = f }

pub asserts_alike : (at name_at : At) (n : ℕ) (k : Listed) (vs : PlainValues) →
    on (call_judged only_first at name_at (of_library Assert) n (listing (Ok no_values) k)).found (λ _. asserted at vs)
    ≡ on (call_judged only_first at name_at (of_library Assert) n (listing (Ok vs) k)).found assertion
unfolding call_judged
asserts_alike at name_at n k vs =
    found_alike (call_problem at name_at (of_library Assert) n) k.unordered at true k.reads
    (a_value (value at (void false) (built_in name_at.span Assert vs))) (a_value (value at (void false) (built_in name_at.span Assert no_values))) assertion (asserted at vs)
    (sym (assertion_is at name_at.span vs))

-- a call whose arguments are found
pub assert_with : (at name_at : At) (n : ℕ) (k without : Listed) (vs : PlainValues) (j : Judged PlainOperand) (form : Ruled PlainStatementForm) (r : Found PlainStatementForm) →
    r ≡ on j.found (λ _. form) → form ≡ asserted at vs → j ≡ call_judged only_first at name_at (of_library Assert) n without → without ≡ listing (Ok no_values) k → k.found ≡ Ok vs →
    r ≡ on (call_judged only_first at name_at (of_library Assert) n k).found assertion
assert_with at name_at n k without vs j form r is one seen none found =
    is ∙ ap (λ x. on j.found (λ _. x)) one
    ∙ ap (λ (x : Judged PlainOperand). on x.found (λ _. asserted at vs)) (seen ∙ ap (call_judged only_first at name_at (of_library Assert) n) none)
    ∙ asserts_alike at name_at n k vs
    ∙ ap (λ x. on (call_judged only_first at name_at (of_library Assert) n (listing x k)).found assertion) (sym found)

-- what is found in a refused call doesn't depend on what would be made of it
refused_alike : (r : Option Problem) (u : Bool) (at : At) (acts reads : Bool) (rs : List Problem) (go to : PlainOperand → Ruled PlainStatementForm) →
    on (whole r u at acts reads (Err rs)) go ≡ on (whole r u at acts reads (Err rs)) to
refused_alike None false at acts reads rs go to = refl
refused_alike None true at acts reads rs go to = refl
refused_alike (Some r) false at acts reads rs go to = refl
refused_alike (Some r) true at acts reads rs go to = refl

refusals_alike : (at name_at : At) (n : ℕ) (k : Listed) (rs : List Problem) →
    on (call_judged only_first at name_at (of_library Assert) n (listing (Err rs) k)).found (λ _. no_form)
    ≡ on (call_judged only_first at name_at (of_library Assert) n (listing (Err rs) k)).found assertion
unfolding call_judged
refusals_alike at name_at n k rs = refused_alike (call_problem at name_at (of_library Assert) n) k.unordered at true k.reads rs (λ _. no_form) assertion

-- a call whose arguments are refused
pub assert_refused : (at name_at : At) (n : ℕ) (k refused : Listed) (rs : List Problem) (j : Judged PlainOperand) (r : Found PlainStatementForm) →
    r ≡ on j.found (λ _. no_form) → j ≡ call_judged only_first at name_at (of_library Assert) n refused → refused ≡ listing (Err rs) k → k.found ≡ Err rs →
    r ≡ on (call_judged only_first at name_at (of_library Assert) n k).found assertion
assert_refused at name_at n k refused rs j r is seen none found =
    is ∙ ap (λ (x : Judged PlainOperand). on x.found (λ _. no_form)) (seen ∙ ap (call_judged only_first at name_at (of_library Assert) n) none)
    ∙ refusals_alike at name_at n k rs
    ∙ ap (λ x. on (call_judged only_first at name_at (of_library Assert) n (listing x k)).found assertion) (sym found)

pub assert_is : (s : PlainScope) (at name_at : At) (all : List Expr) (n : ℕ) (w : List Wanted) (k : Listed) →
    n ≡ length all → w ≡ wanted_of (wants_of (of_library Assert)) n → k ≡ judge_arguments only_first s w 0 no_arguments (expression_row (map expression_of all)) →
    on (call_judged only_first at name_at (of_library Assert) n k).found assertion ≡ assert_found only_first s at name_at (expression_row (map expression_of all))
assert_is s at name_at all n w k en ew ek =
    ap (λ (j : Judged PlainOperand). on j.found assertion)
    (memory_is s (record { cast_at = at; call_at = at; name_at = name_at }) Assert all n w k _ en ew ek refl)

-- ## Forms

-- by its form, an expression becomes what it becomes
form_by_is : (s : PlainScope) (e : Expression At) → form_by only_first s e ≡ form_found only_first s e
unfolding value_form assigned_form stepped_form call_form
form_by_is s (expression at n (Name x)) = refl
form_by_is s (expression at n (Number x)) = refl
form_by_is s (expression at n (Character x)) = refl
form_by_is s (expression at n (Strings x)) = refl
form_by_is s (expression at n (Unary w a)) = refl
form_by_is s (expression at n (Step side w a)) = refl
form_by_is s (expression at n (Binary w a b)) = refl
form_by_is s (expression at n (Assign w a b)) = refl
form_by_is s (expression at n (Conditional a b c)) = refl
form_by_is s (expression at n (Call f all)) = refl
form_by_is s (expression at n (Index a b)) = refl
form_by_is s (expression at n (Member a x)) = refl
form_by_is s (expression at n (Arrow a x)) = refl
form_by_is s (expression at n (Cast t a)) = refl
form_by_is s (expression at n (SizeofExpression a)) = refl
form_by_is s (expression at n (SizeofType t)) = refl
form_by_is s (expression at n (Comma all)) = refl

pub by_form : (s : PlainScope) (e : Expression At) (r : Found PlainStatementForm) → r ≡ form_by only_first s e → r ≡ form_found only_first s e
by_form s e r is = is ∙ form_by_is s e

-- an assignment of its operands
pub assigned_made : (s : PlainScope) (at : At) (word : Sign) (a b : Expression At) (t : Judged (PlaceKind × PlainPlace)) (v : Judged PlainValue) (op : Option BinOp) (j : Judged PlainStatementForm) →
    t ≡ target_judged only_first s.structures (place_of a) (may_be_place a) (judge only_first s a) → v ≡ as_value s.structures (judge only_first s b) → op ≡ assignment_of word →
    j ≡ by_sign only_first s.structures at op t v → j.found ≡ assigned_form only_first s at word a b
unfolding assigned_form
assigned_made s at word a b t v op j target operand sign is =
    ap (λ (x : Judged PlainStatementForm). x.found)
    (is ∙ ap (λ x. by_sign only_first s.structures at x t v) sign ∙ ap (λ x. by_sign only_first s.structures at (assignment_of word) x v) target
    ∙ ap (by_sign only_first s.structures at (assignment_of word) (target_judged only_first s.structures (place_of a) (may_be_place a) (judge only_first s a))) operand)

-- a step of its operand
pub stepped_made : (s : PlainScope) (at : At) (word : Sign) (e : Expression At) (t : Judged (PlaceKind × PlainPlace)) (op : BinOp) (j : Judged PlainStatementForm) →
    t ≡ target_judged only_first s.structures (place_of e) (may_be_place e) (judge only_first s e) → op ≡ step_of word → j ≡ step_judged s.structures at op t → j.found ≡ stepped_form only_first s at word e
unfolding stepped_form
stepped_made s at word e t op j target sign is =
    ap (λ (x : Judged PlainStatementForm). x.found) (is ∙ ap (λ x. step_judged s.structures at x t) sign ∙ ap (step_judged s.structures at (step_of word)) target)

-- a value of what is judged
pub value_made : (s : PlainScope) (e : Expression At) (j : Judged PlainOperand) (v : Judged PlainValue) (r : Found PlainStatementForm) →
    j ≡ judge only_first s e → v ≡ any_value s.structures j → r ≡ on v.found (λ x. Ok (evaluate x)) → r ≡ value_form only_first s e
unfolding value_form
value_made s e j v r seen given is =
    is ∙ ap (λ (x : Judged PlainValue). on x.found (λ y. Ok (evaluate y))) (given ∙ ap (any_value s.structures) seen)

-- a call of `assert`, and another one
pub assert_made : (s : PlainScope) (at name_at : At) (all : Expressions At) (e f : Expression At) (r : Found PlainStatementForm) → Some name_at ≡ assert_called s (called_name f) →
    r ≡ assert_found only_first s at name_at all → r ≡ call_form only_first s at all e f
unfolding call_form
assert_made s at name_at all e f r known is = is ∙ ap (call_found only_first s at all (value_form only_first s e)) known

pub other_made : (s : PlainScope) (at : At) (all : Expressions At) (e f : Expression At) (r : Found PlainStatementForm) → None ≡ assert_called s (called_name f) →
    r ≡ value_form only_first s e → r ≡ call_form only_first s at all e f
unfolding call_form
other_made s at all e f r known is = is ∙ ap (call_found only_first s at all (value_form only_first s e)) known

-- a call in the code's tree
pub call_arm : (s : PlainScope) (e : Expr) (f : Box Expr Global) (all : Vec Expr Global) (items : List Expr) (g : Expr) (r : Found PlainStatementForm) → e.form ≡ form.Call f all → items ≡ all.items → g ≡ f.value →
    r ≡ call_form only_first s e.at (expression_row (map expression_of items)) (expression_of e) (expression_of g) → r ≡ form_by only_first s (expression_of e)
call_arm s e f all items g r is same one er =
    let tree = call_tree e f all is in
    er ∙ ap (λ xs. call_form only_first s e.at (expression_row (map expression_of xs)) (expression_of e) (expression_of g)) same
    ∙ ap (λ x. call_form only_first s e.at (expression_row (map expression_of all.items)) (expression_of e) (expression_of x)) one
    ∙ ap (λ x. call_form only_first s e.at (expression_row (map expression_of all.items)) x (expression_of f.value)) tree ∙ ap (form_by only_first s) (sym tree)

-- ## Pieces

pub step_pieces : (d after : Done (List PlainStatement)) (xs rest : List Expr) (e : Expr) → xs ≡ e ∷ rest → after ≡ piece_done only_first d (expression_of e) →
    pieces_done only_first d (expression_row (map expression_of xs)) ≡ pieces_done only_first after (expression_row (map expression_of rest))
step_pieces d after xs rest e cut is =
    ap (λ ys. pieces_done only_first d (expression_row (map expression_of ys))) cut
    ∙ ap (λ x. pieces_done only_first x (expression_row (map expression_of rest))) (sym is)

-- by its form, a clause comes to what it comes to
clause_by_is : (l : Local) (e : Expression At) → clause_by only_first l e ≡ clause_done only_first l e
unfolding one_piece
clause_by_is l (expression at zero (Name x)) = refl
clause_by_is l (expression at (suc n) (Name x)) = refl
clause_by_is l (expression at zero (Number x)) = refl
clause_by_is l (expression at (suc n) (Number x)) = refl
clause_by_is l (expression at zero (Character x)) = refl
clause_by_is l (expression at (suc n) (Character x)) = refl
clause_by_is l (expression at zero (Strings x)) = refl
clause_by_is l (expression at (suc n) (Strings x)) = refl
clause_by_is l (expression at zero (Unary w a)) = refl
clause_by_is l (expression at (suc n) (Unary w a)) = refl
clause_by_is l (expression at zero (Step side w a)) = refl
clause_by_is l (expression at (suc n) (Step side w a)) = refl
clause_by_is l (expression at zero (Binary w a b)) = refl
clause_by_is l (expression at (suc n) (Binary w a b)) = refl
clause_by_is l (expression at zero (Assign w a b)) = refl
clause_by_is l (expression at (suc n) (Assign w a b)) = refl
clause_by_is l (expression at zero (Conditional a b c)) = refl
clause_by_is l (expression at (suc n) (Conditional a b c)) = refl
clause_by_is l (expression at zero (Call f all)) = refl
clause_by_is l (expression at (suc n) (Call f all)) = refl
clause_by_is l (expression at zero (Index a b)) = refl
clause_by_is l (expression at (suc n) (Index a b)) = refl
clause_by_is l (expression at zero (Member a x)) = refl
clause_by_is l (expression at (suc n) (Member a x)) = refl
clause_by_is l (expression at zero (Arrow a x)) = refl
clause_by_is l (expression at (suc n) (Arrow a x)) = refl
clause_by_is l (expression at zero (Cast t a)) = refl
clause_by_is l (expression at (suc n) (Cast t a)) = refl
clause_by_is l (expression at zero (SizeofExpression a)) = refl
clause_by_is l (expression at (suc n) (SizeofExpression a)) = refl
clause_by_is l (expression at zero (SizeofType t)) = refl
clause_by_is l (expression at (suc n) (SizeofType t)) = refl
clause_by_is l (expression at zero (Comma all)) = refl
clause_by_is l (expression at (suc n) (Comma all)) = refl

pub by_clause : (l : Local) (e : Expression At) (d : Done (List PlainStatement)) → d ≡ clause_by only_first l e → d ≡ clause_done only_first l e
by_clause l e d is = is ∙ clause_by_is l e

pub not_inside : (n : ℕ) (d pieces one : Done (List PlainStatement)) → n ≡ 0 → d ≡ pieces → d ≡ by_parens n pieces one
not_inside n d pieces one none is = is ∙ ap (λ m. by_parens m pieces one) (sym none)

pub inside : (n : ℕ) (d pieces one : Done (List PlainStatement)) → (n ≡ 0 → ⊥) → d ≡ one → d ≡ by_parens n pieces one
inside zero d pieces one some is = absurd (some refl)
inside (suc n) d pieces one some is = is

-- the operands of a comma in the code's tree
pub comma_arm : (l : Local) (e : Expr) (all : Vec Expr Global) (items : List Expr) (d : Done (List PlainStatement)) → e.form ≡ form.Comma all → items ≡ all.items →
    d ≡ by_parens e.parens (pieces_done only_first (no_pieces l) (expression_row (map expression_of items))) (one_piece only_first l (expression_of e)) → d ≡ clause_by only_first l (expression_of e)
comma_arm l e all items d is same ed =
    let tree = comma_tree e all is in
    ed ∙ ap (λ xs. by_parens e.parens (pieces_done only_first (no_pieces l) (expression_row (map expression_of xs))) (one_piece only_first l (expression_of e))) same
    ∙ ap (λ x. by_parens e.parens (pieces_done only_first (no_pieces l) (expression_row (map expression_of all.items))) (one_piece only_first l x)) tree
    ∙ ap (clause_by only_first l) (sym tree)
