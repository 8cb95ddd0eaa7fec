-- Expressions as statements and as tests (C99 6.8.3, 6.8.4, 6.8.5).
use Rattle.std.specs.Prelude.{zero, false, if◌then◌else◌, List, [], ◌∷◌, ◌++◌, Option, Some, None, Ok}
use Rattle.p10_base.specs.declared.at.At.{At}
use Rattle.p10_base.specs.declared.codes.SubsetCode.TheVariants as subset
use Rattle.p10_int.specs.Types.{promoted}
use Rattle.p10_syn.specs.Trees.{Identifier, Expression, expression, Step, Assign, Call, Comma, Expressions, NoExpressions, MoreExpressions, Optional, Absent, Present}
use Rattle.p10_core.specs.declared.typed.Library.TheVariants.{Assert}
use Rattle.p10_core.specs.Types.{integer}
use Rattle.p10_core.specs.Rows.{is_scalar, is_integer}
use Rattle.p10_core.specs.Constants.{integer_of}
use Rattle.p10_core.specs.Typed.{PlainValue, value, built_in, no_values, more_values, at_of, type_of, PlainStatement, statement, PlainStatementForm, evaluate, asserts}
use Rattle.p10_elabx.specs.First.{Keep, Found, Ruled, refused, nothing_said, Judged, on}
use Rattle.p10_elabx.specs.Scopes.{PlainScope, named}
use Rattle.p10_elabx.specs.Operands.{PlainOperand, a_value, any_value, as_value, converted}
use Rattle.p10_elabx.specs.Calls.{of_library, callee_of, wants_of, wanted_of, no_arguments, call_judged, is_assert}
use Rattle.p10_elabx.specs.Judging.{judge, judge_arguments, count_of, called_name, by_sign, step_judged, target_judged, assignment_of, step_of, place_of, may_be_place}
use Rattle.p10_elabd.specs.Standing.{PlainStanding, noted}
use Rattle.p10_elabd.specs.Expressions.{for_expression, value_found}
use Rattle.p10_elabs.specs.Locals.{Local, Done, done_in}

-- ## Expression statements

-- `assert` is a statement of its own
abbrev pub assertion : PlainOperand → Ruled PlainStatementForm
assertion (a_value (value at t (built_in s Assert (more_values v no_values)))) = Ok (asserts at v)
assertion o = nothing_said

-- a value that isn't used, void or not
abbrev pub evaluated : Keep → PlainScope → Judged PlainOperand → Found PlainStatementForm
evaluated h s j = on (any_value s.structures j).found (λ v. Ok (evaluate v))

-- where the name of `assert` stands, if it is called
abbrev pub assert_called : PlainScope → Option (Identifier At) → Option At
assert_called s None = None
assert_called s (Some x) = if is_assert (callee_of (named s x.name) x.name) then Some x.place else None

-- a call of `assert` as a whole statement
abbrev pub assert_found : Keep → PlainScope → At → At → Expressions At → Found PlainStatementForm
assert_found h s at name_at all =
    on (call_judged h at name_at (of_library Assert) (count_of all) (judge_arguments h s (wanted_of (wants_of (of_library Assert)) (count_of all)) 0 no_arguments all)).found
    assertion

-- a call as a whole statement: `assert` may stand there; what another one gives is a value
abbrev pub call_found : Keep → PlainScope → At → Expressions At → Found PlainStatementForm → Option At → Found PlainStatementForm
call_found h s at all other None = other
call_found h s at all other (Some name_at) = assert_found h s at name_at all

-- what a whole expression becomes: an assignment or a step, `assert`, or a value; parentheses change nothing
abbrev pub form_found : Keep → PlainScope → Expression At → Found PlainStatementForm
form_found h s (expression at n (Assign word a b)) =
    (by_sign h s.structures at (assignment_of word) (target_judged h s.structures (place_of a) (may_be_place a) (judge h s a)) (as_value s.structures (judge h s b))).found
form_found h s (expression at n (Step side word e)) =
    (step_judged s.structures at (step_of word) (target_judged h s.structures (place_of e) (may_be_place e) (judge h s e))).found
form_found h s (expression at n (Call f all)) =
    call_found h s at all (evaluated h s (judge h s (expression at n (Call f all)))) (assert_called s (called_name f))
form_found h s e = evaluated h s (judge h s e)

-- a form as a statement at a tree
abbrev pub statement_with : At → Option PlainStatementForm → Option PlainStatement
statement_with at None = None
statement_with at (Some f) = Some (statement at f)

-- an expression as a statement at a tree
abbrev pub expression_statement : Keep → Local → At → Expression At → Done PlainStatement
expression_statement h l at e =
    let s : PlainStanding = for_expression l.standing e in
    let d : Done PlainStatementForm = done_in l (noted h (form_found h s.scope e) s) in
    record { made = statement_with at d.made; after = d.after }

-- ## Clauses of a `for`

-- a statement more, which may be refused
abbrev pub statement_added : Option (List PlainStatement) → Option PlainStatement → Option (List PlainStatement)
statement_added (Some ss) (Some s) = Some (ss ++ s ∷ [])
statement_added ss s = None

-- a piece of a clause after those before
abbrev pub piece_done : Keep → Done (List PlainStatement) → Expression At → Done (List PlainStatement)
piece_done h d e =
    let one : Done PlainStatement = expression_statement h d.after (place_of e) e in
    record { made = statement_added d.made one.made; after = one.after }

-- the pieces of a clause are statements of their own, each at its expression
abbrev pub pieces_done : Keep → Done (List PlainStatement) → Expressions At → Done (List PlainStatement)
pieces_done h d NoExpressions = d
pieces_done h d (MoreExpressions e rest) = pieces_done h (piece_done h d e) rest

-- the first or third clause of a `for`: the operands of a comma that isn't in parentheses are its pieces
abbrev pub clause_done : Keep → Local → Expression At → Done (List PlainStatement)
clause_done h l (expression at zero (Comma all)) = pieces_done h (record { made = Some []; after = l }) all
clause_done h l e = piece_done h (record { made = Some []; after = l }) e

-- a clause that may be left out
abbrev pub optional_clause : Keep → Local → Optional At → Done (List PlainStatement)
optional_clause h l Absent = record { made = Some []; after = l }
optional_clause h l (Present e) = clause_done h l e

-- ## Tests

-- a condition is a scalar (C99 6.8.4.1p1, 6.8.5p2)
abbrev pub tested : PlainValue → Ruled PlainValue
tested v = if is_scalar (type_of v) then Ok v else refused subset.OperandTypes (at_of v)

-- a condition
abbrev pub test_done : Keep → Local → Expression At → Done PlainValue
test_done h l e = done_in l (noted h (on (value_found h l.standing e) tested) (for_expression l.standing e))

-- a condition that may be left out
abbrev pub optional_test : Keep → Local → Optional At → Done (Option PlainValue)
optional_test h l Absent = record { made = Some None; after = l }
optional_test h l (Present e) = as_maybe (test_done h l e)
  where
    in_option : Option PlainValue → Option (Option PlainValue)
    in_option None = None
    in_option (Some v) = Some (Some v)

    as_maybe : Done PlainValue → Done (Option PlainValue)
    as_maybe d = record { made = in_option d.made; after = d.after }

-- the value of a `switch` is an integer, which is promoted (C99 6.8.4.2p1, p5)
abbrev pub switched : PlainValue → Ruled PlainValue
switched v = if is_integer (type_of v) then Ok (converted v (integer false (promoted (integer_of (type_of v))))) else refused subset.OperandTypes (at_of v)

-- the value of a `switch`
abbrev pub switch_done : Keep → Local → Expression At → Done PlainValue
switch_done h l e = done_in l (noted h (on (value_found h l.standing e) switched) (for_expression l.standing e))
