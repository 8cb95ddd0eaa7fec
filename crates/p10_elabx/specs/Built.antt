-- What the code finds, as the definitions speak of it.
use Rattle.std.specs.Prelude.{false, Result, Ok, Err, Option, List, [], map, option_map, Vec}
use Rattle.std.specs.Borrow.{Bor}
use Rattle.std.specs.declared.alloc.Global.{Global}
use Rattle.p10_core.specs.declared.typed.Value.{Value}
use Rattle.p10_core.specs.declared.typed.Place.{Place}
use Rattle.p10_core.specs.declared.statements.StmtForm.{StmtForm}
use Rattle.p10_core.specs.declared.c_type.CType.{CType}
use Rattle.p10_core.specs.Types.{PlainType, plain_type}
use Rattle.p10_core.specs.Typed.{PlainValue, PlainValues, PlainPlace, PlainStatementForm}
use Rattle.p10_core.specs.Views.{plain_value, plain_values, plain_place, plain_statement_form}
use Rattle.p10_core.specs.Rows.{Row as PlainRow, UnaryRow as PlainUnaryRow, int_type}
use Rattle.p10_elabx.specs.declared.problem.Problem.{Problem}
use Rattle.p10_elabx.specs.declared.operand.PlaceKind.{PlaceKind}
use Rattle.p10_elabx.specs.declared.operand.Operand.{Operand}
use Rattle.p10_elabx.specs.declared.operand.Operand.TheVariants.{Value as AValue, Place as APlace, Function as AFunction}
use Rattle.p10_elabx.specs.declared.rows.Row.{Row}
use Rattle.p10_elabx.specs.declared.rows.UnaryRow.{UnaryRow}
use Rattle.p10_elabx.specs.declared.judged.Judged.{Judged}
use Rattle.p10_elabx.specs.declared.judged.Listed.{Listed}
use Rattle.p10_elabx.specs.declared.shape.Shape.{Shape}
use Rattle.p10_elabx.specs.declared.shape.Shape.TheVariants.{Plain, OpenArray, Function as AFunctionType}
use Rattle.p10_elabx.specs.declared.callee.Callee.{Callee}
use Rattle.p10_elabx.specs.declared.callee.Callee.TheVariants.{Program, Library as OfLibrary, NotDeclared, NoFunction, Refused}
use Rattle.p10_elabx.specs.declared.callee.Wanted.{Wanted}
use Rattle.p10_elabx.specs.declared.callee.Wanted.TheVariants.{Anything, Plain as OfType, Integer, Scalar, Pointer}
use Rattle.p10_elabx.specs.declared.callee.Wants.{Wants}
use Rattle.p10_elabx.specs.declared.callee.Wants.TheVariants.{Nothing, Types as OfTypes, Library as OfLibraryFunction}
use Rattle.p10_elabx.specs.First.{Ruled, lift, Judged as PlainJudged}
use Rattle.p10_elabx.specs.Calls.{Callee as PlainCallee, of_program, of_library, not_declared, no_function, refused_before, Wanted as PlainWanted, anything, of_type, any_scalar, any_pointer, library_wants, Listed as PlainListed}
use Rattle.p10_elabx.specs.TypeNames.{Shape as PlainShape, a_type, an_open_array, a_function_type}
use Rattle.p10_elabx.specs.Operands.{PlainOperand, a_value, a_place, a_function}

-- a row of the code
abbrev pub plain_row : Row → PlainRow
plain_row r = record { result = plain_type r.result; left = plain_type r.left; right = plain_type r.right }

-- a row of the code for a unary operator
abbrev pub plain_unary_row : UnaryRow → PlainUnaryRow
plain_unary_row r = record { result = plain_type r.result; operand = plain_type r.operand }

-- an operand of the code
abbrev pub plain_operand : Operand → PlainOperand
plain_operand (AValue v) = a_value (plain_value v)
plain_operand (APlace kind p) = a_place kind (plain_place p)
plain_operand (AFunction at) = a_function at

-- what a row of the code says of values
abbrev pub ruled_value : Result Value (Option Problem) → Ruled PlainValue
ruled_value (Ok v) = Ok (plain_value v)
ruled_value (Err r) = Err r

-- the same for operands
abbrev pub ruled_operand : Result Operand (Option Problem) → Ruled PlainOperand
ruled_operand (Ok o) = Ok (plain_operand o)
ruled_operand (Err r) = Err r

-- the same for targets
abbrev pub ruled_target : Result (PlaceKind × Place) (Option Problem) → Ruled (PlaceKind × PlainPlace)
ruled_target (Ok (kind, p)) = Ok (kind, plain_place p)
ruled_target (Err r) = Err r

-- the same for statements
abbrev pub ruled_form : Result StmtForm (Option Problem) → Ruled PlainStatementForm
ruled_form (Ok f) = Ok (plain_statement_form f)
ruled_form (Err r) = Err r

-- ## Types

-- what a declarator of the code makes of a type
abbrev pub plain_shape : Shape → PlainShape
plain_shape (Plain t) = a_type (plain_type t)
plain_shape (OpenArray t) = an_open_array (plain_type t)
plain_shape (AFunctionType parameters t) = a_function_type (map plain_type parameters.items) (plain_type t)

-- what a row of the code says of such a thing
abbrev pub ruled_shape : Result Shape (Option Problem) → Ruled PlainShape
ruled_shape (Ok s) = Ok (plain_shape s)
ruled_shape (Err r) = Err r

-- the same for a type
abbrev pub ruled_type : Result CType (Option Problem) → Ruled PlainType
ruled_type (Ok t) = Ok (plain_type t)
ruled_type (Err r) = Err r

-- the same for a type that is lent
abbrev pub ruled_lent : Result (Bor CType) (Option Problem) → Ruled PlainType
ruled_lent (Ok t) = Ok (plain_type t.now)
ruled_lent (Err r) = Err r

-- a type of the code with its size
abbrev pub plain_size : CType × Value → PlainType × PlainValue
plain_size (t, v) = (plain_type t, plain_value v)

-- the same for a type with its size
abbrev pub ruled_size : Result (CType × Value) (Option Problem) → Ruled (PlainType × PlainValue)
ruled_size (Ok x) = Ok (plain_size x)
ruled_size (Err r) = Err r

-- the same for a type that may be lacking
abbrev pub ruled_named : Result (Option CType) (Option Problem) → Ruled (Option PlainType)
ruled_named (Ok o) = Ok (option_map plain_type o)
ruled_named (Err r) = Err r

-- the same for the types of parameters
abbrev pub ruled_types : Result (Vec CType Global) (Option Problem) → Ruled (List PlainType)
ruled_types (Ok ts) = Ok (map plain_type ts.items)
ruled_types (Err r) = Err r

-- ## Calls

-- what the called name of the code stands for
abbrev pub plain_callee : Callee → PlainCallee
plain_callee (Program n parameters result) = of_program n (map plain_type parameters.now) (plain_type result.now)
plain_callee (OfLibrary f) = of_library f
plain_callee NotDeclared = not_declared
plain_callee NoFunction = no_function
plain_callee Refused = refused_before

-- what is asked of an argument of the code
abbrev pub plain_wanted : Wanted → PlainWanted
plain_wanted Anything = anything
plain_wanted (OfType t) = of_type (plain_type t.now)
plain_wanted Integer = of_type int_type
plain_wanted Scalar = any_scalar
plain_wanted Pointer = any_pointer

-- what is asked of each argument of the code
abbrev pub plain_wants : Wants → List PlainWanted
plain_wants Nothing = []
plain_wants (OfTypes ts) = map of_type (map plain_type ts.now)
plain_wants (OfLibraryFunction f) = library_wants f

-- what a row of the code says of values in a row
abbrev pub ruled_values : Result (Vec Value Global) (Option Problem) → Ruled PlainValues
ruled_values (Ok vs) = Ok (plain_values vs.items)
ruled_values (Err r) = Err r

-- what is found in arguments of the code
abbrev pub plain_listed : Listed → PlainListed
plain_listed k = record { found = lift (ruled_values k.found); acts = k.acts; reads = k.reads; unordered = k.unordered }

-- ## With what counts for the order of evaluation

-- what is found in an operand of the code
abbrev pub judged_operand : Judged Operand → PlainJudged PlainOperand
judged_operand j = record { found = lift (ruled_operand j.found); acts = j.acts; reads = j.reads }

-- what is found in a value of the code
abbrev pub judged_value : Judged Value → PlainJudged PlainValue
judged_value j = record { found = lift (ruled_value j.found); acts = j.acts; reads = j.reads }

-- what is found in a target of the code
abbrev pub judged_target : Judged (PlaceKind × Place) → PlainJudged (PlaceKind × PlainPlace)
judged_target j = record { found = lift (ruled_target j.found); acts = j.acts; reads = j.reads }

-- what is found in an assignment of the code
abbrev pub judged_form : Judged StmtForm → PlainJudged PlainStatementForm
judged_form j = record { found = lift (ruled_form j.found); acts = j.acts; reads = j.reads }

-- what is found in a type of the code: nothing in it counts for the order of evaluation
abbrev pub judged_shape : Result Shape (Option Problem) → PlainJudged PlainShape
judged_shape r = record { found = lift (ruled_shape r); acts = false; reads = false }
