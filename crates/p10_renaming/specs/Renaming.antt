-- Trees of two programs that are the same but for places and for the numbers of objects, literals and structures.
use Rattle.std.specs.Prelude.{◌≡◌, ℕ, ℤ, Bool, true, List, [], ◌∷◌, Option, Some, None}
use Rattle.p10_base.specs.Words.{Text}
use Rattle.p10_base.specs.declared.span.Span.{Span}
use Rattle.p10_base.specs.declared.at.At.{At}
use Rattle.p10_int.specs.declared.types.IntType.{IntType}
use Rattle.p10_int.specs.declared.operators.BinOp.{BinOp}
use Rattle.p10_int.specs.declared.operators.UnOp.{UnOp}
use Rattle.p10_core.specs.declared.typed.Library.{Library}
use Rattle.p10_core.specs.declared.typed.LogicOp.{LogicOp}
use Rattle.p10_core.specs.declared.statements.UpdateKind.{UpdateKind}
use Rattle.p10_core.specs.declared.statements.MarkKind.{MarkKind}
use Rattle.p10_core.specs.declared.statements.LoopKeyword.{LoopKeyword}
use Rattle.p10_core.specs.Types.{PlainType, void, integer, pointer, array, structure}
use Rattle.p10_core.specs.Typed.{PlainValue, value, PlainForm, constant, read, sense, address, decay, convert, cast, unary, binary, logic, conditional, call, built_in, PlainPlace, place, PlainPlaceForm, variable, global, literal, index, member, dereference, PlainValues, no_values, more_values}
use Rattle.p10_core.specs.Typed.{PlainWritten, one_scalar, scalars_of_text, PlainItem, PlainInitializer, not_initialized, single, copied, listed, PlainLabels, PlainStatement, statement, PlainStatementForm, set, update, copy, evaluate, asserts, declare, declare_static, block, if_then, if_else, loop, switch, break, continue, return, empty, mark, PlainStatements, no_statements, more_statements, PlainVariable, PlainFunction}

-- pairs of numbers, as a test
abbrev pub Pairs : Type 0
Pairs = ℕ → ℕ → Bool

-- which structures of one program are which of another one, by their numbers: those that expressions and declarations use, and with them
-- those that only types of parameters name
pub record Pairing : Type 0 where
  pub used : Pairs
  pub passed : Pairs

-- where types of parameters are compared
abbrev pub passing : Pairing → Pairing
passing R = record { used = R.passed; passed = R.passed }

-- ## Types

pub data SameType (R : Pairing) : PlainType → PlainType → Type 0 where
  same_void : {c : Bool} → SameType R (void c) (void c)
  same_integer : {c : Bool} {kind : IntType} → SameType R (integer c kind) (integer c kind)
  same_pointer : {c : Bool} {t u : PlainType} → SameType R t u → SameType R (pointer c t) (pointer c u)
  same_array : {c : Bool} {t u : PlainType} {n : ℕ} → SameType R t u → SameType R (array c t n) (array c u n)
  same_structure : {c : Bool} {n m : ℕ} → R.used n m ≡ true → SameType R (structure c n) (structure c m)

-- types of parameters
pub data SameParameterType (R : Pairing) : PlainType → PlainType → Type 0 where
  same_integer_passed : {c : Bool} {kind : IntType} → SameParameterType R (integer c kind) (integer c kind)
  same_pointer_passed : {c : Bool} {t u : PlainType} → SameType R t u → SameParameterType R (pointer c t) (pointer c u)

-- ## Values and places

mutual
  pub data SameValue (R : Pairing) : PlainValue → PlainValue → Type 0 where
    same_value : {at to : At} {t u : PlainType} {f g : PlainForm} → SameType R t u → SameForm R f g → SameValue R (value at t f) (value to u g)

  pub data SameForm (R : Pairing) : PlainForm → PlainForm → Type 0 where
    same_constant : {z : ℤ} → SameForm R (constant z) (constant z)
    same_read : {q r : PlainPlace} → SamePlace R q r → SameForm R (read q) (read r)
    same_sense : {n m : ℕ} → SameForm R (sense n) (sense m)
    same_address : {q r : PlainPlace} → SamePlace R q r → SameForm R (address q) (address r)
    same_decay : {q r : PlainPlace} → SamePlace R q r → SameForm R (decay q) (decay r)
    same_convert : {v w : PlainValue} → SameValue R v w → SameForm R (convert v) (convert w)
    same_cast : {v w : PlainValue} → SameValue R v w → SameForm R (cast v) (cast w)
    same_unary : {op : UnOp} {v w : PlainValue} → SameValue R v w → SameForm R (unary op v) (unary op w)
    same_binary : {op : BinOp} {a b c d : PlainValue} → SameValue R a c → SameValue R b d → SameForm R (binary op a b) (binary op c d)
    same_logic : {op : LogicOp} {a b c d : PlainValue} → SameValue R a c → SameValue R b d → SameForm R (logic op a b) (logic op c d)
    same_conditional : {v w a b c d : PlainValue} → SameValue R v w → SameValue R a c → SameValue R b d → SameForm R (conditional v a b) (conditional w c d)
    same_call : {s t : Span} {n : ℕ} {vs ws : PlainValues} → SameArguments R vs ws → SameForm R (call s n vs) (call t n ws)
    same_built_in : {s t : Span} {f : Library} {vs ws : PlainValues} → SameArguments R vs ws → SameForm R (built_in s f vs) (built_in t f ws)

  pub data SamePlace (R : Pairing) : PlainPlace → PlainPlace → Type 0 where
    same_place : {at to : At} {t u : PlainType} {f g : PlainPlaceForm} → SameType R t u → SamePlaceForm R f g → SamePlace R (place at t f) (place to u g)

  pub data SamePlaceForm (R : Pairing) : PlainPlaceForm → PlainPlaceForm → Type 0 where
    same_variable : {n : ℕ} → SamePlaceForm R (variable n) (variable n)
    same_global : {n m : ℕ} → SamePlaceForm R (global n) (global m)
    same_literal : {n m : ℕ} {bytes : List ℕ} → SamePlaceForm R (literal n bytes) (literal m bytes)
    same_index : {a b i j : PlainValue} → SameValue R a b → SameValue R i j → SamePlaceForm R (index a i) (index b j)
    same_member : {q r : PlainPlace} {m : ℕ} → SamePlace R q r → SamePlaceForm R (member q m) (member r m)
    same_dereference : {v w : PlainValue} → SameValue R v w → SamePlaceForm R (dereference v) (dereference w)

  -- an argument, which may be converted to the type of its parameter
  pub data SameArgument (R : Pairing) : PlainValue → PlainValue → Type 0 where
    same_as_value : {v w : PlainValue} → SameValue R v w → SameArgument R v w
    same_as_parameter : {at to : At} {t u : PlainType} {f g : PlainForm} → SameParameterType (passing R) t u → SameForm R f g → SameArgument R (value at t f) (value to u g)

  pub data SameArguments (R : Pairing) : PlainValues → PlainValues → Type 0 where
    same_no_arguments : SameArguments R no_values no_values
    same_more_arguments : {v w : PlainValue} {vs ws : PlainValues} → SameArgument R v w → SameArguments R vs ws → SameArguments R (more_values v vs) (more_values w ws)

pub data SameMaybe (R : Pairing) : Option PlainValue → Option PlainValue → Type 0 where
  same_none : SameMaybe R None None
  same_some : {v w : PlainValue} → SameValue R v w → SameMaybe R (Some v) (Some w)

-- ## Initialisers

pub data SameWritten (R : Pairing) : PlainWritten → PlainWritten → Type 0 where
  same_scalar : {v w : PlainValue} → SameValue R v w → SameWritten R (one_scalar v) (one_scalar w)
  same_text : {bytes : List ℕ} → SameWritten R (scalars_of_text bytes) (scalars_of_text bytes)

-- items at the same scalars, with the same written for them
pub data SameItems (R : Pairing) : List PlainItem → List PlainItem → Type 0 where
  same_no_items : SameItems R [] []
  same_more_items : {n : ℕ} {a b : PlainWritten} {xs ys : List PlainItem} → SameWritten R a b → SameItems R xs ys → SameItems R (record { scalar = n; written = a } ∷ xs) (record { scalar = n; written = b } ∷ ys)

pub data SameInitializer (R : Pairing) : PlainInitializer → PlainInitializer → Type 0 where
  same_not_initialized : SameInitializer R not_initialized not_initialized
  same_single : {v w : PlainValue} → SameValue R v w → SameInitializer R (single v) (single w)
  same_copied : {q r : PlainPlace} → SamePlace R q r → SameInitializer R (copied q) (copied r)
  same_listed : {at to : At} {xs ys : List PlainItem} → SameItems R xs ys → SameInitializer R (listed at xs) (listed to ys)

-- ## Statements

mutual
  pub data SameStatement (R : Pairing) : PlainStatement → PlainStatement → Type 0 where
    same_statement : {at to : At} {f g : PlainStatementForm} → SameStatementForm R f g → SameStatement R (statement at f) (statement to g)

  pub data SameStatementForm (R : Pairing) : PlainStatementForm → PlainStatementForm → Type 0 where
    same_set : {q r : PlainPlace} {v w : PlainValue} → SamePlace R q r → SameValue R v w → SameStatementForm R (set q v) (set r w)
    same_update : {kind : UpdateKind} {op : BinOp} {t u : PlainType} {q r : PlainPlace} {v w : PlainValue} → SameType R t u → SamePlace R q r → SameValue R v w → SameStatementForm R (update kind op t q v) (update kind op u r w)
    same_copy : {a b c d : PlainPlace} → SamePlace R a c → SamePlace R b d → SameStatementForm R (copy a b) (copy c d)
    same_evaluate : {v w : PlainValue} → SameValue R v w → SameStatementForm R (evaluate v) (evaluate w)
    same_asserts : {at to : At} {v w : PlainValue} → SameArgument R v w → SameStatementForm R (asserts at v) (asserts to w)
    same_declare : {n : ℕ} {x y : PlainInitializer} → SameInitializer R x y → SameStatementForm R (declare n x) (declare n y)
    same_declare_static : {n m : ℕ} → SameStatementForm R (declare_static n) (declare_static m)
    same_block : {ss tt : PlainStatements} → SameStatements R ss tt → SameStatementForm R (block ss) (block tt)
    same_if_then : {v w : PlainValue} {s t : PlainStatement} → SameValue R v w → SameStatement R s t → SameStatementForm R (if_then v s) (if_then w t)
    same_if_else : {v w : PlainValue} {s t x y : PlainStatement} → SameValue R v w → SameStatement R s x → SameStatement R t y → SameStatementForm R (if_else v s t) (if_else w x y)
    same_loop : {n : ℕ} {keyword : LoopKeyword} {at to : Span} {a b third last : PlainStatements} {v w : Option PlainValue} {s t : PlainStatement} → SameStatements R a b → SameMaybe R v w → SameStatements R third last → SameStatement R s t
        → SameStatementForm R (loop (record { number = n; keyword = keyword; span = at }) a v third s) (loop (record { number = n; keyword = keyword; span = to }) b w last t)
    same_switch : {at to : Span} {v w : PlainValue} {labels : PlainLabels} {s t : PlainStatement} → SameValue R v w → SameStatement R s t → SameStatementForm R (switch at v labels s) (switch to w labels t)
    same_break : SameStatementForm R break break
    same_continue : SameStatementForm R continue continue
    same_return : {at to : Span} {v w : Option PlainValue} → SameMaybe R v w → SameStatementForm R (return at v) (return to w)
    same_empty : SameStatementForm R empty empty
    same_mark : {kind : MarkKind} → SameStatementForm R (mark kind) (mark kind)

  pub data SameStatements (R : Pairing) : PlainStatements → PlainStatements → Type 0 where
    same_no_statements : SameStatements R no_statements no_statements
    same_more_statements : {s t : PlainStatement} {ss tt : PlainStatements} → SameStatement R s t → SameStatements R ss tt → SameStatements R (more_statements s ss) (more_statements t tt)

-- ## Functions

-- variables with the same names, bytes and places to be held in, of the same types
pub data SameVariables (R : Pairing) : List PlainVariable → List PlainVariable → Type 0 where
  same_no_variables : SameVariables R [] []
  same_more_variables : {name : Text} {t u : PlainType} {bytes : ℕ} {frame : Bool} {at to : Span} {vs ws : List PlainVariable} → SameType R t u → SameVariables R vs ws
      → SameVariables R (record { name = name; type = t; bytes = bytes; frame = frame; span = at } ∷ vs) (record { name = name; type = u; bytes = bytes; frame = frame; span = to } ∷ ws)

pub record SameFunction (R : Pairing) (f g : PlainFunction) : Type 0 where
  pub name : f.name ≡ g.name
  pub static : f.static ≡ g.static
  pub parameters : f.parameters ≡ g.parameters
  pub result : SameType R f.result g.result
  pub variables : SameVariables R f.variables g.variables
  pub body : SameStatements R f.body g.body
