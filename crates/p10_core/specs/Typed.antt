-- Typed programs as definitions speak of them: values, places, statements, functions, objects.
use Rattle.std.specs.Prelude.{ℕ, ℤ, Bool, List, [], ◌∷◌, Option}
use Rattle.p10_base.specs.Words.{Text}
use Rattle.p10_base.specs.declared.span.Span.{Span}
use Rattle.p10_base.specs.declared.at.At.{At}
use Rattle.p10_int.specs.declared.operators.BinOp.{BinOp}
use Rattle.p10_int.specs.declared.operators.UnOp.{UnOp}
use Rattle.p10_core.specs.declared.typed.Library.{Library}
use Rattle.p10_core.specs.declared.typed.LogicOp.{LogicOp}
use Rattle.p10_core.specs.declared.statements.UpdateKind.{UpdateKind}
use Rattle.p10_core.specs.declared.statements.MarkKind.{MarkKind}
use Rattle.p10_core.specs.declared.statements.Label.{Label}
use Rattle.p10_core.specs.declared.statements.LoopHead.{LoopHead}
use Rattle.p10_core.specs.declared.program.Extent.{Extent}
use Rattle.p10_core.specs.Types.{PlainType, PlainStructure}

-- ## Values and places

mutual
  -- a value (C99 6.5): where its tree stands, its type, and its form
  pub data PlainValue : Type 0 where
    value : At → PlainType → PlainForm → PlainValue

  -- a constant; the value read from a place; the next value of a sensor, by the number of its object; the address of a
  -- place; the address of an array's first element; a conversion that isn't written; a written cast; an operator and its
  -- operands; `&&` or `||`; `?:`; a call of a function by its number; a call of a library function. Both calls keep the
  -- span of the name
  pub data PlainForm : Type 0 where
    constant : ℤ → PlainForm
    read : PlainPlace → PlainForm
    sense : ℕ → PlainForm
    address : PlainPlace → PlainForm
    decay : PlainPlace → PlainForm
    convert : PlainValue → PlainForm
    cast : PlainValue → PlainForm
    unary : UnOp → PlainValue → PlainForm
    binary : BinOp → PlainValue → PlainValue → PlainForm
    logic : LogicOp → PlainValue → PlainValue → PlainForm
    conditional : PlainValue → PlainValue → PlainValue → PlainForm
    call : Span → ℕ → PlainValues → PlainForm
    built_in : Span → Library → PlainValues → PlainForm

  -- a place (an lvalue, C99 6.3.2.1): where its tree stands, its type, and its form
  pub data PlainPlace : Type 0 where
    place : At → PlainType → PlainPlaceForm → PlainPlace

  -- a variable of the function and an object of static lifetime, by their numbers; a string literal, by the number of its
  -- first word, with its bytes; an element, by a pointer and an integer; a member, by its place in the structure; what a
  -- pointer points to
  pub data PlainPlaceForm : Type 0 where
    variable : ℕ → PlainPlaceForm
    global : ℕ → PlainPlaceForm
    literal : ℕ → List ℕ → PlainPlaceForm
    index : PlainValue → PlainValue → PlainPlaceForm
    member : PlainPlace → ℕ → PlainPlaceForm
    dereference : PlainValue → PlainPlaceForm

  -- values in order: the arguments of a call
  pub data PlainValues : Type 0 where
    no_values : PlainValues
    more_values : PlainValue → PlainValues → PlainValues

-- where the tree of a value stands
abbrev pub at_of : PlainValue → At
at_of (value at t f) = at

-- the type of a value
abbrev pub type_of : PlainValue → PlainType
type_of (value at t f) = t

-- where the tree of a place stands
abbrev pub place_at : PlainPlace → At
place_at (place at t f) = at

-- the type of a place
abbrev pub place_type : PlainPlace → PlainType
place_type (place at t f) = t

-- the values as a list, and a list as values
abbrev pub values_list : PlainValues → List PlainValue
values_list no_values = []
values_list (more_values v vs) = v ∷ values_list vs

-- a list as values
abbrev pub values_of_list : List PlainValue → PlainValues
values_of_list [] = no_values
values_of_list (v ∷ vs) = more_values v (values_of_list vs)

-- ## Initialisers

-- what is written for scalars of an object: a value for one, or the bytes of a string literal for as many
pub data PlainWritten : Type 0 where
  one_scalar : PlainValue → PlainWritten
  scalars_of_text : List ℕ → PlainWritten

-- an item of an initialiser's list: the place of its first scalar among those of the object, and what is written
pub record PlainItem : Type 0 where
  pub scalar : ℕ
  pub written : PlainWritten

-- an initialiser (C99 6.7.8): none; a value for a scalar; a structure that is copied; a list of items, by which the
-- scalars that aren't written are zero or null
pub data PlainInitializer : Type 0 where
  not_initialized : PlainInitializer
  single : PlainValue → PlainInitializer
  copied : PlainPlace → PlainInitializer
  listed : At → List PlainItem → PlainInitializer

-- ## Statements

-- the labels of a `switch`: the values of its `case`s with the places of the items of its body that they stand before,
-- in text order, and that of `default`, if there is one (C99 6.8.4.2)
pub record PlainLabels : Type 0 where
  pub cases : List Label
  pub otherwise : Option ℕ

mutual
  -- a statement (C99 6.8): where its tree stands, and its form
  pub data PlainStatement : Type 0 where
    statement : At → PlainStatementForm → PlainStatement

  -- `P = e;` of a scalar; `P op= e;`, `P++;` or `P--;`, with the operator and the type to which the value of P is
  -- converted for it; a structure's copy, its target first; another expression; `assert`, with where its call stands; the
  -- declaration of a variable of the function, by its number; that of an object of static lifetime, by its number; a
  -- block; `if` without and with `else`; a loop with its first clause, test and third clause, of which `while` and `do`
  -- have the test alone; `switch` with the span of its keyword; `break`; `continue`; `return` with the span of its
  -- keyword; `;`; a pragma of p10
  pub data PlainStatementForm : Type 0 where
    set : PlainPlace → PlainValue → PlainStatementForm
    update : UpdateKind → BinOp → PlainType → PlainPlace → PlainValue → PlainStatementForm
    copy : PlainPlace → PlainPlace → PlainStatementForm
    evaluate : PlainValue → PlainStatementForm
    asserts : At → PlainValue → PlainStatementForm
    declare : ℕ → PlainInitializer → PlainStatementForm
    declare_static : ℕ → PlainStatementForm
    block : PlainStatements → PlainStatementForm
    if_then : PlainValue → PlainStatement → PlainStatementForm
    if_else : PlainValue → PlainStatement → PlainStatement → PlainStatementForm
    loop : LoopHead → PlainStatements → Option PlainValue → PlainStatements → PlainStatement → PlainStatementForm
    switch : Span → PlainValue → PlainLabels → PlainStatement → PlainStatementForm
    break : PlainStatementForm
    continue : PlainStatementForm
    return : Span → Option PlainValue → PlainStatementForm
    empty : PlainStatementForm
    mark : MarkKind → PlainStatementForm

  -- statements in order: a block's items
  pub data PlainStatements : Type 0 where
    no_statements : PlainStatements
    more_statements : PlainStatement → PlainStatements → PlainStatements

-- where the tree of a statement stands
abbrev pub statement_at : PlainStatement → At
statement_at (statement at f) = at

-- the statements as a list, and a list as statements
abbrev pub statements_list : PlainStatements → List PlainStatement
statements_list no_statements = []
statements_list (more_statements s rest) = s ∷ statements_list rest

-- a list as statements
abbrev pub statements_of_list : List PlainStatement → PlainStatements
statements_of_list [] = no_statements
statements_of_list (s ∷ rest) = more_statements s (statements_of_list rest)

-- ## Programs

-- a variable of a function: a parameter or an automatic variable. It is a frame variable where it is a scalar whose
-- address is never taken, and else an object. The span is that of its name
pub record PlainVariable : Type 0 where
  pub name : Text
  pub type : PlainType
  pub bytes : ℕ
  pub frame : Bool
  pub span : Span

-- a function: its name and the span of that; whether it is `static`; how many of its variables, the first ones, are
-- parameters; its result's type; its variables in text order; its body
pub record PlainFunction : Type 0 where
  pub name : Text
  pub span : Span
  pub static : Bool
  pub parameters : ℕ
  pub result : PlainType
  pub variables : List PlainVariable
  pub body : PlainStatements

-- an object of static lifetime: its name and the span of that, its initialiser, the function in whose blocks it is
-- declared, if it is, whether it is a sensor, and, where it stands at file scope, the functions at which it is in scope
pub record PlainObject : Type 0 where
  pub name : Text
  pub type : PlainType
  pub bytes : ℕ
  pub span : Span
  pub initializer : PlainInitializer
  pub owner : Option ℕ
  pub sensor : Bool
  pub visible : List Extent

-- a string literal that is an object (C99 6.4.5p5): the number of its first word, and its bytes with the last 0
pub record PlainLiteral : Type 0 where
  pub number : ℕ
  pub bytes : List ℕ

-- the name of an object of file scope that a root declares and none defines, and the functions of that root at which it is in scope
pub record PlainSeen : Type 0 where
  pub name : Text
  pub visible : Extent

-- a program: its structures, its objects of static lifetime, its functions and its string literals; the number of
-- `main`; the places of the mark `init_done` and of the task loop among the items of its body; and the objects of file scope that are
-- declared and not defined
pub record PlainProgram : Type 0 where
  pub structures : List PlainStructure
  pub objects : List PlainObject
  pub functions : List PlainFunction
  pub literals : List PlainLiteral
  pub main : ℕ
  pub mark : Option ℕ
  pub task : Option ℕ
  pub outside : List PlainSeen
