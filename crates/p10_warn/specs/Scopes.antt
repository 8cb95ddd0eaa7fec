-- Declarations of objects and parameters, and the names that are in scope at them (C99 6.2.1; row 5 of rule 10).
use Rattle.std.specs.Prelude.{◌≡◌, ℕ, Bool, true, nat_le, nat_lt, ◌&&◌, List, [], ◌∷◌, ◌++◌, Contains, map, take, Option, Some, None, option_map, slice_get}
use Rattle.std.specs.List.{list_any}
use Rattle.p10_base.specs.declared.span.Span.{Span}
use Rattle.p10_base.specs.Words.{Text}
use Rattle.p10_core.specs.declared.program.Extent.{Extent}
use Rattle.p10_core.specs.Typed.{PlainVariable, PlainFunction, PlainObject, PlainSeen, PlainProgram, PlainStatement, statement, PlainStatementForm, declare, declare_static, block, if_then, if_else, loop, switch, PlainStatements, no_statements, more_statements}

-- a name that is declared, with its span
pub record DeclaredName : Type 0 where
  pub name : Text
  pub span : Span

-- a declaration in a function: what it declares, and the names of objects and parameters that the function declared before and
-- that are in scope there. A name is declared once in a block (C99 6.7p3), so one that is in scope already is an outer one
pub record ScopedDeclaration : Type 0 where
  pub declares : DeclaredName
  pub around : List Text

-- the name of a variable of a function
abbrev pub variable_name : PlainVariable → DeclaredName
variable_name v = record { name = v.name; span = v.span }

-- the name of an object of static lifetime
abbrev pub object_name : PlainObject → DeclaredName
object_name o = record { name = o.name; span = o.span }

-- the name that a statement declares in its block, if it does, where the objects and the function's variables have these numbers
abbrev pub name_declared : List PlainObject → List PlainVariable → PlainStatement → Option DeclaredName
name_declared objects variables (statement at (declare n i)) = option_map variable_name (slice_get variables n)
name_declared objects variables (statement at (declare_static n)) = option_map object_name (slice_get objects n)
name_declared objects variables s = None

-- the names in scope after a declaration
abbrev pub scope_after : List Text → Option DeclaredName → List Text
scope_after around None = around
scope_after around (Some d) = around ++ d.name ∷ []

-- the declaration of a name
abbrev pub scoped_declaration : List Text → Option DeclaredName → List ScopedDeclaration
scoped_declaration around None = []
scoped_declaration around (Some d) = record { declares = d; around = around } ∷ []

-- the names in scope after all of the statements of a block (C99 6.2.1p4, p7)
abbrev pub names_after : List PlainObject → List PlainVariable → List Text → PlainStatements → List Text
names_after objects variables around no_statements = around
names_after objects variables around (more_statements s rest) =
    names_after objects variables (scope_after around (name_declared objects variables s)) rest

abbrev mutual
  -- the declarations in a statement, where the names stand around it: what a block or the first clause of a `for` declares is
  -- in scope from its declaration up to the end of the block or loop (C99 6.2.1p4, 6.8.5p5)
  pub declarations_in : List PlainObject → List PlainVariable → List Text → PlainStatement → List ScopedDeclaration
  declarations_in objects variables around (statement at f) =
      scoped_declaration around (name_declared objects variables (statement at f)) ++ declarations_in_form objects variables around f

  -- the same for what stands in a form of statement
  pub declarations_in_form : List PlainObject → List PlainVariable → List Text → PlainStatementForm → List ScopedDeclaration
  declarations_in_form objects variables around (block ss) = declarations_among objects variables around ss
  declarations_in_form objects variables around (if_then v s) = declarations_in objects variables around s
  declarations_in_form objects variables around (if_else v s t) =
      declarations_in objects variables around s ++ declarations_in objects variables around t
  declarations_in_form objects variables around (loop head first test third body) =
      declarations_among objects variables around first ++ declarations_in objects variables (names_after objects variables around first) body
  declarations_in_form objects variables around (switch span v labels body) = declarations_in objects variables around body
  declarations_in_form objects variables around f = []

  -- the same for statements, each of which sees what those before it declare
  pub declarations_among : List PlainObject → List PlainVariable → List Text → PlainStatements → List ScopedDeclaration
  declarations_among objects variables around no_statements = []
  declarations_among objects variables around (more_statements s rest) =
      declarations_in objects variables around s
      ++ declarations_among objects variables (scope_after around (name_declared objects variables s)) rest

-- the declarations of parameters
abbrev pub declarations_of_parameters : List Text → List PlainVariable → List ScopedDeclaration
declarations_of_parameters around [] = []
declarations_of_parameters around (v ∷ rest) =
    record { declares = variable_name v; around = around } ∷ declarations_of_parameters (around ++ v.name ∷ []) rest

-- the parameters of a function
abbrev pub parameters_of : PlainFunction → List PlainVariable
parameters_of f = take f.parameters f.variables

-- the declarations of a function: its parameters, whose scope is that of the block of its body, and then those in its body
abbrev pub declarations_of_function : List PlainObject → PlainFunction → List ScopedDeclaration
declarations_of_function objects f =
    declarations_of_parameters [] (parameters_of f)
    ++ declarations_among objects f.variables (map (λ v. v.name) (parameters_of f)) f.body

-- whether functions in a row have the one with a number among them
abbrev pub covers : ℕ → Extent → Bool
covers n e = nat_le e.from n && nat_lt n e.to

-- whether an object of file scope is in scope at the function with a number
abbrev pub is_in_scope_at : ℕ → PlainObject → Bool
is_in_scope_at n o = list_any (covers n) o.visible

-- what stands at file scope: the objects of a program, and those that it declares and doesn't define
pub record FileNames : Type 0 where
  pub objects : List PlainObject
  pub outside : List PlainSeen

-- those of a program
abbrev pub file_names : PlainProgram → FileNames
file_names p = record { objects = p.objects; outside = p.outside }

-- A declaration in the function with a number hides an outer object or parameter: one of the function, or an object of file scope
-- that is in scope at the function, which may be defined elsewhere (C99 6.2.1p4, 6.2.2p4).
pub data Hides (file : FileNames) (n : ℕ) (d : ScopedDeclaration) : Type 0 where
  of_function : Contains d.around d.declares.name → Hides file n d
  of_file : (o : PlainObject) → Contains file.objects o → o.name ≡ d.declares.name → is_in_scope_at n o ≡ true → Hides file n d
  of_elsewhere : (o : PlainSeen) → Contains file.outside o → o.name ≡ d.declares.name → covers n o.visible ≡ true → Hides file n d
