-- What the code of this crate is, as the definitions speak of it.
use Rattle.std.specs.Prelude.{ℕ, List, map, Option, Some, None, option_map, Result, Ok, Err, Vec, Box}
use Rattle.std.specs.declared.alloc.Global.{Global}
use Rattle.p10_base.specs.declared.at.At.{At}
use Rattle.p10_bindings.specs.Taken.{names_of}
use Rattle.p10_syn.specs.declared.tree.Expr.{Expr}
use Rattle.p10_syn.specs.Trees.{Optional, Absent, Present}
use Rattle.p10_syn.specs.Built.{identifier_of, expression_of}
use Rattle.p10_core.specs.declared.c_type.CType.{CType}
use Rattle.p10_core.specs.declared.structures.Member.{Member}
use Rattle.p10_core.specs.Types.{PlainType, plain_type, PlainMember, plain_member}
use Rattle.p10_elabx.specs.First.{problems}
use Rattle.p10_elabx.specs.PlainScopes.{plain_scope}
use Rattle.p10_elabx.specs.First.{Ruled}
use Rattle.p10_elabx.specs.Views.{bindings_of}
use Rattle.p10_elabx.specs.declared.problem.Problem.{Problem}
use Rattle.p10_elabd.specs.declared.declaration.DeclaredParameter.{DeclaredParameter}
use Rattle.p10_elabd.specs.declared.declaration.DeclaredFunction.{DeclaredFunction}
use Rattle.p10_elabd.specs.declared.declaration.PlacedParameter.{PlacedParameter}
use Rattle.p10_elabd.specs.declared.declaration.RefusedFunction.{RefusedFunction}
use Rattle.p10_elabd.specs.declared.declaration.Declared.{Declared}
use Rattle.p10_elabd.specs.declared.declaration.Declared.TheVariants.{Plain, OpenArray, Function, Refused}
use Rattle.p10_elabd.specs.declared.standing.Standing.{Standing}
use Rattle.p10_elabd.specs.Standing.{PlainStanding, Passed}
use Rattle.p10_elabd.specs.Tagged.{Begun}
use Rattle.p10_elabd.specs.Shapes.{PlainParameter, FunctionType, ListedParameter, PartFunction, DeclaredType, of_type, of_open_array, of_function, of_part_function}
use Rattle.p10_elabd.specs.Declaring.{Listing}

-- what stands round a declaration
abbrev pub plain_standing : Standing → PlainStanding
plain_standing s = record { scope = plain_scope s.scope; open_structures = s.open_structures.items; problems = problems s.problem }

-- what a part of a declaration of the code makes, and where what follows stands
abbrev pub told : {A : Type 0} → Option A → Standing → Passed A
told made s = record { made = made; after = plain_standing s }

-- where the members of a structure with a number stand
abbrev pub begins : ℕ → Standing → Begun
begins n s = record { number = n; standing = plain_standing s }

-- members of a structure of the code
abbrev pub plain_members : Vec Member Global → List PlainMember
plain_members members = map plain_member members.items

-- an expression, if one is written
abbrev pub optional_boxed : Option (Box Expr Global) → Optional At
optional_boxed None = Absent
optional_boxed (Some e) = Present (expression_of e.value)

-- a parameter
abbrev pub plain_parameter : DeclaredParameter → PlainParameter
plain_parameter p = record { at = p.at; name = option_map identifier_of p.name; type = plain_type p.ty }

-- a function
abbrev pub plain_function : DeclaredFunction → FunctionType
plain_function f = record {
  parameters = map plain_parameter f.parameters.items;
  result = plain_type f.result;
  names = bindings_of (names_of f.names.items);
  tags = bindings_of (names_of f.tags.items);
}

-- parameters of the code whose types are known
abbrev pub plain_known : Vec DeclaredParameter Global → List PlainParameter
plain_known parameters = map plain_parameter parameters.items

-- a parameter where it is listed
abbrev pub plain_placed : PlacedParameter → ListedParameter
plain_placed p = record { at = p.at; name = option_map identifier_of p.name; type = option_map plain_type p.ty }

-- a function that is refused
abbrev pub plain_part_function : RefusedFunction → PartFunction
plain_part_function f = record { parameters = map plain_placed f.parameters.items; list = f.list; result = option_map plain_type f.result }

-- what is declared
abbrev pub plain_declared : Declared → DeclaredType
plain_declared (Plain t) = of_type (plain_type t)
plain_declared (OpenArray t) = of_open_array (plain_type t)
plain_declared (Function f) = of_function (plain_function f)
plain_declared (Refused f) = of_part_function (plain_part_function f)

-- what a row of the code says of what is declared
abbrev pub ruled_declared : Result Declared (Option Problem) → Ruled DeclaredType
ruled_declared (Ok d) = Ok (plain_declared d)
ruled_declared (Err r) = Err r

-- parameters as the code lists them
abbrev pub plain_parameters : Vec PlacedParameter Global → List ListedParameter
plain_parameters parameters = map plain_placed parameters.items

-- the same, and where what follows stands
abbrev pub lists : Vec PlacedParameter Global → Standing → Listing
lists parameters s = record { parameters = plain_parameters parameters; after = plain_standing s }

-- the type that specifiers name, if they name one and aren't refused
abbrev pub plain_named : Option (Option CType) → Option (Option PlainType)
plain_named named = option_map (option_map plain_type) named
