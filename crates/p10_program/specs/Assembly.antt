-- A program of its structures, objects and functions.
use Rattle.std.specs.Prelude.{ℕ, ◌+◌, List, ◌++◌, Option, Some, None}
use Rattle.std.specs.Option.{unwrap_or}
use Rattle.p10_core.specs.declared.statements.MarkKind.TheVariants.{InitDone, TaskLoop}
use Rattle.p10_core.specs.Types.{PlainStructure}
use Rattle.p10_core.specs.Typed.{PlainFunction, PlainObject, PlainSeen, PlainProgram}
use Rattle.p10_program.specs.Literals.{literals_among}
use Rattle.p10_program.specs.Pragmas.{pragma_in}
use Rattle.p10_program.specs.ProgramNodes.{nodes_of_functions, nodes_of_objects}

-- the place after one
abbrev pub after_place : Option ℕ → Option ℕ
after_place None = None
after_place (Some n) = Some (n + 1)

-- the program of structures, objects and functions, one of which is `main`, if it is there: its string literals are those in the trees,
-- and its pragmas stand among the items of `main`
abbrev pub program_with : List PlainStructure → List PlainObject → List PlainFunction → Option ℕ → List PlainSeen → PlainProgram
program_with structures objects functions main outside = record {
  structures = structures;
  objects = objects;
  functions = functions;
  literals = literals_among (nodes_of_functions functions ++ nodes_of_objects objects);
  main = unwrap_or main 0;
  mark = pragma_in InitDone main functions;
  task = after_place (pragma_in TaskLoop main functions);
  outside = outside;
}
