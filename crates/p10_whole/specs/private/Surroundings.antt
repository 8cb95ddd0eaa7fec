-- What stands round a value of the code.
use Rattle.std.specs.Prelude.{ℕ, List, [], ◌∷◌, map, None, option_map, slice_get, if◌then◌else◌}
use Rattle.p10_core.specs.declared.program.Variable.{Variable}
use Rattle.p10_core.specs.Types.{PlainType, plain_type}
use Rattle.p10_core.specs.Views.{plain_program, plain_variable}
use Rattle.p10_core.specs.Whole.{Surroundings}
use Rattle.p10_core.specs.WholePrograms.{is_among, seen_variable, surroundings_of, numbers_from}
use Rattle.p10_whole.specs.declared.around.Around.{Around}

-- the scope after variables with these numbers are declared, one after the other
abbrev pub scope_on : List ℕ → List ℕ → List ℕ
scope_on [] base = base
scope_on (n ∷ rest) base = scope_on rest (n ∷ base)

-- the scope of a number of parameters and of variables with these numbers
abbrev pub scope_of : ℕ → List ℕ → List ℕ
scope_of parameters numbers = scope_on numbers (numbers_from 0 parameters)

-- what stands round a value of the code
abbrev pub surroundings_in : Around → Surroundings
surroundings_in a = record (surroundings_of (plain_program a.program.now)) {
  variable_at = λ n. if is_among n (scope_of a.parameters a.scope.now) then option_map seen_variable (slice_get (map plain_variable a.variables.now) n) else None;
}

-- the types of variables of the code
abbrev pub types_of_variables : List Variable → List PlainType
types_of_variables variables = map (λ (v : Variable). plain_type v.ty) variables
