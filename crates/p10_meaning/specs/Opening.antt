-- The state before `main` is entered: objects of static lifetime with their initial values, and string literals (C99 5.1.2, 6.7.8).
use Rattle.std.specs.Prelude.{ℕ, suc, ◌+◌, ◌^◌, if◌then◌else◌, List, [], ◌∷◌, ◌++◌, length, map, pos, is_none}
use Rattle.p10_int.specs.declared.types.IntType.TheVariants.{Char}
use Rattle.p10_int.specs.Conversion.{converted}
use Rattle.p10_core.specs.Types.{PlainType}
use Rattle.p10_core.specs.Typed.{PlainInitializer, not_initialized, single, copied, listed, PlainObject, PlainLiteral, PlainProgram}
use Rattle.p10_meaning.specs.declared.pointers.Scalar.{Scalar}
use Rattle.p10_meaning.specs.declared.pointers.Scalar.TheVariants.{Int}
use Rattle.p10_meaning.specs.declared.pointers.Cell.{Cell}
use Rattle.p10_meaning.specs.declared.world.World.{World}
use Rattle.p10_meaning.specs.Pointers.{holding}
use Rattle.p10_meaning.specs.Objects.{Object, declared, literal}
use Rattle.p10_meaning.specs.States.{State, StepsSpent, Progress, gives, ends}
use Rattle.p10_meaning.specs.Scalars.{zero_of, zero_cells}
use Rattle.p10_meaning.specs.Values.{Setting, scalars, evaluate}
use Rattle.p10_meaning.specs.Statements.{listed_scalars, listed_scalar}

-- the objects of static lifetime with these cells, from number n on; a sensor has no scalars, so nothing stands under its number
abbrev pub static_objects : (PlainObject → List Cell) → ℕ → List PlainObject → List Object
static_objects cells n [] = []
static_objects cells n (object ∷ objects) =
    if object.sensor
    then static_objects cells (suc n) objects
    else record { number = n; origin = declared; cells = cells object } ∷ static_objects cells (suc n) objects

-- the string literals, from number n on: their bytes as values of `char` (C99 6.4.5p5)
abbrev pub literal_objects : ℕ → List PlainLiteral → List Object
literal_objects n [] = []
literal_objects n (l ∷ literals) =
    record { number = n; origin = literal; cells = map (λ byte. holding (Int (converted Char (pos byte)))) l.bytes } ∷ literal_objects (suc n) literals

-- a state with objects of static lifetime that have these cells, where nothing was executed yet. Without a mark, initialisation
-- ends before `main`
abbrev pub opening_with : (PlainObject → List Cell) → PlainProgram → World → ℕ → State
opening_with cells p world left = record {
  objects = static_objects cells 0 p.objects ++ literal_objects (length p.objects) p.literals;
  opened = length p.objects + length p.literals;
  input = world.input;
  sensors = world.sensors;
  denied = world.denied;
  requests = 0;
  output = [];
  left = left;
  calls = 0;
  bytes = 0;
  marked = is_none p.mark;
  after_mark = 0;
}

-- where a constant expression is evaluated: outside any function, with more steps than any tree has nodes (C99 6.6, 6.7.8p4)
abbrev pub constant_setting : PlainProgram → Setting
constant_setting p = record { program = p; variables = []; call = λ k xs w. ends StepsSpent w; turns = 0 }

-- the state in which constant expressions are evaluated: all objects of static lifetime are zero
abbrev pub constant_state : PlainProgram → State
constant_state p =
    opening_with (λ object. zero_cells (scalars p object.type)) p (record { input = []; denied = []; sensors = [] }) (2 ^ 64)

-- the value of a constant expression
abbrev pub constant_scalar : PlainType → Progress Scalar → Scalar
constant_scalar t (gives x w) = x
constant_scalar t (ends end w) = zero_of t

-- the values that a list of constant expressions gives
abbrev pub constant_scalars : Progress (List (ℕ × Scalar)) → List (ℕ × Scalar)
constant_scalars (gives xs w) = xs
constant_scalars (ends end w) = []

-- the cells that a list gives to scalars of these types, from scalar i on
abbrev pub listed_cells : ℕ → List PlainType → List (ℕ × Scalar) → List Cell
listed_cells i [] xs = []
listed_cells i (t ∷ types) xs = holding (listed_scalar i t xs) ∷ listed_cells (suc i) types xs

-- the cells that an object of static lifetime begins with: those of its initialiser, all others zero or null (C99 6.7.8p10)
abbrev pub initial_cells : PlainProgram → PlainType → PlainInitializer → List Cell
initial_cells p t not_initialized = zero_cells (scalars p t)
initial_cells p t (single v) = holding (constant_scalar t (evaluate (constant_setting p) [] v (constant_state p))) ∷ []
initial_cells p t (copied q) = zero_cells (scalars p t)
initial_cells p t (listed at items) =
    listed_cells 0 (scalars p t) (constant_scalars (listed_scalars (constant_setting p) [] items (constant_state p)))

-- the opening state: static objects have their initial values (C99 5.1.2), and nothing was executed
abbrev pub opening : PlainProgram → World → ℕ → State
opening p world left = opening_with (λ object. initial_cells p object.type object.initializer) p world left
