-- What is whole stays whole where more is known.
use Rattle.std.specs.Prelude.{◌≡◌, ℕ, true, List, [], ◌∷◌, Option, Some, slice_get}
use Rattle.p10_core.specs.Types.{PlainType, bare, PlainMember, PlainStructure, members_of}
use Rattle.p10_core.specs.Typed.{PlainValue, place, literal, PlainPlace, PlainLiteral}
use Rattle.p10_core.specs.Nodes.{PlainNode, a_place, nodes_of_value, nodes_of_place}
use Rattle.p10_core.specs.Rows.{is_complete}
use Rattle.p10_wholeness.specs.Growth.{AreMore}
use Rattle.p10_core.specs.Whole.{SeenVariable, SeenObject, SeenFunction, Surroundings, IsListed, IsWholeValue, IsWholePlace}

-- types that are one type in order, marks and structures that stand for others aside
abbrev pub AreAlike : List PlainStructure → List PlainType → List PlainType → Type 0
AreAlike structures [] [] = Unit {0}
AreAlike structures (t ∷ ts) (u ∷ us) = (bare structures t ≡ bare structures u) × AreAlike structures ts us
AreAlike structures [] (u ∷ us) = ⊥
AreAlike structures (t ∷ ts) [] = ⊥

-- an object is there that is the same but for what its type is called
pub record HasObject (d : Surroundings) (n : ℕ) (o : SeenObject) : Type 0 where
  pub seen : SeenObject
  pub there : d.object_at n ≡ Some seen
  pub type_is : bare d.structures seen.type ≡ bare d.structures o.type
  pub sensor_is : seen.sensor ≡ o.sensor

-- the same of a function
pub record HasFunction (d : Surroundings) (n : ℕ) (f : SeenFunction) : Type 0 where
  pub seen : SeenFunction
  pub there : d.function_at n ≡ Some seen
  pub parameters : AreAlike d.structures f.parameters seen.parameters
  pub result : bare d.structures f.result ≡ bare d.structures seen.result

-- what is known in some surroundings is known in others: what has a size has one, members are the same, types that are one are, and
-- all variables, objects and functions that are there are, objects and functions up to what their types are called
pub record KnowMore (c d : Surroundings) : Type 0 where
  pub complete : (t : PlainType) → is_complete c.structures t ≡ true → is_complete d.structures t ≡ true
  pub members : (n m : ℕ) (entry : PlainMember) → slice_get (members_of c.structures n) m ≡ Some entry → slice_get (members_of d.structures n) m ≡ Some entry
  pub one_type : (t u : PlainType) → bare c.structures t ≡ bare c.structures u → bare d.structures t ≡ bare d.structures u
  pub variables : (n : ℕ) (v : SeenVariable) → c.variable_at n ≡ Some v → d.variable_at n ≡ Some v
  pub objects : (n : ℕ) (o : SeenObject) → c.object_at n ≡ Some o → HasObject d n o
  pub functions : (n : ℕ) (f : SeenFunction) → c.function_at n ≡ Some f → HasFunction d n f

-- where structures become more, all that was known is
abbrev pub MoreStructuresAreKnown : Type 0
MoreStructuresAreKnown = (c : Surroundings) (after : List PlainStructure) → AreMore c.structures after → KnowMore c (record c { structures = after })

-- each string literal among nodes is one of a program's, where those are known
abbrev pub AreListed : Option (List PlainLiteral) → List PlainNode → Type 0
AreListed literals [] = Unit {0}
AreListed literals (a_place (place at t (literal n bytes)) ∷ rest) = IsListed literals (record { number = n; bytes = bytes }) × AreListed literals rest
AreListed literals (node ∷ rest) = AreListed literals rest

-- values and places that are whole stay so where more is known, if their string literals are listed
pub record WholeTreesStay : Type 0 where
  pub values : (c d : Surroundings) → KnowMore c d → (v : PlainValue) → IsWholeValue c v → AreListed d.literals (nodes_of_value v) → IsWholeValue d v
  pub places : (c d : Surroundings) → KnowMore c d → (p : PlainPlace) → IsWholePlace c p → AreListed d.literals (nodes_of_place p) → IsWholePlace d p
