-- Each definition of the trees gives one function at most, in the order of the trees.
use Rattle.std.specs.Prelude.{◌≡◌, ℕ, ◌+◌, ◌≤◌, ◌⊎◌, List, [], ◌∷◌, ◌++◌, map, length, Option, Some, None}
use Rattle.p10_base.specs.declared.at.At.{At}
use Rattle.p10_base.specs.Words.{Text}
use Rattle.p10_syn.specs.Trees.{Identifier, External, Outer, Defines}
use Rattle.p10_core.specs.Typed.{PlainFunction}
use Rattle.p10_digests.specs.Digests.{function_places}
use Rattle.p10_elabx.specs.First.{Keep}
use Rattle.p10_elabd.specs.Shapes.{name_in}
use Rattle.p10_heads.specs.Heads.{Heads}
use Rattle.p10_heads.specs.Roots.{roots_of}
use Rattle.p10_elab.specs.Knowledge.{Known}
use Rattle.p10_elab.specs.RootEnds.{known_after_all, roots_passed, nothing_known}

-- functions were added after those that are known, this many at most
pub record AddsAtMost (count : ℕ) (k j : Known) : Type 0 where
  pub made : List PlainFunction
  pub functions : j.functions ≡ k.functions ++ made
  pub few : length made ≤ count

-- how many functions roots define
abbrev pub definitions_of : List (List (External At)) → ℕ
definitions_of [] = 0
definitions_of (root ∷ rest) = length (function_places root) + definitions_of rest

-- the names of the functions that trees define; a definition without a name adds none
abbrev pub name_of_definition : Option (Identifier At) → List Text
name_of_definition None = []
name_of_definition (Some name) = name.name ∷ []

abbrev pub defined_names : List (External At) → List Text
defined_names [] = []
defined_names (Outer at d ∷ trees) = defined_names trees
defined_names (Defines d ∷ trees) = name_of_definition (name_in d.declarator) ++ defined_names trees

-- the same of roots
abbrev pub root_names : List (List (External At)) → List Text
root_names [] = []
root_names (root ∷ rest) = defined_names root ++ root_names rest

-- names stand among others, in their order
abbrev pub Picks : List Text → List Text → Type 0
Picks [] others = Unit {0}
Picks (name ∷ names) [] = ⊥
Picks (name ∷ names) (other ∷ others) = ((name ≡ other) × Picks names others) ⊎ Picks (name ∷ names) others

-- functions were added after those that are known, whose names stand among these
pub record AddsNamed (names : List Text) (k j : Known) : Type 0 where
  pub made : List PlainFunction
  pub functions : j.functions ≡ k.functions ++ made
  pub named : Picks (map (λ (f : PlainFunction). f.name) made) names

-- where roots add as many functions as they have names for, the functions have these names
abbrev pub FunctionsAreNamed : Type 0
FunctionsAreNamed =
    (h : Keep) (heads : Heads) (roots : List (List (External At))) → length (roots_passed h heads nothing_known roots).functions ≡ length (root_names roots)
    → map (λ (f : PlainFunction). f.name) (roots_passed h heads nothing_known roots).functions ≡ root_names roots

-- the names of roots are those of the trees that they are of
abbrev pub NamesAreCounted : Type 0
NamesAreCounted = (trees : List (External At)) → root_names (roots_of trees) ≡ defined_names trees

-- roots, and parts of them, add functions after those that are known: one at most for each definition
pub record FunctionsFollow : Type 0 where
  pub trees : (h : Keep) (heads : Heads) (k : Known) (trees : List (External At)) → AddsAtMost (length (function_places trees)) k (known_after_all h heads k trees)
  pub roots : (h : Keep) (heads : Heads) (k : Known) (roots : List (List (External At))) → AddsAtMost (definitions_of roots) k (roots_passed h heads k roots)

-- roots have the definitions of the trees that they are of
abbrev pub DefinitionsAreCounted : Type 0
DefinitionsAreCounted = (trees : List (External At)) → definitions_of (roots_of trees) ≡ length (function_places trees)
