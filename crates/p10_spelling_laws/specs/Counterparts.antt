-- What two programs have in common in the same words: declarations, and functions but for their bodies.
use Rattle.std.specs.Prelude.{◌≡◌, ℕ, zero, suc, ◌+◌, nat_eq, List, [], ◌∷◌, ◌++◌, map, length, Option, option_map, slice_get}
use Rattle.std.specs.List.{AllByRecursion}
use Rattle.p10_base.specs.declared.at.At.{At}
use Rattle.p10_base.specs.Words.{Text, PlainWord}
use Rattle.p10_syn.specs.Places.{locate_externals}
use Rattle.p10_syn.specs.Trees.{Bare, Declaration, Statements, Definition, External, Outer, Defines}
use Rattle.p10_digests.specs.Lines.{hashed_lines, tree_words}
use Rattle.p10_digests.specs.Digests.{function_places}
use Rattle.p10_expression_renaming.specs.MappedStatements.{mapped_declaration, mapped_statements, mapped_definition}

-- a declaration outside of functions that stands in both programs, with where it stands in its roots; or a function whose head does,
-- with its body in each: its own body counts for nothing
pub data Counterparts : Type 0 where
  declared_in_both : At × At → Declaration (At × At) → Counterparts
  defined_in_both : Definition (At × At) → Statements At → Statements At → Counterparts

-- what the first program has
abbrev pub in_first : Counterparts → External At
in_first (declared_in_both at d) = Outer at.0 (mapped_declaration (λ p. p.0) d)
in_first (defined_in_both d one other) = Defines (record (mapped_definition (λ p. p.0) d) { body = one })

-- what the second program has
abbrev pub in_second : Counterparts → External At
in_second (declared_in_both at d) = Outer at.1 (mapped_declaration (λ p. p.1) d)
in_second (defined_in_both d one other) = Defines (record (mapped_definition (λ p. p.1) d) { body = other })

-- the bodies of a function are one, which stands in both programs
pub record IsSameBody (one other : Statements At) : Type 0 where
  pub body : Statements (At × At)
  pub first : one ≡ mapped_statements (λ p. p.0) body
  pub second : other ≡ mapped_statements (λ p. p.1) body

-- so it is with the function with this number
abbrev pub HasSameBody : ℕ → List Counterparts → Type 0
HasSameBody n [] = Unit {0}
HasSameBody n (declared_in_both at d ∷ all) = HasSameBody n all
HasSameBody zero (defined_in_both d one other ∷ all) = IsSameBody one other
HasSameBody (suc n) (defined_in_both d one other ∷ all) = HasSameBody n all

-- counterparts begin their roots together
abbrev pub BeginTogether : Counterparts → Type 0
BeginTogether (declared_in_both at d) = nat_eq at.0.first 0 ≡ nat_eq at.1.first 0
BeginTogether (defined_in_both d one other) = nat_eq d.landmarks.whole.0.first 0 ≡ nat_eq d.landmarks.whole.1.first 0

-- a root: its words, and the trees that these spell, without places
pub record RootTrees : Type 0 where
  pub words : List PlainWord
  pub trees : List (External Bare)

-- the trees of roots in their places, where a number of words stands before the first
abbrev pub locate_roots : ℕ → List RootTrees → List (External At)
locate_roots number [] = []
locate_roots number (root ∷ roots) = locate_externals (record { words = root.words; before = number }) 0 root.trees ++ locate_roots (number + length root.words) roots

-- the lines of the function with a number, if there is one
abbrev pub function_lines : List (List PlainWord) → List (External At) → ℕ → Option Text
function_lines roots trees n = option_map (λ at. hashed_lines (tree_words roots at)) (slice_get (function_places trees) n)

-- the trees of two programs are counterparts, and so are the bodies of a function that has the same lines in both
pub record HaveCounterparts (roots others : List (List PlainWord)) (trees those : List (External At)) : Type 0 where
  pub all : List Counterparts
  pub first : trees ≡ map in_first all
  pub second : those ≡ map in_second all
  pub begin : AllByRecursion BeginTogether all
  pub same : (n : ℕ) → function_lines roots trees n ≡ function_lines others those n → HasSameBody n all
