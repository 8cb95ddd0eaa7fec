-- The definitions of roots are those of the trees that they are of.
use Rattle.std.proofs.Common.{◌≡◌, ◌+◌, List, [], ◌∷◌, ◌++◌, length, Bool, true, false, if◌then◌else◌, refl, sym, ap, ◌∙◌, arith, append_assoc, append-nil}
use Rattle.p10_base.specs.declared.at.At.{At}
use Rattle.p10_syn.specs.Trees.{External, Outer, Defines}
use Rattle.p10_digests.specs.Digests.{function_places}
use Rattle.p10_elabd.specs.Shapes.{name_in}
use Rattle.p10_heads.specs.Roots.{root_follows, with_first, roots_of}
use Rattle.p10_definition_counts.specs.Laws.{definitions_of, DefinitionsAreCounted, name_of_definition, defined_names, root_names, NamesAreCounted}

-- a tree before others
places_more : (e : External At) (trees : List (External At)) → length (function_places (e ∷ trees)) ≡ length (function_places (e ∷ [])) + length (function_places trees)
places_more (Outer at d) trees = omega arith
places_more (Defines d) trees = omega arith

first_more : (e : External At) (roots : List (List (External At))) → definitions_of (with_first e roots) ≡ length (function_places (e ∷ [])) + definitions_of roots
first_more e [] = refl
first_more e (root ∷ roots) = omega (arith, places_more e root)

by_test : (b : Bool) (e : External At) (trees : List (External At)) → definitions_of (roots_of trees) ≡ length (function_places trees)
    → definitions_of (if b then (e ∷ []) ∷ roots_of trees else with_first e (roots_of trees)) ≡ length (function_places (e ∷ trees))
by_test true e trees rest = omega (arith, rest, places_more e trees)
by_test false e trees rest = omega (arith, rest, places_more e trees, first_more e (roots_of trees))

pub definitions_counted : DefinitionsAreCounted
definitions_counted [] = refl
definitions_counted (e ∷ trees) = by_test (root_follows trees) e trees (definitions_counted trees)

-- ## Names

names_more : (e : External At) (trees : List (External At)) → defined_names (e ∷ trees) ≡ defined_names (e ∷ []) ++ defined_names trees
names_more (Outer at d) trees = refl
names_more (Defines d) trees = ap (λ names. names ++ defined_names trees) (sym (append-nil (name_of_definition (name_in d.declarator))))

first_named : (e : External At) (roots : List (List (External At))) → root_names (with_first e roots) ≡ defined_names (e ∷ []) ++ root_names roots
first_named e [] = refl
first_named e (root ∷ roots) = ap (λ names. names ++ root_names roots) (names_more e root) ∙ append_assoc (defined_names (e ∷ [])) (defined_names root) (root_names roots)

named_by : (b : Bool) (e : External At) (trees : List (External At)) → root_names (roots_of trees) ≡ defined_names trees
    → root_names (if b then (e ∷ []) ∷ roots_of trees else with_first e (roots_of trees)) ≡ defined_names (e ∷ trees)
named_by true e trees rest = ap (λ names. defined_names (e ∷ []) ++ names) rest ∙ sym (names_more e trees)
named_by false e trees rest = first_named e (roots_of trees) ∙ ap (λ names. defined_names (e ∷ []) ++ names) rest ∙ sym (names_more e trees)

pub names_counted : NamesAreCounted
names_counted [] = refl
names_counted (e ∷ trees) = named_by (root_follows trees) e trees (names_counted trees)
