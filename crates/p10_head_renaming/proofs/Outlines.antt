-- Outlines of counterparts are the same in both programs, but for places.
use Rattle.std.proofs.Common.{◌≡◌, List, [], ◌∷◌, ◌++◌, map, Bool, true, false, if◌then◌else◌, Option, Some, None, option_map, refl, sym, ap, ◌∙◌, subst}
use Rattle.p10_base.specs.declared.at.At.{At}
use Rattle.p10_syn.specs.Declaring.{identifier_in}
use Rattle.p10_syn.specs.Trees.{Identifier, Specifiers, NoSpecifiers, MoreSpecifiers, Keyword, Typedef, Structure, Enumeration, Declarator, Named, Unnamed, Pointer, Parenthesised, Array, Function, Initializer, InitDeclarator, Statements, Definition}
use Rattle.p10_expression_renaming.specs.Mapped.{mapped_identifier, mapped_specifiers, mapped_declarator}
use Rattle.p10_expression_renaming.specs.MappedStatements.{mapped_initializer, mapped_init_declarator, mapped_definition}
use Rattle.p10_elabd.specs.declared.site.Storage.{Storage}
use Rattle.p10_elabd.specs.declared.site.Storage.TheVariants as storage_is
use Rattle.p10_elabd.specs.Words.{storage_by, storage_from, storage_of}
use Rattle.p10_elabd.specs.Shapes.{name_in, function_from}
use Rattle.p10_heads.specs.declared.outline.Defining.TheVariants as defined
use Rattle.p10_heads.specs.Heads.{Outline, is_static, defining_of, outline_of, outlines_of, outlines_by, definition_outline, outlines_in, outlines}
use Rattle.p10_spelling_laws.specs.Counterparts.{Counterparts, declared_in_both, defined_in_both, in_first, in_second}

-- ## Outlines

-- outlines that are the same but for places
pub record IsSameOutline (o p : Outline) : Type 0 where
  pub name : o.name ≡ p.name
  pub function : o.function ≡ p.function
  pub static : o.static ≡ p.static
  pub defining : o.defining ≡ p.defining

abbrev pub AreSameOutlines : List Outline → List Outline → Type 0
AreSameOutlines [] [] = Unit {0}
AreSameOutlines (o ∷ os) (p ∷ ps) = IsSameOutline o p × AreSameOutlines os ps
AreSameOutlines os ps = ⊥

both_after : (os ps more others : List Outline) → AreSameOutlines os ps → AreSameOutlines more others → AreSameOutlines (os ++ more) (ps ++ others)
both_after [] [] more others same rest = rest
both_after [] (p ∷ ps) more others same rest = absurd same
both_after (o ∷ os) [] more others same rest = absurd same
both_after (o ∷ os) (p ∷ ps) more others same rest = (same.0, both_after os ps more others same.1 rest)

-- ## Trees

name_mapped : (f : At × At → At) (d : Declarator (At × At)) → name_in (mapped_declarator f d) ≡ option_map (mapped_identifier f) (identifier_in d)
name_mapped f (Named x) = refl
name_mapped f (Unnamed at) = refl
name_mapped f (Pointer at qualifiers d) = name_mapped f d
name_mapped f (Parenthesised at d) = name_mapped f d
name_mapped f (Array at d brackets length) = name_mapped f d
name_mapped f (Function at d parentheses all dots) = name_mapped f d

module _ (f g : At × At → At) where
  storage_same : (found : Storage) (ss : Specifiers (At × At)) → storage_from found (mapped_specifiers f ss) ≡ storage_from found (mapped_specifiers g ss)
  storage_same found NoSpecifiers = refl
  storage_same found (MoreSpecifiers (Keyword at word) rest) = storage_same (storage_by found word) rest
  storage_same found (MoreSpecifiers (Typedef x) rest) = storage_same found rest
  storage_same found (MoreSpecifiers (Structure at word tag members) rest) = storage_same found rest
  storage_same found (MoreSpecifiers (Enumeration at tag constants comma) rest) = storage_same found rest

  function_same : (found : Bool) (d : Declarator (At × At)) → function_from found (mapped_declarator f d) ≡ function_from found (mapped_declarator g d)
  function_same found (Named x) = refl
  function_same found (Unnamed at) = refl
  function_same found (Pointer at qualifiers d) = function_same false d
  function_same found (Parenthesised at d) = function_same found d
  function_same found (Array at d brackets length) = function_same false d
  function_same found (Function at d parentheses all dots) = function_same true d

  initial_same : (s : Storage) (i : Option (Initializer (At × At))) → defining_of s (option_map (mapped_initializer f) i) ≡ defining_of s (option_map (mapped_initializer g) i)
  initial_same s None = refl
  initial_same s (Some i) = refl

  -- the outline of a declarator by its name
  outline_by : (s : Storage) (d : InitDeclarator (At × At)) (name : Option (Identifier (At × At)))
      → AreSameOutlines (outline_of s (mapped_init_declarator f d) (option_map (mapped_identifier f) name)) (outline_of s (mapped_init_declarator g d) (option_map (mapped_identifier g) name))
  outline_by s d None = tt
  outline_by s d (Some name) = (
    record {
      name = refl;
      function = function_same false d.declarator;
      static = refl;
      defining = λ j. if function_same false d.declarator j then defined.Elsewhere else initial_same s d.initial j;
    },
    tt,
  )

  outline_same : (s : Storage) (d : InitDeclarator (At × At))
      → AreSameOutlines (outline_of s (mapped_init_declarator f d) (name_in (mapped_declarator f d.declarator))) (outline_of s (mapped_init_declarator g d) (name_in (mapped_declarator g d.declarator)))
  outline_same s d =
      subst (λ name. AreSameOutlines (outline_of s (mapped_init_declarator f d) name) (outline_of s (mapped_init_declarator g d) (name_in (mapped_declarator g d.declarator)))) (sym (name_mapped f d.declarator))
      (subst (λ name. AreSameOutlines (outline_of s (mapped_init_declarator f d) (option_map (mapped_identifier f) (identifier_in d.declarator))) (outline_of s (mapped_init_declarator g d) name)) (sym (name_mapped g d.declarator))
      (outline_by s d (identifier_in d.declarator)))

  outlines_same : (s : Storage) (ds : List (InitDeclarator (At × At))) → AreSameOutlines (outlines_of s (map (mapped_init_declarator f) ds)) (outlines_of s (map (mapped_init_declarator g) ds))
  outlines_same s [] = tt
  outlines_same s (d ∷ ds) =
      both_after (outline_of s (mapped_init_declarator f d) (name_in (mapped_declarator f d.declarator))) (outline_of s (mapped_init_declarator g d) (name_in (mapped_declarator g d.declarator)))
      (outlines_of s (map (mapped_init_declarator f) ds)) (outlines_of s (map (mapped_init_declarator g) ds)) (outline_same s d) (outlines_same s ds)

  by_storage : (s : Storage) (ds : List (InitDeclarator (At × At))) → AreSameOutlines (outlines_by s (map (mapped_init_declarator f) ds)) (outlines_by s (map (mapped_init_declarator g) ds))
  by_storage storage_is.Typedef ds = tt
  by_storage storage_is.Unnamed ds = outlines_same storage_is.Unnamed ds
  by_storage storage_is.Extern ds = outlines_same storage_is.Extern ds
  by_storage storage_is.Static ds = outlines_same storage_is.Static ds

  declared_same : (ss : Specifiers (At × At)) (ds : List (InitDeclarator (At × At)))
      → AreSameOutlines (outlines_by (storage_of (mapped_specifiers f ss)) (map (mapped_init_declarator f) ds)) (outlines_by (storage_of (mapped_specifiers g ss)) (map (mapped_init_declarator g) ds))
  declared_same ss ds =
      subst (λ s. AreSameOutlines (outlines_by (storage_of (mapped_specifiers f ss)) (map (mapped_init_declarator f) ds)) (outlines_by s (map (mapped_init_declarator g) ds))) (storage_same storage_is.Unnamed ss)
      (by_storage (storage_of (mapped_specifiers f ss)) ds)

-- ## Counterparts

-- the outline of a function by its name
abbrev function_outline : Storage → Option (Identifier At) → List Outline
function_outline s None = []
function_outline s (Some name) = record { name = name.name; at = name.place; function = true; static = is_static s; defining = defined.Fully } ∷ []

outline_is : (d : Definition At) (name : Option (Identifier At)) → definition_outline d name ≡ function_outline (storage_of d.specifiers) name
outline_is d None = refl
outline_is d (Some name) = refl

functions_same : (f g : At × At → At) (s : Storage) (name : Option (Identifier (At × At))) → AreSameOutlines (function_outline s (option_map (mapped_identifier f) name)) (function_outline s (option_map (mapped_identifier g) name))
functions_same f g s None = tt
functions_same f g s (Some name) = (record { name = refl; function = refl; static = refl; defining = refl }, tt)

same_after : (os ps others more : List Outline) → others ≡ os → more ≡ ps → AreSameOutlines os ps → AreSameOutlines others more
same_after os ps others more one two same = subst (λ xs. AreSameOutlines xs more) (sym one) (subst (λ xs. AreSameOutlines os xs) (sym two) same)

defined_same : (d : Definition (At × At)) (one other : Statements At) → AreSameOutlines (outlines_in (in_first (defined_in_both d one other))) (outlines_in (in_second (defined_in_both d one other)))
defined_same d one other =
    let first : Definition At = record (mapped_definition (λ p. p.0) d) { body = one } in
    let second : Definition At = record (mapped_definition (λ p. p.1) d) { body = other } in
    let storage : Storage = storage_of first.specifiers in
    same_after
    (function_outline storage (option_map (mapped_identifier (λ p. p.0)) (identifier_in d.declarator)))
    (function_outline storage (option_map (mapped_identifier (λ p. p.1)) (identifier_in d.declarator)))
    (definition_outline first (name_in first.declarator)) (definition_outline second (name_in second.declarator))
    (outline_is first (name_in first.declarator) ∙ ap (function_outline storage) (name_mapped (λ p. p.0) d.declarator))
    (outline_is second (name_in second.declarator) ∙ (λ j. function_outline (sym (storage_same (λ p. p.0) (λ p. p.1) storage_is.Unnamed d.specifiers) j) (name_mapped (λ p. p.1) d.declarator j)))
    (functions_same (λ p. p.0) (λ p. p.1) storage (identifier_in d.declarator))

counterpart_same : (c : Counterparts) → AreSameOutlines (outlines_in (in_first c)) (outlines_in (in_second c))
counterpart_same (declared_in_both at d) = declared_same (λ p. p.0) (λ p. p.1) d.specifiers d.declarators
counterpart_same (defined_in_both d one other) = defined_same d one other

pub counterparts_same : (all : List Counterparts) → AreSameOutlines (outlines (map in_first all)) (outlines (map in_second all))
counterparts_same [] = tt
counterparts_same (c ∷ all) =
    both_after (outlines_in (in_first c)) (outlines_in (in_second c)) (outlines (map in_first all)) (outlines (map in_second all)) (counterpart_same c) (counterparts_same all)
