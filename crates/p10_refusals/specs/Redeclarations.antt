-- Declarations of one function agree in their lists of parameters (C99 6.7p4, 6.7.5.3p15): one that doesn't is told, also where the type of a
-- parameter or of the result is refused.
use Rattle.std.specs.Prelude.{◌≡◌, ℕ, ◌+◌, Bool, true, false, not, ◌||◌, List, [], ◌∷◌, ◌++◌, length, Option, Some, None}
use Rattle.p10_base.specs.declared.at.At.{At}
use Rattle.p10_base.specs.declared.codes.SubsetCode.TheVariants as subset
use Rattle.p10_syn.specs.Trees.{Identifier, Declarator, Named, Unnamed, Pointer, Parenthesised, Array, Function, Parameters, NoParameters, MoreParameters, Parameter, parameter, InitDeclarator, Declaration, Definition, External, Outer, Defines}
use Rattle.p10_core.specs.Types.{PlainType}
use Rattle.p10_elabx.specs.declared.problem.Problem.{Problem}
use Rattle.p10_elabx.specs.First.{Among, every}
use Rattle.p10_elabd.specs.declared.declaration.ParameterList.{ParameterList}
use Rattle.p10_elabd.specs.declared.declaration.ParameterList.TheVariants as list_is
use Rattle.p10_elabd.specs.Standing.{Passed}
use Rattle.p10_elabd.specs.Words.{storage_of}
use Rattle.p10_elabd.specs.Shapes.{DeclaredType, of_type, of_open_array, of_function, of_part_function, name_in, list_of}
use Rattle.p10_elabd.specs.Declaring.{declarator_passed}
use Rattle.p10_heads.specs.Heads.{Heads, heads_of_roots}
use Rattle.p10_elabs.specs.LocalDeclarations.{is_typedef}
use Rattle.p10_linkage.specs.Linkage.{LinkedType, Linked, is_function, parameters_of, list_form, is_none_listed, same_linked}
use Rattle.p10_linkage.specs.Between.{is_other}
use Rattle.p10_elab.specs.Knowledge.{Known, linked_of}
use Rattle.p10_elab.specs.Outer.{before_in, function_type, part_type, declared_outside, defined_outside}
use Rattle.p10_elab.specs.Programs.{known_of, standing_of}
use Rattle.p10_refusals.specs.Bodies.{reached_at_definition}
use Rattle.p10_refusals.specs.Forms.{DeclaredAfter}
use Rattle.p10_refusals.specs.InRoots.{reached_in_roots, StandsIn}
use Rattle.p10_refusals.specs.Sizes.{known_outside, declared_by}

-- ## Lists of parameters as they are written

-- how many parameters are written
abbrev pub count_of : Parameters At → ℕ
count_of NoParameters = 0
count_of (MoreParameters one rest) = count_of rest + 1

-- how many parameters a list of one has, where its form tells: without a declarator it may be `void`, and say that there are none (C99
-- 6.7.5.3p10)
abbrev pub count_alone : Parameter At → Option ℕ
count_alone (parameter at _ (Unnamed place)) = None
count_alone one = Some 1

-- how many parameters a list has, where its form tells
abbrev pub count_by_form : Parameters At → Option ℕ
count_by_form NoParameters = Some 0
count_by_form (MoreParameters one NoParameters) = count_alone one
count_by_form (MoreParameters one (MoreParameters two rest)) = Some (count_of (MoreParameters two rest) + 1)

-- a list of parameters: its form, and how many there are, where that is known
pub record WrittenList : Type 0 where
  pub form : ParameterList
  pub count : Option ℕ

-- the list that stands directly after the name of a declarator, where it is known what stands round it
abbrev pub list_from : Option WrittenList → Declarator At → Option WrittenList
list_from found (Named name) = found
list_from found (Unnamed at) = found
list_from found (Pointer at qualifiers d) = list_from None d
list_from found (Parenthesised at d) = list_from found d
list_from found (Array at d brackets bound) = list_from None d
list_from found (Function at d parentheses all more) = list_from (Some (record { form = list_of all more; count = count_by_form all })) d

-- the list of the parameters of a function that a declarator declares
abbrev pub list_in : Declarator At → Option WrittenList
list_in d = list_from None d

-- ## What is declared with them

-- the type with linkage of a function, of which a part may be refused
abbrev pub linked_by : Option DeclaredType → Option LinkedType
linked_by (Some (of_function f)) = Some (function_type f)
linked_by (Some (of_part_function f)) = Some (part_type f)
linked_by (Some (of_type t)) = None
linked_by (Some (of_open_array t)) = None
linked_by None = None

-- what is declared is a function that has a list of parameters as it is written
pub record HasList (w : WrittenList) (o : Option DeclaredType) : Type 0 where
  pub linked : LinkedType
  pub is : linked_by o ≡ Some linked
  pub function : is_function linked ≡ true
  pub form : list_form linked ≡ w.form
  pub count : (n : ℕ) → w.count ≡ Some n → length (parameters_of linked) ≡ n

-- ## Lists that don't go together

-- whether `...` stands in one of two lists alone
abbrev pub are_apart : ParameterList → ParameterList → Bool
are_apart list_is.Variadic list_is.Variadic = false
are_apart list_is.Variadic m = true
are_apart l list_is.Variadic = true
are_apart l m = false

-- whether there are as many of some as of others
abbrev pub are_as_many : List (Option PlainType) → List (Option PlainType) → Bool
are_as_many [] [] = true
are_as_many (t ∷ ts) (u ∷ us) = are_as_many ts us
are_as_many ts us = false

-- whether the lists of two functions don't go together by their forms: `...` stands in one alone, or neither is `()` and they don't have as
-- many parameters
abbrev pub lists_differ : LinkedType → LinkedType → Bool
lists_differ t u = are_apart (list_form t) (list_form u) || not (is_none_listed t u || are_as_many (parameters_of t) (parameters_of u))

-- ## Rows

-- a name that is declared differently
abbrev pub declared_twice_at : At → Problem
declared_twice_at at = record { code = subset.DefinedTwice; at = at }

-- the declaration of a function before, by its name, has a list of parameters as it is written
pub record IsKnownWith (k : Known) (name : Identifier At) (w : WrittenList) : Type 0 where
  pub earlier : Linked
  pub known : before_in k name ≡ Some earlier
  pub function : is_function earlier.type ≡ true
  pub form : list_form earlier.type ≡ w.form
  pub count : (n : ℕ) → w.count ≡ Some n → length (parameters_of earlier.type) ≡ n

-- two declarations, one directly after the other, of which the last declarator and the first declare one function with lists of
-- parameters
pub record IsDeclaredAgain (d e : Declaration At) (name again : Identifier At) (w v : WrittenList) : Type 0 where
  pub before : List (InitDeclarator At)
  pub one : InitDeclarator At
  pub last : d.declarators ≡ before ++ one ∷ []
  pub named : name_in one.declarator ≡ Some name
  pub plain : is_typedef (storage_of d.specifiers) ≡ false
  pub written : list_in one.declarator ≡ Some w
  pub other : InitDeclarator At
  pub first : DeclaredAfter e [] other again
  pub also_plain : is_typedef (storage_of e.specifiers) ≡ false
  pub also_written : list_in other.declarator ≡ Some v
  pub same : name.name ≡ again.name

-- a prototype that doesn't agree with the declaration before it in its root
pub record IsRedeclared (heads : Heads) (k : Known) (d : Declaration At) (before : List (InitDeclarator At)) (one : InitDeclarator At) (name : Identifier At) : Type 0 where
  pub declared : DeclaredAfter d before one name
  pub plain : is_typedef (storage_of d.specifiers) ≡ false
  pub type : LinkedType
  pub made : linked_by (declared_by heads k d before one name).made ≡ Some type
  pub earlier : Linked
  pub known : before_in (known_outside heads k d before) name ≡ Some earlier
  pub differs : same_linked earlier (linked_of (known_outside heads k d before) name type (storage_of d.specifiers) false false) ≡ false

-- a function with a body that doesn't agree with the declaration before it in its root
pub record IsRedefined (heads : Heads) (k : Known) (d : Definition At) (name : Identifier At) : Type 0 where
  pub named : name_in d.declarator ≡ Some name
  pub type : LinkedType
  pub made : linked_by (declarator_passed every name.place (reached_at_definition k d) d.declarator).made ≡ Some type
  pub earlier : Linked
  pub known : before_in k name ≡ Some earlier
  pub differs : same_linked earlier (linked_of k name type (storage_of d.specifiers) true false) ≡ false

-- a function is known by its list of parameters as it is written, whatever of it is refused; functions whose lists don't go together by
-- their forms don't agree. So a prototype is told at its name where `...` stands in its list alone, or in that of the declaration before it
-- alone, which is the one that stands directly before it, if that declares the same name; and so is each declaration of a function that doesn't agree with the one before it, and one in a later root whose list doesn't go
-- together with that of an earlier one
pub record RedeclarationsAreTold : Type 0 where
  pub lists : (name_at : At) (p : Passed DeclaredType) (d : Declarator At) (w : WrittenList) → list_in d ≡ Some w → HasList w (declarator_passed every name_at p d).made
  pub by_form : (before now : Linked) → is_function before.type ≡ true → is_function now.type ≡ true → lists_differ before.type now.type ≡ true → same_linked before now ≡ false
  pub apart : (heads : Heads) (k : Known) (d : Declaration At) (before : List (InitDeclarator At)) (one : InitDeclarator At) (name : Identifier At) (w : WrittenList) (earlier : Linked) →
      DeclaredAfter d before one name → is_typedef (storage_of d.specifiers) ≡ false → list_in one.declarator ≡ Some w → before_in (known_outside heads k d before) name ≡ Some earlier →
      is_function earlier.type ≡ true → are_apart (list_form earlier.type) w.form ≡ true → Among (declared_twice_at name.place) (declared_outside every heads k d).standing.problems
  pub known_after : (heads : Heads) (k : Known) (d : Declaration At) (before : List (InitDeclarator At)) (one : InitDeclarator At) (name : Identifier At) (w : WrittenList) →
      name_in one.declarator ≡ Some name → is_typedef (storage_of d.specifiers) ≡ false → list_in one.declarator ≡ Some w → IsKnownWith (known_outside heads k d (before ++ one ∷ [])) name w
  pub declared_again : (heads : Heads) (k : Known) (d e : Declaration At) (name again : Identifier At) (w v : WrittenList) → IsDeclaredAgain d e name again w v → are_apart w.form v.form ≡ true →
      Among (declared_twice_at again.place) (declared_outside every heads (declared_outside every heads k d) e).standing.problems
  pub outside : (heads : Heads) (k : Known) (d : Declaration At) (before : List (InitDeclarator At)) (one : InitDeclarator At) (name : Identifier At) → IsRedeclared heads k d before one name →
      Among (declared_twice_at name.place) (declared_outside every heads k d).standing.problems
  pub at_definition : (heads : Heads) (k : Known) (d : Definition At) (name : Identifier At) → IsRedefined heads k d name →
      Among (declared_twice_at name.place) (defined_outside every heads k d).standing.problems
  pub outside_in_roots : (roots others : List (List (External At))) (earlier : List (External At)) (p : At) (d : Declaration At) (before : List (InitDeclarator At)) (one : InitDeclarator At) (name : Identifier At) →
      StandsIn roots others earlier (Outer p d) → IsRedeclared (heads_of_roots 0 roots) (reached_in_roots (heads_of_roots 0 roots) others earlier) d before one name →
      Among (declared_twice_at name.place) (standing_of every roots).problems
  pub definition_in_roots : (roots others : List (List (External At))) (earlier : List (External At)) (d : Definition At) (name : Identifier At) →
      StandsIn roots others earlier (Defines d) → IsRedefined (heads_of_roots 0 roots) (reached_in_roots (heads_of_roots 0 roots) others earlier) d name →
      Among (declared_twice_at name.place) (standing_of every roots).problems
  pub between_roots : (roots : List (List (External At))) (first between rest : List Linked) (before now : Linked) → (known_of every roots).linked ≡ first ++ before ∷ (between ++ now ∷ rest) →
      is_other before now ≡ true → is_function before.type ≡ true → is_function now.type ≡ true → lists_differ before.type now.type ≡ true →
      Among (declared_twice_at now.at) (standing_of every roots).problems
