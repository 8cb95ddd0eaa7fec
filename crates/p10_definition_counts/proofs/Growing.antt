-- Declarations add no functions, and each definition adds one at most.
use Rattle.std.proofs.Common.{◌≡◌, ℕ, ◌+◌, ◌≤◌, List, [], ◌∷◌, ◌++◌, length, Bool, true, false, ◌||◌, if◌then◌else◌, Option, Some, None, refl, sym, ap, ◌∙◌, arith, append_assoc, append-nil, length-append}
use Rattle.p10_base.specs.declared.at.At.{At}
use Rattle.p10_syn.specs.Trees.{Identifier, Initializer, InitDeclarator, Statements, Declaration, Definition, External, Outer, Defines}
use Rattle.p10_core.specs.Types.{PlainType}
use Rattle.p10_core.specs.Typed.{PlainInitializer, PlainStatement}
use Rattle.p10_digests.specs.Digests.{function_places}
use Rattle.p10_elabx.specs.First.{Keep}
use Rattle.p10_elabd.specs.Standing.{PlainStanding, Passed}
use Rattle.p10_elabd.specs.Words.{storage_of}
use Rattle.p10_elabd.specs.declared.site.Storage.{Storage}
use Rattle.p10_elabd.specs.Shapes.{FunctionType, DeclaredType, of_type, of_open_array, of_function, of_part_function, name_in}
use Rattle.p10_elabd.specs.Declaring.{specified, declarator_passed, based}
use Rattle.p10_elabd.specs.declared.site.Site.TheVariants as site_is
use Rattle.p10_elabd.specs.declared.lifetime.Lifetime.TheVariants as life_is
use Rattle.p10_heads.specs.Heads.{Heads, number_in}
use Rattle.p10_elabs.specs.Addresses.{addresses_taken, constants_of}
use Rattle.p10_elabs.specs.Locals.{Frame, Local, specified_in, makes_sensors, no_initializer, typedef_passed, is_written, brackets_of, initialized_by}
use Rattle.p10_elabs.specs.LocalDeclarations.{is_typedef}
use Rattle.p10_elabs.specs.Statements.{in_nothing, Block', no_items_yet, items_done}
use Rattle.p10_linkage.specs.Linkage.{an_object, Linked, is_main_name}
use Rattle.p10_elab.specs.Knowledge.{Known, linked_of, with_linked, with_standing, without_linkage}
use Rattle.p10_elab.specs.Outer.{is_site, with_defined, is_extern, with_tentative, object_declared, before_in, open_outside, outer_type, object_outside, object_by_type, by_type_outside, outer_named, outer_declarators, main_constants, declared_outside, names_noted, function_type, body_begun, function_made, body_done, function_by_type, allowed_at_definition, function_named, defined_outside}
use Rattle.p10_elab.specs.RootEnds.{known_after_all, root_begun, root_passed, roots_passed}
use Rattle.p10_definition_counts.specs.Laws.{AddsAtMost, definitions_of, FunctionsFollow}

-- ## Declarations

either_kept : (b : Bool) (j k x : Known) → j.functions ≡ x.functions → k.functions ≡ x.functions → (if b then j else k).functions ≡ x.functions
either_kept true j k x one two = one
either_kept false j k x one two = two

defined_kept : (heads : Heads) (l : Linked) (name : Identifier At) (t : PlainType) (o : Option PlainInitializer) (k : Known) → (with_defined heads l name t o k).functions ≡ k.functions
defined_kept heads l name t None k = refl
defined_kept heads l name t (Some i) k = either_kept (is_site heads name) _ _ k refl refl

tentative_kept : (name : Identifier At) (t : PlainType) (s : Storage) (i : Option (Initializer At)) (k : Known) → (with_tentative name t s i k).functions ≡ k.functions
tentative_kept name t s i k = either_kept (is_written i || is_extern s) _ _ k refl refl

module _ (h : Keep) (heads : Heads) where
  declared_kept : (name : Identifier At) (t : PlainType) (s : Storage) (sensor : Bool) (i : Option (Initializer At)) (k : Known) → (object_declared h heads name t s sensor i k).functions ≡ k.functions
  declared_kept name t s sensor i k =
      let l : Linked = linked_of k name (an_object t) s (is_written i) sensor in
      let m : Known = with_tentative name t s i (with_linked h heads l k) in
      let p : Passed PlainInitializer = initialized_by h life_is.Static t i m.standing in
      defined_kept heads l name t p.made (with_standing m p.after) ∙ tentative_kept name t s i (with_linked h heads l k)

  outside_kept : (name : Identifier At) (s : Storage) (sensor : Bool) (i : Option (Initializer At)) (k : Known) (o : Option PlainType) (z : PlainStanding)
      → (object_outside h heads name s sensor i k (record { made = o; after = z })).functions ≡ k.functions
  outside_kept name s sensor i k None z = refl
  outside_kept name s sensor i k (Some t) z = declared_kept name t s sensor i (with_standing k z)

  type_kept : (s : Storage) (sensor : Bool) (name : Identifier At) (d : InitDeclarator At) (k : Known) (o : Option DeclaredType) → (object_by_type h heads s sensor name d k o).functions ≡ k.functions
  type_kept s sensor name d k None = refl
  type_kept s sensor name d k (Some t) =
      let p : Passed PlainType = outer_type h name (brackets_of d.declarator) s d.initial (before_in k name) t k.standing in
      outside_kept name s sensor d.initial k p.made p.after

  by_kept : (s : Storage) (sensor : Bool) (name : Identifier At) (d : InitDeclarator At) (k : Known) (o : Option DeclaredType) → (by_type_outside h heads s sensor name d k o).functions ≡ k.functions
  by_kept s sensor name d k None = refl
  by_kept s sensor name d k (Some (of_function f)) = refl
  by_kept s sensor name d k (Some (of_part_function f)) = refl
  by_kept s sensor name d k (Some (of_type t)) = type_kept s sensor name d (with_standing k (open_outside h name d (before_in k name) (Some (of_type t)) k.standing)) (Some (of_type t))
  by_kept s sensor name d k (Some (of_open_array t)) = type_kept s sensor name d (with_standing k (open_outside h name d (before_in k name) (Some (of_open_array t)) k.standing)) (Some (of_open_array t))

  named_kept : (s : Storage) (sensor : Bool) (t : Option PlainType) (k : Known) (d : InitDeclarator At) (o : Option (Identifier At)) → (outer_named h heads s sensor t k d o).functions ≡ k.functions
  named_kept s sensor t k d None = refl
  named_kept s sensor t k d (Some name) =
      let j : Passed DeclaredType = declarator_passed h name.place (based t k.standing) d.declarator in
      either_kept (is_typedef s) (without_linkage name (no_initializer h d.initial (typedef_passed h name d.declarator j.made j.after)) k) (by_type_outside h heads s sensor name d (with_standing k j.after) j.made) k refl
      (by_kept s sensor name d (with_standing k j.after) j.made)

  declarators_kept : (s : Storage) (sensor : Bool) (t : Option PlainType) (k : Known) (ds : List (InitDeclarator At)) → (outer_declarators h heads s sensor t k ds).functions ≡ k.functions
  declarators_kept s sensor t k [] = refl
  declarators_kept s sensor t k (d ∷ ds) = declarators_kept s sensor t (outer_named h heads s sensor t k d (name_in d.declarator)) ds ∙ named_kept s sensor t k d (name_in d.declarator)

  pub declaration_kept : (k : Known) (d : Declaration At) → (declared_outside h heads k d).functions ≡ k.functions
  unfolding declared_outside
  declaration_kept k d =
      let t : Passed PlainType = specified_in h true site_is.Outside k.standing d in
      declarators_kept (storage_of d.specifiers) (makes_sensors d) t.made (record k { standing = t.after; mains = k.mains ++ main_constants (constants_of d.specifiers) }) d.declarators

  -- ## Definitions

  made_few : (l : Linked) (t : FunctionType) (after : Local) (o : Option (List PlainStatement)) (at : At) → length (function_made l t after o at) ≤ 1
  made_few l t after None at = omega arith
  made_few l t after (Some ss) at = omega arith

  body_adds : (l : Linked) (t : FunctionType) (body : Statements At) (k : Known) → AddsAtMost 1 k (body_done h heads l t body k)
  body_adds l t body k =
      let f : Frame = record { heads = heads; taken = addresses_taken t.parameters body; number = number_in heads.functions l.root l.internal l.name; result = t.result } in
      let b : Block' = items_done h f (is_main_name l.name) in_nothing (no_items_yet (body_begun f t (names_noted h t.parameters k.standing))) body in
      record { made = function_made l t b.after b.made l.at; functions = refl; few = made_few l t b.after b.made l.at }

  none_added : (count : ℕ) (k j : Known) → j.functions ≡ k.functions → AddsAtMost count k j
  none_added count k j same = record { made = []; functions = same ∙ sym (append-nil k.functions); few = omega arith }

  function_adds : (s : Storage) (d : Definition At) (name : Identifier At) (k : Known) (o : Option DeclaredType) → AddsAtMost 1 k (function_by_type h heads s d name k o)
  function_adds s d name k None = none_added 1 k _ refl
  function_adds s d name k (Some (of_type t)) = none_added 1 k _ refl
  function_adds s d name k (Some (of_open_array t)) = none_added 1 k _ refl
  function_adds s d name k (Some (of_part_function f)) = none_added 1 k _ refl
  function_adds s d name k (Some (of_function f)) =
      let l : Linked = linked_of k name (function_type f) s true false in
      let a = body_adds l f d.body (with_linked h heads l k) in
      record { made = a.made; functions = a.functions; few = a.few }

  named_adds : (d : Definition At) (k : Known) (t : Option PlainType) (o : Option (Identifier At)) → AddsAtMost 1 k (function_named h heads d k t o)
  named_adds d k t None = none_added 1 k k refl
  named_adds d k t (Some name) =
      let j : Passed DeclaredType = declarator_passed h name.place (based t k.standing) d.declarator in
      let a = function_adds (storage_of d.specifiers) d name (with_standing k j.after) j.made in
      record { made = a.made; functions = a.functions; few = a.few }

  definition_adds : (k : Known) (d : Definition At) → AddsAtMost 1 k (defined_outside h heads k d)
  unfolding defined_outside
  definition_adds k d =
      let t : Passed PlainType = specified h site_is.OfDefinition (allowed_at_definition d) false k.standing d.specifiers in
      let a = named_adds d (record k { standing = t.after; mains = k.mains ++ main_constants (constants_of d.specifiers) }) t.made (name_in d.declarator) in
      record { made = a.made; functions = a.functions; few = a.few }

  -- ## Trees and roots

  both_add : (m n : ℕ) (k j i : Known) → AddsAtMost m k j → AddsAtMost n j i → AddsAtMost (m + n) k i
  both_add m n k j i a b = record {
    made = a.made ++ b.made;
    functions = b.functions ∙ ap (λ fs. fs ++ b.made) a.functions ∙ append_assoc k.functions a.made b.made;
    few = omega (arith, a.few, b.few, length-append a.made b.made);
  }

  more_added : (m n : ℕ) (k j : Known) → m ≡ n → AddsAtMost m k j → AddsAtMost n k j
  more_added m n k j same a = record { made = a.made; functions = a.functions; few = omega (arith, a.few, same) }

  pub trees_add : (k : Known) (trees : List (External At)) → AddsAtMost (length (function_places trees)) k (known_after_all h heads k trees)
  trees_add k [] = none_added 0 k k refl
  trees_add k (Outer at d ∷ trees) =
      more_added (0 + length (function_places trees)) (length (function_places trees)) k _ (omega arith)
      (both_add 0 (length (function_places trees)) k (declared_outside h heads k d) _ (none_added 0 k (declared_outside h heads k d) (declaration_kept k d)) (trees_add (declared_outside h heads k d) trees))
  trees_add k (Defines d ∷ trees) =
      more_added (1 + length (function_places trees)) (length (function_places (Defines d ∷ trees))) k _ (omega arith)
      (both_add 1 (length (function_places trees)) k (defined_outside h heads k d) _ (definition_adds k d) (trees_add (defined_outside h heads k d) trees))

  root_adds : (k : Known) (root : List (External At)) → AddsAtMost (length (function_places root)) k (root_passed h heads k root)
  root_adds k root = let a = trees_add (root_begun k) root in record { made = a.made; functions = a.functions; few = a.few }

  pub roots_add : (k : Known) (roots : List (List (External At))) → AddsAtMost (definitions_of roots) k (roots_passed h heads k roots)
  roots_add k [] = none_added 0 k k refl
  roots_add k (root ∷ roots) = both_add (length (function_places root)) (definitions_of roots) k (root_passed h heads k root) _ (root_adds k root) (roots_add (root_passed h heads k root) roots)

pub functions_follow : FunctionsFollow
functions_follow = record { trees = λ h heads k trees. trees_add h heads k trees; roots = λ h heads k roots. roots_add h heads k roots }
