-- Functions have the names of the definitions that they come of.
use Rattle.std.proofs.Common.{◌≡◌, ◌≤◌, inl, inr, true, false, List, [], ◌∷◌, ◌++◌, map, length, Option, Some, None, refl, sym, ap, ◌∙◌, subst, arith, append_assoc, append-nil}
use Rattle.std.proofs.lemmas.List.{length-map}
use Rattle.p10_base.specs.declared.at.At.{At}
use Rattle.p10_base.specs.Words.{Text}
use Rattle.p10_syn.specs.Trees.{Identifier, Statements, Definition, External, Outer, Defines}
use Rattle.p10_core.specs.Types.{PlainType}
use Rattle.p10_core.specs.Typed.{PlainFunction, PlainStatement}
use Rattle.p10_elabx.specs.First.{Keep}
use Rattle.p10_elabd.specs.Standing.{Passed}
use Rattle.p10_elabd.specs.Words.{storage_of}
use Rattle.p10_elabd.specs.declared.site.Storage.{Storage}
use Rattle.p10_elabd.specs.declared.site.Site.TheVariants as site_is
use Rattle.p10_elabd.specs.Shapes.{FunctionType, DeclaredType, of_type, of_open_array, of_function, of_part_function, name_in}
use Rattle.p10_elabd.specs.Declaring.{specified, declarator_passed, based}
use Rattle.p10_heads.specs.Heads.{Heads, number_in}
use Rattle.p10_elabs.specs.Addresses.{addresses_taken, constants_of}
use Rattle.p10_elabs.specs.Locals.{Frame, Local}
use Rattle.p10_elabs.specs.Statements.{in_nothing, Block', no_items_yet, items_done}
use Rattle.p10_linkage.specs.Linkage.{Linked, is_main_name}
use Rattle.p10_elab.specs.Knowledge.{Known, linked_of, with_linked, with_standing}
use Rattle.p10_elab.specs.Outer.{main_constants, declared_outside, names_noted, function_type, body_begun, function_made, body_done, function_by_type, allowed_at_definition, function_named, defined_outside}
use Rattle.p10_elab.specs.RootEnds.{known_after_all, root_begun, root_passed, roots_passed, nothing_known}
use Rattle.p10_definition_counts.specs.Laws.{name_of_definition, defined_names, root_names, Picks, AddsNamed, FunctionsAreNamed}
use Rattle.p10_definition_counts.proofs.Growing.{declaration_kept}

-- ## Names among others

picked_later : (names before after : List Text) → Picks names after → Picks names (before ++ after)
picked_later names [] after picked = picked
picked_later [] (x ∷ before) after picked = tt
picked_later (name ∷ names) (x ∷ before) after picked = inr (picked_later (name ∷ names) before after picked)

picked_both : (names others more those : List Text) → Picks names others → Picks more those → Picks (names ++ more) (others ++ those)
picked_both [] others more those one two = picked_later more others those two
picked_both (name ∷ names) [] more those one two = absurd one
picked_both (name ∷ names) (x ∷ others) more those (inl one) two = inl (one.0, picked_both names others more those one.1 two)
picked_both (name ∷ names) (x ∷ others) more those (inr one) two = inr (picked_both (name ∷ names) others more those one two)

picked_few : (names others : List Text) → Picks names others → length names ≤ length others
picked_few [] others picked = omega arith
picked_few (name ∷ names) [] picked = absurd picked
picked_few (name ∷ names) (x ∷ others) (inl picked) = omega (arith, picked_few names others picked.1)
picked_few (name ∷ names) (x ∷ others) (inr picked) = omega (arith, picked_few (name ∷ names) others picked)

no_names : (others : List Text) → 0 ≡ length others → [] ≡ others
no_names [] none = refl
no_names (x ∷ others) none = absurd (omega (arith, none))

-- as many names as there are others are these
picked_all : (names others : List Text) → Picks names others → length names ≡ length others → names ≡ others
picked_all [] others picked same = no_names others same
picked_all (name ∷ names) [] picked same = absurd picked
picked_all (name ∷ names) (x ∷ others) (inl picked) same = λ i. picked.0 i ∷ picked_all names others picked.1 (omega (arith, same)) i
picked_all (name ∷ names) (x ∷ others) (inr picked) same = absurd (omega (arith, same, picked_few (name ∷ names) others picked))

-- ## Definitions

-- the names of functions
abbrev names_of : List PlainFunction → List Text
names_of functions = map (λ (f : PlainFunction). f.name) functions

names_append : (these more : List PlainFunction) → names_of (these ++ more) ≡ names_of these ++ names_of more
names_append [] more = refl
names_append (f ∷ these) more = ap (λ rest. f.name ∷ rest) (names_append these more)

module _ (h : Keep) (heads : Heads) where
  made_named : (l : Linked) (t : FunctionType) (after : Local) (o : Option (List PlainStatement)) (at : At) → Picks (names_of (function_made l t after o at)) (l.name ∷ [])
  made_named l t after None at = tt
  made_named l t after (Some ss) at = inl (refl, tt)

  body_named : (l : Linked) (t : FunctionType) (body : Statements At) (k : Known) → AddsNamed (l.name ∷ []) k (body_done h heads l t body k)
  body_named l t body k =
      let f : Frame = record { heads = heads; taken = addresses_taken t.parameters body; number = number_in heads.functions l.root l.internal l.name; result = t.result } in
      let b : Block' = items_done h f (is_main_name l.name) in_nothing (no_items_yet (body_begun f t (names_noted h t.parameters k.standing))) body in
      record { made = function_made l t b.after b.made l.at; functions = refl; named = made_named l t b.after b.made l.at }

  none_named : (names : List Text) (k j : Known) → j.functions ≡ k.functions → AddsNamed names k j
  none_named names k j same = record { made = []; functions = same ∙ sym (append-nil k.functions); named = tt }

  function_named_so : (s : Storage) (d : Definition At) (name : Identifier At) (k : Known) (o : Option DeclaredType) → AddsNamed (name.name ∷ []) k (function_by_type h heads s d name k o)
  function_named_so s d name k None = none_named (name.name ∷ []) k _ refl
  function_named_so s d name k (Some (of_type t)) = none_named (name.name ∷ []) k _ refl
  function_named_so s d name k (Some (of_open_array t)) = none_named (name.name ∷ []) k _ refl
  function_named_so s d name k (Some (of_part_function f)) = none_named (name.name ∷ []) k _ refl
  function_named_so s d name k (Some (of_function f)) =
      let l : Linked = linked_of k name (function_type f) s true false in
      let a = body_named l f d.body (with_linked h heads l k) in
      record { made = a.made; functions = a.functions; named = a.named }

  by_name : (d : Definition At) (k : Known) (t : Option PlainType) (o : Option (Identifier At)) → AddsNamed (name_of_definition o) k (function_named h heads d k t o)
  by_name d k t None = none_named [] k k refl
  by_name d k t (Some name) =
      let j : Passed DeclaredType = declarator_passed h name.place (based t k.standing) d.declarator in
      let a = function_named_so (storage_of d.specifiers) d name (with_standing k j.after) j.made in
      record { made = a.made; functions = a.functions; named = a.named }

  definition_named : (k : Known) (d : Definition At) → AddsNamed (name_of_definition (name_in d.declarator)) k (defined_outside h heads k d)
  unfolding defined_outside
  definition_named k d =
      let t : Passed PlainType = specified h site_is.OfDefinition (allowed_at_definition d) false k.standing d.specifiers in
      let a = by_name d (record k { standing = t.after; mains = k.mains ++ main_constants (constants_of d.specifiers) }) t.made (name_in d.declarator) in
      record { made = a.made; functions = a.functions; named = a.named }

  -- ## Trees and roots

  both_named : (names others : List Text) (k j i : Known) → AddsNamed names k j → AddsNamed others j i → AddsNamed (names ++ others) k i
  both_named names others k j i a b = record {
    made = a.made ++ b.made;
    functions = b.functions ∙ ap (λ fs. fs ++ b.made) a.functions ∙ append_assoc k.functions a.made b.made;
    named = subst (λ ns. Picks ns (names ++ others)) (sym (names_append a.made b.made)) (picked_both (names_of a.made) names (names_of b.made) others a.named b.named);
  }

  trees_named : (k : Known) (trees : List (External At)) → AddsNamed (defined_names trees) k (known_after_all h heads k trees)
  trees_named k [] = none_named [] k k refl
  trees_named k (Outer at d ∷ trees) =
      both_named [] (defined_names trees) k (declared_outside h heads k d) _ (none_named [] k (declared_outside h heads k d) (declaration_kept h heads k d)) (trees_named (declared_outside h heads k d) trees)
  trees_named k (Defines d ∷ trees) =
      both_named (name_of_definition (name_in d.declarator)) (defined_names trees) k (defined_outside h heads k d) _ (definition_named k d) (trees_named (defined_outside h heads k d) trees)

  root_named : (k : Known) (root : List (External At)) → AddsNamed (defined_names root) k (root_passed h heads k root)
  root_named k root = let a = trees_named (root_begun k) root in record { made = a.made; functions = a.functions; named = a.named }

  roots_named : (k : Known) (roots : List (List (External At))) → AddsNamed (root_names roots) k (roots_passed h heads k roots)
  roots_named k [] = none_named [] k k refl
  roots_named k (root ∷ roots) = both_named (defined_names root) (root_names roots) k (root_passed h heads k root) _ (root_named k root) (roots_named (root_passed h heads k root) roots)

pub functions_named : FunctionsAreNamed
functions_named h heads roots many =
    let a = roots_named h heads nothing_known roots in
    let long : length (names_of a.made) ≡ length (root_names roots) = length-map a.made (λ (f : PlainFunction). f.name) ∙ ap length (sym a.functions) ∙ many in
    ap names_of a.functions ∙ picked_all (names_of a.made) (root_names roots) a.named long
