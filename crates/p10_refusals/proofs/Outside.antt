-- Declarations and functions outside of functions, roots, and roots taken together, where what stands is alike.
use Rattle.std.proofs.Common.{◌≡◌, Bool, true, false, not, ◌||◌, if◌then◌else◌, List, [], ◌∷◌, ◌++◌, Option, Some, None, refl, ap, subst}
use Rattle.p10_base.specs.declared.at.At.{At}
use Rattle.p10_base.specs.declared.codes.SubsetCode.TheVariants as subset
use Rattle.p10_core.specs.Types.{PlainType}
use Rattle.p10_core.specs.Typed.{PlainInitializer}
use Rattle.p10_core.specs.Rows.{is_complete, is_void}
use Rattle.p10_syn.specs.Trees.{Identifier, Initializer, InitDeclarator, Declaration}
use Rattle.p10_elabx.specs.declared.problem.Problem.{Problem}
use Rattle.p10_elabx.specs.First.{every, only_first}
use Rattle.p10_elabd.specs.Laws.{AreKept}
use Rattle.p10_elabd.specs.Standing.{PlainStanding, Passed}
use Rattle.p10_elabd.specs.Words.{storage_of}
use Rattle.p10_elabd.specs.declared.site.Site.TheVariants as site_is
use Rattle.p10_elabd.specs.declared.site.Storage.{Storage}
use Rattle.p10_elabd.specs.Shapes.{DeclaredType, of_type, of_open_array, of_function, of_part_function, name_in}
use Rattle.p10_elabd.specs.Initializers.{elements_given}
use Rattle.p10_elabd.specs.declared.lifetime.Lifetime.TheVariants as life_is
use Rattle.p10_heads.specs.Heads.{Heads}
use Rattle.p10_elabs.specs.Addresses.{constants_of}
use Rattle.p10_elabs.specs.Locals.{makes_sensors, no_initializer, typedef_passed, is_written, brackets_of, initialized_by}
use Rattle.p10_elabs.specs.LocalDeclarations.{is_typedef}
use Rattle.p10_linkage.specs.Linkage.{LinkedType, an_object, unknown_object, Linked, last_linked, is_refused, linked_noted, is_static, main_problem}
use Rattle.p10_elab.specs.Knowledge.{Known, with_standing, linked_meaning, with_linked, linked_of, without_linkage}
use Rattle.p10_elab.specs.Outer.{is_site, with_defined, is_extern, with_tentative, object_declared, before_in, composite, gets_length, open_outside, array_outside, outer_type, object_outside, function_type, part_type, prototype_declared, object_by_type, object_by_form, by_type_outside, outer_named, outer_declarators, main_constants, declared_outside}
use Rattle.p10_refusals.proofs.Alike.{Alike, AlikePassed, with_kept, for_alike, followed, alike_passed, alike_nothing, alike_made, alike_refusing, alike_where_in}
use Rattle.p10_refusals.proofs.Shaping.{alike_named}
use Rattle.p10_refusals.proofs.Declaring.{alike_declarator, alike_based}
use Rattle.p10_refusals.proofs.Locals.{alike_specified_in, alike_no_initializer, alike_typedef, alike_filled, alike_open_noted, alike_initialized_by}

-- ## What is known

-- the same is known, and what stands is alike
pub record AlikeKnown (k j : Known) : Type 0 where
  pub standing : Alike k.standing j.standing
  pub root : k.root ≡ j.root
  pub linked : k.linked ≡ j.linked
  pub functions : k.functions ≡ j.functions
  pub block_objects : k.block_objects ≡ j.block_objects
  pub objects : k.objects ≡ j.objects
  pub sightings : k.sightings ≡ j.sightings
  pub visible : k.visible ≡ j.visible
  pub mains : k.mains ≡ j.mains
  pub tentative : k.tentative ≡ j.tentative
  pub undefined : k.undefined ≡ j.undefined
  pub outside : k.outside ≡ j.outside

-- what is known with other problems
abbrev pub with_problems_of : List Problem → Known → Known
with_problems_of ps k = record k { standing = record k.standing { problems = ps } }

-- what holds where the problems differ alone holds of all that is alike
pub for_known : (P : Known → Type 0) (k j : Known) → ((ps : List Problem) → AreKept k.standing.problems ps → P (with_problems_of ps k)) → AlikeKnown k j → P j
for_known P k j go a =
    let e : with_problems_of j.standing.problems k ≡ j = λ i. record {
      standing = record { scope = a.standing.scope i; open_structures = a.standing.open_structures i; problems = j.standing.problems };
      root = a.root i;
      linked = a.linked i;
      functions = a.functions i;
      block_objects = a.block_objects i;
      objects = a.objects i;
      sightings = a.sightings i;
      visible = a.visible i;
      mains = a.mains i;
      tentative = a.tentative i;
      undefined = a.undefined i;
      outside = a.outside i;
    } in
    subst P e (go j.standing.problems a.standing.problems)

-- the same is known, except for what stands
pub known_with : {s t : PlainStanding} (k : Known) → Alike s t → AlikeKnown (with_standing k s) (with_standing k t)
known_with k a = record { standing = a; root = refl; linked = refl; functions = refl; block_objects = refl; objects = refl; sightings = refl; visible = refl; mains = refl; tentative = refl; undefined = refl; outside = refl }

pub known_at : {k j : Known} {s t : PlainStanding} → AlikeKnown k j → Alike s t → AlikeKnown (with_standing k s) (with_standing j t)
known_at a b = record { standing = b; root = a.root; linked = a.linked; functions = a.functions; block_objects = a.block_objects; objects = a.objects; sightings = a.sightings; visible = a.visible; mains = a.mains; tentative = a.tentative; undefined = a.undefined; outside = a.outside }

-- ## Names with linkage

alike_noted_link : {s t : PlainStanding} (linked : List Linked) (now : Linked) → Alike s t → Alike (linked_noted every linked now s) (linked_noted only_first linked now t)
alike_noted_link {s = s} {t = t} linked now a =
    for_alike (λ t. Alike (linked_noted every linked now s) (linked_noted only_first linked now t)) s t
    (λ ps k. alike_refusing (is_refused s linked (last_linked None now.root now.name linked) now) subset.DefinedTwice now.at (with_kept s ps k)) a

pub alike_link : {k j : Known} (heads : Heads) (l : Linked) → AlikeKnown k j → AlikeKnown (with_linked every heads l k) (with_linked only_first heads l j)
alike_link {k = k} {j = j} heads l a =
    for_known (λ j. AlikeKnown (with_linked every heads l k) (with_linked only_first heads l j)) k j
    (λ ps h. record {
      standing = alike_named l.name (linked_meaning heads l) (alike_noted_link k.linked l (with_kept k.standing ps h));
      root = refl;
      linked = refl;
      functions = refl;
      block_objects = refl;
      objects = refl;
      sightings = refl;
      visible = refl;
      mains = refl;
      tentative = refl;
      undefined = refl;
      outside = refl;
    }) a

-- a name that is linked by what is known
pub alike_link_of : {k j : Known} (heads : Heads) (name : Identifier At) (u : LinkedType) (s : Storage) (defines sensor : Bool) → AlikeKnown k j →
    AlikeKnown (with_linked every heads (linked_of k name u s defines sensor) k) (with_linked only_first heads (linked_of j name u s defines sensor) j)
alike_link_of {k = k} {j = j} heads name u s defines sensor a =
    for_known (λ j. AlikeKnown (with_linked every heads (linked_of k name u s defines sensor) k) (with_linked only_first heads (linked_of j name u s defines sensor) j)) k j
    (λ ps h. alike_link heads (linked_of k name u s defines sensor) (known_with k (with_kept k.standing ps h))) a

pub alike_unlinked : {k j : Known} {s t : PlainStanding} (name : Identifier At) → AlikeKnown k j → Alike s t → AlikeKnown (without_linkage name s k) (without_linkage name t j)
alike_unlinked name a b = record {
  standing = b;
  root = a.root;
  linked = a.linked;
  functions = a.functions;
  block_objects = a.block_objects;
  objects = a.objects;
  sightings = a.sightings;
  visible = a.visible;
  mains = ap (λ ms. ms ++ main_problem false name.name name.place) a.mains;
  tentative = a.tentative;
  undefined = a.undefined;
  outside = a.outside;
}

known_choice : {k j x y : Known} (b : Bool) → AlikeKnown k x → AlikeKnown j y → AlikeKnown (if b then k else j) (if b then x else y)
known_choice true a b = a
known_choice false a b = b

-- ## Objects

alike_defined : (heads : Heads) (l : Linked) (name : Identifier At) (u : PlainType) (i : Option PlainInitializer) (k : Known) (ps : List Problem) → AreKept k.standing.problems ps →
    AlikeKnown (with_defined heads l name u i k) (with_defined heads l name u i (with_problems_of ps k))
alike_defined heads l name u None k ps h = known_with k (with_kept k.standing ps h)
alike_defined heads l name u (Some i) k ps h = known_choice (is_site heads name) (record { standing = with_kept k.standing ps h; root = refl; linked = refl; functions = refl; block_objects = refl; objects = refl; sightings = refl; visible = refl; mains = refl; tentative = refl; undefined = refl; outside = refl }) (known_with k (with_kept k.standing ps h))

alike_defined_in : {k j : Known} (heads : Heads) (l : Linked) (name : Identifier At) (u : PlainType) (i : Option PlainInitializer) → AlikeKnown k j →
    AlikeKnown (with_defined heads l name u i k) (with_defined heads l name u i j)
alike_defined_in {k = k} {j = j} heads l name u i a =
    for_known (λ j. AlikeKnown (with_defined heads l name u i k) (with_defined heads l name u i j)) k j (λ ps h. alike_defined heads l name u i k ps h) a

-- an object by its declaration with linkage
alike_object_by : {k j : Known} (heads : Heads) (l : Linked) (name : Identifier At) (u : PlainType) (i : Option (Initializer At)) → AlikeKnown k j →
    AlikeKnown
    (with_defined heads l name u (initialized_by every life_is.Static u i k.standing).made (with_standing k (initialized_by every life_is.Static u i k.standing).after))
    (with_defined heads l name u (initialized_by only_first life_is.Static u i j.standing).made (with_standing j (initialized_by only_first life_is.Static u i j.standing).after))
alike_object_by {k = k} {j = j} heads l name u i a =
    let p = alike_initialized_by life_is.Static u i a.standing in
    followed AlikeKnown (λ o s. with_defined heads l name u o (with_standing k s)) (λ o s. with_defined heads l name u o (with_standing j s)) p
    (λ o. alike_defined_in heads l name u o (known_at a p.after))

alike_tentative : {k j : Known} (name : Identifier At) (u : PlainType) (s : Storage) (i : Option (Initializer At)) → AlikeKnown k j → AlikeKnown (with_tentative name u s i k) (with_tentative name u s i j)
alike_tentative name u s i a = known_choice (is_written i || is_extern s) a (record {
  standing = a.standing;
  root = a.root;
  linked = a.linked;
  functions = a.functions;
  block_objects = a.block_objects;
  objects = a.objects;
  sightings = a.sightings;
  visible = a.visible;
  mains = a.mains;
  tentative = λ n. a.tentative n ++ record { name = name; type = u } ∷ [];
  undefined = a.undefined;
  outside = a.outside;
})

alike_object : {k j : Known} (heads : Heads) (name : Identifier At) (u : PlainType) (s : Storage) (sensor : Bool) (i : Option (Initializer At)) → AlikeKnown k j →
    AlikeKnown (object_declared every heads name u s sensor i k) (object_declared only_first heads name u s sensor i j)
alike_object {k = k} {j = j} heads name u s sensor i a =
    for_known (λ j. AlikeKnown (object_declared every heads name u s sensor i k) (object_declared only_first heads name u s sensor i j)) k j
    (λ ps h. alike_object_by heads (linked_of k name (an_object u) s (is_written i) sensor) name u i
    (alike_tentative name u s i (alike_link heads (linked_of k name (an_object u) s (is_written i) sensor) (known_with k (with_kept k.standing ps h))))) a

alike_array_outside : {s t : PlainStanding} (name : Identifier At) (brackets : At) (u : PlainType) (i : Option (Initializer At)) (o : Option PlainType) → Alike s t →
    AlikePassed PlainType (array_outside every name brackets u i o s) (array_outside only_first name brackets u i o t)
alike_array_outside name brackets u i (Some v) a = alike_passed v a
alike_array_outside name brackets u None None a = alike_nothing a
alike_array_outside name brackets u (Some i) None a = alike_filled name brackets u i (elements_given u i) a

alike_outer_type : {s t : PlainStanding} (name : Identifier At) (brackets : At) (storage : Storage) (i : Option (Initializer At)) (before : Option Linked) (d : DeclaredType) → Alike s t →
    AlikePassed PlainType (outer_type every name brackets storage i before d s) (outer_type only_first name brackets storage i before d t)
alike_outer_type name brackets storage i before (of_type u) a =
    alike_where_in (λ x. is_complete x.structures u || not (is_written i || (is_static storage || is_void u))) a (alike_made (Some u) a) (alike_made None (alike_refusing true subset.IncompleteType name.place a))
alike_outer_type name brackets storage i before (of_open_array u) a = alike_array_outside name brackets u i (composite u before) a
alike_outer_type name brackets storage i before (of_function f) a = alike_made None a
alike_outer_type name brackets storage i before (of_part_function f) a = alike_made None a

alike_open_outside : {s t : PlainStanding} (name : Identifier At) (d : InitDeclarator At) (before : Option Linked) (o : Option DeclaredType) → Alike s t →
    Alike (open_outside every name d before o s) (open_outside only_first name d before o t)
alike_open_outside {s = s} {t = t} name d before o a = standing_where (gets_length before o) a (alike_open_noted name.place d.declarator d.initial a)
  where
    standing_where : {s t x y : PlainStanding} (b : Bool) → Alike s x → Alike t y → Alike (if b then s else t) (if b then x else y)
    standing_where true a b = a
    standing_where false a b = b

alike_object_where : {k j : Known} (heads : Heads) (name : Identifier At) (s : Storage) (sensor : Bool) (i : Option (Initializer At)) (o : Option PlainType) → AlikeKnown k j →
    AlikeKnown (object_outside every heads name s sensor i k (record { made = o; after = k.standing })) (object_outside only_first heads name s sensor i j (record { made = o; after = j.standing }))
alike_object_where heads name s sensor i None a = alike_link_of heads name unknown_object s (is_written i) sensor a
alike_object_where heads name s sensor i (Some u) a = alike_object heads name u s sensor i a

alike_object_outside : {k j : Known} {p q : Passed PlainType} (heads : Heads) (name : Identifier At) (s : Storage) (sensor : Bool) (i : Option (Initializer At)) → AlikeKnown k j → AlikePassed PlainType p q →
    AlikeKnown (object_outside every heads name s sensor i k p) (object_outside only_first heads name s sensor i j q)
alike_object_outside {k = k} {j = j} heads name s sensor i a b =
    followed AlikeKnown (λ o z. object_outside every heads name s sensor i k (record { made = o; after = z })) (λ o z. object_outside only_first heads name s sensor i j (record { made = o; after = z })) b
    (λ o. alike_object_where heads name s sensor i o (known_at a b.after))

-- ## Declarations

alike_prototype : {k j : Known} (heads : Heads) (name : Identifier At) (u : LinkedType) (s : Storage) (i : Option (Initializer At)) → AlikeKnown k j →
    AlikeKnown (prototype_declared every heads name u s i k) (prototype_declared only_first heads name u s i j)
alike_prototype heads name u s i a =
    let m = alike_link_of heads name u s false false a in
    known_at m (alike_no_initializer i m.standing)

-- an object by what its declarator declares, and the declaration of its name before
alike_object_with : {k j : Known} (heads : Heads) (s : Storage) (sensor : Bool) (name : Identifier At) (d : InitDeclarator At) (u : DeclaredType) → AlikeKnown k j →
    AlikeKnown (object_by_type every heads s sensor name d k (Some u)) (object_by_type only_first heads s sensor name d j (Some u))
alike_object_with {k = k} {j = j} heads s sensor name d u a =
    for_known (λ j. AlikeKnown (object_by_type every heads s sensor name d k (Some u)) (object_by_type only_first heads s sensor name d j (Some u))) k j
    (λ ps h. alike_object_outside heads name s sensor d.initial (known_with k (with_kept k.standing ps h))
    (alike_outer_type name (brackets_of d.declarator) s d.initial (before_in k name) u (with_kept k.standing ps h))) a

alike_object_by_type : {k j : Known} (heads : Heads) (s : Storage) (sensor : Bool) (name : Identifier At) (d : InitDeclarator At) (o : Option DeclaredType) → AlikeKnown k j →
    AlikeKnown (object_by_type every heads s sensor name d k o) (object_by_type only_first heads s sensor name d j o)
alike_object_by_type heads s sensor name d None a = alike_link_of heads name unknown_object s (is_written d.initial) sensor a
alike_object_by_type heads s sensor name d (Some u) a = alike_object_with heads s sensor name d u a

alike_object_by_form : {k j : Known} (heads : Heads) (s : Storage) (sensor : Bool) (name : Identifier At) (d : InitDeclarator At) (o : Option DeclaredType) → AlikeKnown k j →
    AlikeKnown (object_by_form every heads s sensor name d k o) (object_by_form only_first heads s sensor name d j o)
alike_object_by_form {k = k} {j = j} heads s sensor name d o a =
    for_known (λ j. AlikeKnown (object_by_form every heads s sensor name d k o) (object_by_form only_first heads s sensor name d j o)) k j
    (λ ps h. alike_object_by_type heads s sensor name d o (known_with k (alike_open_outside name d (before_in k name) o (with_kept k.standing ps h)))) a

alike_by_type : {k j : Known} (heads : Heads) (s : Storage) (sensor : Bool) (name : Identifier At) (d : InitDeclarator At) (o : Option DeclaredType) → AlikeKnown k j →
    AlikeKnown (by_type_outside every heads s sensor name d k o) (by_type_outside only_first heads s sensor name d j o)
alike_by_type heads s sensor name d None a = alike_object_by_form heads s sensor name d None a
alike_by_type heads s sensor name d (Some (of_function f)) a = alike_prototype heads name (function_type f) s d.initial a
alike_by_type heads s sensor name d (Some (of_part_function f)) a = alike_prototype heads name (part_type f) s d.initial a
alike_by_type heads s sensor name d (Some (of_type u)) a = alike_object_by_form heads s sensor name d (Some (of_type u)) a
alike_by_type heads s sensor name d (Some (of_open_array u)) a = alike_object_by_form heads s sensor name d (Some (of_open_array u)) a

alike_typedef_outside : {k j : Known} {p q : Passed DeclaredType} (name : Identifier At) (d : InitDeclarator At) → AlikeKnown k j → AlikePassed DeclaredType p q →
    AlikeKnown (without_linkage name (no_initializer every d.initial (typedef_passed every name d.declarator p.made p.after)) k) (without_linkage name (no_initializer only_first d.initial (typedef_passed only_first name d.declarator q.made q.after)) j)
alike_typedef_outside name d a b =
    alike_unlinked name a (alike_no_initializer d.initial
    (followed Alike (λ o s. typedef_passed every name d.declarator o s) (λ o s. typedef_passed only_first name d.declarator o s) b (λ o. alike_typedef name d.declarator o b.after)))

alike_outer_named : {k j : Known} (heads : Heads) (s : Storage) (sensor : Bool) (u : Option PlainType) (d : InitDeclarator At) (name : Option (Identifier At)) → AlikeKnown k j →
    AlikeKnown (outer_named every heads s sensor u k d name) (outer_named only_first heads s sensor u j d name)
alike_outer_named heads s sensor u d None a = a
alike_outer_named {k = k} {j = j} heads s sensor u d (Some name) a =
    let p = alike_declarator name.place d.declarator (alike_based u a.standing) in
    known_choice (is_typedef s) (alike_typedef_outside name d a p)
    (followed AlikeKnown (λ o z. by_type_outside every heads s sensor name d (with_standing k z) o) (λ o z. by_type_outside only_first heads s sensor name d (with_standing j z) o) p
    (λ o. alike_by_type heads s sensor name d o (known_at a p.after)))

alike_outer_declarators : {k j : Known} (heads : Heads) (s : Storage) (sensor : Bool) (u : Option PlainType) (all : List (InitDeclarator At)) → AlikeKnown k j →
    AlikeKnown (outer_declarators every heads s sensor u k all) (outer_declarators only_first heads s sensor u j all)
alike_outer_declarators heads s sensor u [] a = a
alike_outer_declarators {k = k} {j = j} heads s sensor u (d ∷ rest) a =
    alike_outer_declarators {k = outer_named every heads s sensor u k d (name_in d.declarator)} {j = outer_named only_first heads s sensor u j d (name_in d.declarator)} heads s sensor u rest
    (alike_outer_named {k = k} {j = j} heads s sensor u d (name_in d.declarator) a)

-- a declaration's specifiers are passed, and constants named `main` noted
pub alike_begun : {k j : Known} {s t : PlainStanding} (names : List (Identifier At)) → AlikeKnown k j → Alike s t →
    AlikeKnown (record k { standing = s; mains = k.mains ++ main_constants names }) (record j { standing = t; mains = j.mains ++ main_constants names })
alike_begun names a b = record {
  standing = b;
  root = a.root;
  linked = a.linked;
  functions = a.functions;
  block_objects = a.block_objects;
  objects = a.objects;
  sightings = a.sightings;
  visible = a.visible;
  mains = ap (λ ms. ms ++ main_constants names) a.mains;
  tentative = a.tentative;
  undefined = a.undefined;
  outside = a.outside;
}

pub alike_declared_outside : {k j : Known} (heads : Heads) (d : Declaration At) → AlikeKnown k j → AlikeKnown (declared_outside every heads k d) (declared_outside only_first heads j d)
unfolding declared_outside
alike_declared_outside {k = k} {j = j} heads d a =
    let u = alike_specified_in true site_is.Outside d a.standing in
    followed AlikeKnown
    (λ o z. outer_declarators every heads (storage_of d.specifiers) (makes_sensors d) o (record k { standing = z; mains = k.mains ++ main_constants (constants_of d.specifiers) }) d.declarators)
    (λ o z. outer_declarators only_first heads (storage_of d.specifiers) (makes_sensors d) o (record j { standing = z; mains = j.mains ++ main_constants (constants_of d.specifiers) }) d.declarators) u
    (λ o. alike_outer_declarators heads (storage_of d.specifiers) (makes_sensors d) o d.declarators (alike_begun (constants_of d.specifiers) a u.after))
