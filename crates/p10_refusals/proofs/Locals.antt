-- What a body has, and declarations in it, where what stands is alike.
use Rattle.std.proofs.Common.{◌≡◌, ℕ, ◌+◌, ◌*◌, nat_le, Bool, true, false, not, ◌&&◌, if◌then◌else◌, List, [], ◌∷◌, ◌++◌, Option, Some, None, refl, ap, subst}
use Rattle.p10_base.specs.declared.at.At.{At}
use Rattle.p10_base.specs.declared.codes.SubsetCode.{SubsetCode}
use Rattle.p10_base.specs.declared.codes.SubsetCode.TheVariants as subset
use Rattle.p10_syn.specs.Trees.{Identifier, Declarator, Specifiers, NoSpecifiers, MoreSpecifiers, Keyword, Initializer, InitDeclarator, Declaration}
use Rattle.p10_core.specs.Types.{PlainType, array}
use Rattle.p10_core.specs.Sizes.{size_of}
use Rattle.p10_core.specs.Rows.{is_complete}
use Rattle.p10_core.specs.Typed.{PlainInitializer, not_initialized}
use Rattle.p10_core.specs.WholePrograms.{most_bytes}
use Rattle.p10_elabx.specs.declared.problem.Problem.{Problem}
use Rattle.p10_elabx.specs.First.{Keep, every, only_first}
use Rattle.p10_elabx.specs.Scopes.{named_type, unknown_name, entered, left, local, object}
use Rattle.p10_elabx.specs.TypeNames.{declarator_place}
use Rattle.p10_elabd.specs.Laws.{AreKept}
use Rattle.p10_elabd.specs.Standing.{PlainStanding, Passed, refusing}
use Rattle.p10_elabd.specs.Words.{storage_of, is_volatile}
use Rattle.p10_elabd.specs.declared.site.Site.{Site}
use Rattle.p10_elabd.specs.declared.site.Storage.{Storage}
use Rattle.p10_elabd.specs.declared.site.Storage.TheVariants as storage_is
use Rattle.p10_elabd.specs.Shapes.{DeclaredType, of_type, of_open_array, of_function, of_part_function, name_in, declares_function, declares_open_array}
use Rattle.p10_elabd.specs.Initializers.{elements_given}
use Rattle.p10_elabd.specs.declared.lifetime.Lifetime.{Lifetime}
use Rattle.p10_elabd.specs.declared.lifetime.Lifetime.TheVariants as life_is
use Rattle.p10_heads.specs.Heads.{number_at}
use Rattle.p10_elabs.specs.Locals.{Frame, Local, Done, with_standing, done_in, refusing_in, opened, closed, volatile_noted, declares_sensors, allowed_by, is_alone, sensors_noted, specified_in, makes_sensors, no_initializer, unknown_in, typedef_of, typedef_passed, counted_array, without_size, awaiting, awaited, measured, filled_array, is_written, open_noted, object_type, brackets_of, initialized_by}
use Rattle.p10_elabs.specs.LocalDeclarations.{Declaring, is_frame_variable, one_more, with_variable, variable_item, variable_of_type, variable_where, variable_passed, with_object, object_item, object_of_type, object_where, object_passed, no_items, declared_object, object_in_block, prototype_passed, by_storage, is_prototype, local_named, local_declarators, declared_locally}
use Rattle.p10_refusals.proofs.Alike.{Alike, AlikePassed, with_kept, followed, alike_passed, alike_nothing, alike_refusing, alike_where_in, alike_scoped}
use Rattle.p10_refusals.proofs.Shaping.{alike_named, alike_declaring}
use Rattle.p10_refusals.proofs.Declaring.{alike_specified, alike_declarator, alike_based}
use Rattle.p10_refusals.proofs.Initializing.{alike_surplus, alike_initialized}

-- ## Specifiers

alike_volatile : {s t : PlainStanding} (may : Bool) (all : Specifiers At) → Alike s t → Alike (volatile_noted every may all s) (volatile_noted only_first may all t)
alike_volatile may NoSpecifiers a = a
alike_volatile {s = s} {t = t} may (MoreSpecifiers (Keyword at word) rest) a =
    alike_volatile {s = refusing every (is_volatile word && not may) subset.BadSpecifier at s} {t = refusing only_first (is_volatile word && not may) subset.BadSpecifier at t} may rest
    (alike_refusing (is_volatile word && not may) subset.BadSpecifier at a)
alike_volatile may (MoreSpecifiers one rest) a = alike_volatile may rest a

alike_sensors : {p q : Passed PlainType} (outside : Bool) (d : Declaration At) → AlikePassed PlainType p q → AlikePassed PlainType (sensors_noted every outside d p) (sensors_noted only_first outside d q)
alike_sensors outside d a = record {
  made = a.made;
  after = followed Alike (λ m s. volatile_noted every (declares_sensors outside m d) d.specifiers s) (λ m s. volatile_noted only_first (declares_sensors outside m d) d.specifiers s) a
      (λ m. alike_volatile (declares_sensors outside m d) d.specifiers a.after);
}

pub alike_specified_in : {s t : PlainStanding} (outside : Bool) (site : Site) (d : Declaration At) → Alike s t → AlikePassed PlainType (specified_in every outside site s d) (specified_in only_first outside site t d)
alike_specified_in outside site d a = alike_sensors outside d (alike_specified site (allowed_by d) (is_alone d) d.specifiers a)

-- ## One declarator

pub alike_no_initializer : {s t : PlainStanding} (i : Option (Initializer At)) → Alike s t → Alike (no_initializer every i s) (no_initializer only_first i t)
alike_no_initializer None a = a
alike_no_initializer (Some i) a = (alike_surplus i a).after

pub alike_unknown : {s t : PlainStanding} (name : Identifier At) → Alike s t → Alike (unknown_in every name s) (unknown_in only_first name t)
alike_unknown name a = alike_declaring name unknown_name a

alike_typedef_of : {s t : PlainStanding} (name : Identifier At) (o : Option DeclaredType) → Alike s t → Alike (typedef_of every name o s) (typedef_of only_first name o t)
alike_typedef_of name None a = alike_unknown name a
alike_typedef_of name (Some (of_type u)) a = alike_declaring name (named_type u) a
alike_typedef_of name (Some (of_open_array u)) a = alike_unknown name a
alike_typedef_of name (Some (of_function f)) a = alike_unknown name a
alike_typedef_of name (Some (of_part_function f)) a = alike_unknown name a

pub alike_typedef : {s t : PlainStanding} (name : Identifier At) (d : Declarator At) (o : Option DeclaredType) → Alike s t → Alike (typedef_passed every name d o s) (typedef_passed only_first name d o t)
alike_typedef name d o a =
    alike_typedef_of name o (alike_refusing (declares_open_array d) subset.IncompleteType name.place (alike_refusing (declares_function d) subset.BadSpecifier (declarator_place d) a))

alike_counted : {s t : PlainStanding} (brackets : At) (u : PlainType) (n : ℕ) → Alike s t → AlikePassed PlainType (counted_array every brackets u n s) (counted_array only_first brackets u n t)
alike_counted brackets u n a =
    alike_where_in (λ x. nat_le (n * size_of x.structures u) most_bytes) a (alike_passed (array false u n) a) (alike_nothing (alike_refusing true subset.BadLength brackets a))

alike_awaiting : {s t : PlainStanding} (name : Identifier At) (u : PlainType) → Alike s t → Alike (awaiting name u s) (awaiting name u t)
alike_awaiting name u a = alike_named name.name (local 0 (without_size u) false) (alike_scoped (λ x. entered x) a)

alike_awaited : {s t : PlainStanding} (name : Identifier At) (u whole : PlainType) (i : Initializer At) → Alike s t → Alike (awaited every name u whole i s) (awaited only_first name u whole i t)
alike_awaited name u whole i a = alike_scoped (λ x. left x) (alike_initialized life_is.Automatic whole i (alike_awaiting name u a)).after

alike_measured : {s t : PlainStanding} (name : Identifier At) (u : PlainType) (i : Initializer At) (o : Option PlainType) → Alike s t →
    AlikePassed PlainType (measured every name u i o s) (measured only_first name u i o t)
alike_measured name u i None a = alike_nothing a
alike_measured name u i (Some whole) a = alike_passed whole (alike_awaited name u whole i a)

pub alike_filled : {s t : PlainStanding} (name : Identifier At) (brackets : At) (u : PlainType) (i : Initializer At) (o : Option ℕ) → Alike s t →
    AlikePassed PlainType (filled_array every name brackets u i o s) (filled_array only_first name brackets u i o t)
alike_filled name brackets u i None a = alike_nothing (alike_surplus i a).after
alike_filled name brackets u i (Some n) a =
    let p = alike_counted brackets u n a in
    followed (AlikePassed PlainType) (measured every name u i) (measured only_first name u i) p (λ o. alike_measured name u i o p.after)

pub alike_open_noted : {s t : PlainStanding} (name_at : At) (d : Declarator At) (i : Option (Initializer At)) → Alike s t → Alike (open_noted every name_at d i s) (open_noted only_first name_at d i t)
alike_open_noted name_at d i a = alike_refusing (declares_open_array d && not (is_written i)) subset.IncompleteType name_at a

alike_object_type : {s t : PlainStanding} (name : Identifier At) (brackets : At) (d : DeclaredType) (i : Option (Initializer At)) → Alike s t →
    AlikePassed PlainType (object_type every name brackets d i s) (object_type only_first name brackets d i t)
alike_object_type name brackets (of_type u) i a =
    alike_where_in (λ x. is_complete x.structures u) a (alike_passed u a) (alike_nothing (alike_refusing true subset.IncompleteType name.place a))
alike_object_type name brackets (of_open_array u) None a = alike_nothing a
alike_object_type name brackets (of_open_array u) (Some i) a = alike_filled name brackets u i (elements_given u i) a
alike_object_type name brackets (of_function f) i a = alike_nothing a
alike_object_type name brackets (of_part_function f) i a = alike_nothing a

pub alike_initialized_by : {s t : PlainStanding} (life : Lifetime) (u : PlainType) (i : Option (Initializer At)) → Alike s t →
    AlikePassed PlainInitializer (initialized_by every life u i s) (initialized_by only_first life u i t)
alike_initialized_by life u None a = alike_passed not_initialized a
alike_initialized_by life u (Some i) a = alike_initialized life u i a

-- ## What a body has

-- a body has the same, and what stands is alike
pub record AlikeLocal (l m : Local) : Type 0 where
  pub standing : Alike l.standing m.standing
  pub count : l.count ≡ m.count
  pub variables : l.variables ≡ m.variables
  pub objects : l.objects ≡ m.objects
  pub loops : l.loops ≡ m.loops

pub record AlikeDone (A : Type 0) (d e : Done A) : Type 0 where
  pub made : d.made ≡ e.made
  pub after : AlikeLocal d.after e.after

pub record AlikeDeclaring (d e : Declaring) : Type 0 where
  pub items : d.items ≡ e.items
  pub after : AlikeLocal d.after e.after

-- what holds where the problems differ alone holds of all that is alike
pub for_local : (P : Local → Type 0) (l m : Local) → ((ps : List Problem) → AreKept l.standing.problems ps → P (record l { standing = record l.standing { problems = ps } })) → AlikeLocal l m → P m
for_local P l m go a =
    let e : record l { standing = record l.standing { problems = m.standing.problems } } ≡ m = λ i. record {
      standing = record { scope = a.standing.scope i; open_structures = a.standing.open_structures i; problems = m.standing.problems };
      count = a.count i;
      variables = a.variables i;
      objects = a.objects i;
      loops = a.loops i;
    } in
    subst P e (go m.standing.problems a.standing.problems)

-- what follows on something that is made
pub done_followed : {A C : Type 0} (R : C → C → Type 0) {d e : Done A} (f g : Option A → Local → C) → AlikeDone A d e → ((m : Option A) → R (f m d.after) (g m e.after)) →
    R (f d.made d.after) (g e.made e.after)
done_followed R {d = d} {e = e} f g a go = subst (λ m. R (f d.made d.after) (g m e.after)) a.made (go d.made)

pub local_with : {l m : Local} {s t : PlainStanding} → AlikeLocal l m → Alike s t → AlikeLocal (with_standing l s) (with_standing m t)
local_with a b = record { standing = b; count = a.count; variables = a.variables; objects = a.objects; loops = a.loops }

pub local_kept : (l : Local) (ps : List Problem) → AreKept l.standing.problems ps → AlikeLocal l (record l { standing = record l.standing { problems = ps } })
local_kept l ps k = record { standing = with_kept l.standing ps k; count = refl; variables = refl; objects = refl; loops = refl }

pub alike_done_in : {A : Type 0} {l m : Local} {p q : Passed A} → AlikeLocal l m → AlikePassed A p q → AlikeDone A (done_in l p) (done_in m q)
alike_done_in a b = record { made = b.made; after = local_with a b.after }

pub alike_refusing_in : {l m : Local} (b : Bool) (code : SubsetCode) (at : At) → AlikeLocal l m → AlikeLocal (refusing_in every b code at l) (refusing_in only_first b code at m)
alike_refusing_in b code at a = local_with a (alike_refusing b code at a.standing)

pub alike_opened : {l m : Local} → AlikeLocal l m → AlikeLocal (opened l) (opened m)
alike_opened a = local_with a (alike_scoped (λ x. entered x) a.standing)

pub alike_closed : {l m : Local} → AlikeLocal l m → AlikeLocal (closed l) (closed m)
alike_closed a = local_with a (alike_scoped (λ x. left x) a.standing)

-- ## Automatic variables

alike_one_more : {l m : Local} → AlikeLocal l m → AlikeLocal (one_more l) (one_more m)
alike_one_more a = record { standing = a.standing; count = ap (λ n. n + 1) a.count; variables = a.variables; objects = a.objects; loops = a.loops }

alike_with_variable : (f : Frame) (name : Identifier At) (u : PlainType) (l : Local) (ps : List Problem) → AreKept l.standing.problems ps →
    AlikeLocal (with_variable every f name u l) (with_variable only_first f name u (record l { standing = record l.standing { problems = ps } }))
alike_with_variable f name u l ps k = record {
  standing = alike_declaring name (local l.count u (is_frame_variable f l.count u)) (with_kept l.standing ps k);
  count = refl;
  variables = refl;
  objects = refl;
  loops = refl;
}

alike_variable_kept : (f : Frame) (at : At) (name : Identifier At) (u : PlainType) (i : Option (Initializer At)) (l : Local) (ps : List Problem) → AreKept l.standing.problems ps →
    AlikeDeclaring (variable_of_type every f at name u i l) (variable_of_type only_first f at name u i (record l { standing = record l.standing { problems = ps } }))
alike_variable_kept f at name u i l ps k =
    let v = alike_with_variable f name u l ps k in
    let p = alike_initialized_by life_is.Automatic u i v.standing in
    record { items = ap (λ m. variable_item at l.count m ∷ []) p.made; after = local_with v p.after }

alike_variable : {l m : Local} (f : Frame) (at : At) (name : Identifier At) (u : PlainType) (i : Option (Initializer At)) → AlikeLocal l m →
    AlikeDeclaring (variable_of_type every f at name u i l) (variable_of_type only_first f at name u i m)
alike_variable {l = l} {m = m} f at name u i a =
    for_local (λ m. AlikeDeclaring (variable_of_type every f at name u i l) (variable_of_type only_first f at name u i m)) l m (λ ps k. alike_variable_kept f at name u i l ps k) a

alike_variable_where : {l m : Local} (f : Frame) (at : At) (name : Identifier At) (i : Option (Initializer At)) (u : Option PlainType) → AlikeLocal l m →
    AlikeDeclaring (variable_where every f at name i u l) (variable_where only_first f at name i u m)
alike_variable_where f at name i None a = record { items = refl; after = local_with (alike_one_more a) (alike_unknown name a.standing) }
alike_variable_where f at name i (Some u) a = alike_variable f at name u i a

alike_variable_passed : {l m : Local} {p q : Passed PlainType} (f : Frame) (at : At) (name : Identifier At) (i : Option (Initializer At)) → AlikeLocal l m → AlikePassed PlainType p q →
    AlikeDeclaring (variable_passed every f at name i l p) (variable_passed only_first f at name i m q)
alike_variable_passed {l = l} {m = m} f at name i a b =
    followed AlikeDeclaring (λ u s. variable_where every f at name i u (with_standing l s)) (λ u s. variable_where only_first f at name i u (with_standing m s)) b
    (λ u. alike_variable_where f at name i u (local_with a b.after))

-- ## Objects of static lifetime

alike_with_object : (f : Frame) (n : ℕ) (name : Identifier At) (u : PlainType) (sensor : Bool) (i : Option PlainInitializer) (l : Local) (ps : List Problem) → AreKept l.standing.problems ps →
    AlikeLocal (with_object f n name u sensor i l) (with_object f n name u sensor i (record l { standing = record l.standing { problems = ps } }))
alike_with_object f n name u sensor None l ps k = local_kept l ps k
alike_with_object f n name u sensor (Some i) l ps k = record { standing = with_kept l.standing ps k; count = refl; variables = refl; objects = refl; loops = refl }

alike_with_object_in : {l m : Local} (f : Frame) (n : ℕ) (name : Identifier At) (u : PlainType) (sensor : Bool) (i : Option PlainInitializer) → AlikeLocal l m →
    AlikeLocal (with_object f n name u sensor i l) (with_object f n name u sensor i m)
alike_with_object_in {l = l} {m = m} f n name u sensor i a =
    for_local (λ m. AlikeLocal (with_object f n name u sensor i l) (with_object f n name u sensor i m)) l m (λ ps k. alike_with_object f n name u sensor i l ps k) a

alike_object : {l m : Local} (f : Frame) (at : At) (name : Identifier At) (u : PlainType) (sensor : Bool) (i : Option (Initializer At)) → AlikeLocal l m →
    AlikeDeclaring (object_of_type every f at name u sensor i l) (object_of_type only_first f at name u sensor i m)
alike_object {l = l} {m = m} f at name u sensor i a =
    let n : ℕ = number_at f.heads.objects name.place in
    let v = local_with a (alike_declaring name (object n u sensor) a.standing) in
    let p = alike_initialized_by life_is.Static u i v.standing in
    record {
      items = ap (λ m. object_item at n m ∷ []) p.made;
      after = followed AlikeLocal (λ o s. with_object f n name u sensor o (with_standing l s)) (λ o s. with_object f n name u sensor o (with_standing m s)) p
          (λ o. alike_with_object_in f n name u sensor o (local_with a p.after));
    }

alike_object_where : {l m : Local} (f : Frame) (at : At) (name : Identifier At) (sensor : Bool) (i : Option (Initializer At)) (u : Option PlainType) → AlikeLocal l m →
    AlikeDeclaring (object_where every f at name sensor i u l) (object_where only_first f at name sensor i u m)
alike_object_where f at name sensor i None a = record { items = refl; after = local_with a (alike_unknown name a.standing) }
alike_object_where f at name sensor i (Some u) a = alike_object f at name u sensor i a

alike_object_passed : {l m : Local} {p q : Passed PlainType} (f : Frame) (at : At) (name : Identifier At) (sensor : Bool) (i : Option (Initializer At)) → AlikeLocal l m → AlikePassed PlainType p q →
    AlikeDeclaring (object_passed every f at name sensor i l p) (object_passed only_first f at name sensor i m q)
alike_object_passed {l = l} {m = m} f at name sensor i a b =
    followed AlikeDeclaring (λ u s. object_where every f at name sensor i u (with_standing l s)) (λ u s. object_where only_first f at name sensor i u (with_standing m s)) b
    (λ u. alike_object_where f at name sensor i u (local_with a b.after))

-- ## Declarators

alike_no_items : {l m : Local} → AlikeLocal l m → AlikeDeclaring (no_items l) (no_items m)
alike_no_items a = record { items = refl; after = a }

alike_declared_object : {s t : PlainStanding} (name : Identifier At) (brackets : At) (o : Option DeclaredType) (i : Option (Initializer At)) → Alike s t →
    AlikePassed PlainType (declared_object every name brackets o i s) (declared_object only_first name brackets o i t)
alike_declared_object name brackets None i a = record { made = refl; after = a }
alike_declared_object name brackets (Some d) i a = alike_object_type name brackets d i a

alike_in_block : {s t : PlainStanding} (name : Identifier At) (d : InitDeclarator At) (o : Option DeclaredType) → Alike s t →
    AlikePassed PlainType (object_in_block every name d o s) (object_in_block only_first name d o t)
alike_in_block name d o a = alike_declared_object name (brackets_of d.declarator) o d.initial (alike_open_noted name.place d.declarator d.initial a)

alike_prototype : {l m : Local} (name : Identifier At) (d : InitDeclarator At) → AlikeLocal l m → AlikeDeclaring (prototype_passed every name d l) (prototype_passed only_first name d m)
alike_prototype name d a =
    alike_no_items (local_with a (alike_no_initializer d.initial (alike_unknown name (alike_refusing true subset.BadSpecifier (declarator_place d.declarator) a.standing))))

alike_by_storage : {l m : Local} (f : Frame) (at : At) (s : Storage) (sensor : Bool) (name : Identifier At) (d : InitDeclarator At) (o : Option DeclaredType) → AlikeLocal l m →
    AlikeDeclaring (by_storage every f at s sensor name d l o) (by_storage only_first f at s sensor name d m o)
alike_by_storage f at storage_is.Typedef sensor name d o a = alike_no_items (local_with a (alike_no_initializer d.initial (alike_typedef name d.declarator o a.standing)))
alike_by_storage f at storage_is.Static sensor name d o a =
    alike_object_passed f at name sensor d.initial a (alike_in_block name d o a.standing)
alike_by_storage f at storage_is.Unnamed sensor name d o a =
    alike_variable_passed f at name d.initial a (alike_in_block name d o a.standing)
alike_by_storage f at storage_is.Extern sensor name d o a = alike_no_items (local_with a (alike_unknown name a.standing))

alike_choice : {d e x y : Declaring} (b : Bool) → AlikeDeclaring d x → AlikeDeclaring e y → AlikeDeclaring (if b then d else e) (if b then x else y)
alike_choice true a b = a
alike_choice false a b = b

alike_local_named : {l m : Local} (f : Frame) (at : At) (s : Storage) (sensor : Bool) (u : Option PlainType) (d : InitDeclarator At) (name : Option (Identifier At)) → AlikeLocal l m →
    AlikeDeclaring (local_named every f at s sensor u l d name) (local_named only_first f at s sensor u m d name)
alike_local_named f at s sensor u d None a = alike_no_items a
alike_local_named {l = l} {m = m} f at s sensor u d (Some name) a =
    let j = alike_declarator name.place d.declarator (alike_based u a.standing) in
    alike_choice (is_prototype s d.declarator) (alike_prototype name d (local_with a j.after))
    (followed AlikeDeclaring (λ o z. by_storage every f at s sensor name d (with_standing l z) o) (λ o z. by_storage only_first f at s sensor name d (with_standing m z) o) j
    (λ o. alike_by_storage f at s sensor name d o (local_with a j.after)))

-- one declarator after others
abbrev with_declarator : Keep → Frame → At → Storage → Bool → Option PlainType → Declaring → InitDeclarator At → Declaring
with_declarator h f at s sensor u p d = record {
  items = p.items ++ (local_named h f at s sensor u p.after d (name_in d.declarator)).items;
  after = (local_named h f at s sensor u p.after d (name_in d.declarator)).after;
}

alike_with_declarator : {p q : Declaring} (f : Frame) (at : At) (s : Storage) (sensor : Bool) (u : Option PlainType) (d : InitDeclarator At) → AlikeDeclaring p q →
    AlikeDeclaring (with_declarator every f at s sensor u p d) (with_declarator only_first f at s sensor u q d)
alike_with_declarator {p = p} {q = q} f at s sensor u d a =
    let b : AlikeDeclaring (local_named every f at s sensor u p.after d (name_in d.declarator)) (local_named only_first f at s sensor u q.after d (name_in d.declarator)) =
    alike_local_named f at s sensor u d (name_in d.declarator) a.after in
    record { items = λ i. a.items i ++ b.items i; after = b.after }

alike_declarators : {p q : Declaring} (f : Frame) (at : At) (s : Storage) (sensor : Bool) (u : Option PlainType) (all : List (InitDeclarator At)) → AlikeDeclaring p q →
    AlikeDeclaring (local_declarators every f at s sensor u p all) (local_declarators only_first f at s sensor u q all)
alike_declarators f at s sensor u [] a = a
alike_declarators {p = p} {q = q} f at s sensor u (d ∷ rest) a =
    alike_declarators {p = with_declarator every f at s sensor u p d} {q = with_declarator only_first f at s sensor u q d} f at s sensor u rest (alike_with_declarator {p = p} {q = q} f at s sensor u d a)

pub alike_declared : {l m : Local} (f : Frame) (site : Site) (d : Declaration At) → AlikeLocal l m → AlikeDeclaring (declared_locally every f site l d) (declared_locally only_first f site m d)
unfolding declared_locally
alike_declared {l = l} {m = m} f site d a =
    let t = alike_specified_in false site d a.standing in
    followed AlikeDeclaring
    (λ u z. local_declarators every f d.place (storage_of d.specifiers) (makes_sensors d) u (no_items (with_standing l z)) d.declarators)
    (λ u z. local_declarators only_first f d.place (storage_of d.specifiers) (makes_sensors d) u (no_items (with_standing m z)) d.declarators) t
    (λ u. alike_declarators f d.place (storage_of d.specifiers) (makes_sensors d) u d.declarators (alike_no_items (local_with a t.after)))
