-- Declarations and functions outside of functions, by steps.
use Rattle.std.proofs.Common.{Bool, true, false, not, ◌||◌, List, [], ◌∷◌, ◌++◌, Option, Some, None, ℕ}
use Rattle.std.specs.Prelude.{if◌then◌else◌}
use Rattle.p10_base.specs.declared.at.At.{At}
use Rattle.p10_base.specs.declared.codes.SubsetCode.TheVariants as subset
use Rattle.p10_syn.specs.Trees.{Identifier, Initializer, InitDeclarator, Definition}
use Rattle.p10_core.specs.declared.statements.MarkKind.TheVariants.{InitDone, TaskLoop}
use Rattle.p10_core.specs.Types.{PlainType}
use Rattle.p10_core.specs.Typed.{PlainInitializer}
use Rattle.p10_elabx.specs.First.{Keep}
use Rattle.p10_elabx.specs.TypeNames.{declarator_place}
use Rattle.p10_elabd.specs.Standing.{PlainStanding, Passed, refusing}
use Rattle.p10_elabd.specs.declared.site.Storage.{Storage}
use Rattle.p10_elabd.specs.Shapes.{PlainParameter, ListedParameter, DeclaredType, of_type, of_open_array, of_function, of_part_function, has_parameters}
use Rattle.p10_elabd.specs.Initializers.{elements_given}
use Rattle.p10_elabd.specs.declared.lifetime.Lifetime.TheVariants as life_is
use Rattle.p10_heads.specs.Heads.{Heads, number_in}
use Rattle.p10_linkage.specs.Linkage.{LinkedType, an_object, unknown_object, Linked, last_linked, is_refused, a_function}
use Rattle.p10_elabs.specs.Locals.{is_written, open_noted, brackets_of, initialized_by}
use Rattle.p10_elabs.specs.declared.kind.Kind.{Kind}
use Rattle.p10_elabs.specs.declared.kind.Kind.TheVariants as item
use Rattle.p10_elabs.specs.Marks.{no_more, may_precede, marks_noted}
use Rattle.p10_elab.specs.Knowledge.{Tentative, Known, linked_of, linked_meaning, with_linked, with_standing, meaning_by, linked_number}
use Rattle.p10_elab.specs.Outer.{is_site, with_defined, is_extern, with_tentative, object_declared, before_in, composite, gets_length, open_outside, array_outside, outer_type, object_outside, function_type, part_type, prototype_declared, object_by_type, object_by_form, by_type_outside, names_noted, listed_names_noted, is_nameless, bodyless}
use Rattle.p10_elab.specs.RootEnds.{lacks_size_at_end, sizes_noted}
use Rattle.p10_declaration_steps.specs.Steps.{NamesNoType, Steps, same, followed}
use Rattle.p10_declaration_steps.proofs.Steps.{over_refusing, over_named, either_way}
use Rattle.p10_statement_steps.proofs.Typing.{over_no_initializer, over_unknown, over_filled, over_open, over_initialized_by}

either_standing : {h : Keep} (b : Bool) (s t u : PlainStanding) → Steps h s t → Steps h s u → Steps h s (if b then t else u)
either_standing true s t u g k = g
either_standing false s t u g k = k

either_known : {h : Keep} (b : Bool) (s : PlainStanding) (k j : Known) → Steps h s k.standing → Steps h s j.standing → Steps h s (if b then k else j).standing
either_known true s k j g x = g
either_known false s k j g x = x

linked_plain : (t : LinkedType) (n : ℕ) (sensor : Bool) → NamesNoType (meaning_by t n sensor)
linked_plain (a_function ts r) n sensor = tt
linked_plain (an_object t) n sensor = tt
linked_plain t n sensor = tt

pub over_linked : (h : Keep) (heads : Heads) (l : Linked) (k : Known) → Steps h k.standing (with_linked h heads l k).standing
over_linked h heads l k =
    let b : Bool = is_refused k.standing k.linked (last_linked None l.root l.name k.linked) l in
    followed (over_refusing h b subset.DefinedTwice l.at k.standing) (over_named h l.name (linked_meaning heads l) (refusing h b subset.DefinedTwice l.at k.standing) (linked_plain l.type (linked_number heads l) l.sensor))

pub over_open_outside : (h : Keep) (name : Identifier At) (d : InitDeclarator At) (before : Option Linked) (j : Option DeclaredType) (s : PlainStanding) → Steps h s (open_outside h name d before j s)
over_open_outside h name d before j s = either_standing (gets_length before j) s s (open_noted h name.place d.declarator d.initial s) (same s) (over_open h name.place d.declarator d.initial s)

pub over_array_outside : (h : Keep) (name : Identifier At) (brackets : At) (t : PlainType) (i : Option (Initializer At)) (o : Option PlainType) (s : PlainStanding) → Steps h s (array_outside h name brackets t i o s).after
over_array_outside h name brackets t i (Some u) s = same s
over_array_outside h name brackets t None None s = same s
over_array_outside h name brackets t (Some i) None s = over_filled h name brackets t i (elements_given t i) s

pub over_outer_type : (h : Keep) (name : Identifier At) (brackets : At) (s : Storage) (i : Option (Initializer At)) (before : Option Linked) (d : DeclaredType) (standing : PlainStanding)
    → Steps h standing (outer_type h name brackets s i before d standing).after
over_outer_type h name brackets s i before (of_type t) standing = either_way _ standing (record { made = Some t; after = standing }) (record { made = None; after = refusing h true subset.IncompleteType name.place standing }) (same standing) (over_refusing h true subset.IncompleteType name.place standing)
over_outer_type h name brackets s i before (of_open_array t) standing = over_array_outside h name brackets t i (composite t before) standing
over_outer_type h name brackets s i before (of_function f) standing = same standing
over_outer_type h name brackets s i before (of_part_function f) standing = same standing

pub over_tentative : (h : Keep) (name : Identifier At) (t : PlainType) (s : Storage) (i : Option (Initializer At)) (k : Known) → Steps h k.standing (with_tentative name t s i k).standing
over_tentative h name t s i k = either_known (is_written i || is_extern s) k.standing k (record k { tentative = k.tentative ++ record { name = name; type = t } ∷ [] }) (same k.standing) (same k.standing)

pub over_defined : (h : Keep) (heads : Heads) (l : Linked) (name : Identifier At) (t : PlainType) (o : Option PlainInitializer) (k : Known) → Steps h k.standing (with_defined heads l name t o k).standing
over_defined h heads l name t None k = same k.standing
over_defined h heads l name t (Some i) k =
    either_known (is_site heads name) k.standing (record k { objects = k.objects ++ record { number = number_in heads.objects l.root l.internal l.name; name = name; type = t; initializer = i; sensor = l.sensor } ∷ [] }) k (same k.standing) (same k.standing)

pub over_object_declared : (h : Keep) (heads : Heads) (name : Identifier At) (t : PlainType) (s : Storage) (sensor : Bool) (i : Option (Initializer At)) (k : Known) → Steps h k.standing (object_declared h heads name t s sensor i k).standing
over_object_declared h heads name t s sensor i k =
    let l : Linked = linked_of k name (an_object t) s (is_written i) sensor in
    let m : Known = with_tentative name t s i (with_linked h heads l k) in
    let p : Passed PlainInitializer = initialized_by h life_is.Static t i m.standing in
    followed (over_linked h heads l k)
    (followed (over_tentative h name t s i (with_linked h heads l k)) (followed (over_initialized_by h life_is.Static t i m.standing) (over_defined h heads l name t p.made (with_standing m p.after))))

pub over_object_outside : (h : Keep) (heads : Heads) (name : Identifier At) (s : Storage) (sensor : Bool) (i : Option (Initializer At)) (k : Known) (o : Option PlainType) (v : PlainStanding)
    → Steps h v (object_outside h heads name s sensor i k (record { made = o; after = v })).standing
over_object_outside h heads name s sensor i k None v = over_linked h heads (linked_of (with_standing k v) name unknown_object s (is_written i) sensor) (with_standing k v)
over_object_outside h heads name s sensor i k (Some t) v = over_object_declared h heads name t s sensor i (with_standing k v)

-- ## Declarators

pub over_prototype : (h : Keep) (heads : Heads) (name : Identifier At) (t : LinkedType) (s : Storage) (i : Option (Initializer At)) (k : Known) → Steps h k.standing (prototype_declared h heads name t s i k).standing
over_prototype h heads name t s i k =
    let m : Known = with_linked h heads (linked_of k name t s false false) k in
    followed (over_linked h heads (linked_of k name t s false false) k) (over_no_initializer h i m.standing)

pub over_by_type : (h : Keep) (heads : Heads) (s : Storage) (sensor : Bool) (name : Identifier At) (d : InitDeclarator At) (k : Known) (o : Option DeclaredType) → Steps h k.standing (object_by_type h heads s sensor name d k o).standing
over_by_type h heads s sensor name d k None = over_linked h heads (linked_of k name unknown_object s (is_written d.initial) sensor) k
over_by_type h heads s sensor name d k (Some t) =
    let p : Passed PlainType = outer_type h name (brackets_of d.declarator) s d.initial (before_in k name) t k.standing in
    followed (over_outer_type h name (brackets_of d.declarator) s d.initial (before_in k name) t k.standing) (over_object_outside h heads name s sensor d.initial k p.made p.after)

pub over_by_form : (h : Keep) (heads : Heads) (s : Storage) (sensor : Bool) (name : Identifier At) (d : InitDeclarator At) (k : Known) (o : Option DeclaredType) → Steps h k.standing (object_by_form h heads s sensor name d k o).standing
over_by_form h heads s sensor name d k o =
    let v : PlainStanding = open_outside h name d (before_in k name) o k.standing in
    followed (over_open_outside h name d (before_in k name) o k.standing) (over_by_type h heads s sensor name d (with_standing k v) o)

pub over_by_type_outside : (h : Keep) (heads : Heads) (s : Storage) (sensor : Bool) (name : Identifier At) (d : InitDeclarator At) (k : Known) (o : Option DeclaredType) → Steps h k.standing (by_type_outside h heads s sensor name d k o).standing
over_by_type_outside h heads s sensor name d k (Some (of_function f)) = over_prototype h heads name (function_type f) s d.initial k
over_by_type_outside h heads s sensor name d k (Some (of_part_function f)) = over_prototype h heads name (part_type f) s d.initial k
over_by_type_outside h heads s sensor name d k (Some (of_type t)) = over_by_form h heads s sensor name d k (Some (of_type t))
over_by_type_outside h heads s sensor name d k (Some (of_open_array t)) = over_by_form h heads s sensor name d k (Some (of_open_array t))
over_by_type_outside h heads s sensor name d k None = over_by_form h heads s sensor name d k None

-- ## Functions

pub over_names : (h : Keep) (ps : List PlainParameter) (s : PlainStanding) → Steps h s (names_noted h ps s)
over_names h [] s = same s
over_names h (p ∷ rest) s = followed (over_refusing h (is_nameless p.name) subset.NoPrototype p.at s) (over_names h rest (refusing h (is_nameless p.name) subset.NoPrototype p.at s))

pub over_listed : (h : Keep) (ps : List ListedParameter) (s : PlainStanding) → Steps h s (listed_names_noted h ps s)
over_listed h [] s = same s
over_listed h (p ∷ rest) s = followed (over_refusing h (is_nameless p.name) subset.NoPrototype p.at s) (over_listed h rest (refusing h (is_nameless p.name) subset.NoPrototype p.at s))

pub over_marks : (h : Keep) (first init task : Bool) (ks : List Kind) (s : PlainStanding) → Steps h s (marks_noted h first init task ks s)
over_marks h first init task [] s = same s
over_marks h first init task (item.Mark InitDone at ∷ rest) s =
    let b : Bool = first || (no_more rest || (init || task)) in
    followed (over_refusing h b subset.MisplacedPragma at s) (over_marks h false true task rest (refusing h b subset.MisplacedPragma at s))
over_marks h first init task (item.Mark TaskLoop at ∷ rest) s =
    let b : Bool = task || not (may_precede rest) in
    followed (over_refusing h b subset.MisplacedPragma at s) (over_marks h false init true rest (refusing h b subset.MisplacedPragma at s))
over_marks h first init task (item.Task ∷ rest) s = over_marks h false init task rest s
over_marks h first init task (item.Unknown ∷ rest) s = over_marks h false init task rest s
over_marks h first init task (item.Return ∷ rest) s = over_marks h false init task rest s
over_marks h first init task (item.Other ∷ rest) s = over_marks h false init task rest s

pub over_marks_where : (h : Keep) (b : Bool) (ks : List Kind) (s : PlainStanding) → Steps h s (if b then marks_noted h true false false ks s else s)
over_marks_where h b ks s = either_standing b s (marks_noted h true false false ks s) s (over_marks h true false false ks s) (same s)

pub over_sizes : (h : Keep) (ds : List Tentative) (s : PlainStanding) → Steps h s (sizes_noted h ds s)
over_sizes h [] s = same s
over_sizes h (d ∷ rest) s =
    let b : Bool = lacks_size_at_end s.scope d.type in
    followed (over_refusing h b subset.IncompleteType d.name.place s) (over_sizes h rest (refusing h b subset.IncompleteType d.name.place s))

pub over_bodyless : (h : Keep) (d : Definition At) (name : Identifier At) (k : Known) → Steps h k.standing (bodyless h d name k).standing
over_bodyless h d name k =
    let s : PlainStanding = refusing h (not (has_parameters d.declarator)) subset.NoPrototype (declarator_place d.declarator) k.standing in
    followed (over_refusing h (not (has_parameters d.declarator)) subset.NoPrototype (declarator_place d.declarator) k.standing) (over_unknown h name s)
