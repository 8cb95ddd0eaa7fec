-- Variables and objects that blocks declare, from what is known of each part.
use Rattle.std.specs.Prelude.{◌≡◌, ℕ, Bool, true, false, if◌then◌else◌, List, [], ◌∷◌, Option, Some, None, option_map}
use Rattle.std.proofs.Common.{◌∙◌, ap, sym}
use Rattle.p10_base.specs.declared.at.At.{At}
use Rattle.p10_syn.specs.Trees.{Identifier, Initializer, InitDeclarator, Declaration}
use Rattle.p10_core.specs.declared.program.Extent.{Extent}
use Rattle.p10_core.specs.Types.{PlainType}
use Rattle.p10_core.specs.Sizes.{size_of}
use Rattle.p10_core.specs.Typed.{PlainStatement, statement, declare_static, PlainInitializer}
use Rattle.p10_elabx.specs.First.{Keep}
use Rattle.p10_elabx.specs.Scopes.{local, object}
use Rattle.p10_elabd.specs.Standing.{PlainStanding, Passed}
use Rattle.p10_elabd.specs.declared.site.Site.{Site}
use Rattle.p10_elabd.specs.declared.site.Storage.{Storage}
use Rattle.p10_elabd.specs.declared.site.Storage.TheVariants as storage_is
use Rattle.p10_elabd.specs.declared.site.Allowed.{Allowed}
use Rattle.p10_elabd.specs.declared.lifetime.Lifetime.TheVariants as life_is
use Rattle.p10_elabd.specs.Blocks.{declaring}
use Rattle.p10_elabd.specs.Shapes.{DeclaredType, of_type}
use Rattle.p10_elabd.specs.Declaring.{specified, declarator_passed}
use Rattle.p10_heads.specs.Heads.{number_at}
use Rattle.p10_elabs.specs.Locals.{Frame, Local, with_standing, is_alone, allowed_by, declares_sensors, volatile_noted, specified_in, unknown_in, initialized_by}
use Rattle.p10_elabs.specs.LocalDeclarations.{Declaring, no_items, is_frame_variable, one_more, with_listed, with_variable, variable_item, variable_of_type, refused_variable, variable_where, with_numbered, with_object, object_item, object_of_type, object_where, object_in_block, is_prototype, prototype_passed, by_storage, local_named}

-- ## Specifiers

-- the type that specifiers name, of which the parts are known
pub specifiers_noted : (h : Keep) (outside : Bool) (site : Site) (d : Declaration At) (s after : PlainStanding) (allowed : Allowed) (alone may : Bool) (t : Passed PlainType) →
    allowed ≡ allowed_by d → alone ≡ is_alone d → t ≡ specified h site allowed alone s d.specifiers → may ≡ declares_sensors outside t.made d → after ≡ volatile_noted h may d.specifiers t.after →
    record { made = t.made; after = after } ≡ specified_in h outside site s d
specifiers_noted h outside site d s after allowed alone may t allowed_is alone_is t_is may_is after_is =
    let whole : t ≡ specified h site (allowed_by d) (is_alone d) s d.specifiers = t_is ∙ (λ i. specified h site (allowed_is i) (alone_is i) s d.specifiers) in
    ap (λ x. record { made = t.made; after = x }) (after_is ∙ ap (λ b. volatile_noted h b d.specifiers t.after) may_is)
    ∙ ap (λ (x : Passed PlainType). record { made = x.made; after = volatile_noted h (declares_sensors outside x.made d) d.specifiers x.after }) whole

-- ## Variables

-- a variable is declared, of which the parts are known
pub variable_declared : (h : Keep) (f : Frame) (name : Identifier At) (t kept meant : PlainType) (l a b : Local) (s : PlainStanding) (bytes n : ℕ) (frame : Bool) →
    bytes ≡ size_of l.standing.scope.structures t → n ≡ l.count → a ≡ one_more l → frame ≡ is_frame_variable f n t → kept ≡ t → meant ≡ t →
    b ≡ with_listed (record { name = name.name; type = kept; bytes = bytes; frame = frame; span = name.place.span }) a →
    s ≡ declaring h name (local n meant frame) b.standing → with_standing b s ≡ with_variable h f name t l
variable_declared h f name t kept meant l a b s bytes n frame bytes_is n_is a_is frame_is kept_is meant_is b_is s_is =
    let known : frame ≡ is_frame_variable f l.count t = frame_is ∙ ap (λ k. is_frame_variable f k t) n_is in
    let put : b ≡ with_listed (record { name = name.name; type = t; bytes = size_of l.standing.scope.structures t; frame = is_frame_variable f l.count t; span = name.place.span }) (one_more l) =
    b_is ∙ (λ i. with_listed (record { name = name.name; type = kept_is i; bytes = bytes_is i; frame = known i; span = name.place.span }) (a_is i)) in
    let named : s ≡ declaring h name (local l.count t (is_frame_variable f l.count t)) l.standing =
    s_is ∙ (λ i. declaring h name (local (n_is i) (meant_is i) (known i)) (put i).standing) in
    λ i. with_standing (put i) (named i)

-- a variable with its initialiser
pub variable_initialized : (h : Keep) (f : Frame) (at : At) (name : Identifier At) (t : PlainType) (i : Option (Initializer At)) (l m : Local) (n : ℕ) (p : Passed PlainInitializer) (made : Option PlainStatement) →
    n ≡ l.count → m ≡ with_variable h f name t l → p ≡ initialized_by h life_is.Automatic t i m.standing → made ≡ variable_item at n p.made →
    record { items = made ∷ []; after = with_standing m p.after } ≡ variable_of_type h f at name t i l
variable_initialized h f at name t i l m n p made n_is m_is p_is made_is =
    let full : p ≡ initialized_by h life_is.Automatic t i (with_variable h f name t l).standing = p_is ∙ ap (λ (x : Local). initialized_by h life_is.Automatic t i x.standing) m_is in
    ap (λ x. record { items = x ∷ []; after = with_standing m p.after }) made_is
    ∙ (λ k. record { items = variable_item at (n_is k) (full k).made ∷ []; after = with_standing (m_is k) (full k).after })

-- a variable whose type is refused
pub variable_refused : (h : Keep) (name : Identifier At) (l a : Local) (s : PlainStanding) → a ≡ one_more l → s ≡ unknown_in h name a.standing →
    record { items = None ∷ []; after = with_standing a s } ≡ refused_variable h name l
variable_refused h name l a s a_is s_is =
    let named : s ≡ unknown_in h name l.standing = s_is ∙ ap (λ (x : Local). unknown_in h name x.standing) a_is in
    λ i. record { items = None ∷ []; after = with_standing (a_is i) (named i) }

-- ## Objects

-- what an object becomes once its initialiser is known
abbrev object_ended : Frame → At → Identifier At → PlainType → Bool → Local → ℕ → Passed PlainInitializer → Declaring
object_ended f at name t sensor l n p = record { items = object_item at n p.made ∷ []; after = with_object f n name t sensor p.made (with_standing l p.after) }

object_begun : (h : Keep) (f : Frame) (at : At) (name : Identifier At) (t meant : PlainType) (sensor : Bool) (i : Option (Initializer At)) (l : Local) (n : ℕ) (s : PlainStanding) (p : Passed PlainInitializer) →
    n ≡ number_at f.heads.objects name.place → meant ≡ t → s ≡ declaring h name (object n meant sensor) l.standing → p ≡ initialized_by h life_is.Static t i s →
    object_ended f at name t sensor l n p ≡ object_of_type h f at name t sensor i l
object_begun h f at name t meant sensor i l n s p n_is meant_is s_is p_is =
    let named : s ≡ declaring h name (object (number_at f.heads.objects name.place) t sensor) l.standing =
    s_is ∙ (λ k. declaring h name (object (n_is k) (meant_is k) sensor) l.standing) in
    let full : p ≡ initialized_by h life_is.Static t i (declaring h name (object (number_at f.heads.objects name.place) t sensor) l.standing) =
    p_is ∙ ap (initialized_by h life_is.Static t i) named in
    λ k. object_ended f at name t sensor l (n_is k) (full k)

-- an object whose initialiser is refused
pub object_lacks : (h : Keep) (f : Frame) (at : At) (name : Identifier At) (t meant : PlainType) (sensor : Bool) (i : Option (Initializer At)) (l : Local) (n : ℕ) (s : PlainStanding) (p : Passed PlainInitializer) →
    n ≡ number_at f.heads.objects name.place → meant ≡ t → s ≡ declaring h name (object n meant sensor) l.standing → p ≡ initialized_by h life_is.Static t i s →
    p.made ≡ None → record { items = None ∷ []; after = with_standing l p.after } ≡ object_of_type h f at name t sensor i l
object_lacks h f at name t meant sensor i l n s p n_is meant_is s_is p_is none =
    sym (ap (λ m. object_ended f at name t sensor l n (record { made = m; after = p.after })) none)
    ∙ object_begun h f at name t meant sensor i l n s p n_is meant_is s_is p_is

-- an object with its initialiser
pub object_made : (h : Keep) (f : Frame) (at : At) (name : Identifier At) (t meant : PlainType) (sensor : Bool) (i : Option (Initializer At)) (l m : Local) (n bytes : ℕ) (s : PlainStanding) (p : Passed PlainInitializer)
    (initial : PlainInitializer) (visible : List Extent) (made : PlainStatement) →
    n ≡ number_at f.heads.objects name.place → meant ≡ t → s ≡ declaring h name (object n meant sensor) l.standing → p ≡ initialized_by h life_is.Static t i s →
    p.made ≡ Some initial → bytes ≡ size_of p.after.scope.structures t → visible ≡ [] →
    m ≡ with_numbered n (record { name = name.name; type = t; bytes = bytes; span = name.place.span; initializer = initial; owner = Some f.number; sensor = sensor; visible = visible }) (with_standing l p.after) →
    made ≡ statement at (declare_static n) → record { items = Some made ∷ []; after = m } ≡ object_of_type h f at name t sensor i l
object_made h f at name t meant sensor i l m n bytes s p initial visible made n_is meant_is s_is p_is some bytes_is visible_is m_is made_is =
    let put : m ≡ with_object f n name t sensor (Some initial) (with_standing l p.after) =
    m_is ∙ (λ k. with_numbered n (record { name = name.name; type = t; bytes = bytes_is k; span = name.place.span; initializer = initial; owner = Some f.number; sensor = sensor; visible = visible_is k }) (with_standing l p.after)) in
    (λ k. record { items = Some (made_is k) ∷ []; after = put k })
    ∙ sym (ap (λ x. object_ended f at name t sensor l n (record { made = x; after = p.after })) some)
    ∙ object_begun h f at name t meant sensor i l n s p n_is meant_is s_is p_is

-- ## Declarators

-- a static object
pub static_done : (h : Keep) (f : Frame) (at : At) (s : Storage) (sensor : Bool) (name : Identifier At) (d : InitDeclarator At) (l : Local) (j : Option DeclaredType) (t : Passed PlainType) (q : Declaring) →
    s ≡ storage_is.Static → t ≡ object_in_block h name d j l.standing →
    q ≡ object_where h f at name sensor d.initial t.made (with_standing l t.after) → q ≡ by_storage h f at s sensor name d l j
static_done h f at s sensor name d l j t q s_is t_is is =
    is
    ∙ ap (λ (x : Passed PlainType). object_where h f at name sensor d.initial x.made (with_standing l x.after)) t_is
    ∙ ap (λ x. by_storage h f at x sensor name d l j) (sym s_is)

-- a variable
pub automatic_done : (h : Keep) (f : Frame) (at : At) (s : Storage) (sensor : Bool) (name : Identifier At) (d : InitDeclarator At) (l : Local) (j : Option DeclaredType) (t : Passed PlainType) (q : Declaring) →
    s ≡ storage_is.Unnamed → t ≡ object_in_block h name d j l.standing →
    q ≡ variable_where h f at name d.initial t.made (with_standing l t.after) → q ≡ by_storage h f at s sensor name d l j
automatic_done h f at s sensor name d l j t q s_is t_is is =
    is
    ∙ ap (λ (x : Passed PlainType). variable_where h f at name d.initial x.made (with_standing l x.after)) t_is
    ∙ ap (λ x. by_storage h f at x sensor name d l j) (sym s_is)

-- a prototype
pub named_prototype : (h : Keep) (f : Frame) (at : At) (s : Storage) (sensor : Bool) (t : Option PlainType) (l : Local) (d : InitDeclarator At) (name : Identifier At) (given : Option DeclaredType) (j : Passed DeclaredType) (b : Bool) (q : Declaring) →
    given ≡ option_map of_type t → j ≡ declarator_passed h name.place (record { made = given; after = l.standing }) d.declarator → b ≡ is_prototype s d.declarator → b ≡ true →
    q ≡ prototype_passed h name d (with_standing l j.after) → q ≡ local_named h f at s sensor t l d (Some name)
named_prototype h f at s sensor t l d name given j b q given_is j_is b_is so is =
    let full : j ≡ declarator_passed h name.place (record { made = option_map of_type t; after = l.standing }) d.declarator =
    j_is ∙ ap (λ x. declarator_passed h name.place (record { made = x; after = l.standing }) d.declarator) given_is in
    is
    ∙ sym (ap (λ x. if x then prototype_passed h name d (with_standing l j.after) else by_storage h f at s sensor name d (with_standing l j.after) j.made) so)
    ∙ (λ k. if b_is k then prototype_passed h name d (with_standing l (full k).after) else by_storage h f at s sensor name d (with_standing l (full k).after) (full k).made)

-- another declarator
pub named_other : (h : Keep) (f : Frame) (at : At) (s : Storage) (sensor : Bool) (t : Option PlainType) (l : Local) (d : InitDeclarator At) (name : Identifier At) (given : Option DeclaredType) (j : Passed DeclaredType) (b : Bool) (q : Declaring) →
    given ≡ option_map of_type t → j ≡ declarator_passed h name.place (record { made = given; after = l.standing }) d.declarator → b ≡ is_prototype s d.declarator → b ≡ false →
    q ≡ by_storage h f at s sensor name d (with_standing l j.after) j.made → q ≡ local_named h f at s sensor t l d (Some name)
named_other h f at s sensor t l d name given j b q given_is j_is b_is so is =
    let full : j ≡ declarator_passed h name.place (record { made = option_map of_type t; after = l.standing }) d.declarator =
    j_is ∙ ap (λ x. declarator_passed h name.place (record { made = x; after = l.standing }) d.declarator) given_is in
    is
    ∙ sym (ap (λ x. if x then prototype_passed h name d (with_standing l j.after) else by_storage h f at s sensor name d (with_standing l j.after) j.made) so)
    ∙ (λ k. if b_is k then prototype_passed h name d (with_standing l (full k).after) else by_storage h f at s sensor name d (with_standing l (full k).after) (full k).made)

-- a declarator by the name that is known of it
pub by_name : (h : Keep) (f : Frame) (at : At) (s : Storage) (sensor : Bool) (t : Option PlainType) (l : Local) (d : InitDeclarator At) (found name : Option (Identifier At)) (q : Declaring) →
    found ≡ name → q ≡ local_named h f at s sensor t l d found → q ≡ local_named h f at s sensor t l d name
by_name h f at s sensor t l d found name q same is = is ∙ ap (local_named h f at s sensor t l d) same
