-- Declarators in a block, one after the other, as items of the block.
use Rattle.std.specs.Prelude.{◌≡◌, Bool, false, List, [], ◌∷◌, ◌++◌, Option, refl}
use Rattle.std.proofs.Common.{◌∙◌, ap, sym}
use Rattle.p10_base.specs.declared.at.At.{At}
use Rattle.p10_syn.specs.Trees.{InitDeclarator, Declaration}
use Rattle.p10_core.specs.Types.{PlainType}
use Rattle.p10_core.specs.Typed.{PlainStatement}
use Rattle.p10_elabx.specs.First.{Keep}
use Rattle.p10_elabd.specs.Standing.{Passed}
use Rattle.p10_elabd.specs.declared.site.Site.{Site}
use Rattle.p10_elabd.specs.declared.site.Storage.{Storage}
use Rattle.p10_elabd.specs.Shapes.{name_in}
use Rattle.p10_elabd.specs.Words.{storage_of}
use Rattle.p10_elabs.specs.declared.kind.Kind.TheVariants as item
use Rattle.p10_elabs.specs.Expressions.{statement_added}
use Rattle.p10_elabs.specs.Locals.{Frame, Local, with_standing, specified_in, makes_sensors}
use Rattle.p10_elabs.specs.LocalDeclarations.{Declaring, no_items, local_named, local_declarators, declared_locally}
use Rattle.p10_elabs.specs.Statements.{Block', items_added, with_items, with_declared}
use Rattle.p10_elabs.specs.private.Declarators.{declarators_added}

-- ## Items

-- items after others
added_twice : (made : Option (List PlainStatement)) (xs ys : List (Option PlainStatement)) → items_added made (xs ++ ys) ≡ items_added (items_added made xs) ys
added_twice made [] ys = refl
added_twice made (x ∷ xs) ys = added_twice (statement_added made x) xs ys

joined : (b : Block') (p q : Declaring) → with_items b (record { items = p.items ++ q.items; after = q.after }) ≡ with_items (with_items b p) q
joined b p q = ap (λ m. record b { made = m; after = q.after }) (added_twice b.made p.items q.items)

-- a declaration is one item more
abbrev one_kind : Block' → Block'
one_kind b = record b { kinds = b.kinds ++ item.Other ∷ [] }

-- ## Declarators

-- one declarator is done
pub step_declarators : (h : Keep) (f : Frame) (at : At) (s : Storage) (sensor : Bool) (t : Option PlainType) (b c whole : Block') (q : Declaring) (d : InitDeclarator At) (ds rest : List (InitDeclarator At)) →
    ds ≡ d ∷ rest → q ≡ local_named h f at s sensor t b.after d (name_in d.declarator) → c ≡ with_items b q →
    declarators_added h f at s sensor t b ds ≡ whole → declarators_added h f at s sensor t c rest ≡ whole
step_declarators h f at s sensor t b c whole q d ds rest cut is put holds =
    ap (λ (x : Block'). declarators_added h f at s sensor t x rest) put
    ∙ ap (λ (x : Declaring). declarators_added h f at s sensor t (with_items b x) rest) is
    ∙ sym (ap (declarators_added h f at s sensor t b) cut)
    ∙ holds

-- what declarators become after others are items that are put down at once
all_added : (h : Keep) (f : Frame) (at : At) (s : Storage) (sensor : Bool) (t : Option PlainType) (b : Block') (p : Declaring) (ds : List (InitDeclarator At)) →
    with_items b (local_declarators h f at s sensor t p ds) ≡ declarators_added h f at s sensor t (with_items b p) ds
all_added h f at s sensor t b p [] = refl
all_added h f at s sensor t b p (d ∷ rest) =
    let q : Declaring = local_named h f at s sensor t p.after d (name_in d.declarator) in
    all_added h f at s sensor t b (record { items = p.items ++ q.items; after = q.after }) rest
    ∙ ap (λ (x : Block'). declarators_added h f at s sensor t x rest) (joined b p q)

-- a declaration is done, of which the parts are known
pub declaration_added : (h : Keep) (f : Frame) (site : Site) (d : Declaration At) (b put whole : Block') (at : At) (s : Storage) (sensor : Bool) (t : Passed PlainType) (ds : List (InitDeclarator At)) →
    at ≡ d.place → s ≡ storage_of d.specifiers → sensor ≡ makes_sensors d → ds ≡ d.declarators → t ≡ specified_in h false site b.after.standing d →
    put ≡ declarators_added h f at s sensor t.made (record b { after = with_standing b.after t.after }) ds → whole ≡ one_kind put →
    whole ≡ with_declared b (declared_locally h f site b.after d)
unfolding declared_locally
declaration_added h f site d b put whole at s sensor t ds at_is s_is sensor_is ds_is t_is put_is is =
    let u : Passed PlainType = specified_in h false site b.after.standing d in
    let l : Local = with_standing b.after u.after in
    is
    ∙ ap one_kind (put_is
    ∙ (λ i. declarators_added h f (at_is i) (s_is i) (sensor_is i) (t_is i).made (record b { after = with_standing b.after (t_is i).after }) (ds_is i))
    ∙ sym (all_added h f d.place (storage_of d.specifiers) (makes_sensors d) u.made b (no_items l) d.declarators))
