-- Declarators outside of functions, by what is known on the way.
use Rattle.std.specs.Prelude.{◌≡◌, Bool, true, false, if◌then◌else◌, Option, Some, None}
use Rattle.std.proofs.Common.{ap, sym, ◌∙◌}
use Rattle.p10_base.specs.declared.at.At.{At}
use Rattle.p10_syn.specs.Trees.{Identifier, InitDeclarator}
use Rattle.p10_core.specs.Types.{PlainType}
use Rattle.p10_elabx.specs.First.{only_first}
use Rattle.p10_elabd.specs.Standing.{Passed}
use Rattle.p10_elabd.specs.declared.site.Storage.{Storage}
use Rattle.p10_elabd.specs.Shapes.{DeclaredType}
use Rattle.p10_elabd.specs.Declaring.{declarator_passed, based}
use Rattle.p10_heads.specs.Heads.{Heads}
use Rattle.p10_elabs.specs.Locals.{no_initializer, typedef_passed}
use Rattle.p10_elabs.specs.LocalDeclarations.{is_typedef}
use Rattle.p10_elab.specs.Knowledge.{Known, with_standing, without_linkage}
use Rattle.p10_elab.specs.Outer.{by_type_outside, outer_named}

-- what is known after a declarator with its name, by what it declares
abbrev named_by_type : Heads → Storage → Bool → Known → InitDeclarator At → Identifier At → Passed DeclaredType → Known
named_by_type heads s sensor k d name j =
    if is_typedef s then without_linkage name (no_initializer only_first d.initial (typedef_passed only_first name d.declarator j.made j.after)) k
    else by_type_outside only_first heads s sensor name d (with_standing k j.after) j.made

-- a typedef
pub named_typedef : (heads : Heads) (s : Storage) (sensor : Bool) (t : Option PlainType) (k m : Known) (d : InitDeclarator At) (name : Identifier At) (j : Passed DeclaredType) →
    j ≡ declarator_passed only_first name.place (based t k.standing) d.declarator → is_typedef s ≡ true →
    m ≡ without_linkage name (no_initializer only_first d.initial (typedef_passed only_first name d.declarator j.made j.after)) (with_standing k j.after) →
    m ≡ outer_named only_first heads s sensor t k d (Some name)
named_typedef heads s sensor t k m d name j is typedef m_is =
    m_is
    ∙ sym (ap (λ (b : Bool). if b then without_linkage name (no_initializer only_first d.initial (typedef_passed only_first name d.declarator j.made j.after)) k else by_type_outside only_first heads s sensor name d (with_standing k j.after) j.made) typedef)
    ∙ ap (named_by_type heads s sensor k d name) is

-- a function or an object
pub named_other : (heads : Heads) (s : Storage) (sensor : Bool) (t : Option PlainType) (k m : Known) (d : InitDeclarator At) (name : Identifier At) (j : Passed DeclaredType) →
    j ≡ declarator_passed only_first name.place (based t k.standing) d.declarator → is_typedef s ≡ false →
    m ≡ by_type_outside only_first heads s sensor name d (with_standing k j.after) j.made →
    m ≡ outer_named only_first heads s sensor t k d (Some name)
named_other heads s sensor t k m d name j is other m_is =
    m_is
    ∙ sym (ap (λ (b : Bool). if b then without_linkage name (no_initializer only_first d.initial (typedef_passed only_first name d.declarator j.made j.after)) k else by_type_outside only_first heads s sensor name d (with_standing k j.after) j.made) other)
    ∙ ap (named_by_type heads s sensor k d name) is
