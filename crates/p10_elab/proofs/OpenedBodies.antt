-- Names and tags where the body of a function begins, one by one.
use Rattle.std.specs.Prelude.{◌≡◌, Bool, true, false, if◌then◌else◌, List, [], ◌∷◌, ◌++◌, length, refl}
use Rattle.std.proofs.Common.{ap, sym, ◌∙◌, append_assoc, append-nil, arith}
use Rattle.p10_base.specs.Words.{Text}
use Rattle.p10_bindings.specs.declared.bound.Bound.{Bound}
use Rattle.p10_bindings.specs.Taken.{names_of}
use Rattle.p10_elabx.specs.declared.named.Named.{Named}
use Rattle.p10_elabx.specs.Scopes.{Meaning, is_tag, PlainScope, Binding, declared}
use Rattle.p10_elabx.specs.Views.{binding_of, bindings_of}
use Rattle.p10_elabs.specs.Locals.{Frame}
use Rattle.p10_elab.specs.private.Opening.{named_in_body, in_body, with_names, with_tags}

-- the names of the code
abbrev pub listed : List (Bound Named) → List Binding
listed bs = bindings_of (names_of bs)

-- one name more
pub name_more : (f : Frame) (s next whole : PlainScope) (b : Bound Named) (ahead after : List (Bound Named)) → next ≡ with_names s (named_in_body f (binding_of (b.name.now, b.what)) ∷ []) → ahead ≡ b ∷ after →
    with_names s (in_body f (listed ahead)) ≡ whole → with_names next (in_body f (listed after)) ≡ whole
name_more f s next whole b ahead after is cut holds =
    ap (λ (t : PlainScope). with_names t (in_body f (listed after))) is
    ∙ ap (λ (bs : List Binding). record s { names = bs }) (append_assoc s.names (named_in_body f (binding_of (b.name.now, b.what)) ∷ []) (in_body f (listed after)))
    ∙ ap (λ bs. with_names s (in_body f (listed bs))) (sym cut)
    ∙ holds

-- one tag more
pub tag_more : (s next whole : PlainScope) (b : Bound Named) (ahead after : List (Bound Named)) → next ≡ with_tags s (binding_of (b.name.now, b.what) ∷ []) → ahead ≡ b ∷ after →
    with_tags s (listed ahead) ≡ whole → with_tags next (listed after) ≡ whole
tag_more s next whole b ahead after is cut holds =
    ap (λ (t : PlainScope). with_tags t (listed after)) is
    ∙ ap (λ (bs : List Binding). record s { tags = bs }) (append_assoc s.tags (binding_of (b.name.now, b.what) ∷ []) (listed after))
    ∙ ap (λ bs. with_tags s (listed bs)) (sym cut)
    ∙ holds

-- none are left
pub no_name_more : (f : Frame) (s whole : PlainScope) (bs : List (Bound Named)) → length bs ≡ 0 → with_names s (in_body f (listed bs)) ≡ whole → s ≡ whole
no_name_more f s whole [] none holds = sym (ap (λ (names : List Binding). record s { names = names }) (append-nil s.names)) ∙ holds
no_name_more f s whole (b ∷ bs) none holds = absurd (omega (arith, none))

pub no_tag_more : (s whole : PlainScope) (bs : List (Bound Named)) → length bs ≡ 0 → with_tags s (listed bs) ≡ whole → s ≡ whole
no_tag_more s whole [] none holds = sym (ap (λ (tags : List Binding). record s { tags = tags }) (append-nil s.tags)) ∙ holds
no_tag_more s whole (b ∷ bs) none holds = absurd (omega (arith, none))

abbrev declared_where : PlainScope → Text → Meaning → Bool → PlainScope
declared_where s name what tag =
    if tag then record s { tags = s.tags ++ record { name = name; what = what } ∷ [] } else record s { names = s.names ++ record { name = name; what = what } ∷ [] }

-- a name that is no tag is declared
pub declared_name : (s next : PlainScope) (name : Text) (what meant : Meaning) → next ≡ declared s name what → is_tag what ≡ false → what ≡ meant → next ≡ with_names s (record { name = name; what = meant } ∷ [])
declared_name s next name what meant is tag meant_is =
    is ∙ ap (declared_where s name what) tag ∙ ap (λ (m : Meaning). with_names s (record { name = name; what = m } ∷ [])) meant_is

-- a tag is declared
pub declared_tag : (s next : PlainScope) (name : Text) (what meant : Meaning) → next ≡ declared s name what → is_tag what ≡ true → what ≡ meant → next ≡ with_tags s (record { name = name; what = meant } ∷ [])
declared_tag s next name what meant is tag meant_is =
    is ∙ ap (declared_where s name what) tag ∙ ap (λ (m : Meaning). with_tags s (record { name = name; what = m } ∷ [])) meant_is
