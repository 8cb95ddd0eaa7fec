-- The functions at which objects of file scope are in scope, noted by names.
use Rattle.std.proofs.Common.{◌≡◌, ℕ, ◌+◌, List, [], ◌∷◌, ◌++◌, map, drop, if◌then◌else◌, Bool, true, false, ◌&&◌, ◌||◌, bytes_eq, refl, sym, ◌∙◌, ap}
use Rattle.std.specs.List.{list_any}
use Rattle.std.proofs.lemmas.List.{append-nil}
use Rattle.p10_base.specs.Words.{Text}
use Rattle.p10_core.specs.declared.program.Extent.{Extent}
use Rattle.p10_core.specs.declared.program.Global.{Global}
use Rattle.p10_core.specs.declared.program.Seen.{Seen}
use Rattle.p10_core.specs.Typed.{PlainObject, PlainSeen}
use Rattle.p10_core.specs.Views.{plain_object, plain_seen}
use Rattle.p10_warn.specs.Scopes.{covers, is_in_scope_at, FileNames}
use Rattle.p10_warn.specs.private.NamedExtents.{extents_named, extents_outside, is_name_in_scope}
use Rattle.p10_warn.proofs.Turns.{more_put}

-- one object more is noted
pub noted_more : (objects : List Global) (i : ℕ) (o : Global) (visible : List Extent) (old new : Text → List Extent) → drop i objects ≡ o ∷ drop (i + 1) objects → visible ≡ o.visible
    → ((name : Text) → new name ≡ old name ++ (if bytes_eq o.name.now name then visible else []))
    → ((name : Text) → old name ++ extents_named (map plain_object (drop i objects)) name ≡ extents_named (map plain_object objects) name)
    → (name : Text) → new name ++ extents_named (map plain_object (drop (i + 1) objects)) name ≡ extents_named (map plain_object objects) name
noted_more objects i o visible old new cut listed more holds name =
    more_put (old name) (if bytes_eq o.name.now name then visible else []) (extents_named (map plain_object (drop (i + 1) objects)) name) (extents_named (map plain_object (drop i objects)) name)
    (new name) (extents_named (map plain_object objects) name) (more name)
    (ap (λ os. extents_named (map plain_object os) name) cut ∙ ap (λ es. (if bytes_eq o.name.now name then es else []) ++ extents_named (map plain_object (drop (i + 1) objects)) name) (sym listed)) (holds name)

or_assoc : (a b c : Bool) → ((a || b) || c) ≡ (a || (b || c))
or_assoc true b c = refl
or_assoc false b c = refl

any_append : {A : Type 0} (test : A → Bool) (xs ys : List A) → list_any test (xs ++ ys) ≡ (list_any test xs || list_any test ys)
any_append test [] ys = refl
any_append test (x ∷ xs) ys = ap (λ b. test x || b) (any_append test xs ys) ∙ sym (or_assoc (test x) (list_any test xs) (list_any test ys))

any_if : {A : Type 0} (test : A → Bool) (b : Bool) (xs : List A) → list_any test (if b then xs else []) ≡ (b && list_any test xs)
any_if test true xs = refl
any_if test false xs = refl

-- an object with a name is in scope where one of the extents of the name has the function
scope_is : (objects : List PlainObject) (n : ℕ) (name : Text) → list_any (covers n) (extents_named objects name) ≡ list_any (λ (o : PlainObject). bytes_eq o.name name && is_in_scope_at n o) objects
scope_is [] n name = refl
scope_is (o ∷ rest) n name =
    any_append (covers n) (if bytes_eq o.name name then o.visible else []) (extents_named rest name)
    ∙ ap (λ b. b || list_any (covers n) (extents_named rest name)) (any_if (covers n) (bytes_eq o.name name) o.visible)
    ∙ ap (λ b. (bytes_eq o.name name && is_in_scope_at n o) || b) (scope_is rest n name)

-- the same of a name that is declared and not defined
outside_is : (outside : List PlainSeen) (n : ℕ) (name : Text) → list_any (covers n) (extents_outside outside name) ≡ list_any (λ (o : PlainSeen). bytes_eq o.name name && covers n o.visible) outside
outside_is [] n name = refl
outside_is (o ∷ rest) n name =
    any_append (covers n) (if bytes_eq o.name name then o.visible ∷ [] else []) (extents_outside rest name)
    ∙ ap (λ b. b || list_any (covers n) (extents_outside rest name)) (any_if (covers n) (bytes_eq o.name name) (o.visible ∷ []) ∙ ap (λ b. bytes_eq o.name name && b) (or_nothing (covers n o.visible)))
    ∙ ap (λ b. (bytes_eq o.name name && covers n o.visible) || b) (outside_is rest n name)
  where
    or_nothing : (b : Bool) → (b || false) ≡ b
    or_nothing true = refl
    or_nothing false = refl

-- a name is in scope where one of its extents has the function
pub name_is_in_scope : (file : FileNames) (n : ℕ) (name : Text) → list_any (covers n) (extents_named file.objects name ++ extents_outside file.outside name) ≡ is_name_in_scope file n name
name_is_in_scope file n name =
    any_append (covers n) (extents_named file.objects name) (extents_outside file.outside name) ∙ (λ i. scope_is file.objects n name i || outside_is file.outside n name i)

-- one name more is noted
pub seen_more : (outside : List Seen) (i : ℕ) (o : Seen) (old new rest : Text → List Extent) → drop i outside ≡ o ∷ drop (i + 1) outside
    → ((name : Text) → new name ≡ (if bytes_eq o.name.now name then old name ++ o.visible ∷ [] else old name))
    → ((name : Text) → old name ++ extents_outside (map plain_seen (drop i outside)) name ≡ rest name)
    → (name : Text) → new name ++ extents_outside (map plain_seen (drop (i + 1) outside)) name ≡ rest name
seen_more outside i o old new rest cut more holds name =
    more_put (old name) (if bytes_eq o.name.now name then o.visible ∷ [] else []) (extents_outside (map plain_seen (drop (i + 1) outside)) name) (extents_outside (map plain_seen (drop i outside)) name)
    (new name) (rest name) (more name ∙ put_where (bytes_eq o.name.now name)) (ap (λ os. extents_outside (map plain_seen os) name) cut) (holds name)
  where
    put_where : (b : Bool) → (if b then old name ++ o.visible ∷ [] else old name) ≡ old name ++ (if b then o.visible ∷ [] else [])
    put_where true = refl
    put_where false = sym (append-nil (old name))

-- nothing is noted before the first object, and everything after the last
pub noted_none : (objects : List Global) (old : Text → List Extent) → ((name : Text) → old name ≡ []) → (name : Text) → old name ++ extents_named (map plain_object objects) name ≡ extents_named (map plain_object objects) name
noted_none objects old none name = ap (λ es. es ++ extents_named (map plain_object objects) name) (none name)
