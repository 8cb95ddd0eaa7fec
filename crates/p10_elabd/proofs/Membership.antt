-- Names of members that are noted in a table.
use Rattle.std.proofs.Common.{◌≡◌, ℕ, Bool, true, false, ◌||◌, List, [], ◌∷◌, ◌++◌, map, bytes_eq, refl, sym, ◌∙◌, ap}
use Rattle.std.proofs.Math.Bool.{or_assoc, or-false}
use Rattle.std.proofs.lemmas.List.{map-append}
use Rattle.std.proofs.lemmas.Slice.Eq.{bytes_eq-Decides}
use Rattle.std.specs.List.{list_any}
use Rattle.p10_base.specs.Words.{Text}
use Rattle.p10_base.specs.Names.{with_name}
use Rattle.p10_base.proofs.Naming.{same_text, has_after}
use Rattle.p10_core.specs.declared.structures.Member.{Member}
use Rattle.p10_core.specs.Types.{PlainMember, plain_member}
use Rattle.p10_elabd.specs.Members.{has_name}

-- the order of two texts that are compared is free
either_way : (a b : Text) → bytes_eq a b ≡ bytes_eq b a
either_way a b = by (bytes_eq a b) refl (bytes_eq b a) refl
  where
    by : (p : Bool) → bytes_eq a b ≡ p → (q : Bool) → bytes_eq b a ≡ q → p ≡ q
    by true e true f = refl
    by true e false f = sym ((bytes_eq-Decides b a).1 (sym (same_text a b e))) ∙ f
    by false e true f = sym e ∙ (bytes_eq-Decides a b).1 (sym (same_text b a f))
    by false e false f = refl

has_name_after : (name : Text) (members : List PlainMember) (m : PlainMember) → has_name name (members ++ m ∷ []) ≡ (has_name name members || bytes_eq m.name name)
has_name_after name [] m = or-false (bytes_eq m.name name)
has_name_after name (k ∷ members) m =
    ap (λ b. bytes_eq k.name name || b) (has_name_after name members m) ∙ sym (or_assoc (bytes_eq k.name name) (has_name name members) (bytes_eq m.name name))

-- the names of members, with that of one more
pub named_with : (before names : List Text) (members list : List Member) (m : Member) → ((name : List ℕ) → list_any (bytes_eq name) before ≡ has_name name (map plain_member members)) →
    names ≡ with_name before m.name.now → list ≡ members ++ m ∷ [] → (name : List ℕ) → list_any (bytes_eq name) names ≡ has_name name (map plain_member list)
named_with before names members list m h is more name =
    ap (list_any (bytes_eq name)) is
    ∙ has_after name m.name.now before
    ∙ (λ i. h name i || either_way name m.name.now i)
    ∙ sym (has_name_after name (map plain_member members) (plain_member m))
    ∙ ap (has_name name) (sym (map-append plain_member members (m ∷ [])) ∙ ap (map plain_member) (sym more))
