-- Declarations that hide something.
use Rattle.std.proofs.Common.{◌≡◌, ℕ, true, ◌&&◌, bytes_eq, refl, subst, inl, inr}
use Rattle.std.specs.List.{Contains, list_any}
use Rattle.std.proofs.lemmas.Bool.{and_parts}
use Rattle.std.proofs.lemmas.Slice.Eq.{bytes_eq-Decides}
use Rattle.p10_base.specs.Words.{Text}
use Rattle.p10_core.specs.Typed.{PlainObject, PlainSeen}
use Rattle.p10_warn.specs.Scopes.{ScopedDeclaration, covers, is_in_scope_at, FileNames, Hides, of_function, of_file, of_elsewhere}
use Rattle.p10_warn.specs.private.Listing.{hides}
use Rattle.p10_warn.specs.private.NamedExtents.{is_name_in_scope}
use Rattle.p10_warn.proofs.Booleans.{either, or_left, or_right, both}
use Rattle.p10_warn.proofs.Members.{any_is, is_any}

same_name : (a b : Text) → bytes_eq a b ≡ true → a ≡ b
same_name a b e = (bytes_eq-Decides a b).0 e

name_same : (a b : Text) → a ≡ b → bytes_eq a b ≡ true
name_same a b e = (bytes_eq-Decides a b).1 e

at_file : (file : FileNames) (n : ℕ) (d : ScopedDeclaration) → is_name_in_scope file n d.declares.name ≡ true → Hides file n d
at_file file n d e =
    let name = d.declares.name in
    elim (either (list_any (λ (o : PlainObject). bytes_eq o.name name && is_in_scope_at n o) file.objects) (list_any (λ (o : PlainSeen). bytes_eq o.name name && covers n o.visible) file.outside) e) [
      | inl defined ↦ let found = any_is (λ (o : PlainObject). bytes_eq o.name name && is_in_scope_at n o) file.objects defined in
          let parts = and_parts (bytes_eq found.0.name name) (is_in_scope_at n found.0) found.2 in
          of_file found.0 found.1 (same_name found.0.name name parts.0) parts.1
      | inr elsewhere ↦ let found = any_is (λ (o : PlainSeen). bytes_eq o.name name && covers n o.visible) file.outside elsewhere in
          let parts = and_parts (bytes_eq found.0.name name) (covers n found.0.visible) found.2 in
          of_elsewhere found.0 found.1 (same_name found.0.name name parts.0) parts.1
    ]

pub hiding_is : (file : FileNames) (n : ℕ) (d : ScopedDeclaration) → hides file n d ≡ true → Hides file n d
hiding_is file n d e =
    let name = d.declares.name in
    elim (either (list_any (λ x. bytes_eq x name) d.around) (is_name_in_scope file n name) e) [
      | inl local ↦ let found = any_is (λ x. bytes_eq x name) d.around local in
          of_function (subst (Contains d.around) (same_name found.0 name found.2) found.1)
      | inr outer ↦ at_file file n d outer
    ]

pub is_hiding : (file : FileNames) (n : ℕ) (d : ScopedDeclaration) → Hides file n d → hides file n d ≡ true
is_hiding file n d (of_function held) =
    or_left (list_any (λ x. bytes_eq x d.declares.name) d.around) (is_name_in_scope file n d.declares.name)
    (is_any (λ x. bytes_eq x d.declares.name) d.around d.declares.name held (name_same d.declares.name d.declares.name refl))
is_hiding file n d (of_file o held named seen) =
    or_right (list_any (λ x. bytes_eq x d.declares.name) d.around) (is_name_in_scope file n d.declares.name)
    (or_left (list_any (λ (x : PlainObject). bytes_eq x.name d.declares.name && is_in_scope_at n x) file.objects) (list_any (λ (x : PlainSeen). bytes_eq x.name d.declares.name && covers n x.visible) file.outside)
    (is_any (λ (x : PlainObject). bytes_eq x.name d.declares.name && is_in_scope_at n x) file.objects o held
    (both (bytes_eq o.name d.declares.name) (is_in_scope_at n o) (name_same o.name d.declares.name named) seen)))
is_hiding file n d (of_elsewhere o held named seen) =
    or_right (list_any (λ x. bytes_eq x d.declares.name) d.around) (is_name_in_scope file n d.declares.name)
    (or_right (list_any (λ (x : PlainObject). bytes_eq x.name d.declares.name && is_in_scope_at n x) file.objects) (list_any (λ (x : PlainSeen). bytes_eq x.name d.declares.name && covers n x.visible) file.outside)
    (is_any (λ (x : PlainSeen). bytes_eq x.name d.declares.name && covers n x.visible) file.outside o held
    (both (bytes_eq o.name d.declares.name) (covers n o.visible) (name_same o.name d.declares.name named) seen)))
