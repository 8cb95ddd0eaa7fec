-- Tables of names that know the first thing that stands for each.
use Rattle.std.specs.Prelude.{◌≡◌, Bool, true, false, if◌then◌else◌, Option, Some, None, is_some, List, [], ◌∷◌, ◌++◌, bytes_eq, refl}
use Rattle.std.proofs.Common.{◌∙◌, ap, sym, subst}
use Rattle.p10_base.specs.Words.{Text}
use Rattle.p10_base.proofs.Naming.{same_text}
use Rattle.p10_bindings.specs.Lookup.{last_after, last_bound}
use Rattle.p10_heads.specs.private.Firsts.{with_first, firsts, first_bound}

module _ {T : Type 0} where
  firsts_append : (table xs ys : List (Text × T)) → firsts table (xs ++ ys) ≡ firsts (firsts table xs) ys
  firsts_append table [] ys = refl
  firsts_append table (b ∷ xs) ys = firsts_append (with_first table b.0 b.1) xs ys

  -- one turn of a loop over what is declared
  pub more_first : (old one rest all new whole : List (Text × T)) → new ≡ firsts old one → all ≡ one ++ rest → firsts old all ≡ whole → firsts new rest ≡ whole
  more_first old one rest all new whole is cut holds =
      ap (λ t. firsts t rest) is ∙ sym (firsts_append old one rest) ∙ ap (firsts old) (sym cut) ∙ holds

  last_append : (found : Option T) (name : Text) (xs : List (Text × T)) (b : Text × T) →
      last_after found name (xs ++ b ∷ []) ≡ (if bytes_eq b.0 name then Some b.1 else last_after found name xs)
  last_append found name [] b = refl
  last_append found name (x ∷ xs) b = last_append (if bytes_eq x.0 name then Some x.1 else found) name xs b

  -- one thing or else another
  abbrev pub or_else : Option T → Option T → Option T
  or_else None b = b
  or_else (Some a) b = Some a

  or_none : (a : Option T) → or_else a None ≡ a
  or_none None = refl
  or_none (Some a) = refl

  -- a name that is declared, unless it is already
  one_first : (table : List (Text × T)) (n : Text) (x : T) (name : Text) (r : Option T) (o : Option T) → last_bound n table ≡ o → (e : Bool) → bytes_eq n name ≡ e →
      or_else (last_bound name (if is_some o then table else table ++ (n, x) ∷ [])) r ≡ or_else (last_bound name table) (if e then Some x else r)
  one_first table n x name r (Some p) is true h =
      let there : last_bound name table ≡ Some p = subst (λ t. last_bound t table ≡ Some p) (same_text n name h) is in
      ap (λ o. or_else o r) there ∙ sym (ap (λ o. or_else o (Some x)) there)
  one_first table n x name r (Some p) is false h = refl
  one_first table n x name r None is true h =
      let none : last_bound name table ≡ None = subst (λ t. last_bound t table ≡ None) (same_text n name h) is in
      ap (λ o. or_else o r) (last_append None name table (n, x) ∙ ap (λ b. if b then Some x else last_bound name table) h)
      ∙ sym (ap (λ o. or_else o (Some x)) none)
  one_first table n x name r None is false h =
      ap (λ o. or_else o r) (last_append None name table (n, x) ∙ ap (λ b. if b then Some x else last_bound name table) h)

  found_after : (name : Text) (xs table : List (Text × T)) → last_bound name (firsts table xs) ≡ or_else (last_bound name table) (first_bound name xs)
  found_after name [] table = sym (or_none (last_bound name table))
  found_after name (b ∷ rest) table =
      found_after name rest (with_first table b.0 b.1)
      ∙ one_first table b.0 b.1 name (first_bound name rest) (last_bound b.0 table) refl (bytes_eq b.0 name) refl

  -- a table finds the first thing that stands for a name
  pub found_first : (name : Text) (xs : List (Text × T)) → last_bound name (firsts [] xs) ≡ first_bound name xs
  found_first name xs = found_after name xs []
