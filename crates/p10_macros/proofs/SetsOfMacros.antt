-- Sets of macros by the places of their names.
use Rattle.std.proofs.Common.{◌≡◌, ℕ, ◌≤◌, ◌==◌, List, [], ◌∷◌, ◌++◌, length, Bool, true, false, cond, ◌||◌, bytes_eq, Option, Some, None, refl, sym, subst, ap, ◌∙◌, arith, length-append}
use Rattle.std.specs.List.{list_any}
use Rattle.std.proofs.lemmas.Slice.Eq.{bytes_eq-Decides}
use Rattle.std.proofs.lemmas.Bool.Decides.{nat_tests}
use Rattle.p10_base.specs.Words.{Text}
use Rattle.p10_base.specs.Names.{place_in, with_name}
use Rattle.p10_base.proofs.Naming.{place_stays, place_new, same_place}
use Rattle.p10_macros.specs.declared.sets.Part.{Part}
use Rattle.p10_macros.specs.declared.origin.Origins.{Origins}
use Rattle.p10_macros.specs.private.Sets.{has, HasOneMore, HasAll, AreBelow}
use Rattle.p10_macros.specs.private.Origins.{count_of, has_at, has_macro, Continues, Extends, HasBoth, HasOne}
use Rattle.p10_macros.proofs.Blocks.{has_grown, has_nothing, grows_itself, grows_all, stays_known}

-- ## More names

pub continues_itself : (names : List Text) → Continues names names
continues_itself names = record {
  longer = omega arith;
  stays = λ name place is. is;
  behind = λ name place none some. (let e : None ≡ Some place = sym none ∙ some in cc);
}

pub continues_all : (old middle new : List Text) → Continues old middle → Continues middle new → Continues old new
continues_all old middle new first second = record {
  longer = omega (arith, first.longer, second.longer);
  stays = λ name place is. second.stays name place (first.stays name place is);
  behind = λ name place none some. by name place none some (place_in middle name) refl;
}
  where
    by : (name : Text) (place : ℕ) → place_in old name ≡ None → place_in new name ≡ Some place → (found : Option ℕ) → place_in middle name ≡ found → length old ≤ place
    by name place none some None e = omega (arith, second.behind name place e some, first.longer)
    by name place none some (Some place') e =
        let same : Some place' ≡ Some place = sym (second.stays name place' e) ∙ some in
        let same' : place' ≡ place = cc in
        omega (arith, first.behind name place' none e, same')

longer_with : (names : List Text) (name : Text) (b : Bool) → length names ≤ length (cond b names (names ++ name ∷ []))
longer_with names name true = omega arith
longer_with names name false = omega (arith, length-append names (name ∷ []))

pub continues_with : (names new : List Text) (name : Text) → new ≡ with_name names name → Continues names new
continues_with names new name is = subst (λ (l : List Text). Continues names l) (sym is) (record {
  longer = longer_with names name (list_any (bytes_eq name) names);
  stays = λ other place found. place_stays names name other place found;
  behind = λ other place none some. (let behind' = (place_new names name other none place some).0 in omega (arith, behind'));
})

-- ## More macros and sets

pub extends_all : (old middle new : Origins) → Extends old middle → Extends middle new → Extends old new
extends_all old middle new first second = record {
  names = continues_all old.names middle.names new.names first.names second.names;
  sets = grows_all old.sets.items middle.sets.items new.sets.items first.sets second.sets;
}

pub extends_itself : (old : Origins) → Extends old old
extends_itself old = record { names = continues_itself old.names; sets = grows_itself old.sets.items }

pub longer : (old new : Origins) → Extends old new → (set : ℕ) → set ≤ count_of old → set ≤ count_of new
longer old new extends set less = stays_known old.sets.items new.sets.items extends.sets set less

nothing_at : (sets : List Part) (set : ℕ) (place : Option ℕ) → set ≤ 0 → has_at sets set place ≡ false
nothing_at sets set None none = refl
nothing_at sets set (Some place) none = has_nothing sets set place none

pub has_no_macro : (origins : Origins) (set : ℕ) (name : Text) → set ≤ 0 → has_macro origins set name ≡ false
unfolding has_macro
has_no_macro origins set name none = nothing_at origins.sets.items set (place_in origins.names name) none

-- whether a macro is in a set is known by the place of its name
pub absent_at : (origins : Origins) (set : ℕ) (name : Text) → None ≡ place_in origins.names name → has_macro origins set name ≡ false
unfolding has_macro
absent_at origins set name none = ap (λ (o : Option ℕ). has_at origins.sets.items set o) (sym none)

pub present_at : (origins : Origins) (set : ℕ) (name : Text) (place : ℕ) → Some place ≡ place_in origins.names name → has_macro origins set name ≡ has origins.sets.items set place
unfolding has_macro
present_at origins set name place some = ap (λ (o : Option ℕ). has_at origins.sets.items set o) (sym some)

-- a place that no name had was in no set
module _ (old new : Origins) (extends : Extends old new) (set : ℕ) (name : Text) (known : set ≤ count_of old) where
  not_before : (place : ℕ) → length old.names ≤ place → (b : Bool) → has old.sets.items set place ≡ b → b ≡ false
  not_before place behind true e = absurd (omega (arith, behind, old.below set place e))
  not_before place behind false e = refl

  at_new : (found : Option ℕ) → place_in old.names name ≡ None → place_in new.names name ≡ found → has_at new.sets.items set found ≡ false
  at_new None none e = refl
  at_new (Some place) none e =
      has_grown old.sets.items new.sets.items extends.sets set place known ∙ not_before place (extends.names.behind name place none e) (has old.sets.items set place) refl

  at_old : (found : Option ℕ) → place_in old.names name ≡ found → has_at new.sets.items set (place_in new.names name) ≡ has_at old.sets.items set found
  at_old None e = at_new (place_in new.names name) e refl
  at_old (Some place) e = ap (λ (o : Option ℕ). has_at new.sets.items set o) (extends.names.stays name place e) ∙ has_grown old.sets.items new.sets.items extends.sets set place known

pub still_has : (old new : Origins) → Extends old new → (set : ℕ) (name : Text) → set ≤ count_of old → has_macro new set name ≡ has_macro old set name
unfolding has_macro
still_has old new extends set name known = at_old old new extends set name known (place_in old.names name) refl

-- ## Two sets

pub or_no_more : (a : Bool) → a ≡ (a || false)
or_no_more true = refl
or_no_more false = refl

both_at : (old new : List Part) (these those set : ℕ) → HasAll old these those new set → (place : Option ℕ) → has_at new set place ≡ (has_at old these place || has_at old those place)
both_at old new these those set has' None = refl
both_at old new these those set has' (Some place) = has'.both place

pub has_both : (old new : Origins) (these those set : ℕ) → new.names ≡ old.names → HasAll old.sets.items these those new.sets.items set → HasBoth old these those new set
unfolding has_macro
has_both old new these those set same has' = record {
  known = has'.known;
  both = λ name. ap (λ (l : List Text). has_at new.sets.items set (place_in l name)) same ∙ both_at old.sets.items new.sets.items these those set has' (place_in old.names name);
}

-- ## One macro more

same_number : (this that : ℕ) → (this == that) ≡ true → this ≡ that
same_number this that e = grind (arith, nat_tests)

or_true : (b : Bool) → (b || true) ≡ true
or_true true = refl
or_true false = refl

module _ (old new : Origins) (name : Text) (place those set : ℕ) (names : new.names ≡ with_name old.names name) (here : place_in new.names name ≡ Some place)
    (more : HasOneMore old.sets.items those place new.sets.items set) where
  continues : Continues old.names new.names
  continues = continues_with old.names new.names name names

  is_name : (other : Text) → bytes_eq other name ≡ true → place_in new.names other ≡ Some place
  is_name other e = ap (λ (t : Text). place_in new.names t) ((bytes_eq-Decides other name).0 e) ∙ here

  -- a name without a place is another one
  absent : (other : Text) → place_in new.names other ≡ None → (b : Bool) → bytes_eq other name ≡ b → false ≡ (b || has_at old.sets.items those (place_in old.names other))
  absent other none true e = (let no : None ≡ Some place = sym none ∙ is_name other e in cc)
  absent other none false e = by (place_in old.names other) refl
    where
      by : (found : Option ℕ) → place_in old.names other ≡ found → false ≡ has_at old.sets.items those found
      by None e' = refl
      by (Some before) e' = (let no : None ≡ Some before = sym none ∙ continues.stays other before e' in cc)

  -- the place of another name is the one that it had
  present : (other : Text) (at : ℕ) → place_in new.names other ≡ Some at → (b : Bool) → bytes_eq other name ≡ b →
      (has old.sets.items those at || at == place) ≡ (b || has_at old.sets.items those (place_in old.names other))
  present other at some true e =
      let same : Some at ≡ Some place = sym some ∙ is_name other e in
      let same' : at ≡ place = cc in
      ap (λ (b : Bool). has old.sets.items those at || b) (grind (arith, nat_tests, same')) ∙ or_true (has old.sets.items those at)
  present other at some false e = by (place_in old.names other) refl
    where
      apart : (b : Bool) → (at == place) ≡ b → b ≡ false
      apart false e' = refl
      apart true e' =
          let same : at ≡ place = same_number at place e' in
          let equal : bytes_eq other name ≡ true = same_place new.names other name at some (here ∙ ap (λ (n : ℕ). Some n) (sym same)) in
          (let no : true ≡ false = sym equal ∙ e in cc)

      by : (found : Option ℕ) → place_in old.names other ≡ found → (has old.sets.items those at || at == place) ≡ has_at old.sets.items those found
      by None e' =
          let equal : bytes_eq other name ≡ true = (place_new old.names name other e' at (ap (λ (l : List Text). place_in l other) (sym names) ∙ some)).1 in
          (let no : true ≡ false = sym equal ∙ e in cc)
      by (Some before) e' =
          let same : Some before ≡ Some at = sym (continues.stays other before e') ∙ some in
          let same' : before ≡ at = cc in
          ap (λ (b : Bool). has old.sets.items those at || b) (apart (at == place) refl) ∙ sym (or_no_more (has old.sets.items those at)) ∙ ap (λ (n : ℕ). has old.sets.items those n) (sym same')

  first_at : (other : Text) (found : Option ℕ) → place_in new.names other ≡ found → has_at new.sets.items set found ≡ (bytes_eq other name || has_at old.sets.items those (place_in old.names other))
  first_at other None e = absent other e (bytes_eq other name) refl
  first_at other (Some at) e = more.one at ∙ present other at e (bytes_eq other name) refl

  pub has_one : HasOne old name those new set
  unfolding has_macro
  has_one = record { known = more.known; one = λ other. first_at other (place_in new.names other) refl }

-- the bound of numbers where there are more names
pub below_more : (names new : List Text) (parts : List Part) → length names ≤ length new → AreBelow (length names) parts → AreBelow (length new) parts
below_more names new parts less below set number e = omega (arith, less, below set number e)
