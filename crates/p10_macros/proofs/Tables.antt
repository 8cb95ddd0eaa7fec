-- Tables by the macros that are kept.
use Rattle.std.proofs.Common.{◌≡◌, ℕ, zero, suc, ◌+◌, ◌<◌, ◌≤◌, ◌==◌, List, [], ◌∷◌, ◌++◌, length, map, slice_set, Bool, true, false, ◌&&◌, cond, not, bytes_eq, Option, Some, None, option_map, Bor, ◌⊎◌, inl, inr, refl, sym, subst, ap, ◌∙◌, arith}
use Rattle.std.specs.List.{list_all, zip}
use Rattle.std.specs.HashMap.{HashMap, UpdatesBy}
use Rattle.std.specs.Map.{lookup}
use Rattle.std.proofs.lemmas.List.{length-map}
use Rattle.std.proofs.lemmas.List.Sums.{sum_by-cons}
use Rattle.std.proofs.lemmas.Map.Text.{hash_map_updates_str}
use Rattle.std.proofs.lemmas.Bool.Decides.{nat_tests}
use Rattle.std.proofs.lemmas.Slice.Eq.{bytes_eq-Decides}
use Rattle.p10_base.specs.Words.{Text}
use Rattle.p10_direct.specs.Directives.{PlainMacro}
use Rattle.p10_direct.specs.Form.{plain_macro}
use Rattle.p10_macros.specs.declared.known.Known.{Known}
use Rattle.p10_macros.specs.Table.{Entry, Table, macro_named, with_macro, without_macro, own_of, same_lists}
use Rattle.p10_macros.specs.Known.{entry_of, table_among, kept_at, kept_name, IsFoundAt, NamesAreFound}
use Rattle.p10_macros.specs.private.KnownMacros.{plain_known, own_if, own_of_one}
use Rattle.p10_macros.specs.private.Places.{at_text}

abbrev Kept : Type 0
Kept = List (Option Known)

-- the name of a macro
abbrev name_of : Known → Text
name_of known = known.made.name.now

same : (this that : Text) → bytes_eq this that ≡ true → this ≡ that
same this that e = (bytes_eq-Decides this that).0 e

equal : (this that : Text) → this ≡ that → bytes_eq this that ≡ true
equal this that e = (bytes_eq-Decides this that).1 e

-- ## Where a name stands

module _ (name : Text) where
  -- no macro has it
  abbrev IsNowhere : Kept → Type 0
  IsNowhere kept = (place : ℕ) → kept_name kept place ≡ Some name → ⊥

  -- no macro has it but the one at this place
  abbrev IsOnlyAt : Kept → ℕ → Type 0
  IsOnlyAt kept place = (other : ℕ) → kept_name kept other ≡ Some name → other ≡ place

  none_named : (kept : Kept) → IsNowhere kept → macro_named name (table_among kept) ≡ None
  none_named [] nowhere = refl
  none_named (None ∷ kept) nowhere = none_named kept (λ place is. nowhere (suc place) is)
  none_named (Some known ∷ kept) nowhere = go (bytes_eq name (name_of known)) refl (none_named kept (λ place is. nowhere (suc place) is))
    where
      go : (b : Bool) → bytes_eq name (name_of known) ≡ b → macro_named name (table_among kept) ≡ None → cond b (Some (plain_macro known.made)) (macro_named name (table_among kept)) ≡ None
      go true e again = absurd (nowhere 0 (ap (λ (text : Text). Some text) (sym (same name (name_of known) e))))
      go false e again = again

  named_at : (kept : Kept) (place : ℕ) → kept_name kept place ≡ Some name → IsOnlyAt kept place → macro_named name (table_among kept) ≡ option_map plain_known (kept_at kept place)
  named_at [] place is only = absurd cc
  named_at (None ∷ kept) zero is only = absurd cc
  named_at (None ∷ kept) (suc place) is only = named_at kept place is (λ other is'. omega (arith, only (suc other) is'))
  named_at (Some known ∷ kept) zero is only =
      let e : name_of known ≡ name = cc in
      ap (λ (b : Bool). cond b (Some (plain_macro known.made)) (macro_named name (table_among kept))) (equal name (name_of known) (sym e))
  named_at (Some known ∷ kept) (suc place) is only = go (bytes_eq name (name_of known)) refl (named_at kept place is (λ other is'. omega (arith, only (suc other) is')))
    where
      go : (b : Bool) → bytes_eq name (name_of known) ≡ b → macro_named name (table_among kept) ≡ option_map plain_known (kept_at kept place) →
          cond b (Some (plain_macro known.made)) (macro_named name (table_among kept)) ≡ option_map plain_known (kept_at kept place)
      go true e again = absurd (let at_once : 0 ≡ suc place = only 0 (ap (λ (text : Text). Some text) (sym (same name (name_of known) e))) in omega (arith, at_once))
      go false e again = again

  -- ## Without it

  nothing_removed : (kept : Kept) → IsNowhere kept → table_among kept ≡ without_macro (table_among kept) name
  nothing_removed [] nowhere = refl
  nothing_removed (None ∷ kept) nowhere = nothing_removed kept (λ place is. nowhere (suc place) is)
  nothing_removed (Some known ∷ kept) nowhere = go (bytes_eq name (name_of known)) refl (nothing_removed kept (λ place is. nowhere (suc place) is))
    where
      go : (b : Bool) → bytes_eq name (name_of known) ≡ b → table_among kept ≡ without_macro (table_among kept) name →
          entry_of known ∷ table_among kept ≡ cond (not b) (entry_of known ∷ without_macro (table_among kept) name) (without_macro (table_among kept) name)
      go true e again = absurd (nowhere 0 (ap (λ (text : Text). Some text) (sym (same name (name_of known) e))))
      go false e again = ap (λ (table : Table). entry_of known ∷ table) again

  one_removed : (kept : Kept) (place : ℕ) → kept_name kept place ≡ Some name → IsOnlyAt kept place → table_among (slice_set kept place None) ≡ without_macro (table_among kept) name
  one_removed [] place is only = absurd cc
  one_removed (None ∷ kept) zero is only = absurd cc
  one_removed (None ∷ kept) (suc place) is only = one_removed kept place is (λ other is'. omega (arith, only (suc other) is'))
  one_removed (Some known ∷ kept) zero is only =
      let e : name_of known ≡ name = cc in
      nothing_removed kept (λ place is'. let later : suc place ≡ 0 = only (suc place) is' in absurd (omega (arith, later)))
      ∙ ap (λ (b : Bool). cond (not b) (entry_of known ∷ without_macro (table_among kept) name) (without_macro (table_among kept) name)) (sym (equal name (name_of known) (sym e)))
  one_removed (Some known ∷ kept) (suc place) is only = go (bytes_eq name (name_of known)) refl (one_removed kept place is (λ other is'. omega (arith, only (suc other) is')))
    where
      go : (b : Bool) → bytes_eq name (name_of known) ≡ b → table_among (slice_set kept place None) ≡ without_macro (table_among kept) name →
          entry_of known ∷ table_among (slice_set kept place None) ≡ cond (not b) (entry_of known ∷ without_macro (table_among kept) name) (without_macro (table_among kept) name)
      go true e again = absurd (let at_once : 0 ≡ suc place = only 0 (ap (λ (text : Text). Some text) (sym (same name (name_of known) e))) in omega (arith, at_once))
      go false e again = ap (λ (table : Table). entry_of known ∷ table) again

-- ## Those that no built-in header defined

own_first : (known : Known) (table : Table) → own_of (entry_of known ∷ table) ≡ own_if known.builtin + own_of table
own_first known table = sum_by-cons (λ (e : Entry). cond (not e.builtin) 1 0) (entry_of known) table ∙ ap (λ (n : ℕ). n + own_of table) (go known.builtin)
  where
    go : (b : Bool) → cond (not b) 1 0 ≡ own_if b
    go true = refl
    go false = refl

own_one : (b : Bool) → own_if b ≤ 1
own_one true = omega arith
own_one false = omega arith

-- they are no more than there are places
own_few : (kept : Kept) → own_of (table_among kept) ≤ length kept
own_few [] = omega arith
own_few (None ∷ kept) = omega (arith, own_few kept)
own_few (Some known ∷ kept) = omega (arith, own_few kept, own_first known (table_among kept), own_one known.builtin)

own_removed : (kept : Kept) (place : ℕ) → own_of (table_among kept) ≡ own_of_one (kept_at kept place) + own_of (table_among (slice_set kept place None))
own_removed [] place = refl
own_removed (None ∷ kept) zero = let e : own_of (table_among kept) ≡ 0 + own_of (table_among kept) = omega arith in e
own_removed (Some known ∷ kept) zero = own_first known (table_among kept)
own_removed (None ∷ kept) (suc place) = own_removed kept place
own_removed (Some known ∷ kept) (suc place) =
    omega (arith, own_first known (table_among kept), own_first known (table_among (slice_set kept place None)), own_removed kept place)

own_last : (table : Table) (known : Known) → own_of (table ++ entry_of known ∷ []) ≡ own_of table + own_if known.builtin
own_last [] known = own_first known [] ∙ omega arith
own_last (entry ∷ table) known =
    omega (
      arith,
      sum_by-cons (λ (e : Entry). cond (not e.builtin) 1 0) entry (table ++ entry_of known ∷ []),
      sum_by-cons (λ (e : Entry). cond (not e.builtin) 1 0) entry table,
      own_last table known,
    )

-- ## One more place

table_with_none : (kept : Kept) → table_among (kept ++ None ∷ []) ≡ table_among kept
table_with_none [] = refl
table_with_none (None ∷ kept) = table_with_none kept
table_with_none (Some known ∷ kept) = ap (λ (table : Table). entry_of known ∷ table) (table_with_none kept)

table_with_one : (kept : Kept) (known : Known) → table_among (kept ++ Some known ∷ []) ≡ with_macro (table_among kept) (plain_macro known.made) known.builtin
table_with_one [] known = refl
table_with_one (None ∷ kept) known = table_with_one kept known
table_with_one (Some first ∷ kept) known = ap (λ (table : Table). entry_of first ∷ table) (table_with_one kept known)

filled : (kept : Kept) (entry : Option Known) → slice_set (kept ++ None ∷ []) (length kept) entry ≡ kept ++ entry ∷ []
filled [] entry = refl
filled (first ∷ kept) entry = ap (λ (l : Kept). first ∷ l) (filled kept entry)

name_before : (kept more : Kept) (place : ℕ) (name : Text) → kept_name kept place ≡ Some name → kept_name (kept ++ more) place ≡ Some name
name_before [] more place name is = absurd cc
name_before (entry ∷ kept) more zero name is = is
name_before (entry ∷ kept) more (suc place) name is = name_before kept more place name is

name_last : (kept : Kept) (known : Known) → kept_name (kept ++ Some known ∷ []) (length kept) ≡ Some (name_of known)
name_last [] known = refl
name_last (entry ∷ kept) known = name_last kept known

-- a name stands at one of the places before, or at the last one
abbrev StandsIn : Kept → Option Known → ℕ → Text → Type 0
StandsIn kept entry place name = (kept_name kept place ≡ Some name) ⊎ ((place ≡ length kept) × (option_map name_of entry ≡ Some name))

stands_in : (kept : Kept) (entry : Option Known) (place : ℕ) (name : Text) → kept_name (kept ++ entry ∷ []) place ≡ Some name → StandsIn kept entry place name
stands_in [] entry zero name is = inr (refl, is)
stands_in [] entry (suc place) name is = absurd cc
stands_in (first ∷ kept) entry zero name is = inl is
stands_in (first ∷ kept) entry (suc place) name is = go (stands_in kept entry place name is)
  where
    go : StandsIn kept entry place name → StandsIn (first ∷ kept) entry (suc place) name
    go (inl stands) = inl stands
    go (inr (last, named)) = inr (ap (λ (n : ℕ). suc n) last, named)

-- ## One place less

none_left : (kept : Kept) (place : ℕ) (name : Text) → kept_name (slice_set kept place None) place ≡ Some name → ⊥
none_left [] place name is = cc
none_left (entry ∷ kept) zero name is = cc
none_left (entry ∷ kept) (suc place) name is = none_left kept place name is

was_there : (kept : Kept) (place other : ℕ) (name : Text) → kept_name (slice_set kept place None) other ≡ Some name → kept_name kept other ≡ Some name
was_there [] place other name is = absurd cc
was_there (entry ∷ kept) zero zero name is = absurd cc
was_there (entry ∷ kept) zero (suc other) name is = is
was_there (entry ∷ kept) (suc place) zero name is = is
was_there (entry ∷ kept) (suc place) (suc other) name is = was_there kept place other name is

still_there : (kept : Kept) (place other : ℕ) (name : Text) → (other ≡ place → ⊥) → kept_name kept other ≡ Some name → kept_name (slice_set kept place None) other ≡ Some name
still_there [] place other name apart is = absurd cc
still_there (entry ∷ kept) zero zero name apart is = absurd (apart refl)
still_there (entry ∷ kept) zero (suc other) name apart is = is
still_there (entry ∷ kept) (suc place) zero name apart is = is
still_there (entry ∷ kept) (suc place) (suc other) name apart is = still_there kept place other name (λ e. apart (ap (λ (n : ℕ). suc n) e)) is

-- ## Places of names

-- a way to find names finds each where its macro is
abbrev Finds : Kept → (Text → Option ℕ) → Type 0
Finds kept at = (name : Text) (place : ℕ) → IsFoundAt kept (at name) name place

module _ (kept : Kept) (at : Text → Option ℕ) (finds : Finds kept at) where
  only_at : (name : Text) (place : ℕ) → at name ≡ Some place → IsOnlyAt name kept place
  only_at name place is other stands = let e : Some other ≡ Some place = sym ((finds name other).back stands) ∙ is in cc

  nowhere : (name : Text) → at name ≡ None → IsNowhere name kept
  nowhere name none place stands = let e : None ≡ Some place = sym none ∙ (finds name place).back stands in cc

  with_none : Finds (kept ++ None ∷ []) at
  with_none name place = record {
    there = λ is. name_before kept (None ∷ []) place name ((finds name place).there is);
    back = λ is. go (stands_in kept None place name is);
  }
    where
      go : StandsIn kept None place name → at name ≡ Some place
      go (inl stands) = (finds name place).back stands
      go (inr (last, named)) = absurd cc

  module _ (known : Known) (at' : Text → Option ℕ) (none : at (name_of known) ≡ None) (more : (name : Text) → at' name ≡ cond (bytes_eq (name_of known) name) (Some (length kept)) (at name)) where
    with_one : Finds (kept ++ Some known ∷ []) at'
    with_one name place = record {
      there = λ is. there (bytes_eq (name_of known) name) refl (sym (more name) ∙ is);
      back = λ is. more name ∙ back (stands_in kept (Some known) place name is);
    }
      where
        there : (b : Bool) → bytes_eq (name_of known) name ≡ b → cond b (Some (length kept)) (at name) ≡ Some place → kept_name (kept ++ Some known ∷ []) place ≡ Some name
        there true e is =
            let last : length kept ≡ place = cc in
            subst (λ (n : ℕ). kept_name (kept ++ Some known ∷ []) n ≡ Some name) last (name_last kept known ∙ ap (λ (text : Text). Some text) (same (name_of known) name e))
        there false e is = name_before kept (Some known ∷ []) place name ((finds name place).there is)

        other : (b : Bool) → bytes_eq (name_of known) name ≡ b → at name ≡ Some place → cond b (Some (length kept)) (at name) ≡ Some place
        other true e is =
            let none' : at name ≡ None = subst (λ (text : Text). at text ≡ None) (same (name_of known) name e) none in
            let clash : Some place ≡ None = sym is ∙ none' in
            absurd cc
        other false e is = is

        back : StandsIn kept (Some known) place name → cond (bytes_eq (name_of known) name) (Some (length kept)) (at name) ≡ Some place
        back (inl stands) = other (bytes_eq (name_of known) name) refl ((finds name place).back stands)
        back (inr (last, named)) =
            let e : name_of known ≡ name = cc in
            ap (λ (b : Bool). cond b (Some (length kept)) (at name)) (equal (name_of known) name e) ∙ ap (λ (n : ℕ). Some n) (sym last)

  module _ (gone : Text) (empty : ℕ) (at' : Text → Option ℕ) (is_at : at gone ≡ Some empty) (less : (name : Text) → at' name ≡ cond (bytes_eq gone name) None (at name)) where
    with_gone : Finds (slice_set kept empty None) at'
    with_gone name place = record {
      there = λ is. there (bytes_eq gone name) refl (sym (less name) ∙ is);
      back = λ is. less name ∙ back (bytes_eq gone name) refl is;
    }
      where
        there : (b : Bool) → bytes_eq gone name ≡ b → cond b None (at name) ≡ Some place → kept_name (slice_set kept empty None) place ≡ Some name
        there true e is = absurd cc
        there false e is = still_there kept empty place name (λ here. absurd (apart here)) ((finds name place).there is)
          where
            apart : place ≡ empty → ⊥
            apart here =
                let stands : kept_name kept empty ≡ Some name = subst (λ (n : ℕ). kept_name kept n ≡ Some name) here ((finds name place).there is) in
                let both : Some gone ≡ Some name = sym ((finds gone empty).there is_at) ∙ stands in
                let one : gone ≡ name = cc in
                let clash : true ≡ false = sym (equal gone name one) ∙ e in
                cc

        back : (b : Bool) → bytes_eq gone name ≡ b → kept_name (slice_set kept empty None) place ≡ Some name → cond b None (at name) ≡ Some place
        back true e is =
            let one : gone ≡ name = same gone name e in
            let here : place ≡ empty = only_at gone empty is_at place (subst (λ (text : Text). kept_name kept place ≡ Some text) (sym one) (was_there kept empty place name is)) in
            absurd (none_left kept empty name (subst (λ (n : ℕ). kept_name (slice_set kept empty None) n ≡ Some name) here is))
        back false e is = (finds name place).back (was_there kept empty place name is)

  module _ (gone : Text) (at' : Text → Option ℕ) (none : at gone ≡ None) (less : (name : Text) → at' name ≡ cond (bytes_eq gone name) None (at name)) where
    with_nothing_gone : Finds kept at'
    with_nothing_gone name place = record { there = λ is. (finds name place).there (sym as_before ∙ is); back = λ is. as_before ∙ (finds name place).back is }
      where
        go : (b : Bool) → bytes_eq gone name ≡ b → cond b None (at name) ≡ at name
        go true e = sym none ∙ ap at (same gone name e)
        go false e = refl

        as_before : at' name ≡ at name
        as_before = less name ∙ go (bytes_eq gone name) refl

-- a place where a name stands is one of those that there are
within : (kept : Kept) (place : ℕ) (name : Text) → kept_name kept place ≡ Some name → place < length kept
within [] place name is = absurd cc
within (entry ∷ kept) zero name is = omega arith
within (entry ∷ kept) (suc place) name is = omega (arith, within kept place name is)

-- ## What the functions of the table answer

-- what is found of a name is its macro
pub found_is : {S : Type 0} (kept : Kept) (places : HashMap (Bor Text) ℕ S) (name : Text) (place : ℕ) → NamesAreFound kept places → at_text places name ≡ Some place →
    option_map plain_known (kept_at kept place) ≡ macro_named name (table_among kept)
found_is kept places name place placed is = sym (named_at name kept place ((placed name place).there is) (only_at kept (at_text places) placed name place is))

-- a name that isn't found has none
pub nothing_found : {S : Type 0} (kept : Kept) (places : HashMap (Bor Text) ℕ S) (name : Text) → NamesAreFound kept places → at_text places name ≡ None → None ≡ macro_named name (table_among kept)
nothing_found kept places name placed is = sym (none_named name kept (nowhere kept (at_text places) placed name is))

-- what holds of the macros that are kept after one of them was undefined
pub record IsUndefined {S : Type 0} (name : Text) (old new : Kept) (places : HashMap (Bor Text) ℕ S) (removed : Option Known) : Type 0 where
  pub placed : NamesAreFound new places
  pub counted : own_of (table_among old) ≡ own_of_one removed + own_of (table_among new)
  pub table : table_among new ≡ without_macro (table_among old) name

pub is_undefined : {S : Type 0} (name : Text) (kept new : Kept) (old places : HashMap (Bor Text) ℕ S) (place : ℕ) (removed : Option Known) → NamesAreFound kept old → Some place ≡ at_text old name →
    UpdatesBy (λ (x y : Bor Text). bytes_eq x.now y.now) (λ (key : Bor Text). bytes_eq name key.now) old places None → new ≡ slice_set kept place None → removed ≡ kept_at kept place →
    IsUndefined name kept new places removed
is_undefined name kept new old places place removed placed is updates set taken = record {
  placed = subst (λ (l : Kept). NamesAreFound l places) (sym set) (with_gone kept (at_text old) placed name place (at_text places) (sym is) (hash_map_updates_str name old places None updates));
  counted = own_removed kept place ∙ ap (λ (o : Option Known). own_of_one o + own_of (table_among (slice_set kept place None))) (sym taken) ∙ ap (λ (l : Kept). own_of_one removed + own_of (table_among l)) (sym set);
  table = ap table_among set ∙ one_removed name kept place ((placed name place).there (sym is)) (only_at kept (at_text old) placed name place (sym is));
}

-- a place that is found is one of those that there are
pub place_within : {S : Type 0} (name : Text) (kept : Kept) (old : HashMap (Bor Text) ℕ S) (place : ℕ) → NamesAreFound kept old → Some place ≡ at_text old name → place < length kept
place_within name kept old place placed is = within kept place name ((placed name place).there (sym is))

-- what holds of them after the macro of a name that has none was undefined
pub record IsNotUndefined {S : Type 0} (name : Text) (kept : Kept) (places : HashMap (Bor Text) ℕ S) : Type 0 where
  pub placed : NamesAreFound kept places
  pub table : table_among kept ≡ without_macro (table_among kept) name

pub is_not_undefined : {S : Type 0} (name : Text) (kept : Kept) (old places : HashMap (Bor Text) ℕ S) → NamesAreFound kept old → None ≡ at_text old name →
    UpdatesBy (λ (x y : Bor Text). bytes_eq x.now y.now) (λ (key : Bor Text). bytes_eq name key.now) old places None → IsNotUndefined name kept places
is_not_undefined name kept old places placed is updates = record {
  placed = with_nothing_gone kept (at_text old) placed name (at_text places) (sym is) (hash_map_updates_str name old places None updates);
  table = nothing_removed name kept (nowhere kept (at_text old) placed name (sym is));
}

-- the same entries have the same places
pub placed_along : {S : Type 0} (kept kept' : Kept) (places places' : HashMap (Bor Text) ℕ S) → kept' ≡ kept → places'.entries ≡ places.entries → NamesAreFound kept places → NamesAreFound kept' places'
placed_along kept kept' places places' same_kept same_places placed =
    subst (λ (l : Kept). NamesAreFound l places') (sym same_kept)
    (subst (λ (entries : List (Bor Text × ℕ)). (name : Text) (place : ℕ) → IsFoundAt kept (lookup (λ (key : Bor Text). bytes_eq name key.now) entries) name place) (sym same_places) placed)

-- an empty place is put after the others
pub record IsWider {S : Type 0} (old new : Kept) (places : HashMap (Bor Text) ℕ S) : Type 0 where
  pub placed : NamesAreFound new places
  pub table : table_among new ≡ table_among old

pub is_wider : {S : Type 0} (kept new : Kept) (places : HashMap (Bor Text) ℕ S) → NamesAreFound kept places → new ≡ kept ++ None ∷ [] → IsWider kept new places
is_wider kept new places placed more = record {
  placed = subst (λ (l : Kept). NamesAreFound l places) (sym more) (with_none kept (at_text places) placed);
  table = ap table_among more ∙ table_with_none kept;
}

-- what holds of the macros that are kept after one more was defined
pub record IsDefined {S : Type 0} (made : PlainMacro) (builtin : Bool) (old new : Kept) (places : HashMap (Bor Text) ℕ S) : Type 0 where
  pub placed : NamesAreFound new places
  pub counted : own_of (table_among new) ≡ own_of (table_among old) + own_if builtin
  pub few : own_of (table_among old) + own_if builtin ≤ length old + 1
  pub table : table_among new ≡ with_macro (table_among old) made builtin

pub is_defined : {S : Type 0} (known : Known) (kept wider new : Kept) (old places : HashMap (Bor Text) ℕ S) (place : ℕ) → new ≡ slice_set wider place (Some known) → NamesAreFound kept old →
    macro_named (name_of known) (table_among kept) ≡ None → place ≡ length kept → wider ≡ kept ++ None ∷ [] →
    UpdatesBy (λ (x y : Bor Text). bytes_eq x.now y.now) (λ (key : Bor Text). bytes_eq (name_of known) key.now) old places (Some place) → IsDefined (plain_macro known.made) known.builtin kept new places
is_defined known kept wider new old places place set placed none last more updates =
    let whole : new ≡ kept ++ Some known ∷ [] = set ∙ ap (λ (l : Kept). slice_set l place (Some known)) more ∙ ap (λ (n : ℕ). slice_set (kept ++ None ∷ []) n (Some known)) last ∙ filled kept (Some known) in
    let table : table_among new ≡ with_macro (table_among kept) (plain_macro known.made) known.builtin = ap table_among whole ∙ table_with_one kept known in
    record {
      placed = subst (λ (l : Kept). NamesAreFound l places) (sym whole)
          (with_one kept (at_text old) placed known (at_text places) (unknown (at_text old (name_of known)) refl)
          (λ name. hash_map_updates_str (name_of known) old places (Some place) updates name ∙ ap (λ (n : ℕ). cond (bytes_eq (name_of known) name) (Some n) (at_text old name)) last));
      counted = ap own_of table ∙ own_last (table_among kept) known;
      few = omega (arith, own_few kept, own_one known.builtin);
      table = table;
    }
  where
    unknown : (found : Option ℕ) → at_text old (name_of known) ≡ found → found ≡ None
    unknown None is = refl
    unknown (Some place') is = absurd (there (kept_at kept place') ((placed (name_of known) place').there is) (found_is kept old (name_of known) place' placed is ∙ none))
      where
        there : (o : Option Known) → option_map name_of o ≡ Some (name_of known) → option_map plain_known o ≡ None → ⊥
        there None named none' = cc
        there (Some other) named none' = cc

-- ## Lists that are the same

pairs_along : {A B : Type 0} (view : A → B) (test : B → B → Bool) (these those : List A) →
    list_all (λ (pair : B × B). test pair.0 pair.1) (zip (map view these) (map view those)) ≡ list_all (λ (pair : A × A). test (view pair.0) (view pair.1)) (zip these those)
pairs_along view test [] those = refl
pairs_along view test (this ∷ these) [] = refl
pairs_along view test (this ∷ these) (that ∷ those) = ap (λ (b : Bool). test (view this) (view that) && b) (pairs_along view test these those)

-- lists are the same by a test of what their elements are
pub lists_same : {A B : Type 0} (view : A → B) (test : B → B → Bool) (these those : List A) (result : Bool) → length these ≡ length those →
    result ≡ list_all (λ (pair : A × A). test (view pair.0) (view pair.1)) (zip these those) → result ≡ same_lists test (map view these) (map view those)
lists_same {A} {B} view test these those result many is =
    let as_many : (length (map view these) == length (map view those)) ≡ true = grind (arith, nat_tests, many, length-map these view, length-map those view) in
    is ∙ sym (pairs_along view test these those) ∙ ap (λ (b : Bool). b && list_all (λ (pair : B × B). test pair.0 pair.1) (zip (map view these) (map view those))) (sym as_many)
