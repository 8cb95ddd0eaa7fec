-- What keeps names linked: a new spelling, one more entry, one entry less.
use Rattle.std.proofs.Common.{◌≡◌, ◌≢◌, ℕ, zero, suc, ◌+◌, ◌-◌, ◌<◌, ◌≤◌, Bool, true, false, if◌then◌else◌, Option, Some, None, List, [], ◌∷◌, ◌++◌, length, take, set, bytes_eq, slice_get, refl, sym, ◌∙◌, ap, subst, cond, arith, ◌⊎◌, inl, inr}
use Rattle.std.specs.List.{list_any}
use Rattle.p10_base.specs.Words.{Text}
use Rattle.p10_base.specs.Names.{place_in, with_name}
use Rattle.p10_base.proofs.Naming.{same_text, place_before, same_place, place_stays, place_new}
use Rattle.p10_bindings.specs.declared.entry.Entry.{Entry}
use Rattle.p10_bindings.specs.Bound.{bound_of}
use Rattle.p10_bindings.specs.private.Links.{last_place, written, IsLinked}

-- ## Elements of lists

get_within : {A : Type 0} (xs ys : List A) (i : ℕ) → i < length xs → slice_get (xs ++ ys) i ≡ slice_get xs i
get_within [] ys i h = absurd (omega (arith, h))
get_within (x ∷ xs) ys zero h = refl
get_within (x ∷ xs) ys (suc i) h = get_within xs ys i (omega (arith, h))

get_end : {A : Type 0} (xs : List A) (y : A) → slice_get (xs ++ y ∷ []) (length xs) ≡ Some y
get_end [] y = refl
get_end (x ∷ xs) y = get_end xs y

get_cases : {A : Type 0} (xs : List A) (y : A) (i : ℕ) (x : A) → slice_get (xs ++ y ∷ []) i ≡ Some x → (slice_get xs i ≡ Some x) ⊎ ((i ≡ length xs) × (y ≡ x))
get_cases [] y zero x e = inr (refl, cc)
get_cases [] y (suc i) x e = absurd cc
get_cases (z ∷ xs) y zero x e = inl e
get_cases (z ∷ xs) y (suc i) x e = elim (get_cases xs y i x e) [ inl p ↦ inl p | inr p ↦ inr (ap suc p.0, p.1) ]

get_below : {A : Type 0} (xs : List A) (i : ℕ) (x : A) → slice_get xs i ≡ Some x → i < length xs
get_below [] i x e = absurd cc
get_below (z ∷ xs) zero x e = omega arith
get_below (z ∷ xs) (suc i) x e = let h : i < length xs = get_below xs i x e in omega arith

set_same : {A : Type 0} (xs : List A) (i : ℕ) (a : A) → i < length xs → slice_get (set xs i a) i ≡ Some a
set_same [] i a h = absurd (omega (arith, h))
set_same (x ∷ xs) zero a h = refl
set_same (x ∷ xs) (suc i) a h = set_same xs i a (omega (arith, h))

set_other : {A : Type 0} (xs : List A) (i k : ℕ) (a : A) → k ≢ i → slice_get (set xs i a) k ≡ slice_get xs k
set_other [] i k a h = refl
set_other (x ∷ xs) zero zero a h = absurd (h refl)
set_other (x ∷ xs) zero (suc k) a h = refl
set_other (x ∷ xs) (suc i) zero a h = refl
set_other (x ∷ xs) (suc i) (suc k) a h = set_other xs i k a (λ e. h (ap suc e))

set_length : {A : Type 0} (xs : List A) (i : ℕ) (a : A) → length (set xs i a) ≡ length xs
set_length [] i a = refl
set_length (x ∷ xs) zero a = refl
set_length (x ∷ xs) (suc i) a = ap suc (set_length xs i a)

append_length : {A : Type 0} (xs : List A) (y : A) → length (xs ++ y ∷ []) ≡ suc (length xs)
append_length [] y = refl
append_length (x ∷ xs) y = ap suc (append_length xs y)

take_within : {A : Type 0} (xs ys : List A) (i : ℕ) → i ≤ length xs → take i (xs ++ ys) ≡ take i xs
take_within [] [] zero h = refl
take_within [] (y ∷ ys) zero h = refl
take_within [] ys (suc i) h = absurd (omega (arith, h))
take_within (x ∷ xs) ys zero h = refl
take_within (x ∷ xs) ys (suc i) h = ap (λ zs. x ∷ zs) (take_within xs ys i (omega (arith, h)))

take_whole : {A : Type 0} (xs ys : List A) → take (length xs) (xs ++ ys) ≡ xs
take_whole [] [] = refl
take_whole [] (y ∷ ys) = refl
take_whole (x ∷ xs) ys = ap (λ zs. x ∷ zs) (take_whole xs ys)

-- ## Spellings

not_before : (spellings : List Text) (name other : Text) → place_in (with_name spellings name) other ≡ None → place_in spellings other ≡ None
not_before spellings name other e =
    elim (place_in spellings other) as (λ o. place_in spellings other ≡ o → o ≡ None) [
      | None ↦ λ is. refl
      | Some place ↦ λ is. absurd (let there : place_in (with_name spellings name) other ≡ Some place = place_stays spellings name other place is in cc)
    ] refl

same_spelling : (spellings : List Text) (a b : Text) (p q : ℕ) → place_in spellings a ≡ Some p → place_in spellings b ≡ Some q → bytes_eq a b ≡ true → q ≡ p
same_spelling spellings a b p q e f h =
    let g : place_in spellings b ≡ Some p = subst (λ t. place_in spellings t ≡ Some p) (same_text a b h) e in cc

other_spelling : (spellings : List Text) (a b : Text) (p q : ℕ) → place_in spellings a ≡ Some p → place_in spellings b ≡ Some q → bytes_eq a b ≡ false → q ≢ p
other_spelling spellings a b p q e f h same =
    let g : place_in spellings b ≡ Some p = f ∙ ap Some same in
    let yes : bytes_eq a b ≡ true = same_place spellings a b p e g in cc

at_most_one : (b : Bool) (xs : List Text) (y : Text) → length (cond b xs (xs ++ y ∷ [])) ≤ suc (length xs)
at_most_one true xs y = omega arith
at_most_one false xs y = let h : length (xs ++ y ∷ []) ≡ suc (length xs) = append_length xs y in omega arith

grown : (spellings : List Text) (name : Text) (place : ℕ) → place_in spellings name ≡ None → place_in (with_name spellings name) name ≡ Some place → length (with_name spellings name) ≡ suc (length spellings)
grown spellings name place e f =
    let at_end : place ≡ length spellings = (place_new spellings name name e place f).0 in
    let low : place < length (with_name spellings name) = place_before (with_name spellings name) name place f in
    let high : length (with_name spellings name) ≤ suc (length spellings) = at_most_one (list_any (bytes_eq name) spellings) spellings name in
    omega arith

module _ {T : Type 0} where
  -- ## The last entry

  last_append : (found : Option ℕ) (i : ℕ) (name : Text) (xs : List (Entry T)) (e : Entry T) →
      last_place found i name (xs ++ e ∷ []) ≡ (if bytes_eq e.name.now name then Some (i + length xs) else last_place found i name xs)
  last_append found i name [] e =
      let same : i ≡ i + 0 = omega arith in ap (λ n. if bytes_eq e.name.now name then Some n else found) same
  last_append found i name (x ∷ xs) e =
      let same : i + 1 + length xs ≡ i + suc (length xs) = omega arith in
      last_append (if bytes_eq x.name.now name then Some i else found) (i + 1) name xs e
      ∙ ap (λ n. if bytes_eq e.name.now name then Some n else last_place (if bytes_eq x.name.now name then Some i else found) (i + 1) name xs) same

  last_same : (name : Text) (xs : List (Entry T)) (e : Entry T) → bytes_eq e.name.now name ≡ true → last_place None 0 name (xs ++ e ∷ []) ≡ Some (length xs)
  last_same name xs e h =
      let same : 0 + length xs ≡ length xs = omega arith in
      last_append None 0 name xs e ∙ ap (λ b. if b then Some (0 + length xs) else last_place None 0 name xs) h ∙ ap Some same

  last_other : (name : Text) (xs : List (Entry T)) (e : Entry T) → bytes_eq e.name.now name ≡ false → last_place None 0 name (xs ++ e ∷ []) ≡ last_place None 0 name xs
  last_other name xs e h = last_append None 0 name xs e ∙ ap (λ b. if b then Some (0 + length xs) else last_place None 0 name xs) h

  -- ## A new spelling

  known_after : (spellings : List Text) (last : List (Option ℕ)) (entries : List (Entry T)) (name : Text) → IsLinked spellings last entries → (other : Text) (place : ℕ) →
      place_in (with_name spellings name) other ≡ Some place → (o : Option ℕ) → place_in spellings other ≡ o → written (slice_get (last ++ None ∷ []) place) ≡ last_place None 0 other entries
  known_after spellings last entries name w other place e None is =
      let new = place_new spellings name other is place e in
      let at_end : place ≡ length last = new.0 ∙ sym w.same in
      ap (λ n. written (slice_get (last ++ None ∷ []) n)) at_end ∙ ap written (get_end last None) ∙ sym (w.unknown other is)
  known_after spellings last entries name w other place e (Some q) is =
      let stays : place_in (with_name spellings name) other ≡ Some q = place_stays spellings name other q is in
      let same : q ≡ place = cc in
      let low : q < length spellings = place_before spellings other q is in
      let below : q < length last = subst (λ n. q < n) (sym w.same) low in
      ap (λ n. written (slice_get (last ++ None ∷ []) n)) (sym same) ∙ ap written (get_within last (None ∷ []) q below) ∙ w.known other q is

  pub linked_spelling : (spellings : List Text) (last : List (Option ℕ)) (entries : List (Entry T)) (name : Text) → IsLinked spellings last entries → length (with_name spellings name) ≡ suc (length spellings) →
      IsLinked (with_name spellings name) (last ++ None ∷ []) entries
  linked_spelling spellings last entries name w longer = record {
    same = append_length last None ∙ ap suc w.same ∙ sym longer;
    known = λ other place e. known_after spellings last entries name w other place e (place_in spellings other) refl;
    unknown = λ other e. w.unknown other (not_before spellings name other e);
    spelled = λ i e is. place_stays spellings name e.name.now e.spelling (w.spelled i e is);
    before = w.before;
  }

  -- ## One more entry

  known_more : (spellings : List Text) (last : List (Option ℕ)) (xs : List (Entry T)) (e : Entry T) → IsLinked spellings last xs → place_in spellings e.name.now ≡ Some e.spelling → (name : Text) (place : ℕ) →
      place_in spellings name ≡ Some place → (b : Bool) → bytes_eq e.name.now name ≡ b → written (slice_get (set last e.spelling (Some (length xs))) place) ≡ last_place None 0 name (xs ++ e ∷ [])
  known_more spellings last xs e w at name place f true h =
      let same : place ≡ e.spelling = same_spelling spellings e.name.now name e.spelling place at f h in
      let below : e.spelling < length last = subst (λ n. e.spelling < n) (sym w.same) (place_before spellings e.name.now e.spelling at) in
      ap (λ n. written (slice_get (set last e.spelling (Some (length xs))) n)) same ∙ ap written (set_same last e.spelling (Some (length xs)) below) ∙ sym (last_same name xs e h)
  known_more spellings last xs e w at name place f false h =
      ap written (set_other last e.spelling place (Some (length xs)) (other_spelling spellings e.name.now name e.spelling place at f h))
      ∙ w.known name place f ∙ sym (last_other name xs e h)

  unknown_more : (spellings : List Text) (last : List (Option ℕ)) (xs : List (Entry T)) (e : Entry T) → IsLinked spellings last xs → place_in spellings e.name.now ≡ Some e.spelling → (name : Text) →
      place_in spellings name ≡ None → (b : Bool) → bytes_eq e.name.now name ≡ b → last_place None 0 name (xs ++ e ∷ []) ≡ None
  unknown_more spellings last xs e w at name f true h =
      absurd (let g : place_in spellings name ≡ Some e.spelling = subst (λ t. place_in spellings t ≡ Some e.spelling) (same_text e.name.now name h) at in cc)
  unknown_more spellings last xs e w at name f false h = last_other name xs e h ∙ w.unknown name f

  spelled_more : (spellings : List Text) (last : List (Option ℕ)) (xs : List (Entry T)) (e : Entry T) → IsLinked spellings last xs → place_in spellings e.name.now ≡ Some e.spelling → (i : ℕ) (x : Entry T) →
      slice_get (xs ++ e ∷ []) i ≡ Some x → place_in spellings x.name.now ≡ Some x.spelling
  spelled_more spellings last xs e w at i x is = elim (get_cases xs e i x is) [ inl p ↦ w.spelled i x p | inr p ↦ subst (λ (y : Entry T). place_in spellings y.name.now ≡ Some y.spelling) p.1 at ]

  before_more : (spellings : List Text) (last : List (Option ℕ)) (xs : List (Entry T)) (e : Entry T) → IsLinked spellings last xs → e.earlier ≡ last_place None 0 e.name.now xs → (i : ℕ) (x : Entry T) →
      slice_get (xs ++ e ∷ []) i ≡ Some x → x.earlier ≡ last_place None 0 x.name.now (take i (xs ++ e ∷ []))
  before_more spellings last xs e w at i x is = elim (get_cases xs e i x is) [
    | inl p ↦ let low : i < length xs = get_below xs i x p in
        w.before i x p ∙ ap (last_place None 0 x.name.now) (sym (take_within xs (e ∷ []) i (omega (arith, low))))
    | inr p ↦ subst (λ (y : Entry T). y.earlier ≡ last_place None 0 y.name.now (take i (xs ++ e ∷ []))) p.1
        (at ∙ ap (last_place None 0 e.name.now) (sym (ap (λ n. take n (xs ++ e ∷ [])) p.0 ∙ take_whole xs (e ∷ []))))
  ]

  pub linked_entry : (spellings : List Text) (last : List (Option ℕ)) (xs : List (Entry T)) (e : Entry T) → IsLinked spellings last xs → place_in spellings e.name.now ≡ Some e.spelling →
      e.earlier ≡ written (slice_get last e.spelling) → IsLinked spellings (set last e.spelling (Some (length xs))) (xs ++ e ∷ [])
  linked_entry spellings last xs e w at old = record {
    same = set_length last e.spelling (Some (length xs)) ∙ w.same;
    known = λ name place f. known_more spellings last xs e w at name place f (bytes_eq e.name.now name) refl;
    unknown = λ name f. unknown_more spellings last xs e w at name f (bytes_eq e.name.now name) refl;
    spelled = spelled_more spellings last xs e w at;
    before = before_more spellings last xs e w (old ∙ w.known e.name.now e.spelling at);
  }

  -- ## One entry less

  known_less : (spellings : List Text) (last : List (Option ℕ)) (xs : List (Entry T)) (e : Entry T) → IsLinked spellings last (xs ++ e ∷ []) → (name : Text) (place : ℕ) →
      place_in spellings name ≡ Some place → (b : Bool) → bytes_eq e.name.now name ≡ b → written (slice_get (set last e.spelling e.earlier) place) ≡ last_place None 0 name xs
  known_less spellings last xs e w name place f true h =
      let at : place_in spellings e.name.now ≡ Some e.spelling = w.spelled (length xs) e (get_end xs e) in
      let same : place ≡ e.spelling = same_spelling spellings e.name.now name e.spelling place at f h in
      let below : e.spelling < length last = subst (λ n. e.spelling < n) (sym w.same) (place_before spellings e.name.now e.spelling at) in
      let old : e.earlier ≡ last_place None 0 e.name.now xs = w.before (length xs) e (get_end xs e) ∙ ap (last_place None 0 e.name.now) (take_whole xs (e ∷ [])) in
      ap (λ n. written (slice_get (set last e.spelling e.earlier) n)) same ∙ ap written (set_same last e.spelling e.earlier below) ∙ old
      ∙ ap (λ t. last_place None 0 t xs) (same_text e.name.now name h)
  known_less spellings last xs e w name place f false h =
      let at : place_in spellings e.name.now ≡ Some e.spelling = w.spelled (length xs) e (get_end xs e) in
      ap written (set_other last e.spelling place e.earlier (other_spelling spellings e.name.now name e.spelling place at f h))
      ∙ w.known name place f ∙ last_other name xs e h

  unknown_less : (spellings : List Text) (last : List (Option ℕ)) (xs : List (Entry T)) (e : Entry T) → IsLinked spellings last (xs ++ e ∷ []) → (name : Text) →
      place_in spellings name ≡ None → (b : Bool) → bytes_eq e.name.now name ≡ b → last_place None 0 name xs ≡ None
  unknown_less spellings last xs e w name f true h =
      absurd (let g : Some (length xs) ≡ None = sym (last_same name xs e h) ∙ w.unknown name f in cc)
  unknown_less spellings last xs e w name f false h = sym (last_other name xs e h) ∙ w.unknown name f

  pub linked_less : (spellings : List Text) (last : List (Option ℕ)) (xs : List (Entry T)) (e : Entry T) → IsLinked spellings last (xs ++ e ∷ []) → IsLinked spellings (set last e.spelling e.earlier) xs
  linked_less spellings last xs e w = record {
    same = set_length last e.spelling e.earlier ∙ w.same;
    known = λ name place f. known_less spellings last xs e w name place f (bytes_eq e.name.now name) refl;
    unknown = λ name f. unknown_less spellings last xs e w name f (bytes_eq e.name.now name) refl;
    spelled = λ i x is. w.spelled i x (get_within xs (e ∷ []) i (get_below xs i x is) ∙ is);
    before = λ i x is. let low : i < length xs = get_below xs i x is in
        w.before i x (get_within xs (e ∷ []) i low ∙ is) ∙ ap (last_place None 0 x.name.now) (take_within xs (e ∷ []) i (omega (arith, low)));
  }

  -- ## As the code writes it

  -- a spelling that wasn't there, with no entry yet
  pub linked_new : (spellings more : List Text) (last longer : List (Option ℕ)) (entries : List (Entry T)) (name : Text) (place : ℕ) → IsLinked spellings last entries →
      None ≡ place_in spellings name → more ≡ with_name spellings name → longer ≡ last ++ None ∷ [] → place_in more name ≡ Some place → IsLinked more longer entries
  linked_new spellings more last longer entries name place w e m l f =
      let g : place_in (with_name spellings name) name ≡ Some place = subst (λ (xs : List Text). place_in xs name ≡ Some place) m f in
      let all : IsLinked (with_name spellings name) (last ++ None ∷ []) entries = linked_spelling spellings last entries name w (grown spellings name place (sym e) g) in
      subst (λ (xs : List Text). IsLinked xs longer entries) (sym m) (subst (λ (xs : List (Option ℕ)). IsLinked (with_name spellings name) xs entries) (sym l) all)

  -- one more entry of a spelling
  pub linked_more : (spellings : List Text) (last : List (Option ℕ)) (before after : List (Entry T)) (e : Entry T) (place : ℕ) → IsLinked spellings last before → place_in spellings e.name.now ≡ Some e.spelling →
      e.earlier ≡ written (slice_get last e.spelling) → after ≡ before ++ e ∷ [] → place ≡ length before → IsLinked spellings (set last e.spelling (Some place)) after
  linked_more spellings last before after e place w at old is n =
      subst (λ (xs : List (Entry T)). IsLinked spellings (set last e.spelling (Some place)) xs) (sym is)
      (subst (λ k. IsLinked spellings (set last e.spelling (Some k)) (before ++ e ∷ [])) (sym n) (linked_entry spellings last before e w at old))

  -- without the last entry
  pub linked_fewer : (spellings : List Text) (last : List (Option ℕ)) (before after : List (Entry T)) (e : Entry T) (spelling : ℕ) (earlier : Option ℕ) → IsLinked spellings last before →
      before ≡ after ++ e ∷ [] → spelling ≡ e.spelling → earlier ≡ e.earlier → IsLinked spellings (set last spelling earlier) after
  linked_fewer spellings last before after e spelling earlier w is s o =
      subst (λ n. IsLinked spellings (set last n earlier) after) (sym s)
      (subst (λ (x : Option ℕ). IsLinked spellings (set last e.spelling x) after) (sym o) (linked_less spellings last after e (subst (IsLinked spellings last) is w)))

  -- ## Fewer names

  kept_names : (n count : ℕ) (xs : List (Entry T)) → count ≤ n → take count (bound_of xs) ≡ take count (bound_of (take n xs))
  kept_names zero zero [] h = refl
  kept_names zero (suc count) [] h = refl
  kept_names (suc n) zero [] h = refl
  kept_names (suc n) (suc count) [] h = refl
  kept_names zero zero (x ∷ xs) h = refl
  kept_names zero (suc count) (x ∷ xs) h = absurd (omega (arith, h))
  kept_names (suc n) zero (x ∷ xs) h = refl
  kept_names (suc n) (suc count) (x ∷ xs) h = ap (λ ns. (x.name.now, x.what) ∷ ns) (kept_names n count xs (omega (arith, h)))

  -- after the last name is forgotten the names that are kept are the same
  pub kept_on : (first : List (Text × T)) (before after : List (Entry T)) (count : ℕ) → take count first ≡ take count (bound_of before) → count < length before →
      after ≡ take (length before - 1) before → take count first ≡ take count (bound_of after)
  kept_on first before after count so low is =
      so ∙ kept_names (length before - 1) count before (omega (arith, low)) ∙ ap (λ (xs : List (Entry T)). take count (bound_of xs)) (sym is)
