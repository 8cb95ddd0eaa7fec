-- Names in a list, each once, and the places at which they stand.
use Rattle.std.proofs.Common.{◌≡◌, ℕ, ◌+◌, ◌<◌, List, [], ◌∷◌, ◌++◌, map, length, get_or, Bool, true, false, cond, not, ◌||◌, bytes_eq, Some, None, refl, sym, ◌∙◌, ap, subst, Bor, arith}
use Rattle.std.specs.List.{list_any, position, position_from, position_or_len}
use Rattle.std.proofs.Math.Bool.{or-false}
use Rattle.std.proofs.lemmas.List.Folds.{list_any-append}
use Rattle.std.proofs.lemmas.List.Quantifiers.{position-Some}
use Rattle.std.proofs.lemmas.Iterator.Adapters.{position_from-zero}
use Rattle.std.proofs.lemmas.List.{map-append}
use Rattle.std.proofs.lemmas.Slice.Eq.{bytes_eq-Decides}
use Rattle.indexmap.specs.IndexSet.{insert_key}
use Rattle.p10_base.specs.Words.{Text}
use Rattle.p10_base.specs.Names.{with_name, place_in}

pub same_text : (a b : Text) → bytes_eq a b ≡ true → a ≡ b
same_text a b e = (bytes_eq-Decides a b).0 e

-- ## Names that a set keeps as slices

abbrev Keys : Type 0
Keys = List (Bor (List ℕ))

pub keys_any : (keys : Keys) (name : Text) → list_any (λ k. bytes_eq name k.now) keys ≡ list_any (bytes_eq name) (map (λ k. k.now) keys)
keys_any [] name = refl
keys_any (key ∷ keys) name = ap (λ b. bytes_eq name key.now || b) (keys_any keys name)

pub key_added : (keys : Keys) (name : Bor (List ℕ)) → map (λ k. k.now) (insert_key (λ x y. bytes_eq x.now y.now) keys name) ≡ with_name (map (λ k. k.now) keys) name.now
key_added keys name =
    elim (list_any (λ k. bytes_eq name.now k.now) keys) as (λ b. list_any (λ k. bytes_eq name.now k.now) keys ≡ b → map (λ k. k.now) (cond b keys (keys ++ name ∷ [])) ≡ with_name (map (λ k. k.now) keys) name.now) [
      | true ↦ λ e. sym (ap (λ b. cond b (map (λ k. k.now) keys) (map (λ k. k.now) keys ++ name.now ∷ [])) (sym (keys_any keys name.now) ∙ e))
      | false ↦ λ e. map-append (λ (k : Bor (List ℕ)). k.now) keys (name ∷ []) ∙ sym (ap (λ b. cond b (map (λ k. k.now) keys) (map (λ k. k.now) keys ++ name.now ∷ [])) (sym (keys_any keys name.now) ∙ e))
    ] refl

from_keys : (test : Text → Bool) (at : ℕ) (keys : Keys) → position_from (λ k. test k.now) at keys ≡ position_from test at (map (λ k. k.now) keys)
from_keys test at [] = refl
from_keys test at (key ∷ keys) = ap (cond (test key.now) (Some at)) (from_keys test (at + 1) keys)

pub key_place : (keys : Keys) (name : Text) → position (λ k. bytes_eq name k.now) keys ≡ place_in (map (λ k. k.now) keys) name
key_place keys name =
    position_from-zero (λ (k : Bor (List ℕ)). bytes_eq name k.now) keys ∙ from_keys (bytes_eq name) 0 keys ∙ sym (position_from-zero (bytes_eq name) (map (λ k. k.now) keys))

pub key_index : (keys : Keys) (name : Text) → position_or_len (λ k. bytes_eq name k.now) keys ≡ position_or_len (bytes_eq name) (map (λ k. k.now) keys)
key_index [] name = refl
key_index (key ∷ keys) name = ap (λ n. cond (not (bytes_eq name key.now)) (1 + n) 0) (key_index keys name)

-- ## Which names are there

pub has_after : (text name : Text) (names : List Text) → list_any (bytes_eq text) (with_name names name) ≡ (list_any (bytes_eq text) names || bytes_eq text name)
has_after text name names =
    elim (list_any (bytes_eq name) names) as (λ b. list_any (bytes_eq name) names ≡ b → list_any (bytes_eq text) (cond b names (names ++ name ∷ [])) ≡ (list_any (bytes_eq text) names || bytes_eq text name)) [
      | true ↦ λ e. elim (bytes_eq text name) as (λ b. bytes_eq text name ≡ b → list_any (bytes_eq text) names ≡ (list_any (bytes_eq text) names || b)) [
        | true ↦ λ same. let there : list_any (bytes_eq text) names ≡ true = subst (λ t. list_any (bytes_eq t) names ≡ true) (sym (same_text text name same)) e in
            there ∙ sym (ap (λ b. b || true) there)
        | false ↦ λ other. sym (or-false (list_any (bytes_eq text) names))
      ] refl
      | false ↦ λ e. list_any-append (bytes_eq text) names (name ∷ []) ∙ ap (λ b. list_any (bytes_eq text) names || b) (or-false (bytes_eq text name))
    ] refl

place_from : (test : Text → Bool) (at : ℕ) (names : List Text) → list_any test names ≡ true → (place : ℕ) × (position_from test at names ≡ Some place)
place_from test at [] e = absurd cc
place_from test at (name ∷ names) e =
    elim (test name) as (λ b. (b || list_any test names) ≡ true → (place : ℕ) × (cond b (Some at) (position_from test (at + 1) names) ≡ Some place))
    [ true ↦ λ e. (at, refl) | false ↦ λ e. place_from test (at + 1) names e ] e

-- a name that is there has a place
pub has_place : (names : List Text) (name : Text) → list_any (bytes_eq name) names ≡ true → (place : ℕ) × (place_in names name ≡ Some place)
has_place names name e =
    let found = place_from (bytes_eq name) 0 names e in
    (found.0, position_from-zero (bytes_eq name) names ∙ found.1)

-- ## The places of names

place_text : (names : List Text) (name : Text) (place : ℕ) → place_in names name ≡ Some place → (place < length names) × (name ≡ get_or names place [])
place_text names name place e = let found = position-Some (bytes_eq name) names place [] e in (found.0, same_text name (get_or names place []) found.1)

pub place_before : (names : List Text) (other : Text) (place : ℕ) → place_in names other ≡ Some place → place < length names
place_before names other place e = (place_text names other place e).0

-- names at one place are equal
pub same_place : (names : List Text) (this that : Text) (place : ℕ) → place_in names this ≡ Some place → place_in names that ≡ Some place → bytes_eq this that ≡ true
same_place names this that place first second =
    (bytes_eq-Decides this that).1 ((place_text names this place first).1 ∙ sym (place_text names that place second).1)

stays_from : (test : Text → Bool) (at : ℕ) (names : List Text) (name : Text) (place : ℕ) → position_from test at names ≡ Some place → position_from test at (names ++ name ∷ []) ≡ Some place
stays_from test at [] name place e = absurd cc
stays_from test at (first ∷ names) name place e =
    elim (test first) as (λ b. cond b (Some at) (position_from test (at + 1) names) ≡ Some place → cond b (Some at) (position_from test (at + 1) (names ++ name ∷ [])) ≡ Some place)
    [ true ↦ λ e. e | false ↦ λ e. stays_from test (at + 1) names name place e ] e

-- a name stays at its place
pub place_stays : (names : List Text) (name other : Text) → (place : ℕ) → place_in names other ≡ Some place → place_in (with_name names name) other ≡ Some place
place_stays names name other place e =
    elim (list_any (bytes_eq name) names) as (λ b. place_in (cond b names (names ++ name ∷ [])) other ≡ Some place) [
      | true ↦ e
      | false ↦ position_from-zero (bytes_eq other) (names ++ name ∷ [])
          ∙ stays_from (bytes_eq other) 0 names name place (sym (position_from-zero (bytes_eq other) names) ∙ e)
    ]

new_from : (test : Text → Bool) (at : ℕ) (names : List Text) (name : Text) (place : ℕ) → position_from test at names ≡ None → position_from test at (names ++ name ∷ []) ≡ Some place
    → (place ≡ at + length names) × (test name ≡ true)
new_from test at [] name place none e =
    elim (test name) as (λ b. cond b (Some at) None ≡ Some place → (place ≡ at + 0) × (b ≡ true))
    [ true ↦ λ e. let same : at ≡ place = cc in (omega (arith, same), refl) | false ↦ λ e. absurd cc ] e
new_from test at (first ∷ names) name place none e =
    elim (test first) as (λ b. cond b (Some at) (position_from test (at + 1) names) ≡ None → cond b (Some at) (position_from test (at + 1) (names ++ name ∷ [])) ≡ Some place
    → (place ≡ at + length (first ∷ names)) × (test name ≡ true)) [
      | true ↦ λ none e. absurd cc
      | false ↦ λ none e. let behind = new_from test (at + 1) names name place none e in (omega (arith, behind.0), behind.1)
    ] none e

-- a name that is new with another is that one, and stands last
pub place_new : (names : List Text) (name other : Text) → place_in names other ≡ None → (place : ℕ) → place_in (with_name names name) other ≡ Some place → (place ≡ length names) × (bytes_eq other name ≡ true)
place_new names name other none place e =
    elim (list_any (bytes_eq name) names) as (λ b. place_in (cond b names (names ++ name ∷ [])) other ≡ Some place → (place ≡ length names) × (bytes_eq other name ≡ true)) [
      | true ↦ λ e. absurd cc
      | false ↦ λ e. let found = new_from (bytes_eq other) 0 names name place (sym (position_from-zero (bytes_eq other) names) ∙ none) (sym (position_from-zero (bytes_eq other) (names ++ name ∷ [])) ∙ e) in
          (omega (arith, found.0), found.1)
    ] e

added_from : (test : Text → Bool) (at : ℕ) (names : List Text) (name : Text) → test name ≡ true
    → position_from test at (cond (list_any test names) names (names ++ name ∷ [])) ≡ Some (at + position_or_len test names)
added_from test at [] name is = ap (λ b. cond b (Some at) None) is ∙ ap Some (omega arith)
added_from test at (first ∷ names) name is = by (test first) refl (list_any test names) (added_from test (at + 1) names name is)
  where
    by : (b : Bool) → test first ≡ b → (there : Bool) → position_from test (at + 1) (cond there names (names ++ name ∷ [])) ≡ Some (at + 1 + position_or_len test names)
        → position_from test at (cond (b || there) (first ∷ names) (first ∷ names ++ name ∷ [])) ≡ Some (at + cond (not b) (1 + position_or_len test names) 0)
    by true is there rest = ap (λ b. cond b (Some at) (position_from test (at + 1) names)) is ∙ ap Some (omega arith)
    by false other true rest = ap (λ b. cond b (Some at) (position_from test (at + 1) names)) other ∙ rest ∙ ap Some (omega arith)
    by false other false rest = ap (λ b. cond b (Some at) (position_from test (at + 1) (names ++ name ∷ []))) other ∙ rest ∙ ap Some (omega arith)

-- where a name stands after it came
pub place_added : (names : List Text) (name : Text) → place_in (with_name names name) name ≡ Some (position_or_len (bytes_eq name) names)
place_added names name =
    position_from-zero (bytes_eq name) (with_name names name) ∙ added_from (bytes_eq name) 0 names name ((bytes_eq-Decides name name).1 refl) ∙ ap Some (omega arith)
