-- Names that were found absent: a set keeps them as its keys, and each is a name that no file has.
use Rattle.std.proofs.Common.{◌≡◌, ℕ, Bool, true, false, ◌||◌, cond, List, [], ◌∷◌, ◌++◌, map, Option, refl, sym, ◌∙◌, ap, subst, get_or}
use Rattle.std.specs.Prelude.{All, String, bytes_eq, string_bytes}
use Rattle.std.specs.List.{list_any}
use Rattle.std.specs.String.{string_eq}
use Rattle.std.proofs.lemmas.Cmp.{nat_list_eq_equiv}
use Rattle.std.proofs.lemmas.List.{map-append}
use Rattle.std.proofs.lemmas.List.Folds.{Any-from_list_any}
use Rattle.std.proofs.lemmas.Slice.Eq.{bytes_eq-Decides}
use Rattle.indexmap.specs.IndexSet.{insert_key}
use Rattle.p10_world.specs.Files.{Named, Lacks}

-- ## Keys that are strings, as texts

-- whether one of the names is this one, asked both ways
turned : (name : List ℕ) (names : List (List ℕ)) → list_any (bytes_eq name) names ≡ list_any (λ other. bytes_eq other name) names
turned name [] = refl
turned name (other ∷ names) =
    ap (λ b. b || list_any (bytes_eq name) names) (nat_list_eq_equiv.symm name other) ∙ ap (λ b. bytes_eq other name || b) (turned name names)

module _ {A : Type 0} where
  as_texts : (test : List ℕ → Bool) (keys : List (String A)) → list_any (λ key. test (string_bytes key)) keys ≡ list_any test (map string_bytes keys)
  as_texts test [] = refl
  as_texts test (key ∷ keys) = ap (λ b. test (string_bytes key) || b) (as_texts test keys)

  pub keys_any : (name : List ℕ) (keys : List (String A)) → list_any (λ key. bytes_eq name (string_bytes key)) keys ≡ list_any (λ other. bytes_eq other name) (map string_bytes keys)
  keys_any name keys = as_texts (bytes_eq name) keys ∙ turned name (map string_bytes keys)

  added_if : (b : Bool) (keys : List (String A)) (name : String A) → map string_bytes (cond b keys (keys ++ name ∷ [])) ≡ cond b (map string_bytes keys) (map string_bytes keys ++ string_bytes name ∷ [])
  added_if true keys name = refl
  added_if false keys name = map-append string_bytes keys (name ∷ [])

  pub key_added : (keys : List (String A)) (name : String A) → map string_bytes (insert_key string_eq keys name) ≡ insert_key bytes_eq (map string_bytes keys) (string_bytes name)
  key_added keys name =
      added_if (list_any (string_eq name) keys) keys name
      ∙ ap (λ b. cond b (map string_bytes keys) (map string_bytes keys ++ string_bytes name ∷ [])) (as_texts (bytes_eq (string_bytes name)) keys)

-- ## What is among the names

-- a name among those that no file has is lacked
pub lacked : (told : Option (List Named)) (absent : List (List ℕ)) (name : List ℕ) → All (Lacks told) absent →
    list_any (λ other. bytes_eq other name) absent ≡ true → Lacks told name
lacked told absent name all found =
    let (k, other, below, is, same) = Any-from_list_any (λ other. bytes_eq other name) absent found in
    let equal : get_or absent k other ≡ name = is ∙ (bytes_eq-Decides other name).0 same in
    subst (λ n. Lacks told n) equal (all k other below)

or_true : (b x : Bool) → x ≡ true → (b || x) ≡ true
or_true true x p = refl
or_true false x p = p

last_among : (absent : List (List ℕ)) (name : List ℕ) → list_any (λ other. bytes_eq other name) (absent ++ name ∷ []) ≡ true
last_among [] name = ap (λ b. b || false) ((bytes_eq-Decides name name).1 refl)
last_among (other ∷ absent) name = or_true (bytes_eq other name) _ (last_among absent name)

noted_if : (b : Bool) (absent : List (List ℕ)) (name : List ℕ) → list_any (bytes_eq name) absent ≡ b →
    list_any (λ other. bytes_eq other name) (cond b absent (absent ++ name ∷ [])) ≡ true
noted_if true absent name there = sym (turned name absent) ∙ there
noted_if false absent name new = last_among absent name

-- a name that is put among those found absent is one of them
pub noted_absent : (old new : List (List ℕ)) (value name : List ℕ) → new ≡ insert_key bytes_eq old value → value ≡ name → list_any (λ other. bytes_eq other name) new ≡ true
noted_absent old new value name put same =
    ap (list_any (λ other. bytes_eq other name)) (put ∙ ap (insert_key bytes_eq old) same) ∙ noted_if (list_any (bytes_eq name) old) old name refl
