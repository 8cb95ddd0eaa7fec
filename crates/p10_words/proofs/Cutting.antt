-- Directories in a value, cut at each `:`.
use Rattle.std.proofs.Common.{◌≡◌, ℕ, ◌==◌, ◌<◌, List, [], ◌∷◌, ◌++◌, length, Bor, Option, Some, None, Bool, true, false, ◌&&◌, refl, ap, sym, ◌∙◌, arith}
use Rattle.std.specs.List.{list_all, slice_split, position_or_len, after_first}
use Rattle.std.proofs.lemmas.List.{append_assoc}
use Rattle.std.proofs.lemmas.List.Sums.{fails_before_first}
use Rattle.std.proofs.lemmas.Option.{MatchOption-at_some, MatchOption-at_none}
use Rattle.std.proofs.lemmas.List.Splits.{slice_split_first, slice_split_none}
use Rattle.std.proofs.lemmas.Str.Pattern.{IsSplitOnceResult, split_once_first}
use Rattle.std.proofs.Common.{lit<}
use Rattle.p10_words.specs.CommandLines.{cut}
use Rattle.p10_words.specs.private.Scanning.{is_name}

pub split_some : (text : List ℕ) (r : Option (Bor (List ℕ) × Bor (List ℕ))) (a b : Bor (List ℕ)) → IsSplitOnceResult 58 text r → r ≡ Some (a, b) → cut text ≡ a.now ∷ cut b.now
split_some text r a b is some =
    let parts = MatchOption-at_some _ _ _ some (split_once_first 58 text r is (lit< tt)) in
    slice_split_first (λ byte. byte == 58) text 0 parts.0 ∙ (ap (λ x. x ∷ slice_split (λ byte. byte == 58) (after_first (λ byte. byte == 58) text)) (sym parts.1) ∙ ap (λ x. a.now ∷ slice_split (λ byte. byte == 58) x) (sym parts.2))

pub split_none : (text : List ℕ) (r : Option (Bor (List ℕ) × Bor (List ℕ))) → IsSplitOnceResult 58 text r → r ≡ None → cut text ≡ text ∷ []
split_none text r is none = none_passes text (MatchOption-at_none _ _ none (split_once_first 58 text r is (lit< tt)))
  where
    none_passes : (text : List ℕ) → position_or_len (λ byte. byte == 58) text ≡ length text → cut text ≡ text ∷ []
    none_passes text at = slice_split_none (λ byte. byte == 58) text (λ k d below. fails_before_first (λ byte. byte == 58) text k d (omega (arith, at, below)))

pub fewer : (text name others : List ℕ) → cut text ≡ name ∷ cut others → length (cut others) < length (cut text)
fewer text name others is = omega (arith, ap length is)

pub all_but_first : (whole text name others : List ℕ) (b : Bool) → list_all is_name (cut whole) ≡ list_all is_name (cut text) → cut text ≡ name ∷ cut others → b ≡ is_name name → b ≡ true →
    list_all is_name (cut whole) ≡ list_all is_name (cut others)
all_but_first whole text name others b all is test right =
    all ∙ (ap (list_all is_name) is ∙ ap (λ t. t && list_all is_name (cut others)) (sym test ∙ right))

pub last_name : (whole text : List ℕ) (b : Bool) → list_all is_name (cut whole) ≡ list_all is_name (cut text) → cut text ≡ text ∷ [] → b ≡ is_name text → b ≡ list_all is_name (cut whole)
last_name whole text b all is test = test ∙ (sym (and_true (is_name text)) ∙ (sym (ap (list_all is_name) is) ∙ sym all))
  where
    and_true : (t : Bool) → (t && true) ≡ t
    and_true true = refl
    and_true false = refl

-- directories that were put at the end, of which this is the first
pub push_one : (before whole found next : List (List ℕ)) (text name others string : List ℕ) → before ++ whole ≡ found ++ cut text → cut text ≡ name ∷ cut others →
    next ≡ found ++ string ∷ [] → string ≡ name → before ++ whole ≡ next ++ cut others
push_one before whole found next text name others string parts is pushed same =
    parts ∙ (ap (λ ds. found ++ ds) (is ∙ ap (λ n. n ∷ cut others) (sym same))
    ∙ (sym (append_assoc found (string ∷ []) (cut others)) ∙ ap (λ xs. xs ++ cut others) (sym pushed)))

pub push_last : (before whole found next : List (List ℕ)) (text string : List ℕ) → before ++ whole ≡ found ++ cut text → cut text ≡ text ∷ [] →
    next ≡ found ++ string ∷ [] → string ≡ text → next ≡ before ++ whole
push_last before whole found next text string parts is pushed same =
    pushed ∙ (ap (λ t. found ++ t ∷ []) same ∙ (sym (ap (λ ds. found ++ ds) is) ∙ sym parts))
