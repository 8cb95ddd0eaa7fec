-- Names of included files, and the directories of files.
use Rattle.std.proofs.Common.{◌≡◌, ◌≢◌, ℕ, ◌+◌, ◌-◌, ◌<◌, ◌≤◌, Bool, true, false, List, [], ◌∷◌, ◌++◌, length, take, map, get_or, refl, ap, ◌∙◌, arith}
use Rattle.std.specs.Prelude.{not, ◌||◌, ◌==◌}
use Rattle.std.specs.List.{list_any, slice_range, suffix_len, after_last}
use Rattle.std.specs.Str.{IsUtf8, is_utf8}
use Rattle.std.proofs.lemmas.Str.{IsUtf8-from_is_utf8, is_utf8-from_IsUtf8}
use Rattle.std.proofs.lemmas.List.{map_more, map-append, length-drop}
use Rattle.std.proofs.lemmas.Bool.Decides.{nat_tests}
use Rattle.std.proofs.lemmas.List.Sums.{suffix_len_is}
use Rattle.p10_expand.specs.declared.place.Place.TheVariants.{File}
use Rattle.p10_expand.specs.Candidates.{is_slash, directory_of, in_directories, is_no_name}

pub directories_more : {X : Type 0} (f : X → List ℕ) (dirs : List X) (name : List ℕ) (i : ℕ) (d : X) → i < length dirs →
    in_directories (map f (take (i + 1) dirs)) name ≡ in_directories (map f (take i dirs)) name ++ File (f (get_or dirs i d) ++ 47 ∷ [] ++ name) ∷ []
directories_more f dirs name i d h =
    ap (λ xs. in_directories xs name) (map_more f dirs i d h) ∙ map-append _ (map f (take i dirs)) (f (get_or dirs i d) ∷ [])

-- a name that places can have
pub is_name : (name : List ℕ) → length name == 0 ≡ false → list_any (λ byte. byte == 0) name ≡ false → IsUtf8 name → is_no_name name ≡ false
is_name [] there none text = absurd cc
is_name (byte ∷ bytes) there none text =
    ap (λ b. b || not (is_utf8 (byte ∷ bytes))) none ∙ ap not (is_utf8-from_IsUtf8 (byte ∷ bytes) text)

not_text : (b : Bool) → (b ≡ true → ⊥) → not b ≡ true
not_text true isnt = absurd (isnt refl)
not_text false isnt = refl

-- a name that isn't UTF-8
pub no_text : (name : List ℕ) → list_any (λ byte. byte == 0) name ≡ false → (IsUtf8 name → ⊥) → is_no_name name ≡ true
no_text [] none isnt = refl
no_text (byte ∷ bytes) none isnt =
    ap (λ b. b || not (is_utf8 (byte ∷ bytes))) none ∙ not_text (is_utf8 (byte ∷ bytes)) (λ is. isnt (IsUtf8-from_is_utf8 (byte ∷ bytes) is))

-- ## The directory of a file

no_slash : (byte : ℕ) → byte ≢ 47 → not (is_slash byte) ≡ true
no_slash byte apart = grind (arith, nat_tests)

behind_slash : (name : List ℕ) (end : ℕ) → end ≤ length name → suffix_len (λ byte. not (is_slash byte)) name ≡ length name - end → end ≡ length name - length (after_last is_slash name)
behind_slash name end within behind = omega (arith, within, behind, length-drop (length name - suffix_len (λ byte. not (is_slash byte)) name) name)

-- where the last `/` of its name is this byte
pub directory_to : (name : List ℕ) (last : ℕ) → last < length name → get_or name last 0 ≡ 47 → ((i : ℕ) → last < i → i < length name → get_or name i 0 ≢ 47) →
    slice_range name 0 (last + 1) ≡ directory_of name
directory_to name last within here none =
    let before : last + 1 - 1 ≡ last = omega arith in
    let ends = suffix_len_is (λ byte. not (is_slash byte)) name (last + 1) 0 (omega (arith, within)) (λ k from below. no_slash (get_or name k 0) (none k (omega (arith, from)) below))
    (λ some. ap (λ n. not (is_slash (get_or name n 0))) before ∙ ap (λ byte. not (is_slash byte)) here) in
    ap (λ n. take n name) (omega (arith, behind_slash name (last + 1) (omega (arith, within)) ends))

-- where its name has no `/`
pub no_directory : (name : List ℕ) → ((i : ℕ) → i < length name → get_or name i 0 ≢ 47) → [] ≡ directory_of name
no_directory name none =
    ap (λ n. take n name) (behind_slash name 0 (omega arith) (suffix_len_is (λ byte. not (is_slash byte)) name 0 0 (omega arith) (λ k from below. no_slash (get_or name k 0) (none k below)) (λ some. absurd (omega (arith, some)))))

pub ruleset naming = (directories_more, is_name, no_text)
