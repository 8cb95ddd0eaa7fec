-- What was loaded of a file, and what the whole file has.
use Rattle.std.proofs.Common.{◌≡◌, ℕ, ◌+◌, ◌<◌, ◌≤◌, zero, suc, false, List, [], ◌∷◌, length, take, length-take, refl, sym, ◌∙◌, ap, subst, arith, min, Option, Some, None, IsSome, IsSomeAnd, is_some}
use Rattle.std.proofs.lemmas.Bool.{both_ways}
use Rattle.std.proofs.lemmas.Option.{same_Some}
use Rattle.p10_world.specs.Files.{Named, GrowsAtMost, GrowsByFile, Lacks, file_of}
use Rattle.p10_command.specs.Loading.{Gives, IsHeld, IsLoaded}

-- ## The first bytes

take_all : {A : Type 0} (n : ℕ) (xs : List A) → length xs ≤ n → take n xs ≡ xs
take_all zero [] short = refl
take_all zero (x ∷ xs) short = absurd (omega (arith, short))
take_all (suc n) [] short = refl
take_all (suc n) (x ∷ xs) short = ap (λ ys. x ∷ ys) (take_all n xs (omega (arith, short)))

-- first bytes that are within the limit are all
pub all_of : (limit : ℕ) (whole bytes : List ℕ) → bytes ≡ take (limit + 1) whole → length bytes ≤ limit → bytes ≡ whole
all_of limit whole bytes front short =
    let size : length bytes ≡ min (limit + 1) (length whole) = ap length front ∙ length-take (limit + 1) whole in
    front ∙ take_all (limit + 1) whole (omega (arith, size, short))

pub longer : (limit : ℕ) (whole bytes : List ℕ) → bytes ≡ take (limit + 1) whole → limit < length bytes → limit < length whole
longer limit whole bytes front long =
    let size : length bytes ≡ min (limit + 1) (length whole) = ap length front ∙ length-take (limit + 1) whole in
    omega (arith, size, long)

-- ## The file

by_file : (limit : ℕ) (files : List Named) (name bytes : List ℕ) (o : Option (List ℕ)) → file_of name files ≡ o → IsSomeAnd o (λ whole. bytes ≡ take (limit + 1) whole) → IsLoaded (Some files) name limit bytes
by_file limit files name bytes None is front = absurd front
by_file limit files name bytes (Some whole) is front = record { whole = whole; given = is; front = front }

loaded : (held : Option (List Named)) (name : List ℕ) (limit : ℕ) (bytes : List ℕ) → GrowsByFile held name (limit + 1) [] bytes → GrowsAtMost (limit + 1) [] bytes → IsLoaded held name limit bytes
loaded None name limit bytes file most = record { whole = bytes; given = tt; front = sym (take_all (limit + 1) bytes (omega (arith, most.grows))) }
loaded (Some files) name limit bytes file most = by_file limit files name bytes (file_of name files) refl file

-- a buffer that was empty has grown by what was loaded
pub loaded_into : (held : Option (List Named)) (name : List ℕ) (limit : ℕ) (old new : List ℕ) → old ≡ [] → GrowsByFile held name (limit + 1) old new → GrowsAtMost (limit + 1) old new → IsLoaded held name limit new
loaded_into held name limit old new empty file most =
    loaded held name limit new (subst (λ (o : List ℕ). GrowsByFile held name (limit + 1) o new) empty file) (subst (λ (o : List ℕ). GrowsAtMost (limit + 1) o new) empty most)

pub given_is_held : (held : Option (List Named)) (name bytes : List ℕ) → Gives held name bytes → IsHeld held name
given_is_held None name bytes given = tt
given_is_held (Some files) name bytes given = ap is_some given

-- a file that is told has one text
pub given_once : (held : Option (List Named)) → IsSome held → (name bytes other : List ℕ) → Gives held name bytes → Gives held name other → bytes ≡ other
given_once None told name bytes other this that = absurd (both_ways false refl told)
given_once (Some files) told name bytes other this that = same_Some bytes other (sym this ∙ that)

-- a file is there or it isn't
pub held_or_lacking : (held : Option (List Named)) → IsSome held → (name : List ℕ) → IsHeld held name → Lacks held name → ⊥
held_or_lacking None told name is lacks = absurd (both_ways false refl told)
held_or_lacking (Some files) told name is lacks = both_ways (is_some (file_of name files)) (ap is_some lacks) is
