-- The first digest that differs.
use Rattle.std.proofs.Common.{◌≡◌, ◌∙◌, ℕ, ◌+◌, ◌-◌, ◌≤◌, Bool, List, [], ◌∷◌, length, take, drop, map, Option, Some, None, refl, sym, ap, arith}
use Rattle.std.proofs.lemmas.List.{length-drop, take_rest}
use Rattle.std.proofs.lemmas.Slice.Eq.{bytes_eq-Decides}
use Rattle.std.specs.Prelude.{if◌then◌else◌}
use Rattle.std.specs.Option.{option_or}
use Rattle.p10_base.specs.declared.digest.Digest.{Digest}
use Rattle.p10_cert.specs.Sealed.{bytes_of}
use Rattle.p10_cert.specs.Statements.{Entry}
use Rattle.p10_check.specs.Texts.{StaleAt, differing_digests, first_stale}
use Rattle.p10_judge.specs.Kept.{kept_of, stale_among, stale_head}

-- where the first function differs, it is the first that does
pub found_here : (number : ℕ) (kept : List (Option (List ℕ))) (found : List (List ℕ)) (stale : StaleAt) → stale_head number kept found ≡ Some stale → stale_among number kept found ≡ Some stale
found_here number [] found stale some = cc
found_here number (k ∷ kept) [] stale some = cc
found_here number (k ∷ kept) (f ∷ found) stale some = ap (λ (o : Option StaleAt). option_or o (stale_among (number + 1) kept found)) some

next_come : (number : ℕ) (kept : List (Option Digest)) (found : List Digest) → 1 ≤ length kept → 1 ≤ length found → stale_head number (map kept_of kept) (map bytes_of found) ≡ None
    → stale_among number (map kept_of kept) (map bytes_of found) ≡ stale_among (number + 1) (map kept_of (drop 1 kept)) (map bytes_of (drop 1 found))
next_come number [] found some more none = absurd (omega (arith, some))
next_come number (k ∷ kept) [] some more none = absurd (omega (arith, more))
next_come number (k ∷ kept) (f ∷ found) some more none = ap (λ (o : Option StaleAt). option_or o (stale_among (number + 1) (map kept_of kept) (map bytes_of found))) none

-- where it doesn't, the others come next
pub passed_over : (number : ℕ) (kept : List (Option Digest)) (found : List Digest) → 1 ≤ length kept → 1 ≤ length found → stale_head number (map kept_of kept) (map bytes_of found) ≡ None
    → stale_among number (map kept_of kept) (map bytes_of found) ≡ stale_among (number + 1) (map kept_of (take (length kept - 1) (drop 1 kept))) (map bytes_of (take (length found - 1) (drop 1 found)))
passed_over number kept found some more none =
    next_come number kept found some more none
    ∙ ap (λ (ks : List (Option Digest)). stale_among (number + 1) (map kept_of ks) (map bytes_of (drop 1 found))) (sym (take_rest kept 1))
    ∙ ap (λ (fs : List Digest). stale_among (number + 1) (map kept_of (take (length kept - 1) (drop 1 kept))) (map bytes_of fs)) (sym (take_rest found 1))

-- how many were passed over
pub counted : {A : Type 0} (n whole : ℕ) (xs : List A) → 1 ≤ length xs → n + length xs ≡ whole → (n + 1) + length (take (length xs - 1) (drop 1 xs)) ≡ whole
counted n whole xs some count =
    let rest : length (take (length xs - 1) (drop 1 xs)) ≡ length xs - 1 = ap length (take_rest xs 1) ∙ length-drop 1 xs in omega (arith, rest, some, count)

-- as functions keep their digests, these are the same
pub among_entries : (number : ℕ) (entries : List Entry) (digests : List (List ℕ)) → first_stale number entries digests ≡ stale_among number (map (λ e. e.digest) entries) digests
among_entries number [] [] = refl
among_entries number [] (d ∷ digests) = refl
among_entries number (e ∷ entries) [] = refl
among_entries number (e ∷ entries) (d ∷ digests) = ap (λ (o : Option StaleAt). option_or (differing_digests number e.digest d) o) (among_entries (number + 1) entries digests)

-- none differs where each is kept
none_among : (number : ℕ) (digests : List (List ℕ)) → stale_among number (map Some digests) digests ≡ None
none_among number [] = refl
none_among number (d ∷ digests) =
    ap (λ (b : Bool). option_or (if b then None else Some (record { number = number; kept = d; found = d })) (stale_among (number + 1) (map Some digests) digests)) ((bytes_eq-Decides d d).1 refl) ∙ none_among (number + 1) digests

pub kept_fresh : (entries : List Entry) (digests : List (List ℕ)) → map (λ (e : Entry). e.digest) entries ≡ map Some digests → first_stale 0 entries digests ≡ None
kept_fresh entries digests kept = among_entries 0 entries digests ∙ ap (λ (ks : List (Option (List ℕ))). stale_among 0 ks digests) kept ∙ none_among 0 digests
