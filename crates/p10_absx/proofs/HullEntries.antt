-- The entries of the hull of two environments, one by one.
use Rattle.std.proofs.Common.{◌≡◌, ℕ, zero, suc, ◌<◌, ◌≤◌, ◌+◌, List, [], ◌∷◌, ◌++◌, length, drop, get_or, Option, refl, ap, sym, ◌∙◌, append_assoc, add-one, arith, ◌⊎◌, inl, inr}
use Rattle.std.specs.Prelude.{min, leb, Bool, true, false}
use Rattle.std.specs.Option.{option_map}
use Rattle.std.proofs.lemmas.Bool.Decides.{nat_tests}
use Rattle.std.proofs.lemmas.List.{map-append, append-nil}
use Rattle.std.proofs.Math.Seq.{drop-cons}
use Rattle.p10_absx.specs.declared.abs.Abs.{Abs}
use Rattle.p10_absx.specs.declared.notes.Entry.{Entry}
use Rattle.p10_absx.specs.Abstract.{Abstract, abstract_of}
use Rattle.p10_absx.specs.Environments.{Environment, hull_entry, hull_environment}
use Rattle.p10_absx.specs.Trails.{known_in_entries}
use Rattle.p10_absx.proofs.Trails.{entry_with}

-- one more entry of the hull
pub hull_more : (entries some others : List Entry) (known : Option Abs) (n : ℕ) (a b : Entry) (all : Environment) →
    known_in_entries entries ++ hull_environment (known_in_entries (drop n some)) (known_in_entries (drop n others)) ≡ all → n < length some → n < length others → a ≡ get_or some n a → b ≡ get_or others n b →
    option_map abstract_of known ≡ hull_entry (option_map abstract_of a.known) (option_map abstract_of b.known) →
    known_in_entries (entries ++ entry_with known 0 ∷ []) ++ hull_environment (known_in_entries (drop (n + 1) some)) (known_in_entries (drop (n + 1) others)) ≡ all
hull_more entries some others known n a b all so-far l m there there2 is =
    let f : Entry → Option Abstract = λ (e : Entry). option_map abstract_of e.known in
    let d : drop n some ≡ a ∷ drop (suc n) some = drop-cons some n a l ∙ ap (λ x. x ∷ drop (suc n) some) (sym there) in
    let e : drop n others ≡ b ∷ drop (suc n) others = drop-cons others n b m ∙ ap (λ x. x ∷ drop (suc n) others) (sym there2) in
    let rest : Environment = hull_environment (known_in_entries (drop (suc n) some)) (known_in_entries (drop (suc n) others)) in
    ap (λ m. known_in_entries (entries ++ entry_with known 0 ∷ []) ++ hull_environment (known_in_entries (drop m some)) (known_in_entries (drop m others))) (add-one n) ∙
    (ap (λ es. es ++ rest) (map-append f entries (entry_with known 0 ∷ [])) ∙
    (append_assoc (known_in_entries entries) (option_map abstract_of known ∷ []) rest ∙
    (ap (λ x. known_in_entries entries ++ x ∷ rest) is ∙
    ((λ i. known_in_entries entries ++ hull_environment (known_in_entries (sym d i)) (known_in_entries (sym e i))) ∙ so-far))))

-- all entries are there where one of the lists ends
ended : (some others : List Entry) (n : ℕ) → length some ≤ n ⊎ length others ≤ n → hull_environment (known_in_entries (drop n some)) (known_in_entries (drop n others)) ≡ []
ended [] others zero h = refl
ended [] others (suc n) h = refl
ended (a ∷ some) [] zero h = refl
ended (a ∷ some) [] (suc n) h = at (drop n some)
  where
    at : (xs : List Entry) → hull_environment (known_in_entries xs) [] ≡ []
    at [] = refl
    at (x ∷ xs) = refl
ended (a ∷ some) (b ∷ others) zero h = absurd (elim h [ inl p ↦ omega (arith, p) | inr p ↦ omega (arith, p) ])
ended (a ∷ some) (b ∷ others) (suc n) h = ended some others n (elim h [ inl p ↦ inl (omega (arith, p)) | inr p ↦ inr (omega (arith, p)) ])

pub hull_whole : (entries some others : List Entry) (n : ℕ) (all : Environment) → length some ≤ n ⊎ length others ≤ n →
    known_in_entries entries ++ hull_environment (known_in_entries (drop n some)) (known_in_entries (drop n others)) ≡ all → known_in_entries entries ≡ all
hull_whole entries some others n all h so-far = sym (append-nil (known_in_entries entries)) ∙ (ap (λ xs. known_in_entries entries ++ xs) (sym (ended some others n h)) ∙ so-far)

-- a number past the shorter one of two lengths is past one of them
pub shorter_ends : (m k n end : ℕ) → end ≡ min m k → end ≤ n → m ≤ n ⊎ k ≤ n
shorter_ends m k n end is past = at (leb m n) refl
  where
    at : (b : Bool) → leb m n ≡ b → m ≤ n ⊎ k ≤ n
    at true e = inl (grind (arith, nat_tests, e))
    at false e = inr (grind (arith, nat_tests, e, is, past))
