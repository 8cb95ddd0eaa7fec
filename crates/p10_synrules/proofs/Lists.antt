-- Lists one turn at a time.
use Rattle.std.specs.Prelude.{◌≡◌, ℕ, suc, ◌+◌, List, ◌∷◌, ◌++◌, length}
use Rattle.std.proofs.Common.{◌∙◌, ◌<◌, ap, sym, drop, drop-cons, get_or, add-one}
use Rattle.std.proofs.lemmas.List.{append_assoc}

-- the elements from a place on
pub cut_list : {A : Type 0} (all : List A) (i : ℕ) (x : A) → i < length all → x ≡ get_or all i x → drop i all ≡ x ∷ drop (i + 1) all
cut_list all i x below is =
    drop-cons all i x below ∙ ap (λ y. y ∷ drop (suc i) all) (sym is) ∙ ap (λ n. x ∷ drop n all) (sym (add-one i))

-- one part more is put down
pub more_put : {A : Type 0} (before one rest all after whole : List A) → after ≡ before ++ one → all ≡ one ++ rest → before ++ all ≡ whole → after ++ rest ≡ whole
more_put before one rest all after whole is cut holds =
    ap (λ xs. xs ++ rest) is ∙ append_assoc before one rest ∙ ap (λ xs. before ++ xs) (sym cut) ∙ holds

-- two parts after another are put down
pub both_put : {A : Type 0} (before one other middle after : List A) → middle ≡ before ++ one → after ≡ middle ++ other → after ≡ before ++ (one ++ other)
both_put before one other middle after first second = second ∙ ap (λ xs. xs ++ other) first ∙ append_assoc before one other
