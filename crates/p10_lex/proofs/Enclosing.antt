-- The text between two bytes that begin and end it.
use Rattle.std.proofs.Common.{◌≡◌, ℕ, ◌+◌, ◌-◌, ◌<◌, ◌≤◌, ◌==◌, suc, List, [], ◌∷◌, ◌++◌, length, take, get_or, true, cond, ◌&&◌, nat_le, refl, sym, ◌∙◌, ap, arith, Some, None, length-append}
use Rattle.std.proofs.Math.Seq.{take-length, take-append_seam, get_or-append_seam}
use Rattle.std.proofs.lemmas.List.{take_more}
use Rattle.std.proofs.lemmas.Bool.{and_parts, and_from, le-leb, leb-true, eqb-true, eq-eqb}
use Rattle.std.proofs.lemmas.Option.{cond_some, none-some}
use Rattle.p10_base.specs.Words.{Text}
use Rattle.p10_lex.specs.Literals.{inside}

last_split : (text : List ℕ) → 1 ≤ length text → take (length text - 1) text ++ get_or text (length text - 1) 0 ∷ [] ≡ text
last_split text some =
    let inner : length text - 1 < length text = omega (arith, some) in
    let all : (length text - 1) + 1 ≡ length text = omega (arith, some) in
    sym (take_more text (length text - 1) 0 inner) ∙ ap (λ n. take n text) all ∙ take-length text

-- what stands inside is enclosed
pub inside_takes : (opening closing : ℕ) (text name : Text) → inside opening closing text ≡ Some name → text ≡ opening ∷ name ++ closing ∷ []
inside_takes opening closing [] name e = absurd (none-some name e)
inside_takes opening closing (byte ∷ text) name e =
    let tests = cond_some _ _ _ e in
    let parts = and_parts _ _ tests.0 in
    let front = and_parts _ _ parts.0 in
    let long : 2 ≤ length (byte ∷ text) = leb-true _ _ front.0 in
    let some : 1 ≤ length text = omega (arith, long) in
    let first_is : byte ≡ opening = eqb-true _ _ front.1 in
    let less : length (byte ∷ text) - 1 ≡ suc (length text - 1) = omega (arith, some) in
    let last_is : get_or text (length text - 1) 0 ≡ closing = ap (λ n. get_or (byte ∷ text) n 0) (sym less) ∙ eqb-true _ _ parts.1 in
    let shorter : length (byte ∷ text) - 1 - 1 ≡ length text - 1 = omega arith in
    let name_is : take (length text - 1) text ≡ name = ap (λ n. take n text) (sym shorter) ∙ tests.1 in
    ap (λ t. byte ∷ t) (sym (last_split text some)) ∙ ap (λ b. b ∷ take (length text - 1) text ++ get_or text (length text - 1) 0 ∷ []) first_is
    ∙ ap (λ b. opening ∷ take (length text - 1) text ++ b ∷ []) last_is ∙ ap (λ n. opening ∷ n ++ closing ∷ []) name_is

-- what is enclosed stands inside
pub inside_again : (opening closing : ℕ) (name : Text) → inside opening closing (opening ∷ name ++ closing ∷ []) ≡ Some name
inside_again opening closing name =
    let text = name ++ closing ∷ [] in
    let count : length text ≡ suc (length name) = omega (arith, length-append name (closing ∷ [])) in
    let less : length (opening ∷ text) - 1 ≡ suc (length name) = omega (arith, count) in
    let shorter : length (opening ∷ text) - 1 - 1 ≡ length name = omega (arith, count) in
    let last_is : get_or (opening ∷ text) (length (opening ∷ text) - 1) 0 ≡ closing = ap (λ n. get_or (opening ∷ text) n 0) less ∙ get_or-append_seam name closing [] 0 in
    let long : nat_le 2 (length (opening ∷ text)) ≡ true = le-leb _ _ (omega (arith, count)) in
    let tests : ((nat_le 2 (length (opening ∷ text)) && opening == opening) && get_or (opening ∷ text) (length (opening ∷ text) - 1) 0 == closing) ≡ true
    = and_from _ _ (and_from _ _ long (eq-eqb opening opening refl)) (eq-eqb _ _ last_is) in
    ap (λ b. cond b (Some (take (length (opening ∷ text) - 1 - 1) text)) None) tests ∙ ap (λ n. Some (take n text)) shorter ∙ ap Some (take-append_seam name (closing ∷ []))
