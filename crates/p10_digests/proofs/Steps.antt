-- One step more of the code's loops.
use Rattle.std.proofs.Common.{◌≡◌, ℕ, suc, ◌+◌, ◌-◌, ◌<◌, ◌≤◌, List, [], ◌∷◌, ◌++◌, map, length, take, drop, get_or, codes, sym, ap, ◌∙◌, arith}
use Rattle.std.proofs.lemmas.List.{length-map, length-drop, take-map, drop-map, drop_all}
use Rattle.p10_base.specs.declared.at.At.{At}
use Rattle.p10_base.specs.declared.word.Word.{Word}
use Rattle.p10_base.specs.Words.{PlainWord, plain_word, plain_words}
use Rattle.p10_syn.specs.declared.statement.Unit as whole
use Rattle.p10_syn.specs.BuiltStatements.{external_of}
use Rattle.p10_digests.specs.Digests.{body_places, function_digests}
use Rattle.p10_digests.specs.Lines.{hashed_lines, all_words, bodies_from, line_before, lines_outside, roots_outside}
use Rattle.p10_digests.proofs.OutsideLines.{first_over, first_stays, outside_none}
use Rattle.p10_digests.proofs.Patterns.{first_and_rest, first_is, none_there, drop_first}
use Rattle.p10_digests.proofs.Roots.{roots_none}
use Rattle.p10_digests.proofs.Running.{one_root, one_root_outside, one_word, none_taken, nothing_left}
use Rattle.p10_digests.proofs.Trees.{digests_more, bodies_more}

-- ---- the words of a tree

-- one root more: of its words some are skipped and some put
pub root_taken : {A : Type 0} (f : A → List PlainWord) (d root : A) (rest : List A) (ws : List Word) (old new : List ℕ) (skip left first count : ℕ) (taken : List Word) (end : List ℕ)
    → 1 ≤ length rest → root ≡ get_or rest 0 d → plain_words ws ≡ f root
    → (skip ≤ length ws → first ≡ skip) → (length ws ≤ skip → first ≡ length ws) → (left ≤ length ws - first → count ≡ left) → (length ws - first ≤ left → count ≡ length ws - first)
    → taken ≡ take count (drop first ws) → new ≡ old ++ hashed_lines (plain_words taken)
    → old ++ hashed_lines (take left (drop skip (all_words (map f rest)))) ≡ end
    → new ++ hashed_lines (take (left - count) (drop (skip - first) (all_words (map f (take (length rest - 1) (drop 1 rest)))))) ≡ end
root_taken f d root rest ws old new skip left first count taken end some is words low high few many part put before =
    let long : length (plain_words ws) ≡ length ws = length-map ws plain_word in
    let these : map f rest ≡ plain_words ws ∷ map f (take (length rest - 1) (drop 1 rest)) =
    ap (map f) (first_is d root rest some is) ∙ ap (λ xs. xs ∷ map f (take (length rest - 1) (drop 1 rest))) (sym words) in
    one_root old new skip left first count (plain_words ws) (plain_words taken) (map f (take (length rest - 1) (drop 1 rest))) end
    (ap (λ all. old ++ hashed_lines (take left (drop skip (all_words all)))) (sym these) ∙ before) put
    (ap plain_words part ∙ sym (take-map plain_word count (drop first ws)) ∙ ap (take count) (sym (drop-map plain_word first ws)))
    (λ h. low (omega (arith, h, long))) (λ h. high (omega (arith, h, long)) ∙ sym long)
    (λ h. few (omega (arith, h, long))) (λ h. let all = many (omega (arith, h, long)) in omega (arith, all, long)) (length-drop first (plain_words ws))

-- no root is left
pub no_root_taken : {A : Type 0} (f : A → List PlainWord) (rest : List A) (old : List ℕ) (skip left : ℕ) (end : List ℕ) → length rest < 1 → old ++ hashed_lines (take left (drop skip (all_words (map f rest)))) ≡ end → old ≡ end
no_root_taken f rest old skip left end none before =
    nothing_left old (hashed_lines (take left (drop skip (all_words (map f rest))))) end (none_taken skip left (all_words (map f rest)) (ap (λ xs. all_words (map f xs)) (none_there rest none))) before

-- ---- the lines outside bodies

-- one root more
pub root_put : {A : Type 0} (f : A → List PlainWord) (d root : A) (rest : List A) (ws : List Word) (old middle new : List ℕ) (bodies : List At) (number next : ℕ) (end : List ℕ)
    → 1 ≤ length rest → root ≡ get_or rest 0 d → plain_words ws ≡ f root → middle ≡ old ++ codes "@@\n" → new ≡ middle ++ lines_outside bodies number (plain_words ws) → next ≡ number + length ws
    → old ++ roots_outside bodies number (map f rest) ≡ end → new ++ roots_outside bodies next (map f (take (length rest - 1) (drop 1 rest))) ≡ end
root_put f d root rest ws old middle new bodies number next end some is words first put after before =
    let long : length (plain_words ws) ≡ length ws = length-map ws plain_word in
    let these : map f rest ≡ plain_words ws ∷ map f (take (length rest - 1) (drop 1 rest)) =
    ap (map f) (first_is d root rest some is) ∙ ap (λ xs. xs ∷ map f (take (length rest - 1) (drop 1 rest))) (sym words) in
    one_root_outside old middle new bodies number next (plain_words ws) (map f (take (length rest - 1) (drop 1 rest))) end
    (ap (λ all. old ++ roots_outside bodies number all) (sym these) ∙ before) first put (omega (arith, after, long))

-- no root is left
pub no_root_put : {A : Type 0} (f : A → List PlainWord) (rest : List A) (old : List ℕ) (bodies : List At) (number : ℕ) (end : List ℕ) → length rest < 1 → old ++ roots_outside bodies number (map f rest) ≡ end → old ≡ end
no_root_put f rest old bodies number end none before =
    nothing_left old (roots_outside bodies number (map f rest)) end (ap (λ xs. roots_outside bodies number (map f xs)) (none_there rest none) ∙ roots_none bodies number) before

-- one word more
pub word_put : (d : Word) (rest : List Word) (old new : List ℕ) (bodies these : List At) (place next number : ℕ) (end : List ℕ)
    → 1 ≤ length rest → drop next bodies ≡ bodies_from number (drop place bodies) → ((n : ℕ) → number ≤ n → bodies_from n (drop place bodies) ≡ bodies_from n bodies)
    → these ≡ drop next bodies → new ≡ old ++ line_before number (plain_word (get_or rest 0 d)) these
    → old ++ lines_outside bodies number (plain_words rest) ≡ end → new ++ lines_outside bodies (number + 1) (plain_words (take (length rest - 1) (drop 1 rest))) ≡ end
word_put d rest old new bodies these place next number end some advanced ahead left put before =
    one_word old new bodies place next number (plain_word (get_or rest 0 d)) (plain_words (take (length rest - 1) (drop 1 rest))) end
    (ap (λ ws. old ++ lines_outside bodies number (plain_words ws)) (sym (first_and_rest d rest some)) ∙ before) advanced ahead
    (put ∙ ap (λ bs. old ++ line_before number (plain_word (get_or rest 0 d)) bs) left)

-- no word is left
pub no_word_put : (rest : List Word) (old : List ℕ) (bodies : List At) (number : ℕ) (end : List ℕ) → length rest < 1 → old ++ lines_outside bodies number (plain_words rest) ≡ end → old ≡ end
no_word_put rest old bodies number end none before =
    nothing_left old (lines_outside bodies number (plain_words rest)) end (ap (λ ws. lines_outside bodies number (plain_words ws)) (none_there rest none) ∙ outside_none bodies number) before

-- ---- bodies that are over

-- one body more is over
pub one_past : (d : At) (bodies : List At) (next number : ℕ) (end : List At) → next < length bodies → (get_or bodies next d).past ≤ number → bodies_from number (drop next bodies) ≡ end
    → bodies_from number (drop (next + 1) bodies) ≡ end
one_past d bodies next number end inside over before =
    let after : next + 1 ≡ suc next = omega arith in
    ap (λ k. bodies_from number (drop k bodies)) after
    ∙ sym (first_over number (drop next bodies) (drop (suc next) bodies) (get_or bodies next d) (drop_first d bodies next inside) over) ∙ before

-- all bodies are over
pub all_past : (bodies : List At) (next number : ℕ) (end : List At) → length bodies ≤ next → bodies_from number (drop next bodies) ≡ end → drop next bodies ≡ end
all_past bodies next number end over before = drop_all next bodies over ∙ sym (ap (bodies_from number) (drop_all next bodies over)) ∙ before

-- the body at a place isn't over
pub not_past : (d : At) (bodies : List At) (next number : ℕ) (end : List At) → next < length bodies → number < (get_or bodies next d).past → bodies_from number (drop next bodies) ≡ end → drop next bodies ≡ end
not_past d bodies next number end inside later before =
    let these = drop_first d bodies next inside in
    these ∙ sym (first_stays number (get_or bodies next d) (drop (suc next) bodies) (λ h. omega (arith, h, later))) ∙ sym (ap (bodies_from number) these) ∙ before

-- ---- trees

-- one tree more
pub unit_digest : (roots : List (List PlainWord)) (d x : whole.Unit) (rest : List whole.Unit) (old new end : List (List ℕ)) → 1 ≤ length rest → x ≡ get_or rest 0 d → new ≡ old ++ function_digests roots (external_of x ∷ [])
    → old ++ function_digests roots (map external_of rest) ≡ end → new ++ function_digests roots (map external_of (take (length rest - 1) (drop 1 rest))) ≡ end
unit_digest roots d x rest old new end some is put before =
    digests_more roots (external_of x) (map external_of (take (length rest - 1) (drop 1 rest))) old new end put (ap (λ us. old ++ function_digests roots (map external_of us)) (sym (first_is d x rest some is)) ∙ before)

pub unit_body : (d x : whole.Unit) (rest : List whole.Unit) (old new end : List At) → 1 ≤ length rest → x ≡ get_or rest 0 d → new ≡ old ++ body_places (external_of x ∷ [])
    → old ++ body_places (map external_of rest) ≡ end → new ++ body_places (map external_of (take (length rest - 1) (drop 1 rest))) ≡ end
unit_body d x rest old new end some is put before =
    bodies_more (external_of x) (map external_of (take (length rest - 1) (drop 1 rest))) old new end put (ap (λ us. old ++ body_places (map external_of us)) (sym (first_is d x rest some is)) ∙ before)
