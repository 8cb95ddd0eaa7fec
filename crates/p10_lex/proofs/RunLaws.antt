-- What stands before and after a run of bytes.
use Rattle.std.proofs.Common.{◌≡◌, ℕ, List, [], ◌∷◌, ◌++◌, refl, sym, ◌∙◌, ap, Bool, true, false, ◌⊎◌, inl, inr, drop}
use Rattle.std.specs.Prelude.{◌==◌, ◌&&◌, ◌||◌, not, Option, Some, None}
use Rattle.std.specs.List.{list_all}
use Rattle.p10_lex.specs.Splices.{is_spliced, on_one_line}
use Rattle.p10_lex.specs.Lexemes.{goes_on_number, all_go_on_number, is_header_byte}
use Rattle.p10_lex.specs.Characters.{begins_with}
use Rattle.p10_lex.specs.Pieces.{begins_byte, has_comment_end}
use Rattle.p10_lex.specs.private.Runs.{after_run, after_number, after_line, after_comment, after_header}
use Rattle.p10_lex.proofs.Classes.{decide, and_both, both_and, or_neither, same_number, not_false, not_true}

-- a test of all holds of both parts
pub all_both : (test : ℕ → Bool) (xs ys : List ℕ) → list_all test (xs ++ ys) ≡ true → (list_all test xs ≡ true) × (list_all test ys ≡ true)
all_both test [] ys e = (refl, e)
all_both test (x ∷ xs) ys e = let (a, b) = and_both _ _ e in let (c, d) = all_both test xs ys b in (both_and _ _ a c, d)

-- the run is before, and what follows doesn't begin with a byte that passes
pub run_takes : (test : ℕ → Bool) (text : List ℕ)
    → (front : List ℕ) × (text ≡ front ++ after_run test text) × (list_all test front ≡ true) × (begins_with test (after_run test text) ≡ false)
unfolding after_run begins_with
run_takes test [] = ([], refl, refl, refl)
run_takes test (c ∷ t) =
    decide (λ (r : List ℕ). (front : List ℕ) × (c ∷ t ≡ front ++ r) × (list_all test front ≡ true) × (begins_with test r ≡ false)) (test c) _ _
    (λ e. let (front, parts, all, stop) = run_takes test t in (c ∷ front, ap (λ (x : List ℕ). c ∷ x) parts, both_and _ _ e all, stop))
    (λ e. ([], refl, refl, e))

-- a run of bytes that pass, before one that does not, is passed over
pub run_again : (test : ℕ → Bool) (front rest : List ℕ) → list_all test front ≡ true → begins_with test rest ≡ false → after_run test (front ++ rest) ≡ rest
unfolding after_run begins_with
run_again test [] [] all stop = refl
run_again test [] (c ∷ t) all stop = rw stop refl
run_again test (c ∷ front) rest all stop = let (a, b) = and_both (test c) (list_all test front) all in rw a (run_again test front rest b stop)

-- the bytes of a number are before, and the next byte doesn't go on with it
pub number_takes : (old : ℕ) (text : List ℕ)
    → (front : List ℕ) × (text ≡ front ++ after_number old text) × (all_go_on_number old front ≡ true)
    × ((d : ℕ) (more after : List ℕ) → after_number old text ≡ d ∷ after → all_go_on_number old (front ++ d ∷ more) ≡ true → ⊥)
unfolding after_number all_go_on_number
number_takes old [] = ([], refl, refl, λ d more after e. absurd (cc))
number_takes old (c ∷ t) =
    decide (λ (r : List ℕ). (front : List ℕ) × (c ∷ t ≡ front ++ r) × (all_go_on_number old front ≡ true)
    × ((d : ℕ) (more after : List ℕ) → r ≡ d ∷ after → all_go_on_number old (front ++ d ∷ more) ≡ true → ⊥)) (goes_on_number old c) _ _
    (λ e. let (front, parts, all, stop) = number_takes c t in
    (c ∷ front, ap (λ (x : List ℕ). c ∷ x) parts, both_and _ _ e all, λ d more after f g. stop d more after f (and_both _ _ g).1))
    (λ e. ([], refl, refl, λ d more after f g. let h : c ≡ d = cc in let (a, b) = and_both _ _ g in absurd (let i : goes_on_number old c ≡ true = ap (goes_on_number old) h ∙ a in cc)))

-- the bytes of a number are passed over
pub number_again : (old : ℕ) (front rest : List ℕ) → all_go_on_number old front ≡ true
    → ((d : ℕ) (after : List ℕ) → rest ≡ d ∷ after → all_go_on_number old (front ++ d ∷ []) ≡ true → ⊥) → after_number old (front ++ rest) ≡ rest
unfolding after_number all_go_on_number
number_again old [] [] all stop = refl
number_again old [] (c ∷ t) all stop = let e : goes_on_number old c ≡ false = not_false _ (λ h. stop c t refl (both_and _ _ h refl)) in rw e refl
number_again old (c ∷ front) rest all stop =
    let (a, b) = and_both (goes_on_number old c) (all_go_on_number c front) all in
    rw a (number_again c front rest b (λ d after e f. stop d after e (both_and _ _ a f)))

-- an include name's bytes are before its `>`
pub header_takes : (text rest : List ℕ) → after_header text ≡ Some rest
    → (inside : List ℕ) × (text ≡ inside ++ 62 ∷ rest) × (list_all is_header_byte inside ≡ true)
unfolding after_header is_header_byte
header_takes [] rest e = absurd (cc)
header_takes (c ∷ t) rest e =
    decide (λ (r : Option (List ℕ)). r ≡ Some rest → (inside : List ℕ) × (c ∷ t ≡ inside ++ 62 ∷ rest) × (list_all is_header_byte inside ≡ true)) (c == 62) _ _
    (λ h f. let g : t ≡ rest = cc in let i = same_number c 62 h in ([], ap (λ (x : ℕ). x ∷ t) i ∙ ap (λ (x : List ℕ). 62 ∷ x) g, refl))
    (λ h. decide (λ (r : Option (List ℕ)). r ≡ Some rest → (inside : List ℕ) × (c ∷ t ≡ inside ++ 62 ∷ rest) × (list_all is_header_byte inside ≡ true)) (c == 10) _ _
    (λ k f. absurd (cc))
    (λ k f. let (inside, parts, all) = header_takes t rest f in
    (c ∷ inside, ap (λ (x : List ℕ). c ∷ x) parts, both_and (not (c == 10) && not (c == 62)) _ (rw (h, k) refl) all)))
    e

-- an include name is passed over
pub header_again : (inside rest : List ℕ) → list_all is_header_byte inside ≡ true → after_header (inside ++ 62 ∷ rest) ≡ Some rest
unfolding after_header is_header_byte
header_again [] rest all = refl
header_again (c ∷ inside) rest all =
    let (a, b) = and_both (not (c == 10) && not (c == 62)) (list_all is_header_byte inside) all in
    let (d, e) = and_both (not (c == 10)) (not (c == 62)) a in
    rw (not_true (c == 62) e, not_true (c == 10) d) (header_again inside rest b)

-- `*` at the end of a text begins nothing before it
begins_front : (xs ys : List ℕ) → begins_byte 47 (xs ++ 42 ∷ ys) ≡ begins_byte 47 xs
unfolding begins_byte
begins_front [] ys = refl
begins_front (x ∷ xs) ys = refl

-- a text that begins with a byte
pub begins_is : (c : ℕ) (t : List ℕ) → begins_byte c t ≡ true → t ≡ c ∷ drop 1 t
unfolding begins_byte
begins_is c [] e = absurd (cc)
begins_is c (d ∷ t) e = ap (λ (x : ℕ). x ∷ t) (same_number d c e)

-- the inside of a comment is before its end
pub comment_takes : (text rest : List ℕ) → after_comment text ≡ Some rest
    → (inside : List ℕ) × (text ≡ inside ++ 42 ∷ (47 ∷ rest)) × (has_comment_end inside ≡ false)
unfolding after_comment has_comment_end
comment_takes [] rest e = absurd (cc)
comment_takes (c ∷ t) rest e =
    decide (λ (r : Option (List ℕ)). r ≡ Some rest → (inside : List ℕ) × (c ∷ t ≡ inside ++ 42 ∷ (47 ∷ rest)) × (has_comment_end inside ≡ false))
    ((c == 42) && begins_byte 47 t) _ _
    (λ h f. let (a, b) = and_both (c == 42) (begins_byte 47 t) h in
    let g : drop 1 t ≡ rest = cc in
    ([], ap (λ (x : ℕ). x ∷ t) (same_number c 42 a) ∙ ap (λ (x : List ℕ). 42 ∷ x) (begins_is 47 t b ∙ ap (λ (x : List ℕ). 47 ∷ x) g), refl))
    (λ h f. let (inside, parts, none) = comment_takes t rest f in
    let same : begins_byte 47 t ≡ begins_byte 47 inside = ap (begins_byte 47) parts ∙ begins_front inside (47 ∷ rest) in
    (c ∷ inside, ap (λ (x : List ℕ). c ∷ x) parts, rw (sym same, h, none) refl))
    e

-- where no end is found, none is there
pub comment_open : (text : List ℕ) → after_comment text ≡ None → has_comment_end text ≡ false
unfolding after_comment has_comment_end
comment_open [] e = refl
comment_open (c ∷ t) e =
    decide (λ (r : Option (List ℕ)). r ≡ None → has_comment_end (c ∷ t) ≡ false) ((c == 42) && begins_byte 47 t) _ _
    (λ h f. absurd (cc))
    (λ h f. rw (h, comment_open t f) refl)
    e

-- a comment up to its first end is passed over
pub comment_again : (inside rest : List ℕ) → has_comment_end inside ≡ false → after_comment (inside ++ 42 ∷ (47 ∷ rest)) ≡ Some rest
unfolding after_comment has_comment_end begins_byte
comment_again [] rest e = refl
comment_again (c ∷ inside) rest e =
    let (a, b) = or_neither ((c == 42) && begins_byte 47 inside) (has_comment_end inside) e in
    rw (begins_front inside (47 ∷ rest), a) (comment_again inside rest b)

-- where no end is there, none is found
pub comment_again_open : (text : List ℕ) → has_comment_end text ≡ false → after_comment text ≡ None
unfolding after_comment has_comment_end
comment_again_open [] e = refl
comment_again_open (c ∷ t) e =
    let (a, b) = or_neither ((c == 42) && begins_byte 47 t) (has_comment_end t) e in
    rw a (comment_again_open t b)

-- what `not` makes false is true
is_true_of : (b : Bool) → not b ≡ false → b ≡ true
is_true_of true e = refl
is_true_of false e = absurd (cc)

-- an `&&` with true is its first side
spliced_of : (b : Bool) → (b && true) ≡ false → b ≡ false
spliced_of true e = e
spliced_of false e = refl

-- the line's bytes are before, and an LF that stands in no splice, or nothing, follows
pub line_takes : (older old : ℕ) (text : List ℕ)
    → (front : List ℕ) × (text ≡ front ++ after_line older old text) × (on_one_line older old front ≡ true)
    × ((after_line older old text ≡ []) ⊎ ((after : List ℕ) × (after_line older old text ≡ 10 ∷ after) × (on_one_line older old (front ++ 10 ∷ []) ≡ false)))
unfolding after_line on_one_line
line_takes older old [] = ([], refl, refl, inl refl)
line_takes older old (c ∷ t) =
    decide (λ (r : List ℕ). (front : List ℕ) × (c ∷ t ≡ front ++ r) × (on_one_line older old front ≡ true)
    × ((r ≡ []) ⊎ ((after : List ℕ) × (r ≡ 10 ∷ after) × (on_one_line older old (front ++ 10 ∷ []) ≡ false))))
    (not (c == 10) || is_spliced older old) _ _
    (λ e. let (front, parts, all, stop) = line_takes old c t in (
      c ∷ front,
      ap (λ (x : List ℕ). c ∷ x) parts,
      both_and _ _ e all,
      elim stop [ inl h ↦ inl h | inr (after, h, k) ↦ inr (after, h, rw e k) ],
    ))
    (λ e. let (a, b) = or_neither (not (c == 10)) (is_spliced older old) e in
    let lf : c ≡ 10 = same_number c 10 (is_true_of (c == 10) a) in
    ([], refl, refl, inr (t, ap (λ (x : ℕ). x ∷ t) lf, rw b refl)))

-- a line is passed over
pub line_again : (older old : ℕ) (front rest : List ℕ) → on_one_line older old front ≡ true
    → (rest ≡ []) ⊎ ((after : List ℕ) × (rest ≡ 10 ∷ after) × (on_one_line older old (front ++ 10 ∷ []) ≡ false))
    → after_line older old (front ++ rest) ≡ rest
unfolding after_line on_one_line
line_again older old [] rest all (inl e) = rw e refl
line_again older old [] rest all (inr (after, e, f)) = rw (e, spliced_of (is_spliced older old) f) refl
line_again older old (c ∷ front) rest all (inl e) =
    let (a, b) = and_both (not (c == 10) || is_spliced older old) (on_one_line old c front) all in
    rw a (line_again old c front rest b (inl e))
line_again older old (c ∷ front) rest all (inr (after, e, f)) =
    let (a, b) = and_both (not (c == 10) || is_spliced older old) (on_one_line old c front) all in
    rw a (line_again old c front rest b (inr (after, e, rw a at f)))
