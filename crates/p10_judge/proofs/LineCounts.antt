-- How many lines a certificate's text has, by its LF.
use Rattle.std.proofs.Common.{◌≡◌, ℕ, suc, ◌+◌, Bool, true, false, ◌==◌, List, [], ◌∷◌, ◌++◌, length, refl, sym, ap, ◌∙◌, arith}
use Rattle.std.specs.Prelude.{if◌then◌else◌}
use Rattle.std.specs.List.{AllByRecursion}
use Rattle.p10_cert.specs.Lines.{Line, IsLine, line_then, text_of}
use Rattle.p10_cert.specs.Statements.{Statement, IsStatement, statement_lines, statement_text}
use Rattle.p10_cert.specs.WrongLines.{first_lines}
use Rattle.p10_cert.proofs.LineTexts.{line_first, line_then-append, no_first, first_none}
use Rattle.p10_cert.proofs.Runs.{statement_good}
use Rattle.p10_judge.specs.private.Ranks.{line_count}

count_append : (xs ys : List ℕ) → line_count (xs ++ ys) ≡ line_count xs + line_count ys
count_append [] ys = omega arith
count_append (x ∷ xs) ys = of (x == 10) (count_append xs ys)
  where
    of : (b : Bool) → line_count (xs ++ ys) ≡ line_count xs + line_count ys → (if b then 1 + line_count (xs ++ ys) else line_count (xs ++ ys)) ≡ (if b then 1 + line_count xs else line_count xs) + line_count ys
    of true e = omega (arith, e)
    of false e = e

-- the first line of a text, with more after it, has one LF
part_counts : (part rest : List ℕ) → first_lines (part ++ rest) 1 ≡ part → (rest ≡ [] → ⊥) → line_count part ≡ 1
unfolding first_lines
part_counts [] rest e some = absurd (some (no_first rest e))
part_counts (x ∷ part) rest e some = of (x == 10) refl (λ h. part_counts part rest h some) e
  where
    of : (b : Bool) → (x == 10) ≡ b → (first_lines (part ++ rest) 1 ≡ part → line_count part ≡ 1) → first_lines (x ∷ (part ++ rest)) 1 ≡ x ∷ part → line_count (x ∷ part) ≡ 1
    of true is next e =
        let none : part ≡ [] = let h = rw is at e in (let same : first_lines (part ++ rest) 0 ≡ part = cc in sym same ∙ first_none (part ++ rest)) in
        rw is (ap (λ t. 1 + line_count t) none)
    of false is next e = rw is (next (let h = rw is at e in cc))

line_counts : (l : Line) (rest : List ℕ) → IsLine l → line_count (line_then l rest) ≡ 1 + line_count rest
line_counts l rest good =
    let first : first_lines (line_then l [] ++ 7 ∷ []) 1 ≡ line_then l [] =
    ap (λ t. first_lines t 1) (line_then-append l [] (7 ∷ [])) ∙ (line_first l (7 ∷ []) 0 good ∙ ap (line_then l) (first_none (7 ∷ []))) in
    let one : line_count (line_then l []) ≡ 1 = part_counts (line_then l []) (7 ∷ []) first (λ e. absurd cc) in
    ap line_count (sym (line_then-append l [] rest)) ∙ (count_append (line_then l []) rest ∙ ap (λ n. n + line_count rest) one)

text_counts : (lines : List Line) → AllByRecursion IsLine lines → line_count (text_of lines) ≡ length lines
unfolding text_of
text_counts [] good = refl
text_counts (l ∷ lines) good = omega (arith, line_counts l (text_of lines) good.0, text_counts lines good.1)

pub statement_counts : (s : Statement) → IsStatement s → line_count (statement_text s) ≡ length (statement_lines s)
unfolding statement_text
statement_counts s good = text_counts (statement_lines s) (statement_good s good)
