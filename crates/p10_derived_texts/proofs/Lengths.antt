-- Each line of a text has a byte.
use Rattle.std.proofs.Common.{◌≡◌, ℕ, zero, suc, ◌+◌, ◌<◌, ◌≤◌, List, [], ◌∷◌, ◌++◌, map, length, flat_map, refl, ap, arith, Some}
use Rattle.std.specs.Prelude.{slice_get}
use Rattle.std.specs.List.{AllByRecursion}
use Rattle.std.proofs.lemmas.List.{length-append}
use Rattle.p10_cert.specs.declared.claims.Rank.{Rank}
use Rattle.p10_cert.specs.declared.claims.Rank.TheVariants.{Up, Down, One, Task}
use Rattle.p10_cert.specs.Claims.{Loop, Func, Claims}
use Rattle.p10_cert.specs.Lines.{Line, FirstLine, FuncLine, ParamLine, ResultLine, LoopLine, VarLine, TotalLine, LastLine, SealedLine, DigestLine, OutsideLine, SectionLine, BodyLine, line_then, text_of}
use Rattle.p10_cert.specs.Certificate.{loop_lines, func_lines, claims_lines, certificate_text, NestFrom}
use Rattle.p10_cert.proofs.LineTexts.{line_then-append}

-- ## Texts

line_has_bytes : (l : Line) → line_then l [] ≡ [] → ⊥
unfolding line_then
line_has_bytes FirstLine e = absurd cc
line_has_bytes (FuncLine f) e = absurd cc
line_has_bytes (ParamLine v) e = absurd cc
line_has_bytes (ResultLine v) e = absurd cc
line_has_bytes (LoopLine l) e = by_rank l.rank e
  where
    by_rank : (rank : Rank) → line_then (LoopLine (record l { rank = rank })) [] ≡ [] → ⊥
    by_rank (Up var bound) e = absurd cc
    by_rank (Down var bound) e = absurd cc
    by_rank One e = absurd cc
    by_rank Task e = absurd cc
line_has_bytes (VarLine v) e = absurd cc
line_has_bytes (TotalLine b) e = absurd cc
line_has_bytes LastLine e = absurd cc
line_has_bytes SealedLine e = absurd cc
line_has_bytes (DigestLine d) e = absurd cc
line_has_bytes (OutsideLine d) e = absurd cc
line_has_bytes (SectionLine s) e = absurd cc
line_has_bytes (BodyLine b) e = ends b e
  where
    ends : (b : List ℕ) → line_then (BodyLine b) [] ≡ [] → ⊥
    ends [] e = absurd cc
    ends (x ∷ xs) e = absurd cc

longer : (xs ys rest : List ℕ) → xs ++ rest ≡ ys → (xs ≡ [] → ⊥) → length rest < length ys
longer [] ys rest e some = absurd (some refl)
longer (x ∷ xs) ys rest e some = omega (arith, ap length e, length-append (x ∷ xs) rest)

lines_have_bytes : (lines : List Line) → length lines ≤ length (text_of lines)
unfolding text_of
lines_have_bytes [] = omega arith
lines_have_bytes (l ∷ lines) =
    let one : length (text_of lines) < length (line_then l (text_of lines)) = longer (line_then l []) (line_then l (text_of lines)) (text_of lines) (line_then-append l [] (text_of lines)) (line_has_bytes l) in
    omega (arith, one, lines_have_bytes lines)

-- ## Functions and loops

flat_at_least : {A B : Type 0} (f : A → List B) → ((a : A) → 1 ≤ length (f a)) → (xs : List A) → length xs ≤ length (flat_map f xs)
flat_at_least f h [] = omega arith
flat_at_least f h (x ∷ xs) = omega (arith, h x, flat_at_least f h xs, length-append (f x) (flat_map f xs))

-- the lines of a certificate are at least those of its functions
lines_of_functions : (c : Claims) → length (flat_map func_lines c.funcs) ≤ length (certificate_text c)
unfolding certificate_text
lines_of_functions c =
    omega (arith, lines_have_bytes (claims_lines c), length-append (flat_map func_lines c.funcs) (TotalLine c.total ∷ LastLine ∷ []))

-- there are no more functions than bytes of the text
pub functions_in_text : (c : Claims) → length c.funcs ≤ length (certificate_text c)
functions_in_text c = omega (arith, flat_at_least func_lines (λ f. omega arith) c.funcs, lines_of_functions c)

-- no more loops than lines of their function
loops_in_lines : (f : Func) → length f.loops ≤ length (func_lines f)
loops_in_lines f = omega (arith, flat_at_least loop_lines (λ l. omega arith) f.loops, length-append (map ParamLine f.params) (ResultLine f.result ∷ flat_map loop_lines f.loops))

-- lines of one function are among those of all
one_among : (funcs : List Func) (n : ℕ) (f : Func) → slice_get funcs n ≡ Some f → length (func_lines f) ≤ length (flat_map func_lines funcs)
one_among [] n f e = absurd cc
one_among (g ∷ funcs) zero f e = let same : g ≡ f = cc in omega (arith, ap (λ x. length (func_lines x)) same, length-append (func_lines g) (flat_map func_lines funcs))
one_among (g ∷ funcs) (suc n) f e = omega (arith, one_among funcs n f e, length-append (func_lines g) (flat_map func_lines funcs))

-- there are no more loops in a function than bytes of the text
pub loops_in_text : (c : Claims) (n : ℕ) (f : Func) → slice_get c.funcs n ≡ Some f → length f.loops ≤ length (certificate_text c)
loops_in_text c n f e = omega (arith, loops_in_lines f, one_among c.funcs n f e, lines_of_functions c)

-- nor in all functions
all_in_lines : (funcs : List Func) → length (flat_map (λ (g : Func). g.loops) funcs) ≤ length (flat_map func_lines funcs)
all_in_lines [] = omega arith
all_in_lines (g ∷ funcs) = omega (arith, loops_in_lines g, all_in_lines funcs, length-append g.loops (flat_map (λ (g : Func). g.loops) funcs), length-append (func_lines g) (flat_map func_lines funcs))

pub all_loops_in_text : (c : Claims) → length (flat_map (λ (g : Func). g.loops) c.funcs) ≤ length (certificate_text c)
all_loops_in_text c = omega (arith, all_in_lines c.funcs, lines_of_functions c)

-- loops that nest are no deeper than there are loops
pub depths_nest : (most : ℕ) (loops : List Loop) → NestFrom most loops → AllByRecursion (λ (l : Loop). l.depth < most + length loops) loops
depths_nest most [] h = tt
depths_nest most (l ∷ loops) h = (omega (arith, h.0), all_more (λ (x : Loop) k. omega (arith, h.0, k)) loops (depths_nest (l.depth + 1) loops h.1))
  where
    all_more : ((x : Loop) → x.depth < (l.depth + 1) + length loops → x.depth < most + suc (length loops)) → (xs : List Loop) → AllByRecursion (λ (x : Loop). x.depth < (l.depth + 1) + length loops) xs → AllByRecursion (λ (x : Loop). x.depth < most + suc (length loops)) xs
    all_more f [] k = tt
    all_more f (x ∷ xs) k = (f x k.0, all_more f xs k.1)
