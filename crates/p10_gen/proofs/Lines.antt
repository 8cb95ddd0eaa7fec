-- What is made is the program, line by line.
use Rattle.std.proofs.Common.{◌≡◌, ℕ, zero, suc, ◌+◌, ◌*◌, ◌<◌, List, [], ◌∷◌, ◌++◌, length, map, codes, decimal, refl, sym, ap, ◌∙◌, append_assoc, arith, length-append, add-zero, zero-add}
use Rattle.std.specs.Fmt.{digits}
use Rattle.std.specs.List.{flat_map, range_with_len}
use Rattle.std.proofs.lemmas.Grind.{flat_map-append}
use Rattle.std.proofs.lemmas.List.{map-append}
use Rattle.std.proofs.lemmas.List.FromFn.{length-map-range_with_len}
use Rattle.p10_base.specs.Words.{Text}
use Rattle.p10_gen.specs.declared.fault.GenFault.{GenFault}
use Rattle.p10_gen.specs.declared.fault.GenFault.TheVariants.{Over, Memory}
use Rattle.p10_gen.specs.Programs.{call_line, function_lines, generated_text, lines_text, main_lines, turns_of}
use Rattle.p10_gen.specs.Faults.{IsFault}
use Rattle.p10_gen.specs.Laws.{ExamplesAreGenerated, HasLines}
use Rattle.p10_gen.specs.private.Making.{IsFaultAfter, ◌then◌, after_bound, after_called, before_bound, before_called, before_name, call_text, function_text, main_begins, main_ends, program_text, texts_below}

-- the text of lines and of further ones
lines_both : (lines more : List Text) → lines_text (lines ++ more) ≡ lines_text lines ++ lines_text more
lines_both lines more = flat_map-append (λ line. line ++ codes "\n") lines more

-- one more number
range_more : (from n : ℕ) → range_with_len from (suc n) ≡ range_with_len from n ++ (from + n) ∷ []
range_more from zero = ap (λ k. k ∷ []) (sym (add-zero from))
range_more from (suc n) = ap (λ more. from ∷ more) (range_more (from + 1) n ∙ ap (λ k. range_with_len (from + 1) n ++ k ∷ []) (shifted from n))
  where
    shifted : (from n : ℕ) → (from + 1) + n ≡ from + suc n
    shifted from n = omega arith

numbers_more : (n : ℕ) → range_with_len 0 (suc n) ≡ range_with_len 0 n ++ n ∷ []
numbers_more n = range_more 0 n ∙ ap (λ k. range_with_len 0 n ++ k ∷ []) (zero-add n)

-- a line with a text in it, and what stands after it
line_and_rest : (before text after rest : Text) → ((before ++ (text ++ after)) ++ codes "\n") ++ rest ≡ before ++ (text ++ (after ++ (codes "\n" ++ rest)))
line_and_rest before text after rest = append_assoc (before ++ (text ++ after)) (codes "\n") rest ∙ append_assoc before (text ++ after) (codes "\n" ++ rest) ∙ ap (λ more. before ++ more) (append_assoc text after (codes "\n" ++ rest))

function_is : (k : ℕ) → lines_text (function_lines k) ≡ function_text k
unfolding function_text before_name before_bound after_bound ◌then◌
function_is k =
    line_and_rest (codes "static int f") (decimal k) (codes "(int x)") _
    ∙ ap (λ rest. codes "static int f" ++ (decimal k ++ (codes "(int x)\n{\n    int s = 0;\n    if (!c_assert(x >= 0) || !c_assert(x <= 1000)) {\n        return 0;\n    }\n" ++ rest)))
    (line_and_rest (codes "    for (int i = 0; i < ") (decimal (turns_of k)) (codes "; i++) {") (codes "        s = (s + x + i) % 1000;\n    }\n    return s;\n}\n"))

call_is : (k : ℕ) → lines_text (call_line k ∷ []) ≡ call_text k
unfolding call_text before_called after_called ◌then◌
call_is k = line_and_rest (codes "    t = f") (decimal k) (codes "(t);") []

functions_is : (n : ℕ) → lines_text (flat_map function_lines (range_with_len 0 n)) ≡ texts_below function_text n
functions_is zero = refl
functions_is (suc n) =
    ap (λ numbers. lines_text (flat_map function_lines numbers)) (numbers_more n)
    ∙ ap lines_text (flat_map-append function_lines (range_with_len 0 n) (n ∷ []))
    ∙ lines_both (flat_map function_lines (range_with_len 0 n)) (function_lines n ++ [])
    ∙ both (functions_is n) (function_is n)
  where
    both : {some other one another : Text} → some ≡ one → other ≡ another → some ++ other ≡ one ++ another
    both p q = rw (p, q) refl

calls_are : (n : ℕ) → lines_text (map call_line (range_with_len 0 n)) ≡ texts_below call_text n
calls_are zero = refl
calls_are (suc n) =
    ap (λ numbers. lines_text (map call_line numbers)) (numbers_more n)
    ∙ ap lines_text (map-append call_line (range_with_len 0 n) (n ∷ []))
    ∙ lines_both (map call_line (range_with_len 0 n)) (call_line n ∷ [])
    ∙ both (calls_are n) (call_is n)
  where
    both : {some other one another : Text} → some ≡ one → other ≡ another → some ++ other ≡ one ++ another
    both p q = rw (p, q) refl

pub program_is : (n : ℕ) → program_text n ≡ generated_text n
unfolding program_text generated_text main_begins main_ends ◌then◌
program_is n = sym (
    lines_both (flat_map function_lines (range_with_len 0 n)) (main_lines n)
    ∙ ap (λ functions. functions ++ lines_text (main_lines n)) (functions_is n)
    ∙ ap (λ calls. texts_below function_text n ++ (codes "int main(void)\n{\n    int t = 1;\n" ++ calls))
    (lines_both (map call_line (range_with_len 0 n)) (codes "    return t;" ∷ codes "}" ∷ []) ∙ ap (λ calls. calls ++ codes "    return t;\n}\n") (calls_are n)))

-- the program is put after nothing
pub text_is : (before all bytes : Text) (n : ℕ) → before ≡ [] → all ≡ before ++ program_text n → bytes ≡ all → bytes ≡ generated_text n
text_is before all bytes n none put is = is ∙ put ∙ ap (λ so. so ++ program_text n) none ∙ program_is n

-- the program isn't put after nothing
pub fault_is : (fault : GenFault) (before : Text) (n : ℕ) → before ≡ [] → IsFaultAfter before (program_text n) fault → IsFault n fault
fault_is (Over limit) before n none is = (is.long.0, along _ _ _ _ none (program_is n) is.long.1)
  where
    along : (most : ℕ) (before some other : Text) → before ≡ [] → some ≡ other → most < length before + length some → most < length other
    along most before some other none is long = omega (arith, ap length is, ap length none)
fault_is Memory before n none is = tt

pub examples : ExamplesAreGenerated
unfolding generated_text digits
examples = record { none = refl; one = refl; two = refl }

-- each function has its lines and its call
length_is : (n : ℕ) → length (flat_map function_lines (range_with_len 0 n)) ≡ 11 * n
length_is zero = refl
length_is (suc n) =
    ap (λ numbers. length (flat_map function_lines numbers)) (numbers_more n)
    ∙ ap length (flat_map-append function_lines (range_with_len 0 n) (n ∷ []))
    ∙ length-append (flat_map function_lines (range_with_len 0 n)) (function_lines n ++ [])
    ∙ more _ _ n (length_is n) refl
  where
    more : (some few n : ℕ) → some ≡ 11 * n → few ≡ 11 → some + few ≡ 11 * suc n
    more some few n is so = omega arith

pub lines : HasLines
lines n =
    length-append (flat_map function_lines (range_with_len 0 n)) (main_lines n)
    ∙ whole _ _ n (length_is n) (ap (λ more. suc (suc (suc more))) (length-append (map call_line (range_with_len 0 n)) (codes "    return t;" ∷ codes "}" ∷ []))) (length-map-range_with_len call_line 0 n)
  where
    whole : (functions main n : ℕ) → {calls : ℕ} → functions ≡ 11 * n → main ≡ suc (suc (suc (calls + 2))) → calls ≡ n → functions + main ≡ 12 * n + 5
    whole functions main n is so called = omega arith
