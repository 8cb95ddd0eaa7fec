-- The program of n functions, line by line.
use Rattle.std.specs.Prelude.{ℕ, ◌+◌, ◌%◌, List, [], ◌∷◌, ◌++◌, map, codes, decimal}
use Rattle.std.specs.List.{flat_map, range_with_len}
use Rattle.p10_base.specs.Words.{Text}

-- the name of function k
abbrev pub function_name : ℕ → Text
function_name k = codes "f" ++ decimal k

-- how many turns the loop of function k makes: from 1 to 7
abbrev pub turns_of : ℕ → ℕ
turns_of k = k % 7 + 1

-- the lines of function k: two assertions on its parameter, and a loop
abbrev pub function_lines : ℕ → List Text
function_lines k =
    (codes "static int " ++ (function_name k ++ codes "(int x)"))
    ∷ codes "{"
    ∷ codes "    int s = 0;"
    ∷ codes "    if (!c_assert(x >= 0) || !c_assert(x <= 1000)) {"
    ∷ codes "        return 0;"
    ∷ codes "    }"
    ∷ (codes "    for (int i = 0; i < " ++ (decimal (turns_of k) ++ codes "; i++) {"))
    ∷ codes "        s = (s + x + i) % 1000;"
    ∷ codes "    }"
    ∷ codes "    return s;"
    ∷ codes "}"
    ∷ []

-- the line of `main` that calls function k
abbrev pub call_line : ℕ → Text
call_line k = codes "    t = " ++ (function_name k ++ codes "(t);")

-- the lines of `main`, which calls the functions below n in their order, each with what the one before it has returned
abbrev pub main_lines : ℕ → List Text
main_lines n = codes "int main(void)" ∷ codes "{" ∷ codes "    int t = 1;" ∷ (map call_line (range_with_len 0 n) ++ codes "    return t;" ∷ codes "}" ∷ [])

-- the lines of the program: the functions below n, and `main`
abbrev pub program_lines : ℕ → List Text
program_lines n = flat_map function_lines (range_with_len 0 n) ++ main_lines n

-- the text of lines, each with its LF
abbrev pub lines_text : List Text → Text
lines_text lines = flat_map (λ line. line ++ codes "\n") lines

-- the text of the program of n functions and `main`
unfoldable pub generated_text : ℕ → Text
generated_text n = lines_text (program_lines n)
