-- What holds of the programs.
use Rattle.std.specs.Prelude.{ℕ, ◌≡◌, ◌+◌, ◌*◌, ◌++◌, length, codes}
use Rattle.p10_base.specs.Words.{Text}
use Rattle.p10_gen.specs.Programs.{generated_text, program_lines}

-- the text of function 0
abbrev pub first_function : Text
first_function = codes "static int f0(int x)\n{\n    int s = 0;\n    if (!c_assert(x >= 0) || !c_assert(x <= 1000)) {\n        return 0;\n    }\n    for (int i = 0; i < 1; i++) {\n        s = (s + x + i) % 1000;\n    }\n    return s;\n}\n"

-- the text of function 1
abbrev pub second_function : Text
second_function = codes "static int f1(int x)\n{\n    int s = 0;\n    if (!c_assert(x >= 0) || !c_assert(x <= 1000)) {\n        return 0;\n    }\n    for (int i = 0; i < 2; i++) {\n        s = (s + x + i) % 1000;\n    }\n    return s;\n}\n"

-- the programs of no function, of one and of two
pub record ExamplesAreGenerated : Type 0 where
  pub none : generated_text 0 ≡ codes "int main(void)\n{\n    int t = 1;\n    return t;\n}\n"
  pub one : generated_text 1 ≡ first_function ++ codes "int main(void)\n{\n    int t = 1;\n    t = f0(t);\n    return t;\n}\n"
  pub two : generated_text 2 ≡ first_function ++ (second_function ++ codes "int main(void)\n{\n    int t = 1;\n    t = f0(t);\n    t = f1(t);\n    return t;\n}\n")

-- the program of n functions has 12 lines for each, and 5 more
abbrev pub HasLines : Type 0
HasLines = (n : ℕ) → length (program_lines n) ≡ 12 * n + 5
