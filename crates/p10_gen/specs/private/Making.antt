-- The program as it is made, piece by piece.
use Rattle.std.specs.Prelude.{ℕ, zero, suc, ◌≡◌, ◌+◌, ◌<◌, [], ◌++◌, length, codes, decimal}
use Rattle.p10_base.specs.declared.report.TheConstants.Limit.{FILE_BYTES, MOST_FILE_BYTES}
use Rattle.p10_base.specs.Words.{Text}
use Rattle.p10_gen.specs.declared.fault.GenFault.{GenFault}
use Rattle.p10_gen.specs.declared.fault.GenFault.TheVariants.{Over, Memory}
use Rattle.p10_gen.specs.Programs.{turns_of}

-- why a text of this length isn't made
abbrev pub IsFaultAt : ℕ → GenFault → Type 0
IsFaultAt most (Over limit) = (limit ≡ FILE_BYTES) × (MOST_FILE_BYTES < most)
IsFaultAt most Memory = Unit {0}

-- why a text isn't put after another one
pub record IsFaultAfter (text after : Text) (fault : GenFault) : Type 0 where
  pub long : IsFaultAt (length text + length after) fault

infixr 30 ◌then◌
-- one text, and another after it
unfoldable pub ◌then◌ : Text → Text → Text
first then second = first ++ second

-- ## The fixed pieces

-- what stands before the number in the name of a function
unfoldable pub before_name : Text
before_name = codes "static int f"

-- what stands between the number of a function and the bound of its loop
unfoldable pub before_bound : Text
before_bound = codes "(int x)\n{\n    int s = 0;\n    if (!c_assert(x >= 0) || !c_assert(x <= 1000)) {\n        return 0;\n    }\n    for (int i = 0; i < "

-- what stands after the bound of the loop
unfoldable pub after_bound : Text
after_bound = codes "; i++) {\n        s = (s + x + i) % 1000;\n    }\n    return s;\n}\n"

-- how `main` begins
unfoldable pub main_begins : Text
main_begins = codes "int main(void)\n{\n    int t = 1;\n"

-- what stands before the number of a called function
unfoldable pub before_called : Text
before_called = codes "    t = f"

-- what stands after the number of a called function
unfoldable pub after_called : Text
after_called = codes "(t);\n"

-- how `main` ends
unfoldable pub main_ends : Text
main_ends = codes "    return t;\n}\n"

-- ## Functions and calls

-- function k
unfoldable pub function_text : ℕ → Text
function_text k = before_name then decimal k then before_bound then decimal (turns_of k) then after_bound

-- the line that calls function k
unfoldable pub call_text : ℕ → Text
call_text k = before_called then decimal k then after_called

-- the texts of the numbers below n, in their order
abbrev pub texts_below : (ℕ → Text) → ℕ → Text
texts_below text zero = []
texts_below text (suc n) = texts_below text n ++ text n

-- the program of n functions
unfoldable pub program_text : ℕ → Text
program_text n = texts_below function_text n then main_begins then texts_below call_text n then main_ends
