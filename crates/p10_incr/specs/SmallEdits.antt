-- Edits of small programs, written out: the functions that they touch, and verdicts after them.
use Rattle.std.specs.Prelude.{◌≡◌, ℕ, false, List, [], ◌∷◌, Option, Some, None, pos}
use Rattle.p10_core.specs.Typed.{call, values_of_list, PlainProgram}
use Rattle.p10_meaning.specs.Examples.{span, int, number, value_of, returns, begin, get, function_of, main_of, int_variable, plus}
use Rattle.p10_cert.specs.Claims.{Number, Func}
use Rattle.p10_cert.specs.Statements.{Entry, Section, Statement}
use Rattle.p10_pass.specs.Passing.{Failing}
use Rattle.p10_check.specs.SmallChecks.{calling_f, on_f, on_main, ints_range, calling_total, none_stands, at}
use Rattle.p10_incr.specs.Edits.{Edit, evidence_name, dirty}
use Rattle.p10_incr.specs.Rechecking.{first_by_number, failures_after, passed_for}

-- ## Four functions

-- `static int f(void) { return 1; }`, `static int g(void) { return f(); }`, `static int h(void) { return 2; }` and
-- `int main(void) { int a = g(); int b = h(); return a + b; }`
abbrev pub four : PlainProgram
four = record (main_of [] []) {
  functions =
      function_of 0 int [] (returns (number (pos 1)) ∷ [])
      ∷ function_of 0 int [] (returns (value_of int (call (span 1) 0 (values_of_list []))) ∷ [])
      ∷ function_of 0 int [] (returns (number (pos 2)) ∷ [])
      ∷ function_of 0 int (int_variable ∷ int_variable ∷ [])
      (begin 0 (value_of int (call (span 2) 1 (values_of_list []))) ∷ begin 1 (value_of int (call (span 3) 2 (values_of_list []))) ∷ returns (plus (get 0 int 0) (get 0 int 1)) ∷ [])
      ∷ [];
  main = 3;
}

-- what is said of a function: the steps that are claimed of it, and the digest of its words
abbrev pub said : ℕ → ℕ → Entry
said steps digest = record {
  func = record { name = []; rank = 0; steps = steps; calls = 1; bytes = 0; alloc = false; params = []; result = Number ints_range; loops = [] };
  digest = Some (digest ∷ []);
}

-- a certificate on these functions, with the digest of the words outside of bodies, and sections
abbrev pub stated : List Entry → ℕ → List Section → Statement
stated entries outside sections = record {
  entries = entries;
  ending = record { outside = Some (outside ∷ []); total = record { prefix = 18; turn = 0; calls = 3; bytes = 8 }; sections = sections };
}

-- an edit after which the words have these digests
abbrev pub edited : List (List ℕ) → ℕ → Statement → Statement → Edit
edited digests outside old new = record { digests = digests; outside = outside ∷ []; old = old; new = new }

-- what was said of the four functions
abbrev pub before : List Entry
before = said 2 10 ∷ said 4 11 ∷ said 2 12 ∷ said 10 13 ∷ []

-- the digests of their words
abbrev pub words_before : List (List ℕ)
words_before = (10 ∷ []) ∷ (11 ∷ []) ∷ (12 ∷ []) ∷ (13 ∷ []) ∷ []

-- a section with evidence of differences, and another one, with these lines
abbrev pub evidence : List (List ℕ) → Section
evidence lines = record { name = evidence_name; lines = lines }

abbrev pub remark : List (List ℕ) → Section
remark lines = record { name = 120 ∷ []; lines = lines }

-- the functions that edits touch, and those that call one
pub record EditsTouch : Type 0 where
  pub nothing : dirty four (edited words_before 9 (stated before 9 []) (stated before 9 [])) ≡ []
  -- the words of f, what is claimed of it, or its digest in the old certificate alone
  pub words : dirty four (edited ((20 ∷ []) ∷ (11 ∷ []) ∷ (12 ∷ []) ∷ (13 ∷ []) ∷ []) 9 (stated before 9 []) (stated (said 2 20 ∷ said 4 11 ∷ said 2 12 ∷ said 10 13 ∷ []) 9 [])) ≡ 0 ∷ 1 ∷ []
  pub claim : dirty four (edited words_before 9 (stated before 9 []) (stated (said 3 10 ∷ said 4 11 ∷ said 2 12 ∷ said 10 13 ∷ []) 9 [])) ≡ 0 ∷ 1 ∷ []
  pub old : dirty four (edited words_before 9 (stated (said 2 20 ∷ said 4 11 ∷ said 2 12 ∷ said 10 13 ∷ []) 9 []) (stated before 9 [])) ≡ 0 ∷ 1 ∷ []
  -- what nothing calls, and what `main` alone calls
  pub entry : dirty four (edited words_before 9 (stated before 9 []) (stated (said 2 10 ∷ said 4 11 ∷ said 2 12 ∷ said 11 13 ∷ []) 9 [])) ≡ 3 ∷ []
  pub leaf : dirty four (edited words_before 9 (stated before 9 []) (stated (said 2 10 ∷ said 4 11 ∷ said 3 12 ∷ said 10 13 ∷ []) 9 [])) ≡ 2 ∷ 3 ∷ []
  -- a function that the old certificate lacks
  pub lacking : dirty four (edited words_before 9 (stated (said 2 10 ∷ said 4 11 ∷ said 2 12 ∷ []) 9 []) (stated before 9 [])) ≡ 3 ∷ []
  -- all: words outside of bodies that aren't those of the old certificate, or of the new one, or of neither
  pub outside : dirty four (edited words_before 9 (stated before 8 []) (stated before 9 [])) ≡ 0 ∷ 1 ∷ 2 ∷ 3 ∷ []
  pub outside_new : dirty four (edited words_before 9 (stated before 9 []) (stated before 8 [])) ≡ 0 ∷ 1 ∷ 2 ∷ 3 ∷ []
  pub outside_both : dirty four (edited words_before 9 (stated before 8 []) (stated before 8 [])) ≡ 0 ∷ 1 ∷ 2 ∷ 3 ∷ []
  -- evidence of differences: other lines, or a section without lines where there was none; another section touches nothing
  pub lines : dirty four (edited words_before 9 (stated before 9 (evidence ((1 ∷ []) ∷ []) ∷ [])) (stated before 9 (evidence ((2 ∷ []) ∷ []) ∷ []))) ≡ 0 ∷ 1 ∷ 2 ∷ 3 ∷ []
  pub empty : dirty four (edited words_before 9 (stated before 9 []) (stated before 9 (evidence [] ∷ []))) ≡ 0 ∷ 1 ∷ 2 ∷ 3 ∷ []
  pub same : dirty four (edited words_before 9 (stated before 9 (evidence ((1 ∷ []) ∷ []) ∷ [])) (stated before 9 (evidence ((1 ∷ []) ∷ []) ∷ remark [] ∷ []))) ≡ []
  pub remarks : dirty four (edited words_before 9 (stated before 9 (remark ((1 ∷ []) ∷ []) ∷ [])) (stated before 9 (remark [] ∷ []))) ≡ []

-- ## Verdicts

-- the first condition that fails of claims on `f` and `main`, where these functions alone are passed
abbrev pub first_among : List Func → List ℕ → Option Failing
first_among funcs numbers = first_by_number (failures_after none_stands calling_f (record { funcs = funcs; total = calling_total }) [] numbers)

-- the first that fails, by the functions that are passed
pub record EditsRechecked : Type 0 where
  pub accepted : first_among (on_f 5 ints_range ints_range ∷ on_main 1 9 2 4 ints_range ∷ []) (0 ∷ 1 ∷ []) ≡ None
  -- K11 of both: the first in program order, of those that are passed
  pub both : first_among (on_f 4 ints_range ints_range ∷ on_main 1 8 2 4 ints_range ∷ []) (0 ∷ 1 ∷ []) ≡ at 11 1
  pub second : first_among (on_f 4 ints_range ints_range ∷ on_main 1 7 2 4 ints_range ∷ []) (1 ∷ []) ≡ at 11 2
  pub neither : first_among (on_f 4 ints_range ints_range ∷ on_main 1 7 2 4 ints_range ∷ []) [] ≡ None
  -- K1, K2 and K14 of all, and by number: K2 comes before K11 of a function that is passed, and K11 before K14
  pub fit : first_among (on_f 5 ints_range ints_range ∷ []) [] ≡ at 1 2
  pub rank : first_among (on_f 4 ints_range ints_range ∷ on_main 0 9 2 4 ints_range ∷ []) (0 ∷ []) ≡ at 2 7
  pub total : first_among (on_f 5 ints_range ints_range ∷ on_main 1 10 2 4 ints_range ∷ []) [] ≡ at 14 2
  pub steps : first_among (on_f 4 ints_range ints_range ∷ on_main 1 10 2 4 ints_range ∷ []) (0 ∷ []) ≡ at 11 1
  -- nothing is passed where K0 fails or K1
  pub stale : passed_for four (edited words_before 9 (stated before 9 []) (stated (said 2 20 ∷ said 4 11 ∷ said 2 12 ∷ said 10 13 ∷ []) 9 [])) ≡ []
  pub unfit : passed_for four (edited words_before 9 (stated before 8 []) (stated (said 2 10 ∷ said 4 11 ∷ said 2 12 ∷ []) 9 [])) ≡ []
