-- What derivation answers of whole small programs: a certificate, violations, or a limit.
use Rattle.std.specs.Prelude.{ℕ, ◌+◌, ◌^◌, ◌-◌, List, [], ◌∷◌, pos}
use Rattle.p10_base.specs.declared.report.Violation.{Violation}
use Rattle.p10_base.specs.declared.report.TheConstants.Limit.{SUM}
use Rattle.p10_core.specs.Typed.{empty, PlainProgram}
use Rattle.p10_cert.specs.declared.claims.Rank.TheVariants.{Up}
use Rattle.p10_cert.specs.Claims.{Func, Claims}
use Rattle.p10_sums.specs.Sums.{sum_at}
use Rattle.p10_meaning.specs.Examples.{span, number, does, block_of, returns, int_variable, main_of}
use Rattle.p10_meaning.specs.Costs.{summing}
use Rattle.p10_pass.specs.SmallPasses.{upto, all_ints, line, least_sum, wrapping}
use Rattle.p10_finder.specs.Functions.{counted_sum, total_of}
use Rattle.p10_finder.specs.Answers.{bound_row, Violating, Over, Certified, IsDerived}
use Rattle.p10_finder.specs.Worked.{claiming, outer_loop, to_the_end}
use Rattle.p10_approach.specs.Offers.{no_offers}

-- claims of functions, with the total of the program's `main`
abbrev pub certificate_with : PlainProgram → List Func → Claims
certificate_with p funcs = record { funcs = funcs; total = total_of (counted_sum (sum_at p funcs p.main)) }

-- what is claimed of `int s = 0; for (uint8_t i = 0; i < 10; i++) { s += 2; } return s;`
abbrev pub summing_claim : Func
summing_claim = claiming 0 121 1 5 [] least_sum (outer_loop (Up 1 (pos 10)) 10 (line 0 least_sum ∷ line 1 (upto 0 10) ∷ []) ∷ [])

-- the violation of row 2.1 at a span by a number
abbrev pub unbounded_at : ℕ → Violation
unbounded_at n = record { sub = bound_row; span = span n }

-- `for (int i = 0; i <= 2147483647; i++) { for (int j = 0; j <= 2147483647; j++) { ; } } return 0;`
abbrev pub long_running : PlainProgram
long_running = main_of (int_variable ∷ int_variable ∷ []) (to_the_end 0 0 (block_of (to_the_end 1 1 (does empty) ∷ [])) ∷ returns (number (pos 0)) ∷ [])

-- what is claimed of it: more steps than a certificate may have
abbrev pub long_claim : Func
long_claim = claiming 0 (10 ^ 18 + 1) 1 8 [] all_ints
    (outer_loop (Up 0 (pos (2 ^ 31))) (2 ^ 31) (line 0 (upto 0 (2 ^ 31 - 1)) ∷ []) ∷
    record { depth = 1; rank = Up 1 (pos (2 ^ 31)); turns = 2 ^ 31; vars = line 0 (upto 0 (2 ^ 31 - 1)) ∷ line 1 (upto 0 (2 ^ 31 - 1)) ∷ [] } ∷ [])

-- an answer of each kind
pub record AnswersOfEachKind : Type 0 where
  pub certified : IsDerived no_offers summing (Certified (certificate_with summing (summing_claim ∷ [])))
  pub violating : IsDerived no_offers wrapping (Violating (unbounded_at 4 ∷ []))
  pub over : IsDerived no_offers long_running (Over SUM)
