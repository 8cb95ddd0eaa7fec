use Rattle.std.proofs.Common.{◌≡◌, map, drop, length}
use Rattle.std.specs.Prelude.{option_map}
use Rattle.p10_core.specs.Views.{plain_function, plain_program}
use Rattle.p10_cert.specs.Statements.{Statement, IsStatement}
use Rattle.p10_pass.specs.Leaving.{failing_of}
use Rattle.p10_check.specs.Texts.{claims_in}
use Rattle.p10_check.specs.private.Firsts.{earliest_from}
use Rattle.p10_check.specs.private.Keeping.{claims_kept, lines_kept, AreKept}
use Rattle.p10_check.proofs.text.earliest_in_text.Given as goal

-- what is kept stays
abbrev pub invariant-loop-number : goal.invariant-loop-number
invariant-loop-number g l = record {
  same : l.kept ≡ l.fn.kept;
  so_far : (s : Statement) → IsStatement s → AreKept s.entries (claims_kept l.fn.kept) (lines_kept l.fn.kept) → length (claims_in s).funcs ≡ length (plain_program l.program).functions
      → earliest_from (g.E.Evidence.standing l.evidence (plain_program l.program)) (plain_program l.program) (claims_in s) (option_map failing_of l.found) l.number (map plain_function (drop l.number l.program.functions))
      ≡ earliest_from (g.E.Evidence.standing l.evidence (plain_program l.program)) (plain_program l.program) (claims_in s) (option_map failing_of l.fn.first) 0 (map plain_function l.program.functions);
}
