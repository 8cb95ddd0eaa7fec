-- The keywords and the ranks so far, and those of the functions that are left.
use Rattle.std.proofs.Common.{◌≡◌, ◌++◌, drop, map}
use Rattle.p10_core.specs.Views.{plain_function, plain_program}
use Rattle.p10_cert.specs.Claims.{claims_of}
use Rattle.p10_diff.specs.Ranked.{rank_by}
use Rattle.p10_approach.specs.Offers.{offers_if}
use Rattle.p10_finder.specs.Ranking.{ranks_from}
use Rattle.p10_finder.specs.private.Judging.{lacking_from}
use Rattle.p10_finder.proofs.violations.looked_through.Given as goal

abbrev pub invariant-loop-n : goal.invariant-loop-n
invariant-loop-n l = record {
  spans : l.spans.items ++ lacking_from (offers_if l.approaching) (plain_program l.program) (claims_of l.claims) l.n (map plain_function (drop l.n l.functions)) ≡ lacking_from (offers_if l.approaching) (plain_program l.program) (claims_of l.claims) 0 (map plain_function l.functions);
  ranks : map rank_by l.ranks.items ++ ranks_from (offers_if l.approaching) (plain_program l.program) (claims_of l.claims) l.n (map plain_function (drop l.n l.functions)) ≡ ranks_from (offers_if l.approaching) (plain_program l.program) (claims_of l.claims) 0 (map plain_function l.functions);
}
