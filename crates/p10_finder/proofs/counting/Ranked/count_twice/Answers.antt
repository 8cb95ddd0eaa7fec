use Rattle.std.proofs.Common.{◌∙◌, ap}
use Rattle.p10_core.specs.Views.{plain_program}
use Rattle.p10_cert.specs.Claims.{claims_of}
use Rattle.p10_finder.specs.private.Counting.{counted_once}
use Rattle.p10_finder.proofs.counting.Ranked.count_twice.Goals as goal

pub returns : goal.returns
returns c = record {
  claims = c.in_ok-count_once-2.ensures.claims;
  sums =
      c.in_ok-count_once-2.ensures.sums
      ∙ ap (counted_once (plain_program c.args.self.now.calls.program.now) (claims_of c.args.self.now.claims.now).funcs c.args.node) c.in_ok-count_once.ensures.sums;
}
