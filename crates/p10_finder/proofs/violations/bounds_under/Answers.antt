use Rattle.std.proofs.lemmas.List.Filters.{dedup_is}
use Rattle.p10_core.specs.Views.{plain_program}
use Rattle.p10_cert.specs.Claims.{claims_of}
use Rattle.p10_flowrules.proofs.FlowOrder.{same}
use Rattle.p10_finder.proofs.Lacking.{all_in_order}
use Rattle.p10_approach.specs.Offers.{offers_if}
use Rattle.p10_finder.proofs.violations.bounds_under.Goals as goal

pub returns-clause-all : goal.returns-clause-all
returns-clause-all c =
    all_in_order (offers_if c.args.approaching) (plain_program c.args.program.now) (claims_of c.args.claims.now) c.in_ok-violations.violations.items c.push_unbounded.new.violations.items c.sort.new.self.items c.dedup.new.self.items c.in_ok-looked.looked.spans.items c.as_slice.result.now
    c.in_ok-violations.ensures.exact c.in_ok-looked.ensures.spans c.as_slice.ensures.value c.in_ok-push_unbounded.ensures c.in_ok-sort.ensures.permutation c.in_ok-sort.ensures.sorted (dedup_is same _ _ c.dedup.ensures.filtered)
