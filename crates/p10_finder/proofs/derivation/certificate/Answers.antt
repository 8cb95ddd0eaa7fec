use Rattle.std.proofs.Common.{sym, subst}
use Rattle.p10_core.specs.Views.{plain_program}
use Rattle.p10_graph.specs.Components.{AreComponents}
use Rattle.p10_cert.specs.Claims.{claims_of}
use Rattle.p10_finder.proofs.UnsummedClaims.{own_unsummed}
use Rattle.p10_approach.specs.Offers.{offers_if}
use Rattle.p10_finder.proofs.derivation.certificate.Goals as goal

pub certificate-requires : goal.certificate-requires
certificate-requires c = record {
  whole = c.requires.program;
  calls = record { nodes = c.in_ok-graph.ensures.count; edges = c.in_ok-graph.ensures.edges; numbers = subst (AreComponents c.in_ok-graph.graph) (sym c.as_slice.ensures.value) c.in_ok-numbers.ensures };
  ranks = c.requires.ranks;
  claims = own_unsummed (offers_if c.args.approaching) (plain_program c.args.program.now) (claims_of c.args.results.now) (claims_of c.in_ok-claims.claims) c.args.ranks.now c.requires.ranks c.requires.right c.in_ok-claims.ensures;
}
