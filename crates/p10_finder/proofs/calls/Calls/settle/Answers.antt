-- The function has another number, lies on a cycle, or has its result.
use Rattle.std.proofs.Common.{◌≡◌, ◌∙◌, true, sym, arith}
use Rattle.std.proofs.lemmas.List.{length-map}
use Rattle.std.proofs.lemmas.Result.{on_ok_weaker}
use Rattle.p10_core.specs.Views.{plain_function, plain_program}
use Rattle.p10_graph.specs.Graphs.{IsOnCycle}
use Rattle.p10_cert.specs.Claims.{claims_of}
use Rattle.p10_finder.proofs.Settled.{claims_apart, claims_cyclic, claims_more}
use Rattle.p10_approach.specs.Offers.{offers_if}
use Rattle.p10_finder.proofs.calls.Calls.settle.Goals as goal

pub find-requires : goal.find-requires
find-requires c = omega (arith, c.requires.there, c.requires.calls.nodes)

pub returns-then-is_on_cycle : goal.returns-then-is_on_cycle
returns-then-is_on_cycle c =
    let self = c.args.self.now in
    let nodes = c.requires.calls.nodes ∙ sym (length-map self.program.now.functions plain_function) in
    claims_cyclic (offers_if self.approaching) (plain_program self.program.now) self.graph.now self.numbers.now nodes c.requires.calls.edges c.requires.graph c.requires.calls.numbers c.args.node c.args.number c.requires.lone (claims_of c.args.claims.now) c.requires.settled
    (c.is_on_cycle.ensures.0 c.if-is_on_cycle.true)

pub returns-else-is_on_cycle : goal.returns-else-is_on_cycle
returns-else-is_on_cycle c =
    let self = c.args.self.now in
    let nodes = c.requires.calls.nodes ∙ sym (length-map self.program.now.functions plain_function) in
    let off : IsOnCycle self.graph.now c.args.node → ⊥ = λ on. let yes : c.is_on_cycle.result ≡ true = c.is_on_cycle.ensures.1 on in let no = c.if-is_on_cycle.false in absurd cc in
    on_ok_weaker c.find.result
    (claims_more (offers_if self.approaching) (plain_program self.program.now) self.graph.now self.numbers.now nodes c.requires.calls.edges c.requires.graph c.requires.calls.numbers c.args.node c.args.number c.requires.lone (claims_of c.args.claims.now) c.requires.settled
    (claims_of c.find.new.claims) c.requires.there off c.if-self-node.true)
    c.find.ensures

pub returns-else-self-node : goal.returns-else-self-node
returns-else-self-node c =
    let self = c.args.self.now in
    let nodes = c.requires.calls.nodes ∙ sym (length-map self.program.now.functions plain_function) in
    claims_apart (offers_if self.approaching) (plain_program self.program.now) self.graph.now self.numbers.now nodes c.requires.calls.edges c.requires.graph c.requires.calls.numbers c.args.node c.args.number c.requires.lone (claims_of c.args.claims.now) c.requires.settled
    c.if-self-node.false
