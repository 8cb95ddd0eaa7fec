-- A request is served, or isn't.
use Rattle.std.proofs.Common.{sym, ◌∙◌}
use Rattle.p10_core.specs.Types.{plain_type}
use Rattle.p10_core.specs.Views.{plain_program, plain_types}
use Rattle.p10_core.proofs.MemberLayouts.{object_by_test}
use Rattle.p10_machine.specs.Views.{state_of}
use Rattle.p10_machine.specs.Releasing.{cells_by}
use Rattle.p10_machine.proofs.Requested.{size_is, not_served, request_served}
use Rattle.p10_machine.proofs.allocating.request.Goals as goal

pub size-requires-clause-whole : goal.size-requires-clause-whole
size-requires-clause-whole c = (object_by_test (plain_types c.args.p.now.types) (plain_type c.args.t.now) (sym c.is_object.ensures ∙ c.if-not-is_object.false)).whole

pub returns-in_default : goal.returns-in_default
returns-in_default c = λ left io. not_served (plain_program c.args.p.now) (plain_type c.args.t.now) c.args.asked c.size.result (cells_by c.args.zero) (state_of left c.args.outside.now io) (c.size.ensures ∙ size_is (plain_types c.args.p.now.types) c.requires.structures (plain_type c.args.t.now) (sym c.is_object.ensures ∙ c.if-not-is_object.false)) c.in_default.ensures

pub returns-in-Some-checked_add : goal.returns-in-Some-checked_add
returns-in-Some-checked_add c = λ left io.
    request_served (plain_program c.args.p.now) (plain_type c.args.t.now) c.args.asked c.in-Some.count c.size.result c.in-Some-checked_add.requests (cells_by c.args.zero) (state_of left c.args.outside.now io) (state_of left c.grant.new.outside io) c.grant.result (c.size.ensures ∙ size_is (plain_types c.args.p.now.types) c.requires.structures (plain_type c.args.t.now) (sym c.is_object.ensures ∙ c.if-not-is_object.false)) c.in-Some.ensures.1 c.in-Some.ensures.0 c.in-Some-checked_add.ensures.1 (c.grant.ensures left io)
