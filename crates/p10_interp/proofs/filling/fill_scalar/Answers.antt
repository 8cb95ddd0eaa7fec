-- A step, and a write.
use Rattle.std.proofs.Common.{map, refl}
use Rattle.p10_core.specs.Types.{plain_type, bare}
use Rattle.p10_core.specs.Sizes.{scalars_of}
use Rattle.p10_core.specs.Views.{plain_types, plain_item}
use Rattle.p10_interp.specs.private.Operations.{scalars_of_items}
use Rattle.p10_interp.specs.private.Machines.{state_of}
use Rattle.p10_interp.proofs.Filled.{scalar_filled, none_filled}
use Rattle.p10_interp.proofs.filling.fill_scalar.Goals as goal

pub returns-then-outside-eq0 : goal.returns-then-outside-eq0
returns-then-outside-eq0 c = λ io frame.
    none_filled c.args.place.0 (scalars_of_items (map plain_item c.args.listed.items.now) c.args.listed.values.now) (scalars_of (plain_types c.args.types.now) (bare (plain_types c.args.types.now) (plain_type c.args.t.now))) c.args.i c.args.place.1 frame (state_of c.args.outside.now io) c.in-Some.kind c.in-Some.ensures c.if-outside-eq0.true

pub returns : goal.returns
returns c = λ io frame.
    scalar_filled c.args.place.0 (scalars_of_items (map plain_item c.args.listed.items.now) c.args.listed.values.now) (scalars_of (plain_types c.args.types.now) (bare (plain_types c.args.types.now) (plain_type c.args.t.now))) c.args.i c.args.place.1 frame (state_of c.args.outside.now io) c.in-Some.kind c.in_ok-x.x c.args.outside.now.store c.write_part.new.store c.write_part.result
    c.in-Some.ensures c.if-outside-eq0.false (λ t k. c.in_ok-x.ensures.value t k) refl refl c.write_part.ensures
