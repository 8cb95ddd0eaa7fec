-- What is left to be written comes to what all comes to, and the items so far give nothing for it.
use Rattle.std.proofs.Common.{◌≡◌, map, drop}
use Rattle.p10_core.specs.Types.{plain_type, bare}
use Rattle.p10_core.specs.Sizes.{scalars_of}
use Rattle.p10_core.specs.Views.{plain_types, plain_item}
use Rattle.p10_meaning.specs.Statements.{Frame, fill}
use Rattle.p10_interp.specs.private.Operations.{scalars_of_items}
use Rattle.p10_interp.specs.private.Machines.{Around, state_of}
use Rattle.p10_interp.specs.private.Listing.{IsListedFrom}
use Rattle.p10_interp.proofs.filling.fill_scalars.Given as goal

abbrev pub invariant-loop-i : goal.invariant-loop-i
invariant-loop-i l =
    ((io : Around) (frame : Frame) → fill l.place.0 (scalars_of_items (map plain_item l.fn.listed.items.now) l.fn.listed.values.now) (scalars_of (plain_types l.types) (bare (plain_types l.types) (plain_type l.t))) 0 l.place.1 frame (state_of l.initial.outside io) ≡
    fill l.place.0 (scalars_of_items (map plain_item l.fn.listed.items.now) l.fn.listed.values.now) (drop l.i (scalars_of (plain_types l.types) (bare (plain_types l.types) (plain_type l.t)))) l.i l.place.1 frame (state_of l.outside io)) ×
    (l.listed.items.now ≡ l.fn.listed.items.now) × (l.listed.values.now ≡ l.fn.listed.values.now) × IsListedFrom l.i (map plain_item l.listed.items.now) l.listed.values.now l.listed.ordered l.listed.place l.listed.used
