-- The cells of the scalars so far were put, and the items so far give nothing for others.
use Rattle.std.proofs.Common.{◌≡◌, map, take}
use Rattle.p10_core.specs.Types.{plain_type, bare}
use Rattle.p10_core.specs.Sizes.{scalars_of}
use Rattle.p10_core.specs.Views.{plain_types, plain_item}
use Rattle.p10_meaning.specs.Opening.{listed_cells}
use Rattle.p10_interp.specs.private.Operations.{scalars_of_items}
use Rattle.p10_interp.specs.private.Listing.{IsListedFrom}
use Rattle.p10_interp.proofs.constants.put_listed_cells.Given as goal

abbrev pub invariant-loop-i : goal.invariant-loop-i
invariant-loop-i l =
    (l.cells.items ≡ take l.i (listed_cells 0 (scalars_of (plain_types l.types) (bare (plain_types l.types) (plain_type l.t))) (scalars_of_items (map plain_item l.fn.listed.items.now) l.fn.listed.values.now))) ×
    (l.listed.items.now ≡ l.fn.listed.items.now) × (l.listed.values.now ≡ l.fn.listed.values.now) × IsListedFrom l.i (map plain_item l.listed.items.now) l.listed.values.now l.listed.ordered l.listed.place l.listed.used
