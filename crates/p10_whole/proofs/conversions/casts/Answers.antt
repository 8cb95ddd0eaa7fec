use Rattle.std.proofs.Common.{◌∙◌, ap}
use Rattle.p10_core.specs.Types.{plain_type}
use Rattle.p10_core.specs.Views.{plain_value}
use Rattle.p10_whole.specs.private.Places.{gives_memory}
use Rattle.p10_whole.proofs.Converting.{casts_shown}
use Rattle.p10_whole.proofs.conversions.casts.Goals as goal

pub returns : goal.returns
returns c =
    casts_shown (plain_type c.args.t.now) (plain_value c.args.v.now) c.is_bare_void.result c.is_integer.result c.is_integer-from.result c.is_null_at.result c.is_pointer.result c.are_same.result c.gives_memory.result
    c.is_bare_void.ensures c.is_integer.ensures c.is_integer-from.ensures c.is_null_at.ensures c.is_pointer.ensures c.are_same.ensures (c.gives_memory.ensures ∙ ap gives_memory c.library_in.ensures)
