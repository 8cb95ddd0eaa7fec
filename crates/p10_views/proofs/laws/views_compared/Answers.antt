use Rattle.std.proofs.Common.{refl}
use Rattle.p10_core.specs.Sizes.{layout_of}
use Rattle.p10_views.proofs.laws.views_compared.Goals as goal

pub returns : goal.returns
unfolding layout_of
returns c = record { moved = refl; two_scalars = refl; pointer_to_pair = refl; wide = refl }
