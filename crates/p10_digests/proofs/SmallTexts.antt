-- The lines of a small program, computed.
use Rattle.std.proofs.Common.{refl}
use Rattle.p10_digests.specs.Lines.{lines_outside, roots_outside}
use Rattle.p10_digests.specs.SmallTexts.{SmallFunction, SmallOutside}

pub small_function : SmallFunction
small_function = refl

pub small_outside : SmallOutside
unfolding lines_outside roots_outside
small_outside = refl
