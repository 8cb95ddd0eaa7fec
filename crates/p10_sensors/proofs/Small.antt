-- The text of some values, computed.
use Rattle.std.proofs.Common.{refl}
use Rattle.std.specs.Fmt.{digits}
use Rattle.p10_sensors.specs.Laws.{SmallText}

pub small_text : SmallText
unfolding digits
small_text = refl
