use Rattle.std.proofs.Common.{refl}
use Rattle.p10_incr.proofs.laws.edits_touch.Goals as goal

pub returns : goal.returns
returns c = record {
  nothing = refl;
  words = refl;
  claim = refl;
  old = refl;
  entry = refl;
  leaf = refl;
  lacking = refl;
  outside = refl;
  outside_new = refl;
  outside_both = refl;
  lines = refl;
  empty = refl;
  same = refl;
  remarks = refl;
}
