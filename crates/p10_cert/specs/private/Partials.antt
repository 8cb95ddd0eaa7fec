-- What the code has read of a function.
use Rattle.std.specs.Prelude.{map}
use Rattle.std.specs.Option.{option_map}
use Rattle.p10_cert.specs.declared.building.Partial.{Partial}
use Rattle.p10_cert.specs.Claims.{value_of, loop_of}
use Rattle.p10_cert.specs.Sealed.{bytes_of}
use Rattle.p10_cert.specs.private.Building.{Part}
use Rattle.p10_cert.specs.private.Plain.{plain_head}

-- the part that the code has
abbrev pub part_of : Partial → Part
part_of p = record {
  head = plain_head p.head;
  digest = option_map bytes_of p.digest;
  params = map value_of p.params;
  result = value_of p.result;
  loops = map loop_of p.loops;
  last = option_map loop_of p.last;
}
