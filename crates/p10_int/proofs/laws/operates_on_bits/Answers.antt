use Rattle.p10_int.proofs.BitTables.{bits_by_table}
use Rattle.p10_int.proofs.laws.operates_on_bits.Goals as goal

pub returns : goal.returns
returns c = bits_by_table
