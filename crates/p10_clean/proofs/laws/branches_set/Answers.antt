use Rattle.std.proofs.Common.{refl}
use Rattle.p10_clean.proofs.laws.branches_set.Goals as goal

pub returns : goal.returns
returns c = record { nothing = refl; assigned = refl; other = refl; declared = refl; declared_again = refl; in_block = refl; on_one_way = refl; on_both_ways = refl; on_the_only_way = refl; after_a_jump = refl }
