use Rattle.std.proofs.Common.{◌≡◌, to_z, of_z, rules}
use Rattle.std.proofs.lemmas.Int.{to_z-of_z}
use Rattle.std.specs.Int.{w128}
use Rattle.std.proofs.lemmas.Result.{on_ok_weaker}
use Rattle.p10_diff.specs.Listed.{bounds_listed}
use Rattle.p10_diff.proofs.Tabled.{put_told, none_told}
use Rattle.p10_diff.proofs.tables.put.Goals as goal

pub returns-in-Some : goal.returns-in-Some
returns-in-Some c =
    let same : to_z w128 (of_z w128 c.in-Some.most) ≡ c.in-Some.most = to_z-of_z w128 c.in-Some.most (search rules) in
    on_ok_weaker c.put_in.result (put_told c.args.u c.args.w c.args.most c.in-Some.most (to_z w128 (of_z w128 c.in-Some.most)) c.place.result c.args.table.now.items c.put_in.new.table.items c.in-Some.is same c.place.ensures.is) c.put_in.ensures

pub returns-in-None : goal.returns-in-None
returns-in-None c = none_told c.args.u c.args.w c.args.most (bounds_listed c.args.table.now.items) c.in-None.is
