use Rattle.std.proofs.Common.{map, ap}
use Rattle.p10_diff.specs.Ranked.{rank_by}
use Rattle.p10_front.specs.Answers.{reading_of}
use Rattle.p10_derive_command.proofs.Versions.{each_derived, sealed_alike, sealed_comes, alone_comes, memory_comes}
use Rattle.p10_derive_command.proofs.program.in_version.Goals as goal

pub seal-requires : goal.seal-requires
seal-requires c = each_derived c.args.reading.now.program c.args.diff c.args.claims c.requires.derived

pub returns-in-Ok : goal.returns-in-Ok
returns-in-Ok c =
    sealed_comes c.args.reading.now.program (reading_of c.args.reading.now) c.args.version c.args.diff c.args.claims (map rank_by c.args.ranks.items) c.in-Ok.text (c.is_second.ensures.yes c.if-is_second.true) c.requires.derived c.requires.ranks
    (sealed_alike c.args.reading.now.program (reading_of c.args.reading.now) c.args.claims (map rank_by c.as_slice.result.now) (map rank_by c.args.ranks.items) c.in-Ok.text (ap (map rank_by) c.as_slice.ensures.value) c.in-Ok.ensures)

pub returns-then-is_second : goal.returns-then-is_second
returns-then-is_second c = memory_comes c.args.reading.now.program (reading_of c.args.reading.now) c.args.version c.args.diff c.args.claims c.requires.derived

pub returns : goal.returns
returns c = alone_comes c.args.reading.now.program (reading_of c.args.reading.now) c.args.version c.args.diff c.args.claims (c.is_second.ensures.no c.if-is_second.false) c.requires.derived
