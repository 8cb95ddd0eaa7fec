use Rattle.std.proofs.Common.{arith}
use Rattle.p10_macros.proofs.Tables.{IsUndefined, is_undefined, IsNotUndefined, is_not_undefined, place_within}
use Rattle.p10_macros.proofs.table.Macros.undefine.Goals as goal
use Rattle.p10_macros.proofs.table.Macros.undefine.Goals.{After-own_in, In-None}

pub put_at-removed-requires : goal.put_at-removed-requires
put_at-removed-requires c = place_within c.args.name.now c.args.self.now.kept.items c.args.self.now.places c.in-Some.place c.args.self.now.placed c.in-Some.ensures.value

-- the macros without the one of the name
gone : (c : After-own_in) → IsUndefined c.args.name.now c.args.self.now.kept.items c.put_at-removed.new.kept.items c.remove.new.self c.put_at-removed.result
gone c =
    is_undefined c.args.name.now c.args.self.now.kept.items c.put_at-removed.new.kept.items c.args.self.now.places c.remove.new.self c.in-Some.place c.put_at-removed.result c.args.self.now.placed
    c.in-Some.ensures.value c.remove.ensures.updates c.put_at-removed.ensures.put c.put_at-removed.ensures.taken

pub overflow_sub-self : goal.overflow_sub-self
overflow_sub-self c = let g = gone c in omega (arith, g.counted, c.args.self.now.counted, c.own_in.ensures)

pub invariant_of-self-in-Some : goal.invariant_of-self-in-Some
invariant_of-self-in-Some c = let g = gone c in record {
  placed = g.placed;
  counted = omega (arith, g.counted, c.args.self.now.counted, c.own_in.ensures);
}

pub returns-in-Some : goal.returns-in-Some
returns-in-Some c = (gone (goal.at.returns-in-Some c).After-own_in).table

-- no macro has the name
none_gone : (c : In-None) → IsNotUndefined c.args.name.now c.args.self.now.kept.items c.remove.new.self
none_gone c = is_not_undefined c.args.name.now c.args.self.now.kept.items c.args.self.now.places c.remove.new.self c.args.self.now.placed c.in-None.ensures.value c.remove.ensures.updates

pub invariant_of-self : goal.invariant_of-self
invariant_of-self c = record { placed = (none_gone c).placed; counted = c.args.self.now.counted }

pub returns-in-None : goal.returns-in-None
returns-in-None c = (none_gone (goal.at.returns-in-None c).In-None).table
