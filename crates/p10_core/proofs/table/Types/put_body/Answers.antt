use Rattle.std.proofs.Common.{map, arith}
use Rattle.p10_core.specs.Types.{plain_member}
use Rattle.p10_core.proofs.Tables.{bodies_few, number_there, put_is_table}
use Rattle.p10_core.proofs.table.Types.put_body.Goals as goal
use Rattle.p10_core.proofs.table.Types.put_body.Goals.{After-index_mut}

pub overflow_cast-body : goal.overflow_cast-body
overflow_cast-body c =
    omega (
      arith,
      bodies_few c.args.self.now.structures.items c.args.self.now.bodies c.args.number (map plain_member c.args.members.items)
          (record { few = c.args.self.now.few; counted = c.args.self.now.counted; built = c.args.self.now.built }) c.requires.takes,
    )

pub index_mut-requires : goal.index_mut-requires
index_mut-requires c =
    omega (arith, number_there c.args.self.now.structures.items c.args.number (map plain_member c.args.members.items) c.requires.takes, c.args.self.now.structures.ok.0)

pub overflow_add-self : goal.overflow_add-self
overflow_add-self c =
    omega (
      arith,
      bodies_few c.args.self.now.structures.items c.args.self.now.bodies c.args.number (map plain_member c.args.members.items)
          (record { few = c.args.self.now.few; counted = c.args.self.now.counted; built = c.args.self.now.built }) c.requires.takes,
    )

pub invariant_of-self : goal.invariant_of-self
invariant_of-self c =
    let done = put_is_table c.args.self.now.structures.items c.args.self.now.bodies c.args.number c.index_mut.result.now _ (map plain_member c.args.members.items)
    (record { few = c.args.self.now.few; counted = c.args.self.now.counted; built = c.args.self.now.built }) c.requires.takes c.requires.lies.small c.index_mut.ensures.value
    (λ i. record {
      members = map plain_member (c.of.ensures i);
      order = c.args.self.now.counted i;
      bytes = c.requires.lies.bytes_are i;
      alignment = c.requires.lies.alignment_is i;
      scalars = c.requires.lies.scalars_are i;
      constant = c.requires.lies.constant_is i;
    }) in
    record { few = done.table.few; counted = done.table.counted; built = done.table.built }

pub returns : goal.returns
returns c =
    let done = put_is_table c.args.self.now.structures.items c.args.self.now.bodies c.args.number c.index_mut.result.now _ (map plain_member c.args.members.items)
    (record { few = c.args.self.now.few; counted = c.args.self.now.counted; built = c.args.self.now.built }) c.requires.takes c.requires.lies.small c.index_mut.ensures.value
    (λ i. record {
      members = map plain_member (c.of.ensures i);
      order = c.args.self.now.counted i;
      bytes = c.requires.lies.bytes_are i;
      alignment = c.requires.lies.alignment_is i;
      scalars = c.requires.lies.scalars_are i;
      constant = c.requires.lies.constant_is i;
    }) in
    done.same
