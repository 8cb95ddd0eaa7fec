-- An item has a value or a text.
use Rattle.std.proofs.Common.{sym, ◌∙◌, ap, subst}
use Rattle.p10_core.specs.Views.{plain_written}
use Rattle.p10_machine.specs.Listing.{LooksAt, byte_for}
use Rattle.p10_machine.specs.Views.{slot_of}
use Rattle.p10_machine.proofs.Filled.{given_in, passed_in, looks_text}
use Rattle.p10_machine.proofs.listed.scalar_in.Goals as goal

pub returns-then-item-number : goal.returns-then-item-number
returns-then-item-number c = λ more. given_in c.args.number c.args.item.now.scalar c.args.slot c.args.item.now.written _ (slot_of c.args.m.now) c.value.result more c.in-Scalar.is c.if-item-number.true c.value.ensures

pub returns-else-item-number : goal.returns-else-item-number
returns-else-item-number c = λ more. passed_in c.args.number c.args.item.now.scalar c.args.slot c.args.item.now.written _ (slot_of c.args.m.now) more c.in-Scalar.is c.if-item-number.false

pub returns-in-Text : goal.returns-in-Text
returns-in-Text c = λ more.
    subst (λ w. LooksAt c.args.number c.args.item.now.scalar (plain_written w) (slot_of c.args.m.now) c.args.slot more c.byte_value.result) (sym c.in-Text.is) (looks_text c.args.number c.args.item.now.scalar c.args.slot _ (slot_of c.args.m.now) more c.byte_for.result c.byte_value.result (c.byte_for.ensures ∙ ap (λ bytes. byte_for bytes c.args.item.now.scalar c.args.number) c.as_slice.ensures) c.byte_value.ensures)
