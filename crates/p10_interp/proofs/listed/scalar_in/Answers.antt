-- An item has a value or a text.
use Rattle.std.proofs.Common.{sym, ◌∙◌, ap, subst}
use Rattle.p10_core.specs.Views.{plain_written}
use Rattle.p10_interp.specs.private.Listing.{LooksAt, byte_for}
use Rattle.p10_interp.proofs.Filled.{given_in, passed_in, none_in, looks_text}
use Rattle.p10_interp.proofs.listed.scalar_in.Goals as goal

pub returns-then-item-number : goal.returns-then-item-number
returns-then-item-number c = λ more. given_in c.args.number c.args.item.now.scalar c.args.item.now.written _ c.args.values.now c.args.used c.in-Some.x more c.in-Scalar.is (sym c.get.ensures ∙ c.in-Some.is) c.if-item-number.true

pub returns-else-item-number : goal.returns-else-item-number
returns-else-item-number c = λ more. passed_in c.args.number c.args.item.now.scalar c.args.item.now.written _ c.args.values.now c.args.used c.in-Some.x more c.in-Scalar.is (sym c.get.ensures ∙ c.in-Some.is) c.if-item-number.false

pub returns-in-None : goal.returns-in-None
returns-in-None c = λ more. none_in c.args.number c.args.item.now.scalar c.args.item.now.written _ c.args.values.now c.args.used more c.in-Scalar.is (sym c.get.ensures ∙ c.in-None.is)

pub returns-in-Text : goal.returns-in-Text
returns-in-Text c = λ more.
    subst (λ w. LooksAt c.args.number c.args.item.now.scalar (plain_written w) c.args.values.now c.args.used more c.byte_value.result) (sym c.in-Text.is) (looks_text c.args.number c.args.item.now.scalar _ c.args.values.now c.args.used more c.byte_for.result c.byte_value.result (c.byte_for.ensures ∙ ap (λ bytes. byte_for bytes c.args.item.now.scalar c.args.number) c.as_slice.ensures) c.byte_value.ensures)
