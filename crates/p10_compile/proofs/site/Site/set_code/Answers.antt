-- What a place is decides how it is set.
use Rattle.std.proofs.Common.{map, sym, ◌∙◌, ap}
use Rattle.p10_core.specs.Views.{plain_value, plain_place}
use Rattle.p10_code.specs.ValueCode.{in_frame, in_object, spot_of}
use Rattle.p10_compile.specs.Views.{plain_op, plain_site, plain_spot}
use Rattle.p10_compile.proofs.Forms.{set_along}
use Rattle.p10_compile.proofs.site.Site.set_code.Goals as goal

pub returns-in-InFrame : goal.returns-in-InFrame
returns-in-InFrame c =
    set_along (plain_site c.args.self.now) (spot_of (plain_site c.args.self.now) (plain_place c.args.place.now)) (in_frame c.in-InFrame.number) c.args.place.now.at.span c.args.at (plain_place c.args.place.now) (plain_value c.args.v.now) c.variable_set.result (λ code. map plain_op code.items)
    (sym (ap plain_spot c.in-InFrame.is) ∙ c.spot_of.ensures) c.variable_set.ensures

pub returns-in-InObject : goal.returns-in-InObject
returns-in-InObject c =
    set_along (plain_site c.args.self.now) (spot_of (plain_site c.args.self.now) (plain_place c.args.place.now)) in_object c.args.place.now.at.span c.args.at (plain_place c.args.place.now) (plain_value c.args.v.now) c.object_set.result (λ code. map plain_op code.items)
    (sym (ap plain_spot c.in-InObject.is) ∙ c.spot_of.ensures) c.object_set.ensures
