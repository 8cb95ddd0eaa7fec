use Rattle.std.proofs.Common.{◌≡◌, ◌∙◌, Some, [], ap, sym, map}
use Rattle.p10_syn.specs.Trees.{initializer_row}
use Rattle.p10_syn.specs.BuiltStatements.{initializer_of}
use Rattle.p10_core.specs.Types.{plain_type}
use Rattle.p10_core.specs.Views.{plain_item}
use Rattle.p10_elabd.specs.Standing.{passed}
use Rattle.p10_elabd.specs.ItemViews.{plain_items}
use Rattle.p10_elabd.specs.Views.{plain_standing, told}
use Rattle.p10_elabd.proofs.BracedParts.{braced_value, braced_list}
use Rattle.p10_elabd.proofs.initializers.braced.Goals as goal

pub returns-then-single : goal.returns-then-single
returns-then-single c =
    let none_yet : told (Some (map plain_item c.new.result.items)) c.args.standing.now ≡ passed [] (plain_standing c.args.standing.now) =
    ap (λ xs. told (Some (map plain_item xs)) c.args.standing.now) c.new.ensures.items in
    braced_value c.args.life (plain_type c.args.ty.now) (plain_standing c.args.standing.now) c.args.at (initializer_row (map initializer_of c.args.all.now)) (told (Some (map plain_item c.new.result.items)) c.args.standing.now)
    (told (plain_items c.in_ok-items.items) c.list_passed.new.standing) _ (sym c.is_scalar-single.ensures ∙ c.if-single.true) none_yet c.in_ok-items.ensures c.only_value.ensures

pub returns-else-single : goal.returns-else-single
returns-else-single c =
    let none_yet : told (Some (map plain_item c.new.result.items)) c.args.standing.now ≡ passed [] (plain_standing c.args.standing.now) =
    ap (λ xs. told (Some (map plain_item xs)) c.args.standing.now) c.new.ensures.items in
    braced_list c.args.life (plain_type c.args.ty.now) (plain_standing c.args.standing.now) c.args.at (initializer_row (map initializer_of c.args.all.now)) (told (Some (map plain_item c.new.result.items)) c.args.standing.now)
    (told (plain_items c.in_ok-items.items) c.list_passed.new.standing) _ (sym c.is_scalar-single.ensures ∙ c.if-single.false) none_yet c.in_ok-items.ensures c.as_listed.ensures
