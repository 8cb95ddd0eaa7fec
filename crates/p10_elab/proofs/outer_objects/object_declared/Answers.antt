use Rattle.std.proofs.Common.{◌≡◌, ◌||◌, if◌then◌else◌, [], ◌∷◌, ◌++◌, refl, ap, ◌∙◌}
use Rattle.p10_syn.specs.Built.{identifier_of}
use Rattle.p10_syn.specs.BuiltStatements.{initial_of}
use Rattle.p10_core.specs.Types.{plain_type}
use Rattle.p10_heads.specs.PlainHeads.{plain_heads}
use Rattle.p10_linkage.specs.Linkage.{an_object}
use Rattle.p10_elabs.specs.Locals.{is_written}
use Rattle.p10_elab.specs.Knowledge.{Known, linked_of}
use Rattle.p10_elab.specs.Outer.{is_extern, with_tentative}
use Rattle.p10_elab.specs.KnownViews.{plain_known}
use Rattle.p10_elab.specs.private.Defining.{defined_after}
use Rattle.p10_elab.proofs.Objects.{tentative_where, declared_object}
use Rattle.p10_elab.proofs.outer_objects.object_declared.Goals as goal

pub returns : goal.returns
returns c =
    let k : Known = plain_known c.args.known.now in
    let name = identifier_of c.args.name in
    let t = plain_type c.args.ty in
    let i = initial_of c.args.initial.now in
    let settled : (c.is_written-written.result || c.is_extern.result) ≡ (is_written i || is_extern c.args.shared.storage) = λ j. c.is_written-written.ensures j || c.is_extern.ensures j in
    let noted =
    tentative_where name t (c.is_written-written.result || c.is_extern.result) (plain_known c.declare_linked.new.known) _ c.in_ok-note_tentative.ensures
    ∙ (λ j. if settled j then plain_known c.declare_linked.new.known else record (plain_known c.declare_linked.new.known) { tentative = (plain_known c.declare_linked.new.known).tentative ++ record { name = name; type = t } ∷ [] })
    ∙ ap (with_tentative name t c.args.shared.storage i) c.in_ok-declare_linked.ensures in
    declared_object (plain_heads c.args.setting.now.heads.now) name t c.args.shared.storage c.args.shared.sensor i k _ _ _ _ _ _
    (c.linked_of-linked.ensures k refl refl
    ∙ ap (λ u. linked_of k name u c.args.shared.storage c.is_written-written.result c.args.shared.sensor) c.in_ok-kind.ensures
    ∙ ap (λ b. linked_of k name (an_object t) c.args.shared.storage b c.args.shared.sensor) c.is_written-written.ensures)
    c.object_number-number.ensures noted c.in_ok-made.ensures
    (c.in_ok-define_object.ensures ∙ ap (λ o. defined_after (plain_heads c.args.setting.now.heads.now) o (plain_known c.declare_linked.new.known).objects) c.object_of-object.ensures)
