use Rattle.std.proofs.Common.{◌≡◌, ◌++◌, nat_le, ◌&&◌, sym, ◌∙◌, ap}
use Rattle.std.proofs.lemmas.List.{length-map}
use Rattle.p10_base.specs.declared.codes.SubsetCode.TheVariants as subset
use Rattle.p10_core.specs.Views.{plain_function}
use Rattle.p10_elabx.specs.First.{only_first}
use Rattle.p10_elabd.specs.Standing.{refusing}
use Rattle.p10_elabd.specs.Blocks.{with_name}
use Rattle.p10_elabd.specs.Views.{plain_standing}
use Rattle.p10_linkage.specs.Linkage.{Linked, linked_noted, main_problem}
use Rattle.p10_linkage.specs.LinkedViews.{linked_of_name}
use Rattle.p10_elab.specs.Knowledge.{Known, meaning_by, linked_meaning, sighted_where, undefined_where}
use Rattle.p10_elab.specs.KnownViews.{plain_known}
use Rattle.p10_elab.proofs.known.add_linked.Goals as goal

pub returns : goal.returns
returns c = λ heads number_is count_is taken_is.
    let k : Known = plain_known c.args.known.now in
    let l : Linked = linked_of_name c.args.linked in
    let noted : plain_standing c.refuse_where.new.self ≡ linked_noted only_first k.linked l k.standing =
    c.refuse_where.ensures ∙ ap (λ b. refusing only_first b subset.DefinedTwice l.at k.standing) (sym (c.is_refused-refused.ensures k.standing taken_is)) in
    let standing =
    (λ i. record (plain_standing c.refuse_where.new.self) { scope = c.in_ok-declare.ensures.ok i })
    ∙ ap (with_name (plain_standing c.refuse_where.new.self) l.name) (c.in_ok-named.ensures ∙ ap (λ n. meaning_by l.type n l.sensor) (sym number_is))
    ∙ ap (λ s. with_name s l.name (linked_meaning heads l)) noted in
    let mains = c.in_ok-push_problem.ensures ∙ ap (λ rs. k.mains ++ rs) (c.main_problem-problem.ensures ∙ ap (λ b. main_problem b l.name l.at) c.is_main.ensures) in
    let functions = c.len-from.ensures ∙ c.args.known.now.functions.ok.0 ∙ sym (length-map c.args.known.now.functions.items plain_function) in
    let sightings = c.in_ok-sight_where.ensures ∙ (λ i. sighted_where (c.is_object-object.ensures i) (sym number_is i) (functions i) k.sightings) in
    let undefined = c.in_ok-add_undefined_where.ensures
    ∙ (λ i. undefined_where (c.is_object-object.ensures i && nat_le (sym count_is i) (sym number_is i)) l.name (functions i) k.undefined) in
    λ i. record {
      standing = standing i;
      root = k.root;
      linked = c.in_ok-add.ensures i;
      functions = k.functions;
      block_objects = k.block_objects;
      objects = k.objects;
      sightings = sightings i;
      visible = k.visible;
      mains = mains i;
      tentative = k.tentative;
      undefined = undefined i;
      outside = k.outside;
    }
