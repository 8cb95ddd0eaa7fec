use Rattle.std.proofs.Common.{◌++◌, map, sym, ap, ◌∙◌}
use Rattle.std.proofs.lemmas.List.{length-map}
use Rattle.p10_core.specs.Views.{plain_function}
use Rattle.p10_elabx.specs.First.{only_first}
use Rattle.p10_elab.specs.Knowledge.{Known}
use Rattle.p10_elab.specs.RootEnds.{sizes_noted, extents_of, outside_of}
use Rattle.p10_elab.specs.OuterViews.{plain_tentative}
use Rattle.p10_elab.specs.KnownViews.{plain_known, plain_undefined}
use Rattle.p10_elab.proofs.root_walk.end_root.Goals as goal

pub returns : goal.returns
returns c =
    let k : Known = plain_known c.args.known.now in
    let standing = c.note_sizes.ensures ∙ ap (λ all. sizes_noted only_first (map plain_tentative all) k.standing) c.deref.ensures.value in
    let functions = c.in_ok-to.ensures ∙ c.len.ensures ∙ c.args.known.now.functions.ok.0 ∙ sym (length-map c.args.known.now.functions.items plain_function) in
    let visible = c.in_ok-append.ensures.items ∙ ap (λ es. k.visible ++ es) (c.in_ok-extents.ensures ∙ (λ i. extents_of (functions i) (c.rows.ensures i))) in
    let outside = c.in_ok-put_outside.ensures ∙ (λ i. k.outside ++ outside_of (functions i) (plain_undefined (c.deref-2.ensures.value i))) in
    λ i. record {
      standing = standing i;
      root = c.in_ok-known.ensures i;
      linked = k.linked;
      functions = k.functions;
      block_objects = k.block_objects;
      objects = k.objects;
      sightings = k.sightings;
      visible = visible i;
      mains = k.mains;
      tentative = k.tentative;
      undefined = k.undefined;
      outside = outside i;
    }
