use Rattle.std.proofs.Common.{◌∙◌, ap, map}
use Rattle.p10_syn.specs.BuiltStatements.{external_of}
use Rattle.p10_heads.specs.Heads.{outlines}
use Rattle.p10_heads.specs.HeadViews.{plain_outline}
use Rattle.p10_heads.proofs.Sited.{functions_put, objects_put}
use Rattle.p10_heads.proofs.root_heads.put_root.Goals as goal

pub returns-clause-functions : goal.returns-clause-functions
returns-clause-functions c =
    functions_put c.args.number _ _ _ (outlines (map external_of c.args.root.now)) _ _ c.in_ok-sites.ensures (ap (map plain_outline) c.deref.ensures.value ∙ c.in_ok-all.ensures) (ap (map plain_outline) c.deref-2.ensures.value ∙ c.in_ok-all.ensures) c.in_ok-put_heads.ensures

pub returns-clause-objects : goal.returns-clause-objects
returns-clause-objects c =
    objects_put c.args.number _ _ (outlines (map external_of c.args.root.now)) (map external_of c.args.root.now) _ _ c.in_ok-sites.ensures (ap (map plain_outline) c.deref.ensures.value ∙ c.in_ok-all.ensures) c.in_ok-put_objects.ensures
