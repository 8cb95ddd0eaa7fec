-- Roots that are gone over one after the other.
use Rattle.std.specs.Prelude.{◌≡◌, ◌<◌, List, [], length}
use Rattle.std.proofs.Common.{ap, sym, ◌∙◌}
use Rattle.p10_base.specs.declared.at.At.{At}
use Rattle.p10_syn.specs.Trees.{External}
use Rattle.p10_elabx.specs.First.{only_first}
use Rattle.p10_heads.specs.Heads.{Heads}
use Rattle.p10_heads.specs.Roots.{roots_of}
use Rattle.p10_heads.specs.private.Cut.{split_root}
use Rattle.p10_heads.proofs.CutRoots.{roots_are}
use Rattle.p10_elab.specs.Knowledge.{Known}
use Rattle.p10_elab.specs.RootEnds.{root_passed, roots_passed}

-- the first of the roots that are left
pub root_more : (heads : Heads) (k next whole : Known) (all root after : List (External At)) → 0 < length all → (root, after) ≡ split_root all → next ≡ root_passed only_first heads k root →
    roots_passed only_first heads k (roots_of all) ≡ whole → roots_passed only_first heads next (roots_of after) ≡ whole
root_more heads k next whole all root after some two is holds =
    ap (λ (m : Known). roots_passed only_first heads m (roots_of after)) is ∙ sym (ap (roots_passed only_first heads k) (roots_are all root after some two)) ∙ holds

-- none are left
pub no_root_more : (heads : Heads) (k whole : Known) (roots : List (List (External At))) → roots ≡ [] → roots_passed only_first heads k roots ≡ whole → k ≡ whole
no_root_more heads k whole roots none holds = sym (ap (roots_passed only_first heads k) none) ∙ holds
