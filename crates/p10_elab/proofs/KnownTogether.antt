-- What is known of roots that are taken together.
use Rattle.std.proofs.Common.{◌≡◌, ℕ, List, length, refl, ◌∙◌, ap}
use Rattle.p10_base.specs.declared.at.At.{At}
use Rattle.p10_syn.specs.Trees.{External}
use Rattle.p10_elabx.specs.First.{only_first}
use Rattle.p10_elabd.specs.Standing.{PlainStanding}
use Rattle.p10_heads.specs.Heads.{Heads, heads_of_roots}
use Rattle.p10_heads.specs.Roots.{roots_of}
use Rattle.p10_linkage.specs.Between.{taken_together}
use Rattle.p10_elab.specs.Knowledge.{Known, with_standing}
use Rattle.p10_elab.specs.RootEnds.{nothing_known, roots_passed}
use Rattle.p10_elab.specs.Programs.{settled, known_of, elaborated}
use Rattle.p10_elab.specs.private.Together.{known_together}

-- the roots are passed, and then taken together
pub together : (heads : Heads) (roots : List (List (External At))) (k start : Known) (s : PlainStanding) → k ≡ roots_passed only_first heads start roots → start ≡ nothing_known → s ≡ taken_together only_first heads k.linked k.standing → with_standing k s ≡ known_together heads roots
together heads roots k start s p q r =
    ap (with_standing k) r
    ∙ ap (λ known. with_standing known (taken_together only_first heads known.linked known.standing)) (p ∙ ap (λ before. roots_passed only_first heads before roots) q)

-- what comes of what is known is what the trees come to
pub elaborated_is : (heads : Heads) (all : List (External At)) (k : Known) (count : ℕ) → heads ≡ heads_of_roots 0 (roots_of all) → k ≡ known_together heads (roots_of all) → count ≡ length heads.objects → settled all count k.standing k ≡ elaborated all
unfolding known_of
elaborated_is heads all k count p q r =
    (λ i. settled all (r i) (q i).standing (q i))
    ∙ ap (λ hs. settled all (length hs.objects) (known_together hs (roots_of all)).standing (known_together hs (roots_of all))) p
