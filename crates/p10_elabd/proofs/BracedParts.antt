-- Initialisers in braces, as a value or as a list.
use Rattle.std.specs.Prelude.{◌≡◌, true, false, if◌then◌else◌, List, [], Option, option_map}
use Rattle.std.proofs.Common.{ap, sym, ◌∙◌}
use Rattle.p10_base.specs.declared.at.At.{At}
use Rattle.p10_syn.specs.Trees.{Initializers}
use Rattle.p10_core.specs.Types.{PlainType}
use Rattle.p10_core.specs.Typed.{PlainItem, PlainInitializer, listed}
use Rattle.p10_core.specs.Rows.{is_scalar}
use Rattle.p10_elabd.specs.declared.lifetime.Lifetime.{Lifetime}
use Rattle.p10_elabd.specs.Standing.{PlainStanding, Passed, passed}
use Rattle.p10_elabd.specs.Initializers.{only_value, as_single, as_listed}
use Rattle.p10_elabd.specs.ItemViews.{list_written, braced}

pub braced_value : (life : Lifetime) (t : PlainType) (s : PlainStanding) (at : At) (all : Initializers At) (before p : Passed (List PlainItem)) (m : Option PlainInitializer) →
    is_scalar t ≡ true → before ≡ passed [] s → p ≡ list_written life t 0 before at all → m ≡ only_value p.made → record { made = m; after = p.after } ≡ braced life t s at all
braced_value life t s at all before p m scalar eb ep em =
    let q : Passed (List PlainItem) = list_written life t 0 (passed [] s) at all in
    ap (λ x. record { made = x; after = p.after }) em ∙ ap as_single (ep ∙ ap (λ b. list_written life t 0 b at all) eb) ∙ ap (λ b. if b then as_single q else as_listed at q) (sym scalar)

pub braced_list : (life : Lifetime) (t : PlainType) (s : PlainStanding) (at : At) (all : Initializers At) (before p : Passed (List PlainItem)) (m : Option PlainInitializer) →
    is_scalar t ≡ false → before ≡ passed [] s → p ≡ list_written life t 0 before at all → m ≡ option_map (listed at) p.made → record { made = m; after = p.after } ≡ braced life t s at all
braced_list life t s at all before p m scalar eb ep em =
    let q : Passed (List PlainItem) = list_written life t 0 (passed [] s) at all in
    ap (λ x. record { made = x; after = p.after }) em ∙ ap (as_listed at) (ep ∙ ap (λ b. list_written life t 0 b at all) eb) ∙ ap (λ b. if b then as_single q else as_listed at q) (sym scalar)
