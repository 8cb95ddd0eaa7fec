-- Tallies of calls, of which the arguments are a list.
use Rattle.std.proofs.Common.{◌≡◌, ℕ, List, map, sym, ◌∙◌, ap, Option}
use Rattle.std.specs.Prelude.{slice_get}
use Rattle.p10_base.specs.declared.span.Span.{Span}
use Rattle.p10_core.specs.declared.typed.Library.{Library}
use Rattle.p10_core.specs.declared.typed.Value.{Value}
use Rattle.p10_core.specs.declared.typed.ValueForm.{ValueForm}
use Rattle.p10_core.specs.declared.typed.ValueForm.TheVariants.{Call, Builtin}
use Rattle.p10_core.specs.Views.{plain_form, plain_values}
use Rattle.p10_core.proofs.Lists.{plain_call, plain_built_in}
use Rattle.p10_cert.specs.Claims.{Func, func_of}
use Rattle.p10_sums.specs.declared.basis.Basis.{Basis}
use Rattle.p10_sums.specs.declared.tally.Tally.{Tally}
use Rattle.p10_sums.specs.private.Tallies.{counting_by, some_steps, in_turn, of_callee, of_library}
use Rattle.p10_sums.specs.private.Walks.{form_tally, values_tally}

pub call_counted : (b : Basis) (form : ValueForm) (s : Span) (n : ℕ) (arguments all : List Value) (claim : Option Func) (given callee both paid : Tally) →
    form ≡ Call s n arguments → all ≡ arguments → given ≡ values_tally (counting_by b) (plain_values all) → claim ≡ slice_get (map func_of b.functions.now) n → callee ≡ of_callee claim →
    both ≡ in_turn given callee → paid ≡ in_turn (some_steps 1) both → paid ≡ form_tally (counting_by b) (plain_form form)
call_counted b form s n arguments all claim given callee both paid is same g k e f p =
    p ∙ (ap (in_turn (some_steps 1)) (f ∙ (λ i. in_turn ((g ∙ ap (λ vs. values_tally (counting_by b) (plain_values vs)) same) i) ((e ∙ ap of_callee k) i)))
    ∙ ap (form_tally (counting_by b)) (sym (ap plain_form is ∙ plain_call s n arguments)))

pub built_in_counted : (b : Basis) (form : ValueForm) (s : Span) (l : Library) (arguments all : List Value) (given first both : Tally) →
    form ≡ Builtin s l arguments → all ≡ arguments → given ≡ values_tally (counting_by b) (plain_values all) → first ≡ of_library l → both ≡ in_turn first given → both ≡ form_tally (counting_by b) (plain_form form)
built_in_counted b form s l arguments all given first both is same g e f =
    f ∙ ((λ i. in_turn (e i) ((g ∙ ap (λ vs. values_tally (counting_by b) (plain_values vs)) same) i))
    ∙ ap (form_tally (counting_by b)) (sym (ap plain_form is ∙ plain_built_in s l arguments)))
