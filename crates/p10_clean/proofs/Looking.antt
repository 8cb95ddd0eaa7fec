-- Flaws that are put one after the other, along the forms of values.
use Rattle.std.proofs.Common.{◌≡◌, ℕ, Bool, true, false, List, ◌++◌, refl, ap, sym, ◌∙◌, append_assoc}
use Rattle.p10_base.specs.declared.span.Span.{Span}
use Rattle.p10_core.specs.declared.typed.LogicOp.{LogicOp}
use Rattle.p10_core.specs.declared.typed.Library.{Library}
use Rattle.p10_core.specs.Typed.{PlainValue, PlainForm, logic, conditional, call, built_in, PlainValues}
use Rattle.p10_absx.specs.Environments.{Environment}
use Rattle.p10_absx.specs.Assessing.{assess, known_where}
use Rattle.p10_pass.specs.Arguments.{where_reached, goes_on_where}
use Rattle.p10_pass.specs.Passing.{Manner}
use Rattle.p10_clean.specs.declared.flaw.Flaw.{Flaw}
use Rattle.p10_clean.specs.Settings.{Settings}
use Rattle.p10_clean.specs.Values.{flaws_in_value, flaws_in_form, flaws_in_values}

-- what is put where a test is true or false
abbrev pub put_there : Manner → Settings → Bool → PlainValue → PlainValue → Environment → List Flaw
put_there m s truth v test env = where_reached (known_where truth env (assess m.calls test env)) (λ e. flaws_in_value m s v e)

-- two pieces put one after the other
pub two_put : {X : Type 0} (first mid last a b b2 : List X) → mid ≡ first ++ a → last ≡ mid ++ b → b ≡ b2 → last ≡ first ++ (a ++ b2)
two_put first mid last a b b2 p q r = q ∙ (ap (λ xs. xs ++ b) p ∙ (append_assoc first a b ∙ ap (λ xs. first ++ (a ++ xs)) r))

pub logic_put : (m : Manner) (s : Settings) (form : PlainForm) (op : LogicOp) (truth : Bool) (a a2 b : PlainValue) (env mid : Environment) (first second last : List Flaw) → form ≡ logic op a b → a2 ≡ a → truth ≡ goes_on_where op → mid ≡ env →
    second ≡ first ++ flaws_in_value m s a env → last ≡ second ++ put_there m s truth b a2 mid → last ≡ first ++ flaws_in_form m s form env
logic_put m s form op truth a a2 b env mid first second last is same goes kept p q =
    two_put first second last (flaws_in_value m s a env) (put_there m s truth b a2 mid) (put_there m s (goes_on_where op) b a env) p q (λ i. put_there m s (goes i) b (same i) (kept i)) ∙
    ap (λ f. first ++ flaws_in_form m s f env) (sym is)

pub conditional_put : (m : Manner) (s : Settings) (form : PlainForm) (v v2 v3 a b : PlainValue) (env mid later : Environment) (first second third last : List Flaw) → form ≡ conditional v a b → v2 ≡ v → v3 ≡ v → mid ≡ env → later ≡ mid →
    second ≡ first ++ flaws_in_value m s v env → third ≡ second ++ put_there m s true a v2 mid → last ≡ third ++ put_there m s false b v3 later → last ≡ first ++ flaws_in_form m s form env
conditional_put m s form v v2 v3 a b env mid later first second third last is same same2 kept kept2 p q r =
    let rest : last ≡ second ++ (put_there m s true a v2 mid ++ put_there m s false b v3 later) = two_put second third last _ _ _ q r refl in
    two_put first second last (flaws_in_value m s v env) _ (put_there m s true a v env ++ put_there m s false b v env) p rest (λ i. put_there m s true a (same i) (kept i) ++ put_there m s false b (same2 i) ((kept2 ∙ kept) i)) ∙
    ap (λ f. first ++ flaws_in_form m s f env) (sym is)

pub call_put : (m : Manner) (s : Settings) (form : PlainForm) (name : Span) (n : ℕ) (arguments : PlainValues) (env : Environment) (first last : List Flaw) → form ≡ call name n arguments →
    last ≡ first ++ flaws_in_values m s arguments env → last ≡ first ++ flaws_in_form m s form env
call_put m s form name n arguments env first last is p = p ∙ ap (λ g. first ++ flaws_in_form m s g env) (sym is)

pub built_in_put : (m : Manner) (s : Settings) (form : PlainForm) (name : Span) (f : Library) (arguments : PlainValues) (env : Environment) (first last : List Flaw) → form ≡ built_in name f arguments →
    last ≡ first ++ flaws_in_values m s arguments env → last ≡ first ++ flaws_in_form m s form env
built_in_put m s form name f arguments env first last is p = p ∙ ap (λ g. first ++ flaws_in_form m s g env) (sym is)
