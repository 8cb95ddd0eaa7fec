-- A function is known by its list of parameters as it is written, whatever of it is refused.
use Rattle.std.specs.Prelude.{◌≡◌, refl, ℕ, true, ◌+◌, List, [], ◌∷◌, map, length, Option, Some, None, option_map}
use Rattle.std.proofs.Common.{sym, subst, ap, ◌∙◌, arith, length-append}
use Rattle.std.proofs.lemmas.List.{length-map}
use Rattle.p10_base.specs.declared.at.At.{At}
use Rattle.p10_base.specs.declared.codes.SubsetCode.TheVariants as subset
use Rattle.p10_syn.specs.Trees.{Absent, Present, Declarator, Named, Unnamed, Pointer, Parenthesised, Array, Function, Parameters, NoParameters, MoreParameters, Parameter, parameter}
use Rattle.p10_core.specs.Types.{PlainType, unqualified}
use Rattle.p10_elabx.specs.First.{every}
use Rattle.p10_elabx.specs.Scopes.{PlainScope}
use Rattle.p10_elabd.specs.declared.declaration.ParameterList.{ParameterList}
use Rattle.p10_elabd.specs.declared.declaration.ParameterList.TheVariants as list_is
use Rattle.p10_elabd.specs.Laws.{elements_in}
use Rattle.p10_elabd.specs.Standing.{PlainStanding, Passed, refusing}
use Rattle.p10_elabd.specs.Shapes.{PlainParameter, ListedParameter, DeclaredType, pointer_declared, element_declared, array_inside, array_declared, open_declared, function_inside, result_declared, among_parameters, list_of, before_known, known_parameters, function_of, function_declared}
use Rattle.p10_elabd.specs.Declaring.{Listing, none_listed, declarator_passed, all_parameters_passed, parameters_passed, one_parameter_passed}
use Rattle.p10_refusals.specs.Redeclarations.{count_of, count_by_form, WrittenList, list_from, HasList}

-- ## How many parameters are listed

one_length : (i : ℕ) (p : Listing) (one : Parameter At) → length (one_parameter_passed every i p one).parameters ≡ length p.parameters + 1
one_length i p (parameter at _ d) = length-append p.parameters _

parameters_length : (i : ℕ) (p : Listing) (all : Parameters At) → length (parameters_passed every i p all).parameters ≡ length p.parameters + count_of all
parameters_length i p NoParameters = omega arith
parameters_length i p (MoreParameters one rest) =
    let first : length (one_parameter_passed every i p one).parameters ≡ length p.parameters + 1 = one_length i p one in
    let others : length (parameters_passed every (i + 1) (one_parameter_passed every i p one) rest).parameters ≡ length (one_parameter_passed every i p one).parameters + count_of rest =
    parameters_length (i + 1) (one_parameter_passed every i p one) rest in
    omega (arith, first, others)

abbrev number_or : ℕ → Option ℕ → ℕ
number_or n None = n
number_or n (Some m) = m

-- a list is as long as its form tells
all_length : (s : PlainStanding) (at : At) (all : Parameters At) (n : ℕ) → count_by_form all ≡ Some n → length (all_parameters_passed every s at all).parameters ≡ n
all_length s at NoParameters n e = ap (number_or 0) e
all_length s at (MoreParameters (parameter place _ (Unnamed a)) NoParameters) n e = absurd cc
all_length s at (MoreParameters (parameter place _ (Named name)) NoParameters) n e = ap (number_or 0) e
all_length s at (MoreParameters (parameter place _ (Pointer a qualifiers d)) NoParameters) n e = ap (number_or 0) e
all_length s at (MoreParameters (parameter place _ (Parenthesised a d)) NoParameters) n e = ap (number_or 0) e
all_length s at (MoreParameters (parameter place _ (Array a d brackets bound)) NoParameters) n e = ap (number_or 0) e
all_length s at (MoreParameters (parameter place _ (Function a d parentheses all more)) NoParameters) n e = ap (number_or 0) e
all_length s at (MoreParameters one (MoreParameters two rest)) n e =
    let first : length (one_parameter_passed every 0 (none_listed s) one).parameters ≡ 0 + 1 = one_length 0 (none_listed s) one in
    let others : length (parameters_passed every 1 (one_parameter_passed every 0 (none_listed s) one) (MoreParameters two rest)).parameters ≡ length (one_parameter_passed every 0 (none_listed s) one).parameters + count_of (MoreParameters two rest) =
    parameters_length 1 (one_parameter_passed every 0 (none_listed s) one) (MoreParameters two rest) in
    let total : count_of (MoreParameters two rest) + 1 ≡ n = ap (number_or 0) e in
    omega (arith, first, others, total)

-- ## Functions

abbrev or_none : List PlainParameter → Option (List PlainParameter) → List PlainParameter
or_none ps None = ps
or_none ps (Some qs) = qs

before_length : (p : ListedParameter) (t : Option PlainType) (rest : Option (List PlainParameter)) (n : ℕ) (ps : List PlainParameter) → ((qs : List PlainParameter) → rest ≡ Some qs → length qs ≡ n) →
    before_known p t rest ≡ Some ps → length ps ≡ n + 1
before_length p None rest n ps h e = absurd cc
before_length p (Some t) None n ps h e = absurd cc
before_length p (Some t) (Some qs) n ps h e =
    let same : length (record { at = p.at; name = p.name; type = t } ∷ qs) ≡ length ps = ap (λ o. length (or_none ps o)) e in
    let tail : length qs ≡ n = h qs refl in
    omega (arith, same, tail)

known_length : (listed : List ListedParameter) (ps : List PlainParameter) → known_parameters listed ≡ Some ps → length ps ≡ length listed
known_length [] ps e = sym (ap (λ o. length (or_none ps o)) e)
known_length (p ∷ listed) ps e =
    let all : length ps ≡ length listed + 1 = before_length p p.type (known_parameters listed) (length listed) ps (known_length listed) e in
    omega (arith, all)

function_is : (list : ParameterList) (count : Option ℕ) (result : Option PlainType) (listed : List ListedParameter) (known : Option (List PlainParameter)) (s : PlainScope) →
    known_parameters listed ≡ known → ((n : ℕ) → count ≡ Some n → length listed ≡ n) → HasList (record { form = list; count = count }) (Some (function_of list result listed known s))
function_is list_is.Fixed count (Some r) listed (Some ps) s e h = record {
  linked = _;
  is = refl;
  function = refl;
  form = refl;
  count = λ n c. length-map (map (λ (p : PlainParameter). unqualified p.type) ps) (λ t. Some t) ∙ (length-map ps (λ (p : PlainParameter). unqualified p.type) ∙ (known_length listed ps e ∙ h n c));
}
function_is list_is.Fixed count (Some r) listed None s e h = record { linked = _; is = refl; function = refl; form = refl; count = λ n c. length-map listed (λ (p : ListedParameter). option_map unqualified p.type) ∙ h n c }
function_is list_is.Fixed count None listed known s e h = record { linked = _; is = refl; function = refl; form = refl; count = λ n c. length-map listed (λ (p : ListedParameter). option_map unqualified p.type) ∙ h n c }
function_is list_is.Variadic count result listed known s e h = record { linked = _; is = refl; function = refl; form = refl; count = λ n c. length-map listed (λ (p : ListedParameter). option_map unqualified p.type) ∙ h n c }
function_is list_is.Empty count result listed known s e h = record { linked = _; is = refl; function = refl; form = refl; count = λ n c. length-map listed (λ (p : ListedParameter). option_map unqualified p.type) ∙ h n c }

-- ## Declarators

-- what is declared has a list, where one stands directly round what follows
abbrev HasListFound : Option WrittenList → Option DeclaredType → Type 0
HasListFound None o = Unit {0}
HasListFound (Some w) o = HasList w o

list_kept : (name_at : At) (p : Passed DeclaredType) (found : Option WrittenList) (d : Declarator At) (w : WrittenList) → HasListFound found p.made → list_from found d ≡ Some w →
    HasList w (declarator_passed every name_at p d).made
list_kept name_at p found (Named name) w h e = subst (λ o. HasListFound o p.made) e h
list_kept name_at p found (Unnamed at) w h e = subst (λ o. HasListFound o p.made) e h
list_kept name_at p found (Pointer at qualifiers d) w h e = list_kept name_at (pointer_declared every at name_at qualifiers p.made p.after) None d w tt e
list_kept name_at p found (Parenthesised at d) w h e = list_kept name_at p found d w h e
list_kept name_at p found (Array at d brackets Absent) w h e =
    list_kept name_at (open_declared (element_declared every name_at p.made (array_inside every name_at true d p.after))) None d w tt e
list_kept name_at p found (Array at d brackets (Present x)) w h e = list_kept name_at (array_declared every x (elements_in name_at p d)) None d w tt e
list_kept name_at p found (Function at d parentheses all more) w h e =
    let r : Passed PlainType = result_declared every at name_at p.made p.after in
    let s : PlainStanding = among_parameters (function_inside every name_at d (refusing every more subset.NoPrototype parentheses r.after)) in
    let q : Listing = all_parameters_passed every s parentheses all in
    list_kept name_at (function_declared (list_of all more) r.made q.parameters q.after) (Some (record { form = list_of all more; count = count_by_form all })) d w
    (function_is (list_of all more) (count_by_form all) r.made q.parameters (known_parameters q.parameters) q.after.scope refl (all_length s parentheses all)) e

pub list_told : (name_at : At) (p : Passed DeclaredType) (d : Declarator At) (w : WrittenList) → list_from None d ≡ Some w → HasList w (declarator_passed every name_at p d).made
list_told name_at p d w e = list_kept name_at p None d w tt e
