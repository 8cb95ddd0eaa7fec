-- One counterpart after others.
use Rattle.std.proofs.Common.{◌≡◌, ◌∙◌, ℕ, suc, ◌≤◌, List, [], ◌∷◌, ◌++◌, length, le_refl, refl, sym, ap, subst, arith}
use Rattle.std.specs.Prelude.{slice_get}
use Rattle.std.proofs.lemmas.Option.{none-some, same_Some}
use Rattle.p10_base.specs.Words.{Text}
use Rattle.p10_base.specs.declared.at.At.{At}
use Rattle.p10_syn.specs.Trees.{Declaration, Definition, Statements}
use Rattle.p10_core.specs.Typed.{PlainFunction}
use Rattle.p10_core.specs.Completing.{AreBuilt}
use Rattle.p10_elabx.specs.First.{Keep}
use Rattle.p10_heads.specs.Heads.{Heads}
use Rattle.p10_elab.specs.Knowledge.{Known}
use Rattle.p10_elab.specs.Outer.{declared_outside, defined_outside}
use Rattle.p10_renaming.specs.Renaming.{Pairing, SameFunction}
use Rattle.p10_expression_renaming.specs.MappedStatements.{mapped_declaration, mapped_statements}
use Rattle.p10_expression_renaming.proofs.TypeNames.{left, right}
use Rattle.p10_declaration_renaming.specs.Standings.{AreQuiet}
use Rattle.p10_spelling_laws.specs.Counterparts.{IsSameBody}
use Rattle.p10_root_renaming.specs.Roots.{SameHeads, SameKnown, SameFunctions, same_no_functions, same_more_functions, function_names}
use Rattle.p10_root_renaming.specs.Laws.{AddsSameFunctions}
use Rattle.p10_root_renaming.proofs.GrowingOutside.{grows_outside, grows_definition}
use Rattle.p10_root_renaming.proofs.Outside.{declarations_renamed}
use Rattle.p10_root_renaming.proofs.Functions.{definitions_renamed}
use Rattle.p10_touched_renaming.specs.Touched.{first_with, second_with, before_parameters, before_body, IsMade}
use Rattle.p10_touched_renaming.proofs.Touched.{there_too, HeadGrows, head_grows, touched_renamed}
use Rattle.p10_counterpart_renaming.specs.Runs.{structures_in, SameSoFar, SameWithMore, FunctionsSameAt}
use Rattle.p10_counterpart_renaming.proofs.Extending.{extended_by, within_by, known_extended, one_by, used_low, low_by, high_by}

-- where the same is known with the next structures paired
so_extended : (R : Pairing) (k j a b : Known) → SameSoFar R k j → structures_in k ≤ structures_in a → structures_in j ≤ structures_in b
    → SameKnown (extended_by R k j (structures_in a) (structures_in a)) (structures_in a) a b → SameSoFar (extended_by R k j (structures_in a) (structures_in a)) a b
so_extended R k j a b so low more known =
    let later : ℕ = structures_in a in
    let Q : Pairing = extended_by R k j later later in
    record {
      one = one_by R k j so later later (le_refl later);
      low = low_by R k j so later later low;
      high = high_by R k j b so later later low more (λ n m e below. there_too Q a.standing.scope.structures b.standing.scope.structures known.standing.tables n m e below);
      known = known;
    }

pub declared_step : (h : Keep) (heads others : Heads) → SameHeads heads others → (R : Pairing) (k j : Known) → SameSoFar R k j → (d : Declaration (At × At))
    → AreQuiet (structures_in (declared_outside h heads k (mapped_declaration left d))) (declared_outside h heads k (mapped_declaration left d)).standing (declared_outside h others j (mapped_declaration right d)).standing
    → SameWithMore R (declared_outside h heads k (mapped_declaration left d)) (declared_outside h others j (mapped_declaration right d))
declared_step h heads others same R k j so d quiet =
    let later : ℕ = structures_in (declared_outside h heads k (mapped_declaration left d)) in
    let low : structures_in k ≤ later = (grows_outside h heads k (mapped_declaration left d)).count in
    let Q : Pairing = extended_by R k j later later in
    let r = declarations_renamed Q (one_by R k j so later later (le_refl later)) later h heads others same k j d (λ q. known_extended R k j so later later low) quiet in
    record { pairing = Q; within = within_by R k j later later; same = so_extended R k j (declared_outside h heads k (mapped_declaration left d)) (declared_outside h others j (mapped_declaration right d)) so low (grows_outside h others j (mapped_declaration right d)).count r.1.1 }

pub touched_step : (h : Keep) (heads others : Heads) → SameHeads heads others → (R : Pairing) (k j : Known) → SameSoFar R k j → (d : Definition (At × At)) (one other : Statements At)
    → IsMade h heads k (first_with d one) → IsMade h others j (second_with d other)
    → AreBuilt (defined_outside h heads k (first_with d one)).standing.scope.structures → AreBuilt (defined_outside h others j (second_with d other)).standing.scope.structures
    → AreQuiet (structures_in (defined_outside h heads k (first_with d one))) (defined_outside h heads k (first_with d one)).standing (defined_outside h others j (second_with d other)).standing
    → SameWithMore R (defined_outside h heads k (first_with d one)) (defined_outside h others j (second_with d other))
touched_step h heads others same R k j so d one other made other_made built other_built quiet =
    let a : Known = defined_outside h heads k (first_with d one) in
    let b : Known = defined_outside h others j (second_with d other) in
    let from : ℕ = before_parameters h k (first_with d one) in
    let last : ℕ = before_body h k (first_with d one) in
    let first : HeadGrows h k (first_with d one) = head_grows h k (first_with d one) in
    let second : HeadGrows h j (second_with d other) = head_grows h j (second_with d other) in
    let low : structures_in k ≤ from = first.begun in
    let few : from ≤ last = first.declared in
    let most : structures_in k ≤ last = omega (arith, low, few) in
    let rest : last ≤ structures_in a = first.done heads in
    let more : structures_in j ≤ structures_in b = omega (arith, second.begun, second.declared, second.done others) in
    let S : Pairing = extended_by R k j last last in
    let Q : Pairing = extended_by R k j from last in
    let r = touched_renamed S Q (one_by R k j so last last (le_refl last)) (one_by R k j so from last few) h heads others same k j d one other made other_made built other_built
    (record { used = used_low R k j so from last low; passed = λ n m e. e }) (λ q. known_extended R k j so last last most) (λ q. known_extended R k j so from last low) quiet in
    record {
      pairing = Q;
      within = within_by R k j from last;
      same = record {
        one = one_by R k j so from last few;
        low = λ n m e. omega (arith, low_by R k j so from last most n m e, rest);
        high = high_by R k j b so from last most more r.1;
        known = r.0;
      };
    }

-- ## A function with the same body

-- what follows a list is its part from its length on
at_length : (fs gs : List PlainFunction) → slice_get (fs ++ gs) (length fs) ≡ slice_get gs 0
at_length [] gs = refl
at_length (f ∷ fs) gs = at_length fs gs

first_same : (R : Pairing) {fs gs : List PlainFunction} → SameFunctions R fs gs → FunctionsSameAt R 0 fs gs
first_same R same_no_functions f g e d = absurd (none-some f e)
first_same R (same_more_functions {f = x} {g = y} h rest) f g e d = subst (λ z. SameFunction R z g) (same_Some x f e) (subst (λ z. SameFunction R x z) (same_Some y g d) h)

names_length : (fs : List PlainFunction) → length (function_names fs) ≡ length fs
names_length [] = refl
names_length (f ∷ fs) = ap suc (names_length fs)

pub names_many : (fs gs : List PlainFunction) → function_names fs ≡ function_names gs → length fs ≡ length gs
names_many fs gs e = sym (names_length fs) ∙ (ap (λ (ns : List Text). length ns) e ∙ names_length gs)

new_same : (R : Pairing) (k j a b : Known) → length k.functions ≡ length j.functions → AddsSameFunctions R k.functions a.functions j.functions b.functions → FunctionsSameAt R (length k.functions) a.functions b.functions
new_same R k j a b e adds f g p q =
    first_same R adds.same f g
    (sym (at_length k.functions adds.these) ∙ (ap (λ fs. slice_get fs (length k.functions)) (sym adds.left) ∙ p))
    (sym (at_length j.functions adds.new) ∙ (ap (λ fs. slice_get fs (length j.functions)) (sym adds.right) ∙ (ap (λ n. slice_get b.functions n) (sym e) ∙ q)))

-- what a definition with the same body gives
pub record SameStep (R : Pairing) (k j a b : Known) : Type 0 where
  pub more : SameWithMore R a b
  pub function : FunctionsSameAt more.pairing (length k.functions) a.functions b.functions

same_there : (h : Keep) (heads others : Heads) → SameHeads heads others → (R : Pairing) (k j : Known) → SameSoFar R k j → (d : Definition (At × At)) (body : Statements (At × At))
    → AreQuiet (structures_in (defined_outside h heads k (first_with d (mapped_statements left body)))) (defined_outside h heads k (first_with d (mapped_statements left body))).standing (defined_outside h others j (second_with d (mapped_statements right body))).standing
    → SameStep R k j (defined_outside h heads k (first_with d (mapped_statements left body))) (defined_outside h others j (second_with d (mapped_statements right body)))
same_there h heads others same R k j so d body quiet =
    let a : Known = defined_outside h heads k (first_with d (mapped_statements left body)) in
    let b : Known = defined_outside h others j (second_with d (mapped_statements right body)) in
    let later : ℕ = structures_in a in
    let low : structures_in k ≤ later = (grows_definition h heads k (first_with d (mapped_statements left body))).count in
    let Q : Pairing = extended_by R k j later later in
    let r = definitions_renamed Q (one_by R k j so later later (le_refl later)) later h heads others same k j (record d { body = body }) (λ q. known_extended R k j so later later low) quiet in
    record {
      more = record {
        pairing = Q;
        within = within_by R k j later later;
        same = so_extended R k j a b so low (grows_definition h others j (second_with d (mapped_statements right body))).count r.1.1;
      };
      function = new_same Q k j a b (names_many k.functions j.functions so.known.functions) r.1.0;
    }

pub same_step : (h : Keep) (heads others : Heads) → SameHeads heads others → (R : Pairing) (k j : Known) → SameSoFar R k j → (d : Definition (At × At)) (one other : Statements At) → IsSameBody one other
    → AreQuiet (structures_in (defined_outside h heads k (first_with d one))) (defined_outside h heads k (first_with d one)).standing (defined_outside h others j (second_with d other)).standing
    → SameStep R k j (defined_outside h heads k (first_with d one)) (defined_outside h others j (second_with d other))
same_step h heads others same R k j so d one other both =
    subst (λ x. AreQuiet (structures_in (defined_outside h heads k (first_with d x))) (defined_outside h heads k (first_with d x)).standing (defined_outside h others j (second_with d other)).standing
    → SameStep R k j (defined_outside h heads k (first_with d x)) (defined_outside h others j (second_with d other))) (sym both.first)
    (subst (λ y. AreQuiet (structures_in (defined_outside h heads k (first_with d (mapped_statements left both.body)))) (defined_outside h heads k (first_with d (mapped_statements left both.body))).standing (defined_outside h others j (second_with d y)).standing
    → SameStep R k j (defined_outside h heads k (first_with d (mapped_statements left both.body))) (defined_outside h others j (second_with d y))) (sym both.second)
    (same_there h heads others same R k j so d both.body))
