-- What stands alike where every row that holds is kept, and where only the first is.
use Rattle.std.proofs.Common.{◌≡◌, Bool, true, false, if◌then◌else◌, Option, Some, Ok, Err, List, [], ◌∷◌, refl, ap, subst}
use Rattle.p10_base.specs.declared.at.At.{At}
use Rattle.p10_base.specs.declared.codes.SubsetCode.{SubsetCode}
use Rattle.p10_elabx.specs.declared.problem.Problem.{Problem}
use Rattle.p10_elabx.specs.First.{IsFirst, Found, every, only_first}
use Rattle.p10_elabx.specs.Laws.{IsKept}
use Rattle.p10_elabx.specs.Scopes.{PlainScope}
use Rattle.p10_elabx.proofs.Firsts.{kept_lift}
use Rattle.p10_elabd.specs.Laws.{AreKept}
use Rattle.p10_elabd.specs.Standing.{PlainStanding, Passed, with_problems, refusing, noted, passed, nothing_made}
use Rattle.p10_elabd.proofs.Keeping.{the_first_of_both_is_kept}

-- ## What is alike

-- the same stands, except for the problems: of all the first is kept
pub record Alike (s t : PlainStanding) : Type 0 where
  pub scope : s.scope ≡ t.scope
  pub open_structures : s.open_structures ≡ t.open_structures
  pub problems : AreKept s.problems t.problems

-- the same is made, and what stands then is alike
pub record AlikePassed (A : Type 0) (p q : Passed A) : Type 0 where
  pub made : p.made ≡ q.made
  pub after : Alike p.after q.after

-- the same stands with other problems
pub with_kept : (s : PlainStanding) (ps : List Problem) → AreKept s.problems ps → Alike s (record s { problems = ps })
with_kept s ps k = record { scope = refl; open_structures = refl; problems = k }

-- what holds where the problems differ alone holds of all that is alike
pub for_alike : (P : PlainStanding → Type 0) (s t : PlainStanding) → ((ps : List Problem) → AreKept s.problems ps → P (record s { problems = ps })) → Alike s t → P t
for_alike P s t go a =
    let e : record s { problems = t.problems } ≡ t = λ i. record { scope = a.scope i; open_structures = a.open_structures i; problems = t.problems } in
    subst P e (go t.problems a.problems)

pub for_passed : {A : Type 0} (P : Passed A → Type 0) (p q : Passed A) → ((ps : List Problem) → AreKept p.after.problems ps → P (record p { after = record p.after { problems = ps } })) → AlikePassed A p q → P q
for_passed {A = A} P p q go a =
    let e : ◌≡◌ {A = Passed A} (record p { after = record p.after { problems = q.after.problems } }) q =
    λ i. record { made = a.made i; after = record { scope = a.after.scope i; open_structures = a.after.open_structures i; problems = q.after.problems } } in
    subst P e (go q.after.problems a.after.problems)

-- what follows on something that is made
pub followed : {A C : Type 0} (R : C → C → Type 0) {p q : Passed A} (f g : Option A → PlainStanding → C) → AlikePassed A p q → ((m : Option A) → R (f m p.after) (g m q.after)) →
    R (f p.made p.after) (g q.made q.after)
followed R {p = p} {q = q} f g a go = subst (λ m. R (f p.made p.after) (g m q.after)) a.made (go p.made)

-- the same is made, and something alike stands after it
pub alike_with : {A : Type 0} {p q : Passed A} {s t : PlainStanding} → AlikePassed A p q → Alike s t → AlikePassed A (record { made = p.made; after = s }) (record { made = q.made; after = t })
alike_with a b = record { made = a.made; after = b }

-- ## Steps

pub alike_passed : {A : Type 0} {s t : PlainStanding} (a : A) → Alike s t → AlikePassed A (passed a s) (passed a t)
alike_passed a e = record { made = refl; after = e }

pub alike_nothing : {A : Type 0} {s t : PlainStanding} → Alike s t → AlikePassed A (nothing_made s) (nothing_made t)
alike_nothing e = record { made = refl; after = e }

pub alike_made : {A : Type 0} {s t : PlainStanding} (m : Option A) → Alike s t → AlikePassed A (record { made = m; after = s }) (record { made = m; after = t })
alike_made m e = record { made = refl; after = e }

pub alike_map : {A B : Type 0} {p q : Passed A} (f : Option A → Option B) → AlikePassed A p q → AlikePassed B (record { made = f p.made; after = p.after }) (record { made = f q.made; after = q.after })
alike_map f a = record { made = ap f a.made; after = a.after }

pub alike_problems : {s t : PlainStanding} (all few : List Problem) → AreKept all few → Alike s t → Alike (with_problems every all s) (with_problems only_first few t)
alike_problems {s = s} {t = t} all few k a = record {
  scope = a.scope;
  open_structures = a.open_structures;
  problems = the_first_of_both_is_kept s.problems t.problems all few a.problems k;
}

alone : (r : Problem) → IsFirst r (r ∷ [])
alone r = kept_lift {A = Bool} (Err (Some r))

pub alike_refusing : {s t : PlainStanding} (b : Bool) (code : SubsetCode) (at : At) → Alike s t → Alike (refusing every b code at s) (refusing only_first b code at t)
alike_refusing false code at a = a
alike_refusing true code at a = alike_problems (record { code = code; at = at } ∷ []) (record { code = code; at = at } ∷ []) (alone (record { code = code; at = at })) a

pub alike_refusing_by : {s t : PlainStanding} (b c : Bool) (code : SubsetCode) (at : At) → b ≡ c → Alike s t → Alike (refusing every b code at s) (refusing only_first c code at t)
alike_refusing_by {s = s} {t = t} b c code at e a = subst (λ x. Alike (refusing every b code at s) (refusing only_first x code at t)) e (alike_refusing b code at a)

pub alike_refusing_in : {s t : PlainStanding} (test : PlainScope → Bool) (code : SubsetCode) (at : At) → Alike s t → Alike (refusing every (test s.scope) code at s) (refusing only_first (test t.scope) code at t)
alike_refusing_in {s = s} {t = t} test code at a = alike_refusing_by (test s.scope) (test t.scope) code at (ap test a.scope) a

pub alike_noted : {A : Type 0} {s t : PlainStanding} (f g : Found A) → IsKept f g → Alike s t → AlikePassed A (noted every f s) (noted only_first g t)
alike_noted (Ok x) (Ok y) e a = record { made = ap (λ z. Some z) e; after = a }
alike_noted (Ok x) (Err rs) e a = absurd e
alike_noted (Err rs) (Ok y) e a = absurd e
alike_noted (Err rs) (Err []) e a = record { made = refl; after = alike_problems rs [] e a }
alike_noted (Err rs) (Err (r ∷ [])) e a = record { made = refl; after = alike_problems rs (r ∷ []) e a }
alike_noted (Err rs) (Err (r ∷ q ∷ rest)) e a = absurd e

-- ## Tests

pub alike_where : {A : Type 0} {p q x y : Passed A} (b : Bool) → AlikePassed A p x → AlikePassed A q y → AlikePassed A (if b then p else q) (if b then x else y)
alike_where true a b = a
alike_where false a b = b

-- a test of the scope
pub alike_where_in : {A : Type 0} {s t : PlainStanding} {p q x y : Passed A} (test : PlainScope → Bool) → Alike s t → AlikePassed A p x → AlikePassed A q y →
    AlikePassed A (if test s.scope then p else q) (if test t.scope then x else y)
alike_where_in {A = A} {s = s} {p = p} {q = q} {x = x} {y = y} test e a b =
    subst (λ c. AlikePassed A (if test s.scope then p else q) (if c then x else y)) (ap test e.scope) (alike_where (test s.scope) a b)

-- ## Scopes

pub alike_scoped : {s t : PlainStanding} (f : PlainScope → PlainScope) → Alike s t → Alike (record s { scope = f s.scope }) (record t { scope = f t.scope })
alike_scoped f a = record { scope = ap f a.scope; open_structures = a.open_structures; problems = a.problems }
