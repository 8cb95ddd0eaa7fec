-- The claims of a whole program are those of a certificate.
use Rattle.std.proofs.Common.{◌≡◌, ℕ, zero, suc, ◌<◌, ◌≤◌, List, [], ◌∷◌, length, flat_map, Some, refl, sym, subst, arith, inl, inr}
use Rattle.std.specs.Prelude.{slice_get}
use Rattle.std.specs.List.{AllByRecursion}
use Rattle.std.proofs.lemmas.Bool.{ne_eqb, cases_lt}
use Rattle.std.proofs.lemmas.Option.{slice_get_within}
use Rattle.p10_base.specs.declared.report.TheConstants.Limit.{MOST_CERTIFICATE_BYTES}
use Rattle.p10_core.specs.Typed.{PlainFunction, PlainProgram}
use Rattle.p10_core.specs.WholePrograms.{IsWholeProgram}
use Rattle.p10_cert.specs.Claims.{Func, Claims}
use Rattle.p10_cert.specs.Lines.{IsTotal}
use Rattle.p10_cert.specs.Certificate.{loop_tasks, IsFunc, func_tasks, IsCertificate, certificate_text}
use Rattle.p10_cert.proofs.TextLaws.{written_is_read}
use Rattle.p10_sums.specs.Sums.{sum_at}
use Rattle.p10_finder.specs.Answers.{AreClaims, PassesSum, PassesText}
use Rattle.p10_derived_texts.specs.Naming.{AreNamed}
use Rattle.p10_derived_texts.specs.Laws.{ClaimsHaveText, DerivedCertificatesHaveText, DerivedTextsAreReadBack, DerivedNumbersAreSmall}
use Rattle.p10_derived_texts.proofs.Lengths.{all_loops_in_text}
use Rattle.p10_derived_texts.proofs.Functions.{small_bytes, got, SumIs, sum_is, function_few, few_are, none_elsewhere, claim_func}
use Rattle.p10_derived_texts.proofs.Results.{each_claim}
use Rattle.p10_approach.specs.Offers.{Offers, AreOffers}

all_at : {A : Type 0} (P : A → Type 0) (xs : List A) → ((n : ℕ) (x : A) → slice_get xs n ≡ Some x → P x) → AllByRecursion P xs
all_at P [] h = tt
all_at P (x ∷ xs) h = (h 0 x refl, all_at P xs (λ n y e. h (suc n) y e))

-- ## Tasks

no_tasks : (funcs : List Func) → ((i : ℕ) (g : Func) → slice_get funcs i ≡ Some g → loop_tasks g.loops ≡ 0) → func_tasks funcs ≡ 0
no_tasks [] h = refl
no_tasks (g ∷ funcs) h = let one = h 0 g refl in let rest : func_tasks funcs ≡ 0 = no_tasks funcs (λ i x e. h (suc i) x e) in omega (arith, one, rest)

-- one function may have one, and the others none
one_task : (funcs : List Func) (main : ℕ) → ((i : ℕ) (g : Func) → slice_get funcs i ≡ Some g → (i ≡ main → ⊥) → loop_tasks g.loops ≡ 0) → ((g : Func) → slice_get funcs main ≡ Some g → loop_tasks g.loops ≤ 1) → func_tasks funcs ≤ 1
one_task [] main h k = omega arith
one_task (g ∷ funcs) zero h k =
    let one : loop_tasks g.loops ≤ 1 = k g refl in
    let rest : func_tasks funcs ≡ 0 = no_tasks funcs (λ i x e. h (suc i) x e (λ q. omega (arith, q))) in
    omega (arith, one, rest)
one_task (g ∷ funcs) (suc main) h k =
    let one : loop_tasks g.loops ≡ 0 = h 0 g refl (λ q. omega (arith, q)) in
    let rest : func_tasks funcs ≤ 1 = one_task funcs main (λ i x e q. h (suc i) x e (λ s. q (omega (arith, s)))) k in
    omega (arith, one, rest)

-- ## Certificates

module _ (o : Offers) (are : AreOffers o) (p : PlainProgram) (whole : IsWholeProgram p) (named : AreNamed p) (c : Claims) (is : AreClaims o p c) (sums : PassesSum p c → ⊥) (text : PassesText c → ⊥) where
  -- the function of a claim
  function_of : (n : ℕ) (g : Func) → slice_get c.funcs n ≡ Some g → (f : PlainFunction) × (slice_get p.functions n ≡ Some f)
  function_of n g e = let low : n < length c.funcs = slice_get_within c.funcs n g e in let each : length c.funcs ≡ length p.functions = each_claim o are p whole c is in got p.functions n (omega (arith, low, each))

  each_func : (n : ℕ) (g : Func) → slice_get c.funcs n ≡ Some g → IsFunc g
  each_func n g e = let f = function_of n g e in claim_func o are p whole named c is sums text n f.0 g f.1 e

  tasks : func_tasks c.funcs ≤ 1
  tasks = one_task c.funcs p.main
      (λ i g e apart. let f = function_of i g e in none_elsewhere o are p whole named c is sums text i f.0 g f.1 e (ne_eqb i p.main apart))
      (λ g e. let f = function_of p.main g e in few_are o are p whole named c is sums text p.main f.0 g f.1 e)

  total : IsTotal c.total
  total =
      let s : SumIs o are p whole named c is sums text (sum_at p c.funcs p.main) = sum_is o are p whole named c is sums text p.main (slice_get_within p.functions p.main whole.main.function whole.main.there) in
      subst IsTotal (sym is.total) (record { prefix = s.steps; turn = s.turn; calls = s.calls; bytes = s.bytes })

  has_text : IsCertificate c
  has_text = record { funcs = record { all = all_at IsFunc c.funcs each_func; one_task = tasks }; total = total }

pub claims_have_text : ClaimsHaveText
claims_have_text o are p whole named c is sums text = has_text o are p whole named c is sums text

pub derived_have_text : DerivedCertificatesHaveText
derived_have_text o are p whole named c is = has_text o are p whole named c is.claims.claims is.sums is.text

-- the text isn't too long
short_text : (c : Claims) → (PassesText c → ⊥) → length (certificate_text c) ≤ MOST_CERTIFICATE_BYTES
short_text c text = elim (cases_lt MOST_CERTIFICATE_BYTES (length (certificate_text c))) [ inl over ↦ absurd (text over) | inr short ↦ short ]

pub derived_read_back : DerivedTextsAreReadBack
derived_read_back o are p whole named c is result reads = written_is_read c result (derived_have_text o are p whole named c is) (record { short = short_text c is.text }) reads

pub derived_are_few : DerivedNumbersAreSmall
derived_are_few o are p whole named c is = record {
  claims = each_claim o are p whole c is.claims.claims;
  functions = λ n f there.
      let claim = got c.funcs n (let low : n < length p.functions = slice_get_within p.functions n f there in let each : length c.funcs ≡ length p.functions = each_claim o are p whole c is.claims.claims in omega (arith, low, each)) in
      function_few o are p whole named c is.claims.claims is.sums is.text n f claim.0 there claim.1;
  loops =
      let within : length (flat_map (λ (g : Func). g.loops) c.funcs) ≤ length (certificate_text c) = all_loops_in_text c in
      let short : length (certificate_text c) ≤ MOST_CERTIFICATE_BYTES = short_text c is.text in
      small_bytes (length (flat_map (λ (g : Func). g.loops) c.funcs)) (omega (arith, within, short));
}
