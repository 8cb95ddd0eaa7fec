-- What claims with digests say.
use Rattle.std.proofs.Common.{◌≡◌, ℕ, ◌≤◌, true, List, [], ◌∷◌, map, length, Option, Some, refl, sym, ap, ◌∙◌, arith}
use Rattle.std.specs.List.{AllByRecursion}
use Rattle.std.proofs.lemmas.Option.{same_Some}
use Rattle.p10_cert.specs.Certificate.{IsFunc, func_tasks}
use Rattle.p10_cert.specs.Claims.{Func}
use Rattle.p10_cert.specs.Laws.{TextTellsStatement}
use Rattle.p10_cert.specs.Lines.{IsDigest}
use Rattle.p10_cert.specs.Statements.{Statement, IsEntry, entry_tasks}
use Rattle.p10_seal.specs.Sealing.{sealed, sealed_entries}
use Rattle.p10_seal.specs.Laws.{SealedSaysTheSame, SealedIsCertificate, SealedWithIsCertificate, SealedTellsAll}

-- ## Functions

entry_funcs : (fs : List Func) (ds : List (List ℕ)) → length ds ≡ length fs → map (λ e. e.func) (sealed_entries fs ds) ≡ fs
entry_funcs [] [] each = refl
entry_funcs [] (d ∷ ds) each = refl
entry_funcs (f ∷ fs) [] each = absurd (omega (arith, each))
entry_funcs (f ∷ fs) (d ∷ ds) each = ap (λ rest. f ∷ rest) (entry_funcs fs ds (omega (arith, each)))

entry_digests : (fs : List Func) (ds : List (List ℕ)) → length ds ≡ length fs → map (λ e. e.digest) (sealed_entries fs ds) ≡ map Some ds
entry_digests [] [] each = refl
entry_digests [] (d ∷ ds) each = absurd (omega (arith, each))
entry_digests (f ∷ fs) [] each = refl
entry_digests (f ∷ fs) (d ∷ ds) each = ap (λ rest. Some d ∷ rest) (entry_digests fs ds (omega (arith, each)))

pub says_the_same : SealedSaysTheSame
says_the_same c digests each = record {
  funcs = entry_funcs c.funcs digests.funcs each;
  digests_are = entry_digests c.funcs digests.funcs each;
  outside = refl;
  total = refl;
  sections = refl;
}

-- ## Certificates

all_entries : (fs : List Func) (ds : List (List ℕ)) → AllByRecursion IsFunc fs → AllByRecursion IsDigest ds → AllByRecursion (IsEntry true) (sealed_entries fs ds)
all_entries [] [] good sized = tt
all_entries [] (d ∷ ds) good sized = tt
all_entries (f ∷ fs) [] good sized = tt
all_entries (f ∷ fs) (d ∷ ds) good sized = (record { func = good.0; seal = sized.0 }, all_entries fs ds good.1 sized.1)

fewer_tasks : (fs : List Func) (ds : List (List ℕ)) → entry_tasks (sealed_entries fs ds) ≤ func_tasks fs
fewer_tasks [] [] = omega arith
fewer_tasks [] (d ∷ ds) = omega arith
fewer_tasks (f ∷ fs) [] = omega arith
fewer_tasks (f ∷ fs) (d ∷ ds) = omega (arith, fewer_tasks fs ds)

pub with_sections : SealedWithIsCertificate
with_sections c digests sections good sized fit = record {
  entries = record { all = all_entries c.funcs digests.funcs good.funcs.all sized.funcs; one_task = omega (arith, fewer_tasks c.funcs digests.funcs, good.funcs.one_task) };
  ending = record { seal = sized.outside; total = good.total; sections = fit };
}

pub is_certificate : SealedIsCertificate
is_certificate c digests good sized = with_sections c digests [] good sized (record { all = tt; rise = tt })

-- ## Texts

same_somes : (xs ys : List (List ℕ)) → ◌≡◌ {A = List (Option (List ℕ))} (map Some xs) (map Some ys) → xs ≡ ys
same_somes [] [] e = refl
same_somes [] (y ∷ ys) e = absurd cc
same_somes (x ∷ xs) [] e = absurd cc
same_somes (x ∷ xs) (y ∷ ys) e =
    let head : x ≡ y = cc in
    let tail : ◌≡◌ {A = List (Option (List ℕ))} (map Some xs) (map Some ys) = cc in
    ap (λ z. z ∷ xs) head ∙ ap (λ zs. y ∷ zs) (same_somes xs ys tail)

pub tells_all : TextTellsStatement → SealedTellsAll
tells_all tells b c these those good good' sized sized' each each' same =
    let statements : sealed b these ≡ sealed c those = tells (sealed b these) (sealed c those) (is_certificate b these good sized) (is_certificate c those good' sized') same in
    let this = says_the_same b these each in
    let that = says_the_same c those each' in
    let funcs : b.funcs ≡ c.funcs = sym this.funcs ∙ ap (λ (s : Statement). map (λ e. e.func) s.entries) statements ∙ that.funcs in
    let total : b.total ≡ c.total = ap (λ (s : Statement). s.ending.total) statements in
    let digests : these.funcs ≡ those.funcs = same_somes these.funcs those.funcs (sym this.digests_are ∙ ap (λ (s : Statement). map (λ e. e.digest) s.entries) statements ∙ that.digests_are) in
    let outside : these.outside ≡ those.outside = same_Some these.outside those.outside (ap (λ (s : Statement). s.ending.outside) statements) in
    record { claims = λ i. record { funcs = funcs i; total = total i }; digests = λ i. record { funcs = digests i; outside = outside i } }
