-- What is read of a root is spelled, and is as much as is spelled.
use Rattle.std.proofs.Common.{◌≡◌, ℕ, zero, suc, ◌*◌, ◌<◌, ◌≤◌, List, [], ◌∷◌, ◌++◌, length, refl, sym, ◌∙◌, ap, subst, arith, Some, None}
use Rattle.std.proofs.lemmas.Option.{none-some, same_Some}
use Rattle.std.proofs.lemmas.List.{append_assoc, append-nil}
use Rattle.p10_syn.specs.Symbols.{Symbol}
use Rattle.p10_syn.specs.Scopes.{Scope}
use Rattle.p10_syn.specs.Declaring.{after_external}
use Rattle.p10_syn.specs.Spelling.{spell_external, spell_externals}
use Rattle.p10_syn.specs.StatementForms.{IsExternal, AreExternals}
use Rattle.p10_syn.specs.Trees.{Bare, External}
use Rattle.p10_pexpr.specs.Heads.{Read}
use Rattle.p10_parse.specs.Roots.{SpellFront, SpellLongest, next_external, or_else, externals_from}
use Rattle.p10_parse.proofs.Lengths.{external_words, external_some}
use Rattle.p10_parse.proofs.Takes.{external_takes}
use Rattle.p10_parse.proofs.Again.{external_again}

-- what is spelled is read, whatever words follow
pub next_again : (e : External Bare) (names : Scope) (rest : List Symbol) → IsExternal names e → next_external names (spell_external e rest) ≡ Some (e, rest)
next_again e names rest h =
    let n = 8 * length (spell_external e rest) in
    external_again e n names rest h (omega (arith, external_words e names rest h))

pub record TookNext (names : Scope) (symbols : List Symbol) (e : External Bare) (rest : List Symbol) : Type 0 where
  pub formed : IsExternal names e
  pub spelled : symbols ≡ spell_external e rest
  pub shorter : length rest < length symbols

-- what is read is spelled, and has a word
pub next_takes : (names : Scope) (symbols : List Symbol) (e : External Bare) (rest : List Symbol) → next_external names symbols ≡ Some (e, rest) → TookNext names symbols e rest
next_takes names symbols e rest read =
    let k = external_takes (8 * length symbols) names symbols (e, rest) read in
    record { formed = k.formed; spelled = k.spelled; shorter = omega (arith, ap length k.spelled, external_words e names rest k.formed, external_some e) }

-- where none is read, none spells a prefix
pub next_none : (names : Scope) (symbols : List Symbol) (e : External Bare) (rest : List Symbol) → next_external names symbols ≡ None → IsExternal names e → symbols ≡ spell_external e rest → ⊥
next_none names symbols e rest none h spelled = none-some (e, rest) (sym none ∙ ap (next_external names) spelled ∙ next_again e names rest h)

-- ## Roots

-- what was read after those before, of which no more is spelled
pub record TookRoot (names : Scope) (done : List (External Bare)) (symbols : List Symbol) (p : List (External Bare) × List Symbol) : Type 0 where
  pub others : List (External Bare)
  pub items : p.0 ≡ done ++ others
  pub longest : SpellLongest names symbols others p.1

longer : (names : Scope) (symbols rest : List Symbol) (e : External Bare) (es : List (External Bare)) (last : List Symbol) → TookNext names symbols e rest → SpellLongest (after_external names e) rest es last →
    (fs : List (External Bare)) (more : List Symbol) → SpellFront names symbols fs more → length last ≤ length more
longer names symbols rest e es last k o [] more h =
    let here = o.longest [] rest (record { formed = tt; spelled = refl }) in
    omega (arith, here, k.shorter, ap length h.spelled)
longer names symbols rest e es last k o (f ∷ fs) more h =
    let both : (e, rest) ≡ (f, spell_externals fs more) = same_Some _ _ (sym (next_again e names rest k.formed) ∙ ap (next_external names) (sym k.spelled ∙ h.spelled) ∙ next_again f names (spell_externals fs more) h.formed.0) in
    o.longest fs more (record {
      formed = subst (λ x. AreExternals (after_external names x) fs) (sym (ap (λ q. q.0) both)) h.formed.1;
      spelled = ap (λ q. q.1) both;
    })

stops : (names : Scope) (symbols : List Symbol) → next_external names symbols ≡ None → (fs : List (External Bare)) (more : List Symbol) → SpellFront names symbols fs more → length symbols ≤ length more
stops names symbols none [] more h = omega (arith, ap length h.spelled)
stops names symbols none (f ∷ fs) more h = absurd (next_none names symbols f (spell_externals fs more) none h.formed.0 h.spelled)

-- a step, given the steps after it
root_on : (n : ℕ) (names : Scope) (done : List (External Bare)) (symbols : List Symbol) → length symbols ≤ suc n → (o : Read (External Bare)) → next_external names symbols ≡ o →
    ((e : External Bare) (rest : List Symbol) → length rest ≤ n → TookRoot (after_external names e) (done ++ e ∷ []) rest (externals_from n (after_external names e) (done ++ e ∷ []) rest)) →
    TookRoot names done symbols (or_else (λ e. externals_from n (after_external names e.0) (done ++ e.0 ∷ []) e.1) (done, symbols) o)
root_on n names done symbols enough None is go = record {
  others = [];
  items = sym (append-nil done);
  longest = record { front = record { formed = tt; spelled = refl }; longest = stops names symbols is };
}
root_on n names done symbols enough (Some (e, rest)) is go =
    let k = next_takes names symbols e rest is in
    let o = go e rest (omega (arith, k.shorter, enough)) in
    let front = o.longest.front in
    record {
      others = e ∷ o.others;
      items = o.items ∙ append_assoc done (e ∷ []) o.others;
      longest = record {
        front = record { formed = (k.formed, front.formed); spelled = k.spelled ∙ ap (spell_external e) front.spelled };
        longest = longer names symbols rest e o.others _ k o.longest;
      };
    }

pub root_takes : (n : ℕ) (names : Scope) (done : List (External Bare)) (symbols : List Symbol) → length symbols ≤ n → TookRoot names done symbols (externals_from n names done symbols)
unfolding externals_from
root_takes zero names done symbols enough = record {
  others = [];
  items = sym (append-nil done);
  longest = record { front = record { formed = tt; spelled = refl }; longest = λ fs more h. omega (arith, enough) };
}
root_takes (suc n) names done symbols enough = root_on n names done symbols enough (next_external names symbols) refl (λ e rest less. root_takes n (after_external names e) (done ++ e ∷ []) rest less)
