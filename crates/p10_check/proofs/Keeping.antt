-- What is kept of claims that are read one after the other, and claims among which one stands whole for a while.
use Rattle.std.proofs.Common.{◌≡◌, ◌∙◌, ℕ, zero, suc, ◌<◌, Bool, List, [], ◌∷◌, ◌++◌, length, map, get_or, Some, None, refl, sym, ap, subst}
use Rattle.std.specs.Prelude.{slice_get, slice_set}
use Rattle.std.specs.List.{AllByRecursion}
use Rattle.std.proofs.lemmas.List.{length-map, set-get_or}
use Rattle.std.proofs.lemmas.Option.{same_Some, slice_get-get_or}
use Rattle.p10_cert.specs.Claims.{Func}
use Rattle.p10_cert.specs.Statements.{Entry, IsEntry, entry_text}
use Rattle.p10_cert.proofs.Collecting.{map-append}
use Rattle.p10_absx.proofs.Entries.{set_again}
use Rattle.p10_loopless.specs.Loopless.{without_loops, all_without_loops, AgreeOn}
use Rattle.p10_loopless.proofs.Whole.{loopless_twice, one_stands_whole}
use Rattle.p10_check.specs.Texts.{funcs_in}
use Rattle.p10_check.specs.private.Keeping.{AreKept}

-- ## What is kept

pub funcs_more : (given : List Entry) (e : Entry) → funcs_in (given ++ e ∷ []) ≡ funcs_in given ++ e.func ∷ []
funcs_more given e = map-append (λ (e : Entry). e.func) given e

-- one claim more
pub kept_more : (given : List Entry) (e : Entry) (old new : List Func) (lines now : List (List ℕ)) (own kept : Func) (text : List ℕ) → own ≡ e.func → text ≡ entry_text e → kept ≡ without_loops own
    → new ≡ old ++ kept ∷ [] → now ≡ lines ++ text ∷ [] → AreKept given old lines → AreKept (given ++ e ∷ []) new now
kept_more given e old new lines now own kept text is exact bare claims texts before = record {
  loopless =
      claims
      ∙ (λ i. before.loopless i ++ (bare ∙ ap without_loops is) i ∷ [])
      ∙ sym (map-append without_loops (funcs_in given) e.func)
      ∙ sym (ap all_without_loops (funcs_more given e));
  told = texts ∙ (λ i. before.told i ++ exact i ∷ []) ∙ sym (map-append entry_text given e);
}

-- as many are kept as were read
pub same_length : (given : List Entry) (claims : List Func) (lines : List (List ℕ)) → AreKept given claims lines → length claims ≡ length given
same_length given claims lines kept = ap length kept.loopless ∙ length-map (funcs_in given) without_loops ∙ length-map given (λ (e : Entry). e.func)

-- they are the same as all claims but for loops
pub alike : (given : List Entry) (claims : List Func) (lines : List (List ℕ)) → AreKept given claims lines → all_without_loops claims ≡ all_without_loops (funcs_in given)
alike given claims lines kept = ap all_without_loops kept.loopless ∙ loopless_twice (funcs_in given)

-- ## One claim that stands whole

-- what stands in the text for a function, of which these are the lines
record IsTold (given : List Entry) (sealed : Bool) (number : ℕ) (text : List ℕ) : Type 0 where
  entry : Entry
  there : slice_get (funcs_in given) number ≡ Some entry.func
  good : IsEntry sealed entry
  exact : text ≡ entry_text entry

told_at : (given : List Entry) (sealed : Bool) (number : ℕ) (text : List ℕ) → AllByRecursion (IsEntry sealed) given → slice_get (map entry_text given) number ≡ Some text → IsTold given sealed number text
told_at [] sealed number text all at = absurd cc
told_at (e ∷ given) sealed zero text all at = record { entry = e; there = refl; good = all.0; exact = sym (same_Some _ _ at) }
told_at (e ∷ given) sealed (suc number) text all at =
    let rest = told_at given sealed number text all.1 at in record { entry = rest.entry; there = rest.there; good = rest.good; exact = rest.exact }

-- the claim that the lines of a function tell stands whole among those that are kept
pub stands_whole : (given : List Entry) (claims : List Func) (lines : List (List ℕ)) (sealed : Bool) (number : ℕ) (text : List ℕ) (own : Func) → AreKept given claims lines → AllByRecursion (IsEntry sealed) given
    → Some text ≡ slice_get lines number → ((e : Entry) (b : Bool) → IsEntry b e → text ≡ entry_text e → own ≡ e.func) → AgreeOn number (slice_set claims number own) (funcs_in given)
stands_whole given claims lines sealed number text own kept all at reads =
    let there = told_at given sealed number text all (sym (at ∙ ap (λ (ls : List (List ℕ)). slice_get ls number) kept.told)) in
    subst (λ fs. AgreeOn number (slice_set fs number own) (funcs_in given)) (sym kept.loopless)
    (subst (λ f. AgreeOn number (slice_set (all_without_loops (funcs_in given)) number f) (funcs_in given)) (sym (reads there.entry sealed there.good there.exact))
    (one_stands_whole (funcs_in given) number there.entry.func there.there))

-- each function has lines
pub has_lines : (given : List Entry) (claims : List Func) (lines : List (List ℕ)) (number : ℕ) → AreKept given claims lines → number < length given → None ≡ slice_get lines number → ⊥
has_lines given claims lines number kept below none =
    let at : slice_get (map entry_text given) number ≡ None = sym (none ∙ ap (λ (ls : List (List ℕ)). slice_get ls number) kept.told) in
    let there = slice_get-get_or (map entry_text given) number [] (subst (λ n. number < n) (sym (length-map given entry_text)) below) in
    cc

-- what was taken out is put back
pub put_back : {A : Type 0} (xs : List A) (n : ℕ) (x : A) → slice_set (slice_set xs n x) n (get_or xs n x) ≡ xs
put_back xs n x = set_again xs n x (get_or xs n x) ∙ set-get_or xs n x
