-- Definitions that roots share, by their names: no others are compared.
use Rattle.std.proofs.Common.{◌≡◌, ℕ, ◌+◌, nat_eq, Bool, true, false, not, ◌&&◌, ◌||◌, if◌then◌else◌, List, [], ◌∷◌, ◌++◌, take, Some, slice_get, bytes_eq, refl, sym, ◌∙◌, ap}
use Rattle.std.proofs.lemmas.List.{append-nil}
use Rattle.p10_base.specs.Words.{Text}
use Rattle.p10_heads.specs.Heads.{Head}
use Rattle.p10_linkage.specs.Between.{is_defined_before}
use Rattle.p10_linkage.specs.private.Agreeing.{is_shared}
use Rattle.p10_linkage.specs.private.Grouping.{with_row, rows_at, grouped_after}
use Rattle.p10_linkage.proofs.LastNames.{chosen}
use Rattle.p10_linkage.proofs.Turns.{rows_append, take_more, after}

-- each name's places are those of the first definitions that have it and are shared
abbrev pub AreShared : List Head → ℕ → (Text → List ℕ) → Type 0
AreShared all k group = (name : Text) → rows_at (group name) all ≡ chosen (λ (f : Head). f.name) is_shared name (take k all)

chosen_append : {A : Type 0} (of : A → Text) (test : A → Bool) (name : Text) (xs : List A) (a : A) →
    chosen of test name (xs ++ a ∷ []) ≡ chosen of test name xs ++ (if bytes_eq (of a) name && test a then a ∷ [] else [])
chosen_append of test name [] a = refl
chosen_append {A = A} of test name (x ∷ xs) a =
    ap (λ rest. if bytes_eq (of x) name && test x then x ∷ rest else rest) (chosen_append of test name xs a)
    ∙ passed (bytes_eq (of x) name && test x) (chosen of test name xs) (if bytes_eq (of a) name && test a then a ∷ [] else [])
  where
    passed : (t : Bool) (ys zs : List A) → (if t then x ∷ (ys ++ zs) else ys ++ zs) ≡ (if t then x ∷ ys else ys) ++ zs
    passed true ys zs = refl
    passed false ys zs = refl

-- one place more is noted for the name of what stands there, if that is shared
pub shared_on : (all : List Head) (k : ℕ) (f : Head) (group new : Text → List ℕ) → slice_get all k ≡ Some f → AreShared all k group →
    ((name : Text) → new name ≡ grouped_after (is_shared f) f.name k name (group name)) → AreShared all (k + 1) new
shared_on all k f group new there h is name =
    ap (λ places. rows_at places all) (is name)
    ∙ by_test (bytes_eq f.name name && is_shared f)
    ∙ ap (λ rows. rows ++ (if bytes_eq f.name name && is_shared f then f ∷ [] else [])) (h name)
    ∙ sym (chosen_append (λ (g : Head). g.name) is_shared name (take k all) f)
    ∙ ap (chosen (λ (g : Head). g.name) is_shared name) (sym (take_more all k f there))
    ∙ ap (λ n. chosen (λ (g : Head). g.name) is_shared name (take n all)) (after k)
  where
    by_test : (t : Bool) → rows_at (if t then group name ++ k ∷ [] else group name) all ≡ rows_at (group name) all ++ (if t then f ∷ [] else [])
    by_test true = rows_append all (group name) k ∙ ap (λ o. rows_at (group name) all ++ with_row o []) there
    by_test false = sym (append-nil (rows_at (group name) all))

-- ## What isn't shared counts for nothing

-- whether two definitions are of different roots, and shared
abbrev of_other_roots : Head → Head → Bool
of_other_roots g f = not (g.internal || f.internal) && (not (g.in_block || f.in_block) && not (nat_eq g.root f.root))

neither : (b : Bool) → (b && false) ≡ false
neither true = refl
neither false = refl

or_true : (b : Bool) → (b || true) ≡ true
or_true true = refl
or_true false = refl

first_apart : (g f : Head) → is_shared g ≡ false → of_other_roots g f ≡ false
first_apart g f e = by g.internal g.in_block e
  where
    by : (a b : Bool) → not (a || b) ≡ false → (not (a || f.internal) && (not (b || f.in_block) && not (nat_eq g.root f.root))) ≡ false
    by true b e = refl
    by false true e = neither (not f.internal)
    by false false e = absurd cc

second_apart : (g f : Head) → is_shared f ≡ false → of_other_roots g f ≡ false
second_apart g f e = by f.internal f.in_block e
  where
    by : (a b : Bool) → not (a || b) ≡ false → (not (g.internal || a) && (not (g.in_block || b) && not (nat_eq g.root f.root))) ≡ false
    by true b e = ap (λ t. not t && (not (g.in_block || b) && not (nat_eq g.root f.root))) (or_true g.internal)
    by false true e = ap (λ t. not (g.internal || false) && (not t && not (nat_eq g.root f.root))) (or_true g.in_block) ∙ neither (not (g.internal || false))
    by false false e = absurd cc

defined_chosen : (fs : List Head) (f : Head) → is_defined_before (chosen (λ (g : Head). g.name) is_shared f.name fs) f ≡ is_defined_before fs f
defined_chosen [] f = refl
defined_chosen (g ∷ fs) f = by (bytes_eq g.name f.name) (is_shared g) refl refl (defined_chosen fs f)
  where
    rest : List Head
    rest = chosen (λ (g : Head). g.name) is_shared f.name fs

    by : (b s : Bool) → bytes_eq g.name f.name ≡ b → is_shared g ≡ s → is_defined_before rest f ≡ is_defined_before fs f →
        is_defined_before (if bytes_eq g.name f.name && is_shared g then g ∷ rest else rest) f ≡ ((bytes_eq g.name f.name && of_other_roots g f) || is_defined_before fs f)
    by true true e t same =
        (λ i. is_defined_before (if e i && t i then g ∷ rest else rest) f)
        ∙ ap (λ b. (bytes_eq g.name f.name && of_other_roots g f) || b) same
    by true false e t same =
        (λ i. is_defined_before (if e i && t i then g ∷ rest else rest) f)
        ∙ same
        ∙ sym (ap (λ b. (bytes_eq g.name f.name && b) || is_defined_before fs f) (first_apart g f t) ∙ ap (λ b. b || is_defined_before fs f) (neither (bytes_eq g.name f.name)))
    by false s e t same =
        (λ i. is_defined_before (if e i && is_shared g then g ∷ rest else rest) f)
        ∙ same
        ∙ sym (ap (λ b. (b && of_other_roots g f) || is_defined_before fs f) e)

none_defined : (fs : List Head) (f : Head) → is_shared f ≡ false → is_defined_before fs f ≡ false
none_defined [] f e = refl
none_defined (g ∷ fs) f e =
    ap (λ b. (bytes_eq g.name f.name && b) || is_defined_before fs f) (second_apart g f e)
    ∙ ap (λ b. b || is_defined_before fs f) (neither (bytes_eq g.name f.name))
    ∙ none_defined fs f e

-- whether a name is defined in another root before, by the definitions that are shared
pub defined_twice : (fs rows : List Head) (f : Head) (twice : Bool) → rows ≡ chosen (λ (g : Head). g.name) is_shared f.name fs → twice ≡ (is_shared f && is_defined_before rows f) → twice ≡ is_defined_before fs f
defined_twice fs rows f twice are is = is ∙ by (is_shared f) refl
  where
    by : (s : Bool) → is_shared f ≡ s → (is_shared f && is_defined_before rows f) ≡ is_defined_before fs f
    by true e = ap (λ s. s && is_defined_before rows f) e ∙ ap (λ gs. is_defined_before gs f) are ∙ defined_chosen fs f
    by false e = ap (λ s. s && is_defined_before rows f) e ∙ sym (none_defined fs f e)
