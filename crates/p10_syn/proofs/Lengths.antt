-- A keyword is looked for among those that are as long as the text.
use Rattle.std.proofs.Common.{◌≡◌, ℕ, ◌==◌, ◌<◌, ◌≤◌, nat_le, arith, Bool, true, false, cond, if◌then◌else◌, List, [], ◌∷◌, length, Option, None, Some, refl, ap, sym, ◌∙◌, subst, bytes_eq}
use Rattle.std.specs.List.{list_all}
use Rattle.std.proofs.lemmas.Bool.{eq-eqb, leb-true, and_parts}
use Rattle.std.proofs.lemmas.Slice.Eq.{bytes_eq-Decides}
use Rattle.p10_base.specs.Words.{Text}
use Rattle.p10_syn.specs.declared.sign.Sign.{Sign}
use Rattle.p10_syn.specs.Signs.{spelling, keywords, sign_among}
use Rattle.p10_syn.specs.private.Lengths.{of_length, DoForLength}

true-false : true ≡ false → ⊥
true-false e = subst (λ b. cond b (Unit {0}) ⊥) e tt

skipped : (same : Bool) (s : Sign) (found : Option Sign) → (same ≡ true → ⊥) → found ≡ cond same (Some s) found
skipped true s found never = absurd (never refl)
skipped false s found never = refl

-- a sign is put before those that are looked through if it is as long as the text
one_more : (as_long : Bool) (text : Text) (s : Sign) (kept signs : List Sign) → (length (spelling s) == length text) ≡ as_long → sign_among kept text ≡ sign_among signs text →
    sign_among (if as_long then s ∷ kept else kept) text ≡ sign_among (s ∷ signs) text
one_more true text s kept signs is same = ap (λ found. cond (bytes_eq text (spelling s)) (Some s) found) same
one_more false text s kept signs is same =
    same ∙ skipped (bytes_eq text (spelling s)) s (sign_among signs text)
    (λ equal. true-false (sym (eq-eqb _ _ (ap length (sym ((bytes_eq-Decides text (spelling s)).0 equal)))) ∙ is))

among_as_long : (signs : List Sign) (text : Text) → sign_among (of_length (length text) signs) text ≡ sign_among signs text
among_as_long [] text = refl
among_as_long (s ∷ signs) text = one_more _ text s (of_length (length text) signs) signs refl (among_as_long signs text)

-- the keywords of a length do for it
pub do_for_length : (bytes : ℕ) (signs : List Sign) → of_length bytes keywords ≡ signs → DoForLength bytes signs
do_for_length bytes signs same text long =
    ap (λ these. sign_among these text) (sym same ∙ ap (λ n. of_length n keywords) (sym long)) ∙ among_as_long keywords text

-- whether a sign is written with at most ten bytes
abbrev is_short : Sign → Bool
is_short s = nat_le (length (spelling s)) 10

among_short : (signs : List Sign) (text : Text) → list_all is_short signs ≡ true → 10 < length text → None ≡ sign_among signs text
among_short [] text short long = refl
among_short (s ∷ signs) text short long =
    let parts = and_parts (is_short s) (list_all is_short signs) short in
    let few : length (spelling s) ≤ 10 = leb-true _ _ parts.0 in
    among_short signs text parts.1 long ∙ skipped (bytes_eq text (spelling s)) s (sign_among signs text)
    (λ equal. let same : length text ≡ length (spelling s) = ap length ((bytes_eq-Decides text (spelling s)).0 equal) in omega arith)

-- no keyword has more than ten bytes
pub none_longer : (bytes : ℕ) → 10 < bytes → DoForLength bytes []
unfolding keywords spelling
none_longer bytes long text same = among_short keywords text refl (omega arith)
