-- What is placed of a list in an expression or declarator while its elements are gone through, and when all are.
use Rattle.std.proofs.Common.{◌≡◌, ℕ, ◌+◌, ◌<◌, ◌≤◌, min, List, [], ◌∷◌, length, map, Bool, refl, sym, ◌∙◌, ap, subst, arith, add-zero}
use Rattle.std.proofs.Math.ListN.{get_or}
use Rattle.std.proofs.lemmas.List.{length-map}
use Rattle.p10_base.specs.declared.at.At.{At}
use Rattle.p10_syn.specs.declared.tree.Expr as code_expressions
use Rattle.p10_syn.specs.declared.tree.Qualifier as code_qualifiers
use Rattle.p10_syn.specs.declared.tree.Spec as code_specifiers
use Rattle.p10_syn.specs.declared.tree.Member as code_members
use Rattle.p10_syn.specs.declared.tree.Field as code_fields
use Rattle.p10_syn.specs.declared.tree.Enumerator as code_enumerators
use Rattle.p10_syn.specs.declared.tree.Parameter as code_parameters
use Rattle.p10_syn.specs.Trees.{Bare, Qualifier, Expression, Specifier, MemberDeclaration, Field, Enumerator, Parameter, expression_row, specifier_row, member_row, field_row, enumerator_row, parameter_row, MoreExpressions, MoreSpecifiers, MoreMembers, MoreFields, MoreEnumerators, MoreParameters}
use Rattle.p10_syn.specs.Bare.{bare, bare_qualifier, bare_qualifiers, bare_specifier, bare_member, bare_field, bare_enumerator, bare_parameter, bare_list, bare_specifiers, bare_members, bare_fields, bare_enumerators, bare_parameters}
use Rattle.p10_syn.specs.Built.{expression_of, qualifier_of, specifier_of, member_of, field_of, enumerator_of, parameter_of}
use Rattle.p10_syn.specs.Counts.{count_bool, count, count_specifier, count_member, count_field, count_enumerator, count_parameter, count_list, count_specifiers, count_members, count_fields, count_enumerators, count_parameters, count_more, count_more_members, count_more_fields, count_more_enumerators, count_more_parameters}
use Rattle.p10_syn.specs.Places.{Source, locate, locate_qualifier, locate_qualifiers, locate_specifier, locate_member, locate_field, locate_enumerator, locate_parameter, locate_list, locate_specifiers, locate_members, locate_fields, locate_enumerators, locate_parameters}
use Rattle.p10_place.proofs.Parts.{placed_first, start_of, Placing, has_room, has_start}

-- ## Expressions

-- the first k are placed, from word n on, up to but not including word `past`
abbrev pub Placing_expressions : Source → ℕ → ℕ → List code_expressions.Expr → List code_expressions.Expr → ℕ → Type 0
Placing_expressions s k n start now past = Placing code_expressions.Expr (Expression At) (Expression Bare) expression_of bare (locate s) count 1 k n start now past

rows_expressions : (s : Source) (n : ℕ) (ts : List (Expression At)) → expression_row (placed_first (Expression At) (Expression Bare) bare (locate s) count 1 (length ts) n ts) ≡ locate_list s n (bare_list (expression_row ts))
rows_expressions s n [] = refl
rows_expressions s n (t ∷ ts) = ap (MoreExpressions (locate s n (bare t))) (rows_expressions s (n + count (bare t) + 1) ts)

more_expressions : (s : Source) (n : ℕ) (ts : List (Expression At)) → start_of (Expression At) (Expression Bare) bare (locate s) count 1 (length ts) n ts ≡ n + count_more (bare_list (expression_row ts))
more_expressions s n [] = omega arith
more_expressions s n (t ∷ ts) = omega (arith, more_expressions s (n + count (bare t) + 1) ts)

ends_expressions : (s : Source) (n past : ℕ) (ts : List (Expression At)) → past + min (length ts) 1 ≡ start_of (Expression At) (Expression Bare) bare (locate s) count 1 (length ts) n ts → past ≡ n + count_list (bare_list (expression_row ts))
ends_expressions s n past [] e = omega (arith, e)
ends_expressions s n past (t ∷ ts) e = omega (arith, e, more_expressions s (n + count (bare t) + 1) ts)

room_expressions : (s : Source) (n m : ℕ) (ts : List (Expression At)) → 0 < length ts → m + 1 ≤ start_of (Expression At) (Expression Bare) bare (locate s) count 1 (length ts) n ts → m ≤ n + count_list (bare_list (expression_row ts))
room_expressions s n m [] h e = absurd (omega (arith, h))
room_expressions s n m (t ∷ ts) h e = omega (arith, e, more_expressions s (n + count (bare t) + 1) ts)

-- the words of the next one are there
pub fits_expressions : (s : Source) (k n : ℕ) (start now : List code_expressions.Expr) (past : ℕ) (d old : code_expressions.Expr) → k < length start → Placing_expressions s k n start now past → old ≡ get_or now k d →
    past + min k 1 + count (bare (expression_of old)) ≤ n + count_list (bare_list (expression_row (map expression_of start)))
fits_expressions s k n start now past d old h p o =
    let some : 0 < length (map expression_of start) = rw (length-map start expression_of) (omega (arith, h)) in
    subst (λ (t : code_expressions.Expr). past + min k 1 + count (bare (expression_of t)) ≤ n + count_list (bare_list (expression_row (map expression_of start)))) (sym o)
    (room_expressions s n (past + min k 1 + count (bare (expression_of (get_or now k d)))) (map expression_of start) some
    (rw (length-map start expression_of) (has_room code_expressions.Expr (Expression At) (Expression Bare) expression_of bare (locate s) count 1 k n start now past d h p)))

-- what stands before the next one is there
pub starts_expressions : (s : Source) (k n : ℕ) (start now : List code_expressions.Expr) (past : ℕ) → k < length start → Placing_expressions s k n start now past →
    past + min k 1 ≤ n + count_list (bare_list (expression_row (map expression_of start)))
starts_expressions s k n start now past h p =
    let some : 0 < length (map expression_of start) = rw (length-map start expression_of) (omega (arith, h)) in
    room_expressions s n (past + min k 1) (map expression_of start) some (rw (length-map start expression_of) (has_start code_expressions.Expr (Expression At) (Expression Bare) expression_of bare (locate s) count 1 k n start now past h p))

-- all are placed
pub all_expressions : (s : Source) (k n : ℕ) (start now : List code_expressions.Expr) (past : ℕ) → k ≡ length start → Placing_expressions s k n start now past →
    expression_row (map expression_of now) ≡ locate_list s n (bare_list (expression_row (map expression_of start)))
all_expressions s k n start now past e p =
    ap (λ xs. expression_row xs) (p.placed ∙ ap (λ k. placed_first (Expression At) (Expression Bare) bare (locate s) count 1 k n (map expression_of start)) (e ∙ sym (length-map start expression_of))) ∙ rows_expressions s n (map expression_of start)

-- the word past all of them
pub past_expressions : (s : Source) (k n : ℕ) (start now : List code_expressions.Expr) (past : ℕ) → k ≡ length start → Placing_expressions s k n start now past →
    past ≡ n + count_list (bare_list (expression_row (map expression_of start)))
past_expressions s k n start now past e p =
    ends_expressions s n past (map expression_of start) (rw (length-map start expression_of) (subst (λ (k : ℕ). past + min k 1 ≡ start_of (Expression At) (Expression Bare) bare (locate s) count 1 k n (map expression_of start)) e p.reached))

-- ## Specifiers

-- the first k are placed, from word n on, up to but not including word `past`
abbrev pub Placing_specifiers : Source → ℕ → ℕ → List code_specifiers.Spec → List code_specifiers.Spec → ℕ → Type 0
Placing_specifiers s k n start now past = Placing code_specifiers.Spec (Specifier At) (Specifier Bare) specifier_of bare_specifier (locate_specifier s) count_specifier 0 k n start now past

rows_specifiers : (s : Source) (n : ℕ) (ts : List (Specifier At)) → specifier_row (placed_first (Specifier At) (Specifier Bare) bare_specifier (locate_specifier s) count_specifier 0 (length ts) n ts) ≡ locate_specifiers s n (bare_specifiers (specifier_row ts))
rows_specifiers s n [] = refl
rows_specifiers s n (t ∷ ts) = ap (MoreSpecifiers (locate_specifier s n (bare_specifier t))) (rows_specifiers s (n + count_specifier (bare_specifier t) + 0) ts ∙ ap (λ m. locate_specifiers s m (bare_specifiers (specifier_row ts))) (add-zero (n + count_specifier (bare_specifier t))))

more_specifiers : (s : Source) (n : ℕ) (ts : List (Specifier At)) → start_of (Specifier At) (Specifier Bare) bare_specifier (locate_specifier s) count_specifier 0 (length ts) n ts ≡ n + count_specifiers (bare_specifiers (specifier_row ts))
more_specifiers s n [] = omega arith
more_specifiers s n (t ∷ ts) = omega (arith, more_specifiers s (n + count_specifier (bare_specifier t) + 0) ts)

ends_specifiers : (s : Source) (n past : ℕ) (ts : List (Specifier At)) → past + min (length ts) 0 ≡ start_of (Specifier At) (Specifier Bare) bare_specifier (locate_specifier s) count_specifier 0 (length ts) n ts → past ≡ n + count_specifiers (bare_specifiers (specifier_row ts))
ends_specifiers s n past [] e = omega (arith, e)
ends_specifiers s n past (t ∷ ts) e = omega (arith, e, more_specifiers s (n + count_specifier (bare_specifier t) + 0) ts)

room_specifiers : (s : Source) (n m : ℕ) (ts : List (Specifier At)) → 0 < length ts → m + 0 ≤ start_of (Specifier At) (Specifier Bare) bare_specifier (locate_specifier s) count_specifier 0 (length ts) n ts → m ≤ n + count_specifiers (bare_specifiers (specifier_row ts))
room_specifiers s n m [] h e = absurd (omega (arith, h))
room_specifiers s n m (t ∷ ts) h e = omega (arith, e, more_specifiers s (n + count_specifier (bare_specifier t) + 0) ts)

-- the words of the next one are there
pub fits_specifiers : (s : Source) (k n : ℕ) (start now : List code_specifiers.Spec) (past : ℕ) (d old : code_specifiers.Spec) → k < length start → Placing_specifiers s k n start now past → old ≡ get_or now k d →
    past + min k 0 + count_specifier (bare_specifier (specifier_of old)) ≤ n + count_specifiers (bare_specifiers (specifier_row (map specifier_of start)))
fits_specifiers s k n start now past d old h p o =
    let some : 0 < length (map specifier_of start) = rw (length-map start specifier_of) (omega (arith, h)) in
    subst (λ (t : code_specifiers.Spec). past + min k 0 + count_specifier (bare_specifier (specifier_of t)) ≤ n + count_specifiers (bare_specifiers (specifier_row (map specifier_of start)))) (sym o)
    (room_specifiers s n (past + min k 0 + count_specifier (bare_specifier (specifier_of (get_or now k d)))) (map specifier_of start) some
    (rw (length-map start specifier_of) (has_room code_specifiers.Spec (Specifier At) (Specifier Bare) specifier_of bare_specifier (locate_specifier s) count_specifier 0 k n start now past d h p)))

-- what stands before the next one is there
pub starts_specifiers : (s : Source) (k n : ℕ) (start now : List code_specifiers.Spec) (past : ℕ) → k < length start → Placing_specifiers s k n start now past →
    past + min k 0 ≤ n + count_specifiers (bare_specifiers (specifier_row (map specifier_of start)))
starts_specifiers s k n start now past h p =
    let some : 0 < length (map specifier_of start) = rw (length-map start specifier_of) (omega (arith, h)) in
    room_specifiers s n (past + min k 0) (map specifier_of start) some (rw (length-map start specifier_of) (has_start code_specifiers.Spec (Specifier At) (Specifier Bare) specifier_of bare_specifier (locate_specifier s) count_specifier 0 k n start now past h p))

-- all are placed
pub all_specifiers : (s : Source) (k n : ℕ) (start now : List code_specifiers.Spec) (past : ℕ) → k ≡ length start → Placing_specifiers s k n start now past →
    specifier_row (map specifier_of now) ≡ locate_specifiers s n (bare_specifiers (specifier_row (map specifier_of start)))
all_specifiers s k n start now past e p =
    ap (λ xs. specifier_row xs) (p.placed ∙ ap (λ k. placed_first (Specifier At) (Specifier Bare) bare_specifier (locate_specifier s) count_specifier 0 k n (map specifier_of start)) (e ∙ sym (length-map start specifier_of))) ∙ rows_specifiers s n (map specifier_of start)

-- the word past all of them
pub past_specifiers : (s : Source) (k n : ℕ) (start now : List code_specifiers.Spec) (past : ℕ) → k ≡ length start → Placing_specifiers s k n start now past →
    past ≡ n + count_specifiers (bare_specifiers (specifier_row (map specifier_of start)))
past_specifiers s k n start now past e p =
    ends_specifiers s n past (map specifier_of start) (rw (length-map start specifier_of) (subst (λ (k : ℕ). past + min k 0 ≡ start_of (Specifier At) (Specifier Bare) bare_specifier (locate_specifier s) count_specifier 0 k n (map specifier_of start)) e p.reached))

-- ## Qualifiers

-- a qualifier is one word
abbrev pub one_word : Qualifier Bare → ℕ
one_word q = 1

-- the first k are placed, from word n on, up to but not including word `past`
abbrev pub Placing_qualifiers : Source → ℕ → ℕ → List code_qualifiers.Qualifier → List code_qualifiers.Qualifier → ℕ → Type 0
Placing_qualifiers s k n start now past = Placing code_qualifiers.Qualifier (Qualifier At) (Qualifier Bare) qualifier_of bare_qualifier (locate_qualifier s) one_word 0 k n start now past

rows_qualifiers : (s : Source) (n : ℕ) (ts : List (Qualifier At)) → placed_first (Qualifier At) (Qualifier Bare) bare_qualifier (locate_qualifier s) one_word 0 (length ts) n ts ≡ locate_qualifiers s n (bare_qualifiers ts)
rows_qualifiers s n [] = refl
rows_qualifiers s n (t ∷ ts) = ap (λ xs. locate_qualifier s n (bare_qualifier t) ∷ xs) (rows_qualifiers s (n + 1 + 0) ts ∙ ap (λ m. locate_qualifiers s m (bare_qualifiers ts)) (add-zero (n + 1)))

more_qualifiers : (s : Source) (n : ℕ) (ts : List (Qualifier At)) → start_of (Qualifier At) (Qualifier Bare) bare_qualifier (locate_qualifier s) one_word 0 (length ts) n ts ≡ n + length (bare_qualifiers ts)
more_qualifiers s n [] = omega arith
more_qualifiers s n (t ∷ ts) = omega (arith, more_qualifiers s (n + 1 + 0) ts)

-- the words of the next one are there
pub fits_qualifiers : (s : Source) (k n : ℕ) (start now : List code_qualifiers.Qualifier) (past : ℕ) (d : code_qualifiers.Qualifier) → k < length start → Placing_qualifiers s k n start now past →
    past + 1 ≤ n + length (bare_qualifiers (map qualifier_of start))
fits_qualifiers s k n start now past d h p =
    let room : past + min k 0 + 1 + 0 ≤ start_of (Qualifier At) (Qualifier Bare) bare_qualifier (locate_qualifier s) one_word 0 (length (map qualifier_of start)) n (map qualifier_of start) =
    rw (length-map start qualifier_of) (has_room code_qualifiers.Qualifier (Qualifier At) (Qualifier Bare) qualifier_of bare_qualifier (locate_qualifier s) one_word 0 k n start now past d h p) in
    omega (arith, room, more_qualifiers s n (map qualifier_of start))

-- all are placed
pub all_qualifiers : (s : Source) (k n : ℕ) (start now : List code_qualifiers.Qualifier) (past : ℕ) → k ≡ length start → Placing_qualifiers s k n start now past →
    map qualifier_of now ≡ locate_qualifiers s n (bare_qualifiers (map qualifier_of start))
all_qualifiers s k n start now past e p =
    p.placed ∙ ap (λ k. placed_first (Qualifier At) (Qualifier Bare) bare_qualifier (locate_qualifier s) one_word 0 k n (map qualifier_of start)) (e ∙ sym (length-map start qualifier_of)) ∙ rows_qualifiers s n (map qualifier_of start)

-- the word past all of them
pub past_qualifiers : (s : Source) (k n : ℕ) (start now : List code_qualifiers.Qualifier) (past : ℕ) → k ≡ length start → Placing_qualifiers s k n start now past →
    past ≡ n + length (bare_qualifiers (map qualifier_of start))
past_qualifiers s k n start now past e p =
    let reached : past + min (length (map qualifier_of start)) 0 ≡ start_of (Qualifier At) (Qualifier Bare) bare_qualifier (locate_qualifier s) one_word 0 (length (map qualifier_of start)) n (map qualifier_of start) =
    rw (length-map start qualifier_of) (subst (λ (k : ℕ). past + min k 0 ≡ start_of (Qualifier At) (Qualifier Bare) bare_qualifier (locate_qualifier s) one_word 0 k n (map qualifier_of start)) e p.reached) in
    omega (arith, reached, more_qualifiers s n (map qualifier_of start))

-- ## Members

-- the first k are placed, from word n on, up to but not including word `past`
abbrev pub Placing_members : Source → ℕ → ℕ → List code_members.Member → List code_members.Member → ℕ → Type 0
Placing_members s k n start now past = Placing code_members.Member (MemberDeclaration At) (MemberDeclaration Bare) member_of bare_member (locate_member s) count_member 0 k n start now past

rows_members : (s : Source) (n : ℕ) (ts : List (MemberDeclaration At)) → member_row (placed_first (MemberDeclaration At) (MemberDeclaration Bare) bare_member (locate_member s) count_member 0 (length ts) n ts) ≡ locate_members s n (bare_members (member_row ts))
rows_members s n [] = refl
rows_members s n (t ∷ ts) = ap (MoreMembers (locate_member s n (bare_member t))) (rows_members s (n + count_member (bare_member t) + 0) ts ∙ ap (λ m. locate_members s m (bare_members (member_row ts))) (add-zero (n + count_member (bare_member t))))

more_members : (s : Source) (n : ℕ) (ts : List (MemberDeclaration At)) → start_of (MemberDeclaration At) (MemberDeclaration Bare) bare_member (locate_member s) count_member 0 (length ts) n ts + 1 ≡ n + count_more_members (bare_members (member_row ts))
more_members s n [] = omega arith
more_members s n (t ∷ ts) = omega (arith, more_members s (n + count_member (bare_member t) + 0) ts)

ends_members : (s : Source) (n past : ℕ) (ts : List (MemberDeclaration At)) → 0 < length ts → past + min (length ts) 0 ≡ start_of (MemberDeclaration At) (MemberDeclaration Bare) bare_member (locate_member s) count_member 0 (length ts) n ts → past + 2 ≡ n + count_members (bare_members (member_row ts))
ends_members s n past [] h e = absurd (omega (arith, h))
ends_members s n past (t ∷ ts) h e = omega (arith, e, more_members s (n + count_member (bare_member t) + 0) ts)

room_members : (s : Source) (n m : ℕ) (ts : List (MemberDeclaration At)) → 0 < length ts → m + 0 ≤ start_of (MemberDeclaration At) (MemberDeclaration Bare) bare_member (locate_member s) count_member 0 (length ts) n ts → m + 2 ≤ n + count_members (bare_members (member_row ts))
room_members s n m [] h e = absurd (omega (arith, h))
room_members s n m (t ∷ ts) h e = omega (arith, e, more_members s (n + count_member (bare_member t) + 0) ts)

-- the words of the next one are there
pub fits_members : (s : Source) (k n : ℕ) (start now : List code_members.Member) (past : ℕ) (d old : code_members.Member) → k < length start → Placing_members s k n start now past → old ≡ get_or now k d →
    past + min k 0 + count_member (bare_member (member_of old)) + 2 ≤ n + count_members (bare_members (member_row (map member_of start)))
fits_members s k n start now past d old h p o =
    let some : 0 < length (map member_of start) = rw (length-map start member_of) (omega (arith, h)) in
    subst (λ (t : code_members.Member). past + min k 0 + count_member (bare_member (member_of t)) + 2 ≤ n + count_members (bare_members (member_row (map member_of start)))) (sym o)
    (room_members s n (past + min k 0 + count_member (bare_member (member_of (get_or now k d)))) (map member_of start) some
    (rw (length-map start member_of) (has_room code_members.Member (MemberDeclaration At) (MemberDeclaration Bare) member_of bare_member (locate_member s) count_member 0 k n start now past d h p)))

-- what stands before the next one is there
pub starts_members : (s : Source) (k n : ℕ) (start now : List code_members.Member) (past : ℕ) → k < length start → Placing_members s k n start now past →
    past + min k 0 + 2 ≤ n + count_members (bare_members (member_row (map member_of start)))
starts_members s k n start now past h p =
    let some : 0 < length (map member_of start) = rw (length-map start member_of) (omega (arith, h)) in
    room_members s n (past + min k 0) (map member_of start) some (rw (length-map start member_of) (has_start code_members.Member (MemberDeclaration At) (MemberDeclaration Bare) member_of bare_member (locate_member s) count_member 0 k n start now past h p))

-- all are placed
pub all_members : (s : Source) (k n : ℕ) (start now : List code_members.Member) (past : ℕ) → k ≡ length start → Placing_members s k n start now past →
    member_row (map member_of now) ≡ locate_members s n (bare_members (member_row (map member_of start)))
all_members s k n start now past e p =
    ap (λ xs. member_row xs) (p.placed ∙ ap (λ k. placed_first (MemberDeclaration At) (MemberDeclaration Bare) bare_member (locate_member s) count_member 0 k n (map member_of start)) (e ∙ sym (length-map start member_of))) ∙ rows_members s n (map member_of start)

-- the word past all of them
pub past_members : (s : Source) (k n : ℕ) (start now : List code_members.Member) (past : ℕ) → k ≡ length start → 0 < length start → Placing_members s k n start now past →
    past + 2 ≡ n + count_members (bare_members (member_row (map member_of start)))
past_members s k n start now past e h p =
    ends_members s n past (map member_of start) (rw (length-map start member_of) h) (rw (length-map start member_of) (subst (λ (k : ℕ). past + min k 0 ≡ start_of (MemberDeclaration At) (MemberDeclaration Bare) bare_member (locate_member s) count_member 0 k n (map member_of start)) e p.reached))

-- ## Fields

-- the first k are placed, from word n on, up to but not including word `past`
abbrev pub Placing_fields : Source → ℕ → ℕ → List code_fields.Field → List code_fields.Field → ℕ → Type 0
Placing_fields s k n start now past = Placing code_fields.Field (Field At) (Field Bare) field_of bare_field (locate_field s) count_field 1 k n start now past

rows_fields : (s : Source) (n : ℕ) (ts : List (Field At)) → field_row (placed_first (Field At) (Field Bare) bare_field (locate_field s) count_field 1 (length ts) n ts) ≡ locate_fields s n (bare_fields (field_row ts))
rows_fields s n [] = refl
rows_fields s n (t ∷ ts) = ap (MoreFields (locate_field s n (bare_field t))) (rows_fields s (n + count_field (bare_field t) + 1) ts)

more_fields : (s : Source) (n : ℕ) (ts : List (Field At)) → start_of (Field At) (Field Bare) bare_field (locate_field s) count_field 1 (length ts) n ts + 1 ≡ n + count_more_fields (bare_fields (field_row ts))
more_fields s n [] = omega arith
more_fields s n (t ∷ ts) = omega (arith, more_fields s (n + count_field (bare_field t) + 1) ts)

ends_fields : (s : Source) (n past : ℕ) (ts : List (Field At)) → past + min (length ts) 1 ≡ start_of (Field At) (Field Bare) bare_field (locate_field s) count_field 1 (length ts) n ts → past + 1 ≡ n + count_fields (bare_fields (field_row ts))
ends_fields s n past [] e = omega (arith, e)
ends_fields s n past (t ∷ ts) e = omega (arith, e, more_fields s (n + count_field (bare_field t) + 1) ts)

room_fields : (s : Source) (n m : ℕ) (ts : List (Field At)) → 0 < length ts → m + 1 ≤ start_of (Field At) (Field Bare) bare_field (locate_field s) count_field 1 (length ts) n ts → m + 1 ≤ n + count_fields (bare_fields (field_row ts))
room_fields s n m [] h e = absurd (omega (arith, h))
room_fields s n m (t ∷ ts) h e = omega (arith, e, more_fields s (n + count_field (bare_field t) + 1) ts)

-- the words of the next one are there
pub fits_fields : (s : Source) (k n : ℕ) (start now : List code_fields.Field) (past : ℕ) (d old : code_fields.Field) → k < length start → Placing_fields s k n start now past → old ≡ get_or now k d →
    past + min k 1 + count_field (bare_field (field_of old)) + 1 ≤ n + count_fields (bare_fields (field_row (map field_of start)))
fits_fields s k n start now past d old h p o =
    let some : 0 < length (map field_of start) = rw (length-map start field_of) (omega (arith, h)) in
    subst (λ (t : code_fields.Field). past + min k 1 + count_field (bare_field (field_of t)) + 1 ≤ n + count_fields (bare_fields (field_row (map field_of start)))) (sym o)
    (room_fields s n (past + min k 1 + count_field (bare_field (field_of (get_or now k d)))) (map field_of start) some
    (rw (length-map start field_of) (has_room code_fields.Field (Field At) (Field Bare) field_of bare_field (locate_field s) count_field 1 k n start now past d h p)))

-- what stands before the next one is there
pub starts_fields : (s : Source) (k n : ℕ) (start now : List code_fields.Field) (past : ℕ) → k < length start → Placing_fields s k n start now past →
    past + min k 1 + 1 ≤ n + count_fields (bare_fields (field_row (map field_of start)))
starts_fields s k n start now past h p =
    let some : 0 < length (map field_of start) = rw (length-map start field_of) (omega (arith, h)) in
    room_fields s n (past + min k 1) (map field_of start) some (rw (length-map start field_of) (has_start code_fields.Field (Field At) (Field Bare) field_of bare_field (locate_field s) count_field 1 k n start now past h p))

-- all are placed
pub all_fields : (s : Source) (k n : ℕ) (start now : List code_fields.Field) (past : ℕ) → k ≡ length start → Placing_fields s k n start now past →
    field_row (map field_of now) ≡ locate_fields s n (bare_fields (field_row (map field_of start)))
all_fields s k n start now past e p =
    ap (λ xs. field_row xs) (p.placed ∙ ap (λ k. placed_first (Field At) (Field Bare) bare_field (locate_field s) count_field 1 k n (map field_of start)) (e ∙ sym (length-map start field_of))) ∙ rows_fields s n (map field_of start)

-- the word past all of them
pub past_fields : (s : Source) (k n : ℕ) (start now : List code_fields.Field) (past : ℕ) → k ≡ length start → Placing_fields s k n start now past →
    past + 1 ≡ n + count_fields (bare_fields (field_row (map field_of start)))
past_fields s k n start now past e p =
    ends_fields s n past (map field_of start) (rw (length-map start field_of) (subst (λ (k : ℕ). past + min k 1 ≡ start_of (Field At) (Field Bare) bare_field (locate_field s) count_field 1 k n (map field_of start)) e p.reached))

-- ## Enumerators

-- the first k are placed, from word n on, up to but not including word `past`
abbrev pub Placing_enumerators : Source → ℕ → ℕ → List code_enumerators.Enumerator → List code_enumerators.Enumerator → ℕ → Type 0
Placing_enumerators s k n start now past = Placing code_enumerators.Enumerator (Enumerator At) (Enumerator Bare) enumerator_of bare_enumerator (locate_enumerator s) count_enumerator 1 k n start now past

rows_enumerators : (s : Source) (n : ℕ) (ts : List (Enumerator At)) → enumerator_row (placed_first (Enumerator At) (Enumerator Bare) bare_enumerator (locate_enumerator s) count_enumerator 1 (length ts) n ts) ≡ locate_enumerators s n (bare_enumerators (enumerator_row ts))
rows_enumerators s n [] = refl
rows_enumerators s n (t ∷ ts) = ap (MoreEnumerators (locate_enumerator s n (bare_enumerator t))) (rows_enumerators s (n + count_enumerator (bare_enumerator t) + 1) ts)

more_enumerators : (s : Source) (n : ℕ) (ts : List (Enumerator At)) → start_of (Enumerator At) (Enumerator Bare) bare_enumerator (locate_enumerator s) count_enumerator 1 (length ts) n ts ≡ n + count_more_enumerators (bare_enumerators (enumerator_row ts))
more_enumerators s n [] = omega arith
more_enumerators s n (t ∷ ts) = omega (arith, more_enumerators s (n + count_enumerator (bare_enumerator t) + 1) ts)

ends_enumerators : (s : Source) (n past : ℕ) (comma : Bool) (ts : List (Enumerator At)) → 0 < length ts → past + min (length ts) 1 ≡ start_of (Enumerator At) (Enumerator Bare) bare_enumerator (locate_enumerator s) count_enumerator 1 (length ts) n ts → past + count_bool comma + 2 ≡ n + count_enumerators (bare_enumerators (enumerator_row ts)) comma
ends_enumerators s n past comma [] h e = absurd (omega (arith, h))
ends_enumerators s n past comma (t ∷ ts) h e = omega (arith, e, more_enumerators s (n + count_enumerator (bare_enumerator t) + 1) ts)

room_enumerators : (s : Source) (n m : ℕ) (comma : Bool) (ts : List (Enumerator At)) → 0 < length ts → m + 1 ≤ start_of (Enumerator At) (Enumerator Bare) bare_enumerator (locate_enumerator s) count_enumerator 1 (length ts) n ts → m + 2 + count_bool comma ≤ n + count_enumerators (bare_enumerators (enumerator_row ts)) comma
room_enumerators s n m comma [] h e = absurd (omega (arith, h))
room_enumerators s n m comma (t ∷ ts) h e = omega (arith, e, more_enumerators s (n + count_enumerator (bare_enumerator t) + 1) ts)

-- the words of the next one are there
pub fits_enumerators : (s : Source) (k n : ℕ) (start now : List code_enumerators.Enumerator) (past : ℕ) (d old : code_enumerators.Enumerator) (comma : Bool) → k < length start → Placing_enumerators s k n start now past → old ≡ get_or now k d →
    past + min k 1 + count_enumerator (bare_enumerator (enumerator_of old)) + 2 + count_bool comma ≤ n + count_enumerators (bare_enumerators (enumerator_row (map enumerator_of start))) comma
fits_enumerators s k n start now past d old comma h p o =
    let some : 0 < length (map enumerator_of start) = rw (length-map start enumerator_of) (omega (arith, h)) in
    subst (λ (t : code_enumerators.Enumerator). past + min k 1 + count_enumerator (bare_enumerator (enumerator_of t)) + 2 + count_bool comma ≤ n + count_enumerators (bare_enumerators (enumerator_row (map enumerator_of start))) comma) (sym o)
    (room_enumerators s n (past + min k 1 + count_enumerator (bare_enumerator (enumerator_of (get_or now k d)))) comma (map enumerator_of start) some
    (rw (length-map start enumerator_of) (has_room code_enumerators.Enumerator (Enumerator At) (Enumerator Bare) enumerator_of bare_enumerator (locate_enumerator s) count_enumerator 1 k n start now past d h p)))

-- what stands before the next one is there
pub starts_enumerators : (s : Source) (k n : ℕ) (start now : List code_enumerators.Enumerator) (past : ℕ) (comma : Bool) → k < length start → Placing_enumerators s k n start now past →
    past + min k 1 + 2 + count_bool comma ≤ n + count_enumerators (bare_enumerators (enumerator_row (map enumerator_of start))) comma
starts_enumerators s k n start now past comma h p =
    let some : 0 < length (map enumerator_of start) = rw (length-map start enumerator_of) (omega (arith, h)) in
    room_enumerators s n (past + min k 1) comma (map enumerator_of start) some (rw (length-map start enumerator_of) (has_start code_enumerators.Enumerator (Enumerator At) (Enumerator Bare) enumerator_of bare_enumerator (locate_enumerator s) count_enumerator 1 k n start now past h p))

-- all are placed
pub all_enumerators : (s : Source) (k n : ℕ) (start now : List code_enumerators.Enumerator) (past : ℕ) → k ≡ length start → Placing_enumerators s k n start now past →
    enumerator_row (map enumerator_of now) ≡ locate_enumerators s n (bare_enumerators (enumerator_row (map enumerator_of start)))
all_enumerators s k n start now past e p =
    ap (λ xs. enumerator_row xs) (p.placed ∙ ap (λ k. placed_first (Enumerator At) (Enumerator Bare) bare_enumerator (locate_enumerator s) count_enumerator 1 k n (map enumerator_of start)) (e ∙ sym (length-map start enumerator_of))) ∙ rows_enumerators s n (map enumerator_of start)

-- the word past all of them
pub past_enumerators : (s : Source) (k n : ℕ) (start now : List code_enumerators.Enumerator) (past : ℕ) (comma : Bool) → k ≡ length start → 0 < length start → Placing_enumerators s k n start now past →
    past + count_bool comma + 2 ≡ n + count_enumerators (bare_enumerators (enumerator_row (map enumerator_of start))) comma
past_enumerators s k n start now past comma e h p =
    ends_enumerators s n past comma (map enumerator_of start) (rw (length-map start enumerator_of) h) (rw (length-map start enumerator_of) (subst (λ (k : ℕ). past + min k 1 ≡ start_of (Enumerator At) (Enumerator Bare) bare_enumerator (locate_enumerator s) count_enumerator 1 k n (map enumerator_of start)) e p.reached))

-- ## Parameters

-- the first k are placed, from word n on, up to but not including word `past`
abbrev pub Placing_parameters : Source → ℕ → ℕ → List code_parameters.Parameter → List code_parameters.Parameter → ℕ → Type 0
Placing_parameters s k n start now past = Placing code_parameters.Parameter (Parameter At) (Parameter Bare) parameter_of bare_parameter (locate_parameter s) count_parameter 1 k n start now past

rows_parameters : (s : Source) (n : ℕ) (ts : List (Parameter At)) → parameter_row (placed_first (Parameter At) (Parameter Bare) bare_parameter (locate_parameter s) count_parameter 1 (length ts) n ts) ≡ locate_parameters s n (bare_parameters (parameter_row ts))
rows_parameters s n [] = refl
rows_parameters s n (t ∷ ts) = ap (MoreParameters (locate_parameter s n (bare_parameter t))) (rows_parameters s (n + count_parameter (bare_parameter t) + 1) ts)

more_parameters : (s : Source) (n : ℕ) (ts : List (Parameter At)) → start_of (Parameter At) (Parameter Bare) bare_parameter (locate_parameter s) count_parameter 1 (length ts) n ts ≡ n + count_more_parameters (bare_parameters (parameter_row ts))
more_parameters s n [] = omega arith
more_parameters s n (t ∷ ts) = omega (arith, more_parameters s (n + count_parameter (bare_parameter t) + 1) ts)

ends_parameters : (s : Source) (n past : ℕ) (ts : List (Parameter At)) → past + min (length ts) 1 ≡ start_of (Parameter At) (Parameter Bare) bare_parameter (locate_parameter s) count_parameter 1 (length ts) n ts → past ≡ n + count_parameters (bare_parameters (parameter_row ts))
ends_parameters s n past [] e = omega (arith, e)
ends_parameters s n past (t ∷ ts) e = omega (arith, e, more_parameters s (n + count_parameter (bare_parameter t) + 1) ts)

room_parameters : (s : Source) (n m : ℕ) (ts : List (Parameter At)) → 0 < length ts → m + 1 ≤ start_of (Parameter At) (Parameter Bare) bare_parameter (locate_parameter s) count_parameter 1 (length ts) n ts → m ≤ n + count_parameters (bare_parameters (parameter_row ts))
room_parameters s n m [] h e = absurd (omega (arith, h))
room_parameters s n m (t ∷ ts) h e = omega (arith, e, more_parameters s (n + count_parameter (bare_parameter t) + 1) ts)

-- the words of the next one are there
pub fits_parameters : (s : Source) (k n : ℕ) (start now : List code_parameters.Parameter) (past : ℕ) (d old : code_parameters.Parameter) → k < length start → Placing_parameters s k n start now past → old ≡ get_or now k d →
    past + min k 1 + count_parameter (bare_parameter (parameter_of old)) ≤ n + count_parameters (bare_parameters (parameter_row (map parameter_of start)))
fits_parameters s k n start now past d old h p o =
    let some : 0 < length (map parameter_of start) = rw (length-map start parameter_of) (omega (arith, h)) in
    subst (λ (t : code_parameters.Parameter). past + min k 1 + count_parameter (bare_parameter (parameter_of t)) ≤ n + count_parameters (bare_parameters (parameter_row (map parameter_of start)))) (sym o)
    (room_parameters s n (past + min k 1 + count_parameter (bare_parameter (parameter_of (get_or now k d)))) (map parameter_of start) some
    (rw (length-map start parameter_of) (has_room code_parameters.Parameter (Parameter At) (Parameter Bare) parameter_of bare_parameter (locate_parameter s) count_parameter 1 k n start now past d h p)))

-- what stands before the next one is there
pub starts_parameters : (s : Source) (k n : ℕ) (start now : List code_parameters.Parameter) (past : ℕ) → k < length start → Placing_parameters s k n start now past →
    past + min k 1 ≤ n + count_parameters (bare_parameters (parameter_row (map parameter_of start)))
starts_parameters s k n start now past h p =
    let some : 0 < length (map parameter_of start) = rw (length-map start parameter_of) (omega (arith, h)) in
    room_parameters s n (past + min k 1) (map parameter_of start) some (rw (length-map start parameter_of) (has_start code_parameters.Parameter (Parameter At) (Parameter Bare) parameter_of bare_parameter (locate_parameter s) count_parameter 1 k n start now past h p))

-- all are placed
pub all_parameters : (s : Source) (k n : ℕ) (start now : List code_parameters.Parameter) (past : ℕ) → k ≡ length start → Placing_parameters s k n start now past →
    parameter_row (map parameter_of now) ≡ locate_parameters s n (bare_parameters (parameter_row (map parameter_of start)))
all_parameters s k n start now past e p =
    ap (λ xs. parameter_row xs) (p.placed ∙ ap (λ k. placed_first (Parameter At) (Parameter Bare) bare_parameter (locate_parameter s) count_parameter 1 k n (map parameter_of start)) (e ∙ sym (length-map start parameter_of))) ∙ rows_parameters s n (map parameter_of start)

-- the word past all of them
pub past_parameters : (s : Source) (k n : ℕ) (start now : List code_parameters.Parameter) (past : ℕ) → k ≡ length start → Placing_parameters s k n start now past →
    past ≡ n + count_parameters (bare_parameters (parameter_row (map parameter_of start)))
past_parameters s k n start now past e p =
    ends_parameters s n past (map parameter_of start) (rw (length-map start parameter_of) (subst (λ (k : ℕ). past + min k 1 ≡ start_of (Parameter At) (Parameter Bare) bare_parameter (locate_parameter s) count_parameter 1 k n (map parameter_of start)) e p.reached))
