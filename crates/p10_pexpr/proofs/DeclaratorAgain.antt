-- Declarators, parameters and names of types that are spelled are read: each form, from its parts.
use Rattle.std.proofs.Common.{◌≡◌, ℕ, ◌+◌, ◌-◌, ◌*◌, ◌<◌, ◌≤◌, zero, suc, List, [], ◌∷◌, ◌++◌, drop, Bool, true, false, ◌&&◌, cond, refl, sym, ◌∙◌, ap, subst, arith, Some, None, option_map, option_and_then}
use Rattle.std.proofs.lemmas.Bool.{false≢true}
use Rattle.std.proofs.lemmas.List.{append_assoc, append-nil}
use Rattle.p10_syn.specs.declared.sign.Sign.{Sign}
use Rattle.p10_syn.specs.declared.sign.Sign.TheVariants as sign
use Rattle.p10_syn.specs.declared.setting.Naming.{Naming}
use Rattle.p10_syn.specs.declared.setting.Naming.TheVariants.{Allowed, Forbidden}
use Rattle.p10_syn.specs.declared.setting.Setting.{Setting}
use Rattle.p10_syn.specs.declared.setting.Setting.TheVariants as setting
use Rattle.p10_syn.specs.declared.setting.Said.{Said}
use Rattle.p10_syn.specs.declared.setting.Said.TheVariants.{Nothing}
use Rattle.p10_syn.specs.Symbols.{Symbol, Fixed}
use Rattle.p10_syn.specs.Symbols as symbol
use Rattle.p10_syn.specs.Scopes.{Scope}
use Rattle.p10_syn.specs.Declaring.{after_specifiers, after_parameter}
use Rattle.p10_syn.specs.Precedence.{level_of}
use Rattle.p10_syn.specs.Spelling.{spell, spell_qualifiers, spell_specifiers, spell_declarator, spell_more_parameters, spell_parameter, spell_ellipsis}
use Rattle.p10_syn.specs.Forms.{said_by, is_qualifier, may_be_named, may_be_nameless, leads, IsApart, IsSomething, IsSuffixed, AreQualifiers, IsExpression, AreSpecifiers, HasSpecifiers, IsDeclarator, IsParameter}
use Rattle.p10_syn.specs.Trees.{Bare, Identifier, Qualifier, Expression, Absent, Present, type_name, Specifier, Specifiers, NoSpecifiers, MoreSpecifiers, Declarator, Named, Unnamed, Pointer, Parenthesised, Array, Function, Parameters, NoParameters, MoreParameters, Parameter, parameter, parameter_row}
use Rattle.p10_pexpr.specs.Heads.{Read, heads, closed_by}
use Rattle.p10_pexpr.specs.Tables.{begins_specifiers, specifying_at, is_other, opens_parameters}
use Rattle.p10_pexpr.specs.DeclaratorReading.{plain_name, plain_qualifier, qualifiers_from, some_specifiers, nameless_at, specifiers_at, pointer_to, pointer_at, wrapped_at, atom_at, sized_at, array_at, with_parameters_at, function_at, parameter_at, parameters_more}
use Rattle.p10_pexpr.specs.Reading.{readers}
use Rattle.p10_pexpr.proofs.Rows.{specifier_list, specifier_again, parameter_list, parameter_again}
use Rattle.p10_pexpr.proofs.Sizes.{specifiers_size, declarator_size, parameters_size, parameter_size, declarator_spine, declarator_spine_less}
use Rattle.p10_pexpr.proofs.Marks.{begins_no, specifiers_apart, specifiers_no_dots, ends_declarator, end_is}
use Rattle.p10_pexpr.proofs.FirstWords.{first_is, specifiers_begin, declarator_other, declarator_no_brace, apart_leads, wrapped_opens_none, parameters_open}
use Rattle.p10_pexpr.proofs.DeclaratorTakes.{type_scope}
use Rattle.p10_pexpr.proofs.Steps.{declarator_suc, suffixes_suc, parameters_suc}
use Rattle.p10_pexpr.proofs.ExpressionAgain.{Full, TypeRead}

-- ## Specifiers

-- specifiers after which no other stands are read
abbrev pub SpecifiersRead : Scope → Setting → Said → Specifiers Bare → Type 0
SpecifiersRead names setting said ss = (m : ℕ) (done : List (Specifier Bare)) (rest : List Symbol) → 2 * specifiers_size ss < m →
    is_other (specifying_at (after_specifiers names ss) setting (said_by said ss) rest) ≡ true → heads sign.OpenBrace rest ≡ false →
    (readers m).specifiers names setting said done (spell_specifiers ss rest) ≡ Some (done ++ specifier_list ss, rest)

some_again : (ss : Specifiers Bare) (rest : List Symbol) → HasSpecifiers ss → some_specifiers (specifier_list ss) rest ≡ Some (ss, rest)
some_again NoSpecifiers rest h = absurd h
some_again (MoreSpecifiers s ss) rest h = ap (λ (xs : Specifiers Bare). Some (MoreSpecifiers s xs, rest)) (specifier_again ss)

pub specifiers_at_again : (names : Scope) (setting : Setting) (ss : Specifiers Bare) (n : ℕ) (rest : List Symbol) → SpecifiersRead names setting Nothing ss → HasSpecifiers ss → 2 * specifiers_size ss < n →
    is_other (specifying_at (after_specifiers names ss) setting (said_by Nothing ss) rest) ≡ true → heads sign.OpenBrace rest ≡ false →
    specifiers_at (readers n) names setting (spell_specifiers ss rest) ≡ Some (ss, rest)
specifiers_at_again names setting ss n rest read some enough stops shut =
    ap (option_and_then (λ x. some_specifiers x.0 x.1)) (read n [] rest enough stops shut) ∙ some_again ss rest some

-- ## Steps

suffixes_end : (n : ℕ) (names : Scope) (setting : Setting) (d : Declarator Bare) (rest : List Symbol) → 0 < n → ends_declarator rest ≡ true → (readers n).suffixes names setting d rest ≡ Some (d, rest)
suffixes_end zero names setting d rest some ends = absurd (omega (arith, some))
suffixes_end (suc n) names setting d rest some ends =
    let go : Declarator Bare × List Symbol → Read (Declarator Bare) = λ x. (readers n).suffixes names setting x.0 x.1 in
    let k = end_is names rest ends in
    suffixes_suc n names setting d rest
    ∙ ap (λ b. cond b (option_and_then go (array_at (readers n) names d (drop 1 rest))) (cond (heads sign.Open rest) (option_and_then go (function_at (readers n) names setting d (drop 1 rest))) (Some (d, rest)))) k.no_square
    ∙ ap (λ b. cond b (option_and_then go (function_at (readers n) names setting d (drop 1 rest))) (Some (d, rest))) k.no_open

-- ## Qualifiers

qualifiers_end : (done : List (Qualifier Bare)) (rest : List Symbol) → (s : Sign) → is_qualifier s ≡ false → qualifiers_from done (Fixed s ∷ rest) ≡ (done, Fixed s ∷ rest)
qualifiers_end done rest s h = ap (λ b. cond b (qualifiers_from (done ++ plain_qualifier s ∷ []) rest) (done, Fixed s ∷ rest)) h

-- whether the words begin with a qualifier
abbrev pub leads_qualifier : List Symbol → Bool
leads_qualifier [] = false
leads_qualifier (Fixed s ∷ rest) = is_qualifier s
leads_qualifier (_ ∷ rest) = false

qualifiers_stop : (done : List (Qualifier Bare)) (rest : List Symbol) → leads_qualifier rest ≡ false → qualifiers_from done rest ≡ (done, rest)
qualifiers_stop done [] h = refl
qualifiers_stop done (Fixed s ∷ rest) h = qualifiers_end done rest s h
qualifiers_stop done (_ ∷ rest) h = refl

qualifiers_again : (qs done : List (Qualifier Bare)) (rest : List Symbol) → AreQualifiers qs → leads_qualifier rest ≡ false → qualifiers_from done (spell_qualifiers qs rest) ≡ (done ++ qs, rest)
qualifiers_again [] done rest h stops = qualifiers_stop done rest stops ∙ ap (λ (xs : List (Qualifier Bare)). (xs, rest)) (sym (append-nil done))
qualifiers_again (q ∷ qs) done rest h stops =
    ap (λ b. cond b (qualifiers_from (done ++ q ∷ []) (spell_qualifiers qs rest)) (done, Fixed q.word ∷ spell_qualifiers qs rest)) h.0
    ∙ qualifiers_again qs (done ++ q ∷ []) rest h.1 stops
    ∙ ap (λ (xs : List (Qualifier Bare)). (xs, rest)) (append_assoc done (q ∷ []) qs)

end_no_qualifier : (s : Sign) → ends_declarator (Fixed s ∷ []) ≡ true → is_qualifier s ≡ false
end_no_qualifier sign.Close h = refl
end_no_qualifier sign.Comma h = refl
end_no_qualifier sign.Semicolon h = refl
end_no_qualifier sign.Colon h = refl
end_no_qualifier sign.Assign h = refl
end_no_qualifier sign.OpenBrace h = refl
end_no_qualifier _ h = absurd (false≢true h)

ends_no_qualifier : (rest : List Symbol) → ends_declarator rest ≡ true → leads_qualifier rest ≡ false
ends_no_qualifier [] h = refl
ends_no_qualifier (Fixed s ∷ rest) h = end_no_qualifier s h
ends_no_qualifier (_ ∷ rest) h = refl

declarator_no_qualifier : (d : Declarator Bare) (rest : List Symbol) → leads_qualifier rest ≡ false → leads_qualifier (spell_declarator d rest) ≡ false
declarator_no_qualifier (Named x) rest h = refl
declarator_no_qualifier (Unnamed p) rest h = h
declarator_no_qualifier (Pointer p qs d) rest h = refl
declarator_no_qualifier (Parenthesised p d) rest h = refl
declarator_no_qualifier (Array p d b length) rest h = declarator_no_qualifier d _ refl
declarator_no_qualifier (Function p d b ps ellipsis) rest h = declarator_no_qualifier d _ refl

-- ## What the laws say

nameless : (naming : Naming) (rest : List Symbol) → may_be_nameless naming ≡ true → nameless_at naming rest ≡ Some (Unnamed tt, rest)
nameless naming rest h = ap (λ b. cond {A = Read (Declarator Bare)} b (Some (Unnamed tt, rest)) None) h

module _ (names : Scope) (setting : Setting) (naming : Naming) where
  -- what has to stand after a declarator that is nothing
  abbrev pub After : Declarator Bare → List Symbol → Type 0
  After (Unnamed p) rest = (heads sign.Star rest ≡ false) × ((n : ℕ) → atom_at (readers n) names setting naming rest ≡ Some (Unnamed tt, rest))
  After _ rest = Unit {0}

  after_square : (d : Declarator Bare) (rest : List Symbol) → IsDeclarator names setting naming d → After d (Fixed sign.OpenSquare ∷ rest)
  after_square (Unnamed p) rest h = (refl, λ n. nameless naming _ h)
  after_square _ rest h = tt

  after_open : (d : Declarator Bare) (rest : List Symbol) → IsDeclarator names setting naming d → (may_be_nameless naming ≡ true → may_be_nameless naming && opens_parameters names rest ≡ true) → After d (Fixed sign.Open ∷ rest)
  after_open (Unnamed p) rest h opens = (refl, λ n. ap (λ b. cond b (Some (Unnamed tt, Fixed sign.Open ∷ rest)) (wrapped_at (readers n) names setting naming rest)) (opens h))
  after_open _ rest h opens = tt

  nameless_end : (s : Sign) (rest : List Symbol) (n : ℕ) → may_be_nameless naming ≡ true → ends_declarator (Fixed s ∷ rest) ≡ true → atom_at (readers n) names setting naming (Fixed s ∷ rest) ≡ Some (Unnamed tt, Fixed s ∷ rest)
  nameless_end sign.Open rest n h ends = absurd (false≢true ends)
  nameless_end _ rest n h ends = nameless naming _ h

  after_end : (d : Declarator Bare) (rest : List Symbol) → IsDeclarator names setting naming d → ends_declarator rest ≡ true → After d rest
  after_end (Unnamed p) [] h ends = absurd (false≢true ends)
  after_end (Unnamed p) (Fixed s ∷ rest) h ends = ((end_is names (Fixed s ∷ rest) ends).no_star, λ n. nameless_end s rest n h ends)
  after_end (Unnamed p) (_ ∷ rest) h ends = absurd (false≢true ends)
  after_end _ rest h ends = tt

  abbrev pub DeclaratorLeft : Declarator Bare → Type 0
  DeclaratorLeft d = (m n : ℕ) (rest : List Symbol) → m ≡ suc (declarator_spine d + n) → 2 * declarator_size d ≤ declarator_spine d + n → After d rest →
      (readers m).declarator names setting naming (spell_declarator d rest) ≡ (readers n).suffixes names setting d rest

  abbrev pub DeclaratorFull : Declarator Bare → Type 0
  DeclaratorFull d = (m : ℕ) (rest : List Symbol) → 2 * declarator_size d < m → ends_declarator rest ≡ true → (readers m).declarator names setting naming (spell_declarator d rest) ≡ Some (d, rest)

  pub record DeclaratorLaws (d : Declarator Bare) : Type 0 where
    pub left : IsSuffixed d → DeclaratorLeft d
    pub full : DeclaratorFull d

  declarator_full_of : (d : Declarator Bare) → IsDeclarator names setting naming d → DeclaratorLeft d → DeclaratorFull d
  declarator_full_of d is left m rest enough ends =
      let s = declarator_spine_less d in
      left m (m - 1 - declarator_spine d) rest (omega (arith, s, enough)) (omega (arith, s, enough)) (after_end d rest is ends)
      ∙ suffixes_end (m - 1 - declarator_spine d) names setting d rest (omega (arith, s, enough)) ends

  pub declarator_laws_of : (d : Declarator Bare) → IsDeclarator names setting naming d → DeclaratorLeft d → DeclaratorLaws d
  declarator_laws_of d is left = record { left = λ h. left; full = declarator_full_of d is left }

  -- a name, nothing, or a declarator in parentheses
  atom_left : (d : Declarator Bare) → declarator_spine d ≡ 0 → ((n : ℕ) (rest : List Symbol) → 2 * declarator_size d ≤ n → After d rest →
      (heads sign.Star (spell_declarator d rest) ≡ false) × (atom_at (readers n) names setting naming (spell_declarator d rest) ≡ Some (d, rest))) → DeclaratorLeft d
  atom_left d none reads m n rest is enough after =
      let go : Declarator Bare × List Symbol → Read (Declarator Bare) = λ x. (readers n).suffixes names setting x.0 x.1 in
      let k = reads n rest (omega (arith, none, enough)) after in
      ap (λ i. (readers i).declarator names setting naming (spell_declarator d rest)) (omega (arith, is, none))
      ∙ declarator_suc n names setting naming (spell_declarator d rest)
      ∙ ap (λ b. cond b (pointer_at (readers n) names setting naming (drop 1 (spell_declarator d rest))) (option_and_then go (atom_at (readers n) names setting naming (spell_declarator d rest)))) k.0
      ∙ ap (option_and_then go) k.1

  pub named_left : (x : Identifier Bare) → may_be_named naming ≡ true → DeclaratorLeft (Named x)
  named_left x h = atom_left (Named x) refl (λ n rest enough after. (refl, ap (λ b. cond b (Some (Named (plain_name x.name), rest)) (nameless_at naming (symbol.Name x.name ∷ rest))) h))

  pub unnamed_left : (p : Bare) → DeclaratorLeft (Unnamed p)
  unnamed_left p = atom_left (Unnamed p) refl (λ n rest enough after. (after.0, after.1 n))

  pub parenthesised_left : (p : Bare) (d : Declarator Bare) → DeclaratorFull d → IsSomething d → (may_be_nameless naming ≡ true → leads names d ≡ false) → DeclaratorLeft (Parenthesised p d)
  parenthesised_left p d full some apart = atom_left (Parenthesised p d) refl (λ n rest enough after. (
    refl,
    ap (λ b. cond b (Some (Unnamed tt, Fixed sign.Open ∷ spell_declarator d (Fixed sign.Close ∷ rest))) (wrapped_at (readers n) names setting naming (spell_declarator d (Fixed sign.Close ∷ rest)))) (wrapped_opens_none names naming d _ some apart)
        ∙ ap (option_and_then (λ x. closed_by sign.Close (Parenthesised tt x.0) x.1)) (full n (Fixed sign.Close ∷ rest) (omega (arith, enough)) refl),
  ))

  pub pointer_full : (p : Bare) (qs : List (Qualifier Bare)) (d : Declarator Bare) → AreQualifiers qs → DeclaratorFull d → DeclaratorFull (Pointer p qs d)
  pointer_full p qs d are full zero rest enough ends = absurd (omega (arith, enough))
  pointer_full p qs d are full (suc n) rest enough ends =
      declarator_suc n names setting naming (Fixed sign.Star ∷ spell_qualifiers qs (spell_declarator d rest))
      ∙ ap (pointer_to (readers n) names setting naming) (qualifiers_again qs [] (spell_declarator d rest) are (declarator_no_qualifier d rest (ends_no_qualifier rest ends)))
      ∙ ap (option_map (λ x. (Pointer tt qs x.0, x.1))) (full n rest (omega (arith, enough)) ends)

  pub array_left : (p : Bare) (d : Declarator Bare) → IsDeclarator names setting naming d → DeclaratorLeft d → DeclaratorLeft (Array p d tt Absent)
  array_left p d is left m n rest count enough after =
      let sp = declarator_spine_less d in
      left m (suc n) (Fixed sign.OpenSquare ∷ (Fixed sign.CloseSquare ∷ rest)) (omega (arith, count)) (omega (arith, enough, sp)) (after_square d _ is)
      ∙ suffixes_suc n names setting d (Fixed sign.OpenSquare ∷ (Fixed sign.CloseSquare ∷ rest))

  pub sized_left : (p : Bare) (d : Declarator Bare) (t : Expression Bare) → IsDeclarator names setting naming d → DeclaratorLeft d → IsExpression names t → Full names t → 3 ≤ level_of t → DeclaratorLeft (Array p d tt (Present t))
  sized_left p d t is left formed full high m n rest count enough after =
      let sp = declarator_spine_less d in
      let inner = spell t (Fixed sign.CloseSquare ∷ rest) in
      let go : Declarator Bare × List Symbol → Read (Declarator Bare) = λ x. (readers n).suffixes names setting x.0 x.1 in
      left m (suc n) (Fixed sign.OpenSquare ∷ inner) (omega (arith, count)) (omega (arith, enough, sp)) (after_square d _ is)
      ∙ suffixes_suc n names setting d (Fixed sign.OpenSquare ∷ inner)
      ∙ ap (λ b. option_and_then go (cond b (Some (Array tt d tt Absent, drop 1 inner)) (sized_at (readers n) names d inner))) (begins_no sign.CloseSquare names inner (first_is names t _ formed) refl)
      ∙ ap (λ o. option_and_then go (option_and_then (λ x. closed_by sign.CloseSquare (Array tt d tt (Present x.0)) x.1) o)) (full n 3 (Fixed sign.CloseSquare ∷ rest) (omega (arith, enough, sp)) high (omega arith))

  pub function_none_left : (p : Bare) (d : Declarator Bare) → IsDeclarator names setting naming d → DeclaratorLeft d → DeclaratorLeft (Function p d tt NoParameters false)
  function_none_left p d is left m n rest count enough after =
      let sp = declarator_spine_less d in
      left m (suc n) (Fixed sign.Open ∷ (Fixed sign.Close ∷ rest)) (omega (arith, count)) (omega (arith, enough, sp)) (after_open d (Fixed sign.Close ∷ rest) is (λ lacks. ap (λ b. b && true) lacks))
      ∙ suffixes_suc n names setting d (Fixed sign.Open ∷ (Fixed sign.Close ∷ rest))

-- ## Parameters

-- parameters are read, with the `)` after them
abbrev pub ParametersRead : Scope → Setting → Parameter Bare → Parameters Bare → Type 0
ParametersRead names setting x xs = (m : ℕ) (done : List (Parameter Bare)) (ellipsis : Bool) (rest : List Symbol) → 2 * (1 + (parameter_size x + parameters_size xs)) ≤ m →
    (readers m).parameters names setting done (spell_parameter x (spell_more_parameters xs (spell_ellipsis ellipsis (Fixed sign.Close ∷ rest)))) ≡ Some ((done ++ x ∷ parameter_list xs, ellipsis), rest)

abbrev pub AllRead : Scope → Setting → Parameters Bare → Type 0
AllRead names setting NoParameters = Unit {0}
AllRead names setting (MoreParameters x xs) = ParametersRead names setting x xs

abbrev pub ParameterRead : Scope → Setting → Parameter Bare → Type 0
ParameterRead names setting x = (n : ℕ) (rest : List Symbol) → 2 * parameter_size x ≤ n → ends_declarator rest ≡ true → heads sign.OpenBrace rest ≡ false →
    parameter_at (readers n) names setting (spell_parameter x rest) ≡ Some (x, rest)

parameter_begins : (names : Scope) (setting : Setting) (x : Parameter Bare) (rest : List Symbol) → IsParameter names setting x → begins_specifiers names (spell_parameter x rest) ≡ true
parameter_begins names setting (parameter p ss d) rest h = specifiers_begin names setting Nothing ss _ h.0 h.1

pub function_some_left : (names : Scope) (setting : Setting) (naming : Naming) (p : Bare) (d : Declarator Bare) (x : Parameter Bare) (xs : Parameters Bare) (ellipsis : Bool) → IsDeclarator names setting naming d →
    DeclaratorLeft names setting naming d → IsParameter names setting x → ParametersRead names setting x xs → DeclaratorLeft names setting naming (Function p d tt (MoreParameters x xs) ellipsis)
function_some_left names setting naming p d x xs ellipsis is left isx read m n rest count enough after =
    let sp = declarator_spine_less d in
    let inner = spell_parameter x (spell_more_parameters xs (spell_ellipsis ellipsis (Fixed sign.Close ∷ rest))) in
    let go : Declarator Bare × List Symbol → Read (Declarator Bare) = λ y. (readers n).suffixes names setting y.0 y.1 in
    left m (suc n) (Fixed sign.Open ∷ inner) (omega (arith, count)) (omega (arith, enough, sp)) (after_open names setting naming d inner is (λ lacks. parameters_open names setting naming x _ isx lacks))
    ∙ suffixes_suc n names setting d (Fixed sign.Open ∷ inner)
    ∙ ap (λ b. option_and_then go (cond b (Some (Function tt d tt NoParameters false, drop 1 inner)) (with_parameters_at (readers n) names setting d inner))) (specifiers_apart names inner (parameter_begins names setting x _ isx)).0
    ∙ ap (λ o. option_and_then go (option_map (λ y. (Function tt d tt (parameter_row y.0.0) y.0.1, y.1)) o)) (read n [] ellipsis rest (omega (arith, enough, sp)))
    ∙ ap (λ (ys : Parameters Bare). (readers n).suffixes names setting (Function tt d tt ys ellipsis) rest) (parameter_again (MoreParameters x xs))

pub parameter_read : (names : Scope) (setting : Setting) (p : Bare) (ss : Specifiers Bare) (d : Declarator Bare) → HasSpecifiers ss → IsApart (after_specifiers names ss) (said_by Nothing ss) d →
    SpecifiersRead names setting Nothing ss → DeclaratorFull (after_specifiers names ss) setting Allowed d → ParameterRead names setting (parameter p ss d)
parameter_read names setting p ss d some apart read full n rest enough ends shut =
    let within = after_specifiers names ss in
    let said = said_by Nothing ss in
    ap (option_and_then (λ x. option_map (λ y. (parameter tt x.0 y.0, y.1)) ((readers n).declarator (after_specifiers names x.0) setting Allowed x.1)))
    (specifiers_at_again names setting ss n (spell_declarator d rest) read some (omega (arith, enough))
    (declarator_other within setting said d rest (apart_leads within said d apart) ((end_is within rest ends).no_specifier setting said)) (declarator_no_brace d rest shut))
    ∙ ap (option_map (λ y. (parameter tt ss y.0, y.1))) (full n rest (omega (arith, enough)) ends)

parameters_end : (xs : Parameters Bare) (ellipsis : Bool) (rest : List Symbol) → let more = spell_more_parameters xs (spell_ellipsis ellipsis (Fixed sign.Close ∷ rest)) in (ends_declarator more ≡ true) × (heads sign.OpenBrace more ≡ false)
parameters_end NoParameters true rest = (refl, refl)
parameters_end NoParameters false rest = (refl, refl)
parameters_end (MoreParameters x xs) ellipsis rest = (refl, refl)

parameters_first : (names : Scope) (setting : Setting) (x : Parameter Bare) (m : ℕ) (done : List (Parameter Bare)) (more : List Symbol) → ParameterRead names setting x → 2 * (1 + parameter_size x) ≤ m →
    ends_declarator more ≡ true → heads sign.OpenBrace more ≡ false →
    (readers m).parameters names setting done (spell_parameter x more) ≡ parameters_more (readers (m - 1)) (after_parameter names x) setting (done ++ x ∷ []) more
parameters_first names setting x zero done more read enough ends shut = absurd (omega (arith, enough))
parameters_first names setting x (suc n) done more read enough ends shut =
    let less : n ≡ suc n - 1 = omega arith in
    parameters_suc n names setting done (spell_parameter x more)
    ∙ ap (option_and_then (λ y. parameters_more (readers n) (after_parameter names y.0) setting (done ++ y.0 ∷ []) y.1)) (read n more (omega (arith, enough)) ends shut)
    ∙ ap (λ k. parameters_more (readers k) (after_parameter names x) setting (done ++ x ∷ []) more) less

parameters_close : (n : ℕ) (names : Scope) (setting : Setting) (done : List (Parameter Bare)) (ellipsis : Bool) (rest : List Symbol) →
    parameters_more (readers n) names setting done (spell_ellipsis ellipsis (Fixed sign.Close ∷ rest)) ≡ Some ((done, ellipsis), rest)
parameters_close n names setting done true rest = refl
parameters_close n names setting done false rest = refl

pub parameters_last : (names : Scope) (setting : Setting) (x : Parameter Bare) → ParameterRead names setting x → ParametersRead names setting x NoParameters
parameters_last names setting x read m done ellipsis rest enough =
    let ends = parameters_end NoParameters ellipsis rest in
    parameters_first names setting x m done (spell_ellipsis ellipsis (Fixed sign.Close ∷ rest)) read (omega (arith, enough)) ends.0 ends.1
    ∙ parameters_close (m - 1) (after_parameter names x) setting (done ++ x ∷ []) ellipsis rest

parameter_no_dots : (names : Scope) (setting : Setting) (x : Parameter Bare) (rest : List Symbol) → IsParameter names setting x → heads sign.Ellipsis (spell_parameter x rest) ≡ false
parameter_no_dots names setting x rest h = specifiers_no_dots names (spell_parameter x rest) (parameter_begins names setting x rest h)

pub parameters_next : (names : Scope) (setting : Setting) (x y : Parameter Bare) (ys : Parameters Bare) → ParameterRead names setting x → IsParameter (after_parameter names x) setting y →
    ParametersRead (after_parameter names x) setting y ys → ParametersRead names setting x (MoreParameters y ys)
parameters_next names setting x y ys read isy all m done ellipsis rest enough =
    let inner = spell_parameter y (spell_more_parameters ys (spell_ellipsis ellipsis (Fixed sign.Close ∷ rest))) in
    let within = after_parameter names x in
    let k = readers (m - 1) in
    parameters_first names setting x m done (Fixed sign.Comma ∷ inner) read (omega (arith, enough)) refl refl
    ∙ ap (λ b. cond b (closed_by sign.Close (done ++ x ∷ [], true) (drop 1 inner)) (k.parameters within setting (done ++ x ∷ []) inner)) (parameter_no_dots within setting y _ isy)
    ∙ all (m - 1) (done ++ x ∷ []) ellipsis rest (omega (arith, enough))
    ∙ ap (λ (xs : List (Parameter Bare)). Some ((xs, ellipsis), rest)) (append_assoc done (x ∷ []) (y ∷ parameter_list ys))

-- ## Names of types

-- a declarator without a name begins with none
forbidden_leads : (any names : Scope) (d : Declarator Bare) → IsDeclarator names setting.Inside Forbidden d → leads any d ≡ false
forbidden_leads any names (Named x) h = absurd (false≢true h)
forbidden_leads any names (Unnamed p) h = refl
forbidden_leads any names (Pointer p qs d) h = refl
forbidden_leads any names (Parenthesised p d) h = refl
forbidden_leads any names (Array p d b length) h = forbidden_leads any names d h.0
forbidden_leads any names (Function p d b ps ellipsis) h = forbidden_leads any names d h.0

pub type_read : (names : Scope) (p : Bare) (ss : Specifiers Bare) (d : Declarator Bare) → HasSpecifiers ss → AreSpecifiers names setting.Type Nothing ss → IsDeclarator names setting.Inside Forbidden d →
    SpecifiersRead names setting.Type Nothing ss → DeclaratorFull names setting.Inside Forbidden d → TypeRead names (type_name p ss d)
type_read names p ss d some are is read full n rest enough =
    let within = after_specifiers names ss in
    let said = said_by Nothing ss in
    let more = Fixed sign.Close ∷ rest in
    let there : DeclaratorFull within setting.Inside Forbidden d = subst (λ x. DeclaratorFull x setting.Inside Forbidden d) (sym (type_scope ss names Nothing are)) full in
    ap (option_and_then (λ x. option_map (λ y. (type_name tt x.0 y.0, y.1)) ((readers n).declarator (after_specifiers names x.0) setting.Inside Forbidden x.1)))
    (specifiers_at_again names setting.Type ss n (spell_declarator d more) read some (omega (arith, enough))
    (declarator_other within setting.Type said d more (λ says. forbidden_leads within names d is) refl) (declarator_no_brace d more refl))
    ∙ ap (option_map (λ y. (type_name tt ss y.0, y.1))) (there n more (omega (arith, enough)) refl)
