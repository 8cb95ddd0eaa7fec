-- What trees begin with.
use Rattle.std.proofs.Common.{◌≡◌, zero, suc, ◌≤◌, List, [], ◌∷◌, drop, Bool, true, false, ◌&&◌, not, cond, refl, ◌∙◌, ap, arith}
use Rattle.std.proofs.lemmas.Bool.{false≢true, true≢false}
use Rattle.p10_syn.specs.declared.sign.Sign.TheVariants as sign
use Rattle.p10_syn.specs.declared.place.Side.TheVariants.{Before, After}
use Rattle.p10_syn.specs.declared.setting.Naming.{Naming}
use Rattle.p10_syn.specs.declared.setting.Setting.{Setting}
use Rattle.p10_syn.specs.declared.setting.Said.{Said}
use Rattle.p10_syn.specs.declared.setting.Said.TheVariants.{Nothing, Words, TypedefName}
use Rattle.p10_syn.specs.Symbols.{Symbol, Fixed}
use Rattle.p10_syn.specs.Scopes.{Scope, is_type}
use Rattle.p10_syn.specs.Precedence.{level_of}
use Rattle.p10_syn.specs.Spelling.{spell, spell_form, spell_specifiers, spell_specifier, spell_declarator, spell_parameter}
use Rattle.p10_syn.specs.Forms.{says_nothing, may_be_nameless, leads, IsApart, IsSomething, IsExpression, IsForm, AreSpecifiers, HasSpecifiers, IsSpecifier, IsParameter}
use Rattle.p10_syn.specs.Trees.{Bare, Expression, expression, Form, Name, Number, Character, Strings, Unary, Step, Binary, Assign, Conditional, Call, Index, Member, Arrow, Cast, SizeofExpression, SizeofType, Comma, NoExpressions, MoreExpressions, Specifiers, NoSpecifiers, MoreSpecifiers, Specifier, Keyword, Typedef, Structure, Enumeration, Declarator, Named, Unnamed, Pointer, Parenthesised, Array, Function, Parameter, parameter}
use Rattle.p10_pexpr.specs.declared.next.Specifying.TheVariants.{Renamed, Other}
use Rattle.p10_pexpr.specs.Heads.{heads}
use Rattle.p10_pexpr.specs.Tables.{begins_specifiers, specifying_at, is_other, opens_parameters}
use Rattle.p10_pexpr.proofs.Tools.{and_later, or_true}
use Rattle.p10_pexpr.proofs.Marks.{begins_expression, unary_starts, step_starts, unary_no_open, step_no_open, level_low, no_specifiers, word_begins, structure_begins, specifiers_apart}

-- ## Expressions

mutual
  pub first_is : (names : Scope) (t : Expression Bare) (rest : List Symbol) → IsExpression names t → begins_expression names (spell t rest) ≡ true
  first_is names (expression p zero f) rest h = form_first names f rest h
  first_is names (expression p (suc n) f) rest h = refl

  form_first : (names : Scope) (f : Form Bare) (rest : List Symbol) → IsForm names f → begins_expression names (spell_form f rest) ≡ true
  form_first names (Name x) rest h = ap not h
  form_first names (Number x) rest h = refl
  form_first names (Character x) rest h = refl
  form_first names (Strings []) rest h = absurd h
  form_first names (Strings (x ∷ xs)) rest h = refl
  form_first names (Unary s t) rest h = unary_starts s h.0
  form_first names (Step Before s t) rest h = step_starts s h.0
  form_first names (Step After s t) rest h = first_is names t _ h.1
  form_first names (Binary s l r) rest h = first_is names l _ h.1
  form_first names (Assign s l r) rest h = first_is names l _ h.1
  form_first names (Conditional a b c) rest h = first_is names a _ h.0
  form_first names (Call f ts) rest h = first_is names f _ h.0
  form_first names (Index l r) rest h = first_is names l _ h.0
  form_first names (Member t x) rest h = first_is names t _ h.0
  form_first names (Arrow t x) rest h = first_is names t _ h.0
  form_first names (Cast k t) rest h = refl
  form_first names (SizeofExpression t) rest h = refl
  form_first names (SizeofType k) rest h = refl
  form_first names (Comma NoExpressions) rest h = absurd h.1
  form_first names (Comma (MoreExpressions t ts)) rest h = first_is names t _ h.0.0

-- whether the words begin with a type in parentheses
abbrev pub opens_type : Scope → List Symbol → Bool
opens_type names symbols = heads sign.Open symbols && begins_specifiers names (drop 1 symbols)

no_and : (a b : Bool) → a ≡ false → a && b ≡ false
no_and true b h = absurd (true≢false h)
no_and false b h = refl

-- no unary expression does
mutual
  pub no_opens_type : (names : Scope) (t : Expression Bare) (rest : List Symbol) → IsExpression names t → 15 ≤ level_of t → opens_type names (spell t rest) ≡ false
  no_opens_type names (expression p zero f) rest h high = form_opens_none names p f rest h high
  no_opens_type names (expression p (suc n) f) rest h high = no_specifiers names (spell (expression p n f) (Fixed sign.Close ∷ rest)) (first_is names (expression p n f) (Fixed sign.Close ∷ rest) h)

  form_opens_none : (names : Scope) (p : Bare) (f : Form Bare) (rest : List Symbol) → IsForm names f → 15 ≤ level_of (expression p zero f) → opens_type names (spell_form f rest) ≡ false
  form_opens_none names p (Name x) rest h high = refl
  form_opens_none names p (Number x) rest h high = refl
  form_opens_none names p (Character x) rest h high = refl
  form_opens_none names p (Strings []) rest h high = absurd h
  form_opens_none names p (Strings (x ∷ xs)) rest h high = refl
  form_opens_none names p (Unary s t) rest h high = no_and _ _ (unary_no_open s h.0)
  form_opens_none names p (Step Before s t) rest h high = no_and _ _ (step_no_open s h.0)
  form_opens_none names p (Step After s t) rest h high = no_opens_type names t _ h.1 (omega (arith, h.2))
  form_opens_none names p (Binary s l r) rest h high = absurd (omega (arith, high, level_low s))
  form_opens_none names p (Assign s l r) rest h high = absurd (omega (arith, high))
  form_opens_none names p (Conditional a b c) rest h high = absurd (omega (arith, high))
  form_opens_none names p (Call f ts) rest h high = no_opens_type names f _ h.0 (omega (arith, h.1))
  form_opens_none names p (Index l r) rest h high = no_opens_type names l _ h.0 (omega (arith, h.2))
  form_opens_none names p (Member t x) rest h high = no_opens_type names t _ h.0 (omega (arith, h.1))
  form_opens_none names p (Arrow t x) rest h high = no_opens_type names t _ h.0 (omega (arith, h.1))
  form_opens_none names p (Cast k t) rest h high = absurd (omega (arith, high))
  form_opens_none names p (SizeofExpression t) rest h high = refl
  form_opens_none names p (SizeofType k) rest h high = refl
  form_opens_none names p (Comma ts) rest h high = absurd (omega (arith, high))

-- ## Specifiers

pub specifier_begins : (names : Scope) (setting : Setting) (said : Said) (s : Specifier Bare) (rest : List Symbol) → IsSpecifier names setting said s → begins_specifiers names (spell_specifier s rest) ≡ true
specifier_begins names setting said (Keyword p s) rest h = word_begins setting said s h
specifier_begins names setting said (Typedef x) rest h = h.0
specifier_begins names setting said (Structure p s tag ms) rest h = structure_begins s h.0
specifier_begins names setting said (Enumeration p tag es comma) rest h = refl

pub specifiers_begin : (names : Scope) (setting : Setting) (said : Said) (ss : Specifiers Bare) (rest : List Symbol) → AreSpecifiers names setting said ss → HasSpecifiers ss → begins_specifiers names (spell_specifiers ss rest) ≡ true
specifiers_begin names setting said NoSpecifiers rest h some = absurd some
specifiers_begin names setting said (MoreSpecifiers s ss) rest h some = specifier_begins names setting said s _ h.0

-- what stands after a structure without a body is no body
pub specifiers_no_brace : (names : Scope) (setting : Setting) (said : Said) (ss : Specifiers Bare) (rest : List Symbol) → AreSpecifiers names setting said ss → heads sign.OpenBrace rest ≡ false →
    heads sign.OpenBrace (spell_specifiers ss rest) ≡ false
specifiers_no_brace names setting said NoSpecifiers rest h stops = stops
specifiers_no_brace names setting said (MoreSpecifiers s ss) rest h stops = (specifiers_apart names _ (specifier_begins names setting said s _ h.0)).1

-- ## Declarators

apart_name : (names : Scope) (said : Said) (b : Bool) → (says_nothing said ≡ true → b ≡ false) → is_other (cond (b && says_nothing said) Renamed Other) ≡ true
apart_name names Nothing true h = absurd (true≢false (h refl))
apart_name names Nothing false h = refl
apart_name names Words true h = refl
apart_name names Words false h = refl
apart_name names TypedefName true h = refl
apart_name names TypedefName false h = refl

pub apart_leads : (names : Scope) (said : Said) (d : Declarator Bare) → IsApart names said d → says_nothing said ≡ true → leads names d ≡ false
apart_leads names Nothing d h says = h
apart_leads names Words d h says = absurd (false≢true says)
apart_leads names TypedefName d h says = absurd (false≢true says)

-- a declarator is no further specifier
pub declarator_other : (names : Scope) (setting : Setting) (said : Said) (d : Declarator Bare) (rest : List Symbol) → (says_nothing said ≡ true → leads names d ≡ false) →
    is_other (specifying_at names setting said rest) ≡ true → is_other (specifying_at names setting said (spell_declarator d rest)) ≡ true
declarator_other names setting said (Named x) rest h stops = apart_name names said (is_type names x.name) h
declarator_other names setting said (Unnamed p) rest h stops = stops
declarator_other names setting said (Pointer p qs d) rest h stops = refl
declarator_other names setting said (Parenthesised p d) rest h stops = refl
declarator_other names setting said (Array p d b length) rest h stops = declarator_other names setting said d _ h refl
declarator_other names setting said (Function p d b ps ellipsis) rest h stops = declarator_other names setting said d _ h refl

-- and begins with no `{`
pub declarator_no_brace : (d : Declarator Bare) (rest : List Symbol) → heads sign.OpenBrace rest ≡ false → heads sign.OpenBrace (spell_declarator d rest) ≡ false
declarator_no_brace (Named x) rest h = refl
declarator_no_brace (Unnamed p) rest h = h
declarator_no_brace (Pointer p qs d) rest h = refl
declarator_no_brace (Parenthesised p d) rest h = refl
declarator_no_brace (Array p d b length) rest h = declarator_no_brace d _ refl
declarator_no_brace (Function p d b ps ellipsis) rest h = declarator_no_brace d _ refl

-- one that isn't empty opens no parameters
opens_none : (names : Scope) (d : Declarator Bare) (rest : List Symbol) → leads names d ≡ false → opens_parameters names rest ≡ false → opens_parameters names (spell_declarator d rest) ≡ false
opens_none names (Named x) rest h stops = h
opens_none names (Unnamed p) rest h stops = stops
opens_none names (Pointer p qs d) rest h stops = refl
opens_none names (Parenthesised p d) rest h stops = refl
opens_none names (Array p d b length) rest h stops = opens_none names d _ h refl
opens_none names (Function p d b ps ellipsis) rest h stops = opens_none names d _ h refl

something_opens_none : (names : Scope) (d : Declarator Bare) (rest : List Symbol) → IsSomething d → leads names d ≡ false → opens_parameters names (spell_declarator d rest) ≡ false
something_opens_none names (Named x) rest some h = h
something_opens_none names (Unnamed p) rest some h = absurd some
something_opens_none names (Pointer p qs d) rest some h = refl
something_opens_none names (Parenthesised p d) rest some h = refl
something_opens_none names (Array p d b length) rest some h = opens_none names d _ h refl
something_opens_none names (Function p d b ps ellipsis) rest some h = opens_none names d _ h refl

pub wrapped_opens_none : (names : Scope) (naming : Naming) (d : Declarator Bare) (rest : List Symbol) → IsSomething d → (may_be_nameless naming ≡ true → leads names d ≡ false) →
    may_be_nameless naming && opens_parameters names (spell_declarator d rest) ≡ false
wrapped_opens_none names naming d rest some h = and_later (may_be_nameless naming) _ (λ lacks. something_opens_none names d rest some (h lacks))

-- parameters do
pub parameters_open : (names : Scope) (setting : Setting) (naming : Naming) (x : Parameter Bare) (rest : List Symbol) → IsParameter names setting x → may_be_nameless naming ≡ true →
    may_be_nameless naming && opens_parameters names (spell_parameter x rest) ≡ true
parameters_open names setting naming (parameter p ss d) rest h lacks =
    ap (λ b. b && opens_parameters names (spell_parameter (parameter p ss d) rest)) lacks ∙ or_true _ _ (specifiers_begin names setting Nothing ss _ h.0 h.1)
