-- What it means that what was read is spelled: a tree of the grammar, whose words were those before the rest.
use Rattle.std.proofs.Common.{◌≡◌, ℕ, ◌≤◌, List, ◌∷◌, ◌++◌, Bool, true, Some}
use Rattle.p10_syn.specs.declared.sign.Sign.{Sign}
use Rattle.p10_syn.specs.declared.sign.Sign.TheVariants as sign
use Rattle.p10_syn.specs.declared.setting.Naming.{Naming}
use Rattle.p10_syn.specs.declared.setting.Setting.{Setting}
use Rattle.p10_syn.specs.declared.setting.Said.{Said}
use Rattle.p10_syn.specs.Symbols.{Symbol, Fixed}
use Rattle.p10_syn.specs.Scopes.{Scope}
use Rattle.p10_syn.specs.Precedence.{level_of}
use Rattle.p10_syn.specs.Declaring.{after_specifiers}
use Rattle.p10_syn.specs.Spelling.{spell, spell_list, spell_type, spell_specifiers, spell_specifier, spell_member, spell_more_members, spell_fields, spell_field, spell_enumerator, spell_more_enumerators, spell_last_comma, spell_declarator, spell_parameters, spell_parameter, spell_ellipsis, spell_valued}
use Rattle.p10_syn.specs.Forms.{said_by, IsExpression, AreExpressions, IsOptional, IsTypeName, AreSpecifiers, IsSpecifier, HasSpecifiers, AreMembers, IsMember, AreFields, IsField, AreEnumerators, IsEnumerator, IsDeclarator, IsSuffixed, AreParameters, IsParameter}
use Rattle.p10_syn.specs.Trees.{Bare, Expression, Expressions, MoreExpressions, Optional, TypeName, Specifiers, Specifier, Members, MoreMembers, MemberDeclaration, Fields, MoreFields, Field, Enumerators, MoreEnumerators, Enumerator, Declarator, Parameters, MoreParameters, Parameter}
use Rattle.p10_pexpr.specs.Tables.{specifying_at, is_other}
use Rattle.p10_pexpr.specs.Readers.{Readers}
use Rattle.p10_pexpr.proofs.Rows.{expression_list, specifier_list, member_list, field_list, enumerator_list, parameter_list}

pub record TookExpression (names : Scope) (level : ℕ) (symbols : List Symbol) (p : Expression Bare × List Symbol) : Type 0 where
  pub formed : IsExpression names p.0
  pub high : level ≤ level_of p.0
  pub spelled : symbols ≡ spell p.0 p.1

pub record TookList (names : Scope) (done : List (Expression Bare)) (symbols : List Symbol) (p : List (Expression Bare) × List Symbol) : Type 0 where
  pub first : Expression Bare
  pub others : Expressions Bare
  pub formed : AreExpressions names (MoreExpressions first others)
  pub items : p.0 ≡ done ++ first ∷ expression_list others
  pub spelled : symbols ≡ spell_list (MoreExpressions first others) p.1

pub record TookOptional (names : Scope) (s : Sign) (symbols : List Symbol) (p : Optional Bare × List Symbol) : Type 0 where
  pub formed : IsOptional names 3 p.0
  pub spelled : symbols ≡ spell_valued s p.0 p.1

pub record TookTypeName (names : Scope) (symbols : List Symbol) (p : TypeName Bare × List Symbol) : Type 0 where
  pub formed : IsTypeName names p.0
  pub spelled : symbols ≡ spell_type p.0 p.1

-- further specifiers; no other follows
pub record TookSpecifiers (names : Scope) (setting : Setting) (said : Said) (done : List (Specifier Bare)) (symbols : List Symbol) (p : List (Specifier Bare) × List Symbol) : Type 0 where
  pub others : Specifiers Bare
  pub formed : AreSpecifiers names setting said others
  pub items : p.0 ≡ done ++ specifier_list others
  pub spelled : symbols ≡ spell_specifiers others p.1
  pub stops : is_other (specifying_at (after_specifiers names others) setting (said_by said others) p.1) ≡ true

pub record TookSpecifier (names : Scope) (setting : Setting) (said : Said) (symbols : List Symbol) (p : Specifier Bare × List Symbol) : Type 0 where
  pub formed : IsSpecifier names setting said p.0
  pub spelled : symbols ≡ spell_specifier p.0 p.1

-- the specifiers of a declaration
pub record TookAll (names : Scope) (setting : Setting) (said : Said) (symbols : List Symbol) (p : Specifiers Bare × List Symbol) : Type 0 where
  pub formed : AreSpecifiers names setting said p.0
  pub some : HasSpecifiers p.0
  pub spelled : symbols ≡ spell_specifiers p.0 p.1
  pub stops : is_other (specifying_at (after_specifiers names p.0) setting (said_by said p.0) p.1) ≡ true

pub record TookMembers (names : Scope) (done : List (MemberDeclaration Bare)) (symbols : List Symbol) (p : List (MemberDeclaration Bare) × List Symbol) : Type 0 where
  pub first : MemberDeclaration Bare
  pub others : Members Bare
  pub formed : AreMembers names (MoreMembers first others)
  pub items : p.0 ≡ done ++ first ∷ member_list others
  pub spelled : symbols ≡ spell_member first (spell_more_members others p.1)

pub record TookMember (names : Scope) (symbols : List Symbol) (p : MemberDeclaration Bare × List Symbol) : Type 0 where
  pub formed : IsMember names p.0
  pub spelled : symbols ≡ spell_member p.0 p.1

pub record TookFields (names : Scope) (done : List (Field Bare)) (symbols : List Symbol) (p : List (Field Bare) × List Symbol) : Type 0 where
  pub first : Field Bare
  pub others : Fields Bare
  pub formed : AreFields names (MoreFields first others)
  pub items : p.0 ≡ done ++ first ∷ field_list others
  pub spelled : symbols ≡ spell_fields (MoreFields first others) p.1

pub record TookField (names : Scope) (symbols : List Symbol) (p : Field Bare × List Symbol) : Type 0 where
  pub formed : IsField names p.0
  pub spelled : symbols ≡ spell_field p.0 p.1

pub record TookEnumerators (names : Scope) (done : List (Enumerator Bare)) (symbols : List Symbol) (p : (List (Enumerator Bare) × Bool) × List Symbol) : Type 0 where
  pub first : Enumerator Bare
  pub others : Enumerators Bare
  pub formed : AreEnumerators names (MoreEnumerators first others)
  pub items : p.0.0 ≡ done ++ first ∷ enumerator_list others
  pub spelled : symbols ≡ spell_enumerator first (spell_more_enumerators others (spell_last_comma p.0.1 (Fixed sign.CloseBrace ∷ p.1)))

pub record TookEnumerator (names : Scope) (symbols : List Symbol) (p : Enumerator Bare × List Symbol) : Type 0 where
  pub formed : IsEnumerator names p.0
  pub spelled : symbols ≡ spell_enumerator p.0 p.1

pub record TookDeclarator (names : Scope) (setting : Setting) (naming : Naming) (symbols : List Symbol) (p : Declarator Bare × List Symbol) : Type 0 where
  pub formed : IsDeclarator names setting naming p.0
  pub spelled : symbols ≡ spell_declarator p.0 p.1

-- one to which arrays and functions may be added
pub record TookAtom (names : Scope) (setting : Setting) (naming : Naming) (symbols : List Symbol) (p : Declarator Bare × List Symbol) : Type 0 where
  pub formed : IsDeclarator names setting naming p.0
  pub suffixed : IsSuffixed p.0
  pub spelled : symbols ≡ spell_declarator p.0 p.1

pub record TookParameters (names : Scope) (setting : Setting) (done : List (Parameter Bare)) (symbols : List Symbol) (p : (List (Parameter Bare) × Bool) × List Symbol) : Type 0 where
  pub first : Parameter Bare
  pub others : Parameters Bare
  pub formed : AreParameters names setting (MoreParameters first others)
  pub items : p.0.0 ≡ done ++ first ∷ parameter_list others
  pub spelled : symbols ≡ spell_parameters (MoreParameters first others) (spell_ellipsis p.0.1 (Fixed sign.Close ∷ p.1))

pub record TookParameter (names : Scope) (setting : Setting) (symbols : List Symbol) (p : Parameter Bare × List Symbol) : Type 0 where
  pub formed : IsParameter names setting p.0
  pub spelled : symbols ≡ spell_parameter p.0 p.1

-- readers that read only what is spelled
pub record Takes (r : Readers) : Type 0 where
  pub expression : (names : Scope) (level : ℕ) (symbols : List Symbol) (p : Expression Bare × List Symbol) → r.expression names level symbols ≡ Some p → TookExpression names level symbols p
  pub chain : (names : Scope) (level : ℕ) (t : Expression Bare) (symbols : List Symbol) (p : Expression Bare × List Symbol) → IsExpression names t → level ≤ level_of t →
      r.chain names level t symbols ≡ Some p → TookExpression names level (spell t symbols) p
  pub list : (names : Scope) (done : List (Expression Bare)) (symbols : List Symbol) (p : List (Expression Bare) × List Symbol) → r.list names done symbols ≡ Some p → TookList names done symbols p
  pub specifiers : (names : Scope) (setting : Setting) (said : Said) (done : List (Specifier Bare)) (symbols : List Symbol) (p : List (Specifier Bare) × List Symbol) →
      r.specifiers names setting said done symbols ≡ Some p → TookSpecifiers names setting said done symbols p
  pub members : (names : Scope) (done : List (MemberDeclaration Bare)) (symbols : List Symbol) (p : List (MemberDeclaration Bare) × List Symbol) → r.members names done symbols ≡ Some p → TookMembers names done symbols p
  pub fields : (names : Scope) (done : List (Field Bare)) (symbols : List Symbol) (p : List (Field Bare) × List Symbol) → r.fields names done symbols ≡ Some p → TookFields names done symbols p
  pub enumerators : (names : Scope) (done : List (Enumerator Bare)) (symbols : List Symbol) (p : (List (Enumerator Bare) × Bool) × List Symbol) → r.enumerators names done symbols ≡ Some p → TookEnumerators names done symbols p
  pub declarator : (names : Scope) (setting : Setting) (naming : Naming) (symbols : List Symbol) (p : Declarator Bare × List Symbol) → r.declarator names setting naming symbols ≡ Some p → TookDeclarator names setting naming symbols p
  pub suffixes : (names : Scope) (setting : Setting) (naming : Naming) (d : Declarator Bare) (symbols : List Symbol) (p : Declarator Bare × List Symbol) → IsDeclarator names setting naming d → IsSuffixed d →
      r.suffixes names setting d symbols ≡ Some p → TookDeclarator names setting naming (spell_declarator d symbols) p
  pub parameters : (names : Scope) (setting : Setting) (done : List (Parameter Bare)) (symbols : List Symbol) (p : (List (Parameter Bare) × Bool) × List Symbol) → r.parameters names setting done symbols ≡ Some p → TookParameters names setting done symbols p
