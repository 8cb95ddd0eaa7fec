-- Specifiers and parameters put names after those that were in scope.
use Rattle.std.proofs.Common.{◌≡◌, ℕ, ◌≤◌, [], ◌∷◌, length, take, Bool, false, refl, ◌∙◌, ap, arith, Option, Some, None}
use Rattle.std.proofs.lemmas.List.{length-append, take-append-le}
use Rattle.std.proofs.Math.Seq.{take-length}
use Rattle.p10_base.specs.Words.{Text}
use Rattle.p10_syn.specs.Scopes.{Scope, with_name, with_optional}
use Rattle.p10_syn.specs.Trees.{Bare, Specifiers, NoSpecifiers, MoreSpecifiers, Specifier, Keyword, Typedef, Structure, Enumeration, Members, NoMembers, MoreMembers, MemberDeclaration, member_declaration, Enumerators, NoEnumerators, MoreEnumerators, Enumerator, enumerator, Parameter, parameter}
use Rattle.p10_syn.specs.Declaring.{name_in, makes_types, after_enumerator, after_enumerators, after_specifiers, after_specifier, after_members, after_member, after_parameter}

-- the first names stay
pub record Keeps (names more : Scope) : Type 0 where
  pub longer : length names ≤ length more
  pub start : (k : ℕ) → k ≤ length names → take k more ≡ take k names

pub keeps_same : (names : Scope) → Keeps names names
keeps_same names = record { longer = omega arith; start = λ k h. refl }

pub keeps_both : (names more most : Scope) → Keeps names more → Keeps more most → Keeps names most
keeps_both names more most f g = record {
  longer = omega (arith, f.longer, g.longer);
  start = λ k h. g.start k (omega (arith, h, f.longer)) ∙ f.start k h;
}

keeps_name : (names : Scope) (types : Bool) (x : Text) → Keeps names (with_name names types x)
keeps_name names types x = record {
  longer = omega (arith, length-append names ((x, types) ∷ []));
  start = λ k h. take-append-le k names ((x, types) ∷ []) h;
}

pub keeps_optional : (names : Scope) (types : Bool) (x : Option Text) → Keeps names (with_optional names types x)
keeps_optional names types None = keeps_same names
keeps_optional names types (Some x) = keeps_name names types x

keeps_enumerator : (e : Enumerator Bare) (names : Scope) → Keeps names (after_enumerator names e)
keeps_enumerator (enumerator p x value) names = keeps_name names false x.name

keeps_enumerators : (es : Enumerators Bare) (names : Scope) → Keeps names (after_enumerators names es)
keeps_enumerators NoEnumerators names = keeps_same names
keeps_enumerators (MoreEnumerators e es) names = keeps_both _ _ _ (keeps_enumerator e names) (keeps_enumerators es (after_enumerator names e))

mutual
  pub keeps_specifiers : (ss : Specifiers Bare) (names : Scope) → Keeps names (after_specifiers names ss)
  keeps_specifiers NoSpecifiers names = keeps_same names
  keeps_specifiers (MoreSpecifiers s ss) names = keeps_both _ _ _ (keeps_specifier s names) (keeps_specifiers ss (after_specifier names s))

  keeps_specifier : (s : Specifier Bare) (names : Scope) → Keeps names (after_specifier names s)
  keeps_specifier (Keyword p s) names = keeps_same names
  keeps_specifier (Typedef x) names = keeps_same names
  keeps_specifier (Structure p s tag ms) names = keeps_members ms names
  keeps_specifier (Enumeration p tag es comma) names = keeps_enumerators es names

  keeps_members : (ms : Members Bare) (names : Scope) → Keeps names (after_members names ms)
  keeps_members NoMembers names = keeps_same names
  keeps_members (MoreMembers m ms) names = keeps_both _ _ _ (keeps_member m names) (keeps_members ms (after_member names m))

  keeps_member : (m : MemberDeclaration Bare) (names : Scope) → Keeps names (after_member names m)
  keeps_member (member_declaration p ss fs) names = keeps_specifiers ss names

keeps_parameter : (x : Parameter Bare) (names : Scope) → Keeps names (after_parameter names x)
keeps_parameter (parameter p ss d) names = keeps_both _ _ _ (keeps_specifiers ss names) (keeps_optional (after_specifiers names ss) (makes_types ss) (name_in d))

-- what was put into scope is forgotten
pub forgotten : (names more : Scope) (ss : Specifiers Bare) (k : ℕ) → k ≡ length names → more ≡ after_specifiers names ss → take k more ≡ names
forgotten names more ss k e f =
    ap (λ k. take k more) e ∙ ap (take (length names)) f ∙ (keeps_specifiers ss names).start (length names) (omega arith) ∙ take-length names

-- one more parameter after those that are in scope from the name k on
pub kept_names : (k : ℕ) (names now start : Scope) (x : Parameter Bare) → now ≡ after_parameter names x → k ≤ length names → take k names ≡ start → (k ≤ length now) × (take k now ≡ start)
kept_names k names now start x scoped h e =
    let keeps = keeps_parameter x names in
    (omega (arith, h, keeps.longer, ap length scoped), ap (take k) scoped ∙ keeps.start k h ∙ e)
