-- The lines of variables that are written one after the other.
use Rattle.std.proofs.Common.{◌≡◌, ℕ, List, [], ◌∷◌, ◌++◌, map, sym, ap, subst, ◌∙◌, append_assoc, append-nil}
use Rattle.std.specs.Prelude.{Option}
use Rattle.std.specs.Io.KnownBytes.{Appends}
use Rattle.std.proofs.KnownBytes.{Appends-nil, Appends-trans}
use Rattle.p10_world.specs.Sink.{TakesFront}
use Rattle.p10_cert.specs.Vars.{Var}
use Rattle.p10_cert.specs.Lines.{VarLine, text_of}
use Rattle.p10_cert.proofs.LineTexts.{text_of-append}
use Rattle.p10_cert.proofs.Written.{front_after}

-- what a sink took of the lines of all variables, where those of some are left
pub record AreWritten (old new : Option (List ℕ)) (all left : List Var) : Type 0 where
  pub text : List ℕ
  pub parts : text_of (map VarLine all) ≡ text ++ text_of (map VarLine left)
  pub wrote : Appends old new text

pub none_written : (old : Option (List ℕ)) (all left : List Var) → left ≡ all → AreWritten old old all left
none_written old all left e = record { text = []; parts = ap (λ vs. text_of (map VarLine vs)) (sym e); wrote = Appends-nil old }

-- the text of the next line, and of those after it
next_line : (left rest : List Var) (v : Var) → left ≡ v ∷ rest → text_of (map VarLine left) ≡ text_of (VarLine v ∷ []) ++ text_of (map VarLine rest)
next_line left rest v e = ap (λ vs. text_of (map VarLine vs)) e ∙ text_of-append (VarLine v ∷ []) (map VarLine rest)

pub one_written : (old middle new : Option (List ℕ)) (all left rest : List Var) (v : Var) → AreWritten old middle all left → left ≡ v ∷ rest → Appends middle new (text_of (VarLine v ∷ [])) → AreWritten old new all rest
one_written old middle new all left rest v before e one = record {
  text = before.text ++ text_of (VarLine v ∷ []);
  parts = before.parts ∙ ap (λ t. before.text ++ t) (next_line left rest v e) ∙ sym (append_assoc before.text (text_of (VarLine v ∷ [])) (text_of (map VarLine rest)));
  wrote = Appends-trans old middle new before.text (text_of (VarLine v ∷ [])) before.wrote one;
}

pub one_stopped : (old middle new : Option (List ℕ)) (all left rest : List Var) (v : Var) → AreWritten old middle all left → left ≡ v ∷ rest → TakesFront middle new (text_of (VarLine v ∷ [])) → TakesFront old new (text_of (map VarLine all))
one_stopped old middle new all left rest v before e part =
    front_after old middle new before.text (text_of (VarLine v ∷ [])) (text_of (map VarLine rest)) (text_of (map VarLine all)) before.wrote part (before.parts ∙ ap (λ t. before.text ++ t) (next_line left rest v e))

pub all_written : (old new : Option (List ℕ)) (all left : List Var) → AreWritten old new all left → left ≡ [] → Appends old new (text_of (map VarLine all))
unfolding text_of
all_written old new all left before e =
    subst (Appends old new) (sym (before.parts ∙ ap (λ vs. before.text ++ text_of (map VarLine vs)) e ∙ append-nil before.text)) before.wrote
