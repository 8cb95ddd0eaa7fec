-- Whether a name in scope is a typedef name, as its last declaration says.
use Rattle.std.proofs.Common.{◌≡◌, Bool, true, false, cond, if◌then◌else◌, Option, Some, None, [], ◌∷◌, bytes_eq, refl, sym, ◌∙◌, ap}
use Rattle.std.specs.Prelude.{unwrap_or}
use Rattle.p10_base.specs.Words.{Text}
use Rattle.p10_bindings.specs.Lookup.{last_after, last_bound}
use Rattle.p10_syn.specs.Scopes.{Scope, last_said, is_type}

says_last : (b : Bool) (types : Bool) (found : Option Bool) → cond b types (unwrap_or found false) ≡ unwrap_or (if b then Some types else found) false
says_last true types found = refl
says_last false types found = refl

said : (found : Option Bool) (names : Scope) (name : Text) → last_said (unwrap_or found false) names name ≡ unwrap_or (last_after found name names) false
said found [] name = refl
said found (n ∷ names) name =
    ap (λ answer. last_said answer names name) (says_last (bytes_eq n.0 name) n.1 found) ∙ said (if bytes_eq n.0 name then Some n.1 else found) names name

pub types_last : (names : Scope) (name : Text) → unwrap_or (last_bound name names) false ≡ is_type names name
types_last names name = sym (said None names name)
