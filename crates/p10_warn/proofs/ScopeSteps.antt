-- Names in scope, one declaration after the other.
use Rattle.std.proofs.Common.{◌≡◌, ℕ, List, [], ◌∷◌, ◌++◌, map, take, length, Bool, true, false, ◌||◌, bytes_eq, if◌then◌else◌, Option, Some, None, refl, sym, ◌∙◌, ap}
use Rattle.std.specs.List.{list_any}
use Rattle.std.proofs.lemmas.List.{append_assoc, append-nil}
use Rattle.p10_base.specs.Words.{Text}
use Rattle.p10_bindings.specs.Lookup.{last_after, last_bound}
use Rattle.p10_core.specs.Typed.{PlainObject, PlainVariable, PlainStatements, no_statements, more_statements}
use Rattle.p10_core.specs.declared.program.Func.{Func}
use Rattle.p10_core.specs.declared.program.Variable.{Variable}
use Rattle.p10_core.specs.declared.statements.Stmt.{Stmt}
use Rattle.p10_core.specs.Views.{plain_variable, plain_statements, plain_function}
use Rattle.p10_warn.specs.Scopes.{DeclaredName, name_declared, scope_after, names_after, declarations_of_parameters, declarations_among, declarations_of_function}

-- ## Look-up

module _ {T : Type 0} where
  abbrev is_there : Option T → Bool
  is_there None = false
  is_there (Some x) = true

  found_by : (c : Bool) (x : T) (found : Option T) (others : Bool) → (is_there (if c then Some x else found) || others) ≡ (is_there found || (c || others))
  found_by true x None others = refl
  found_by true x (Some y) others = refl
  found_by false x found others = refl

  found_after : (found : Option T) (name : Text) (bs : List (Text × T)) → is_there (last_after found name bs) ≡ (is_there found || list_any (λ x. bytes_eq x name) (map (λ b. b.0) bs))
  found_after None name [] = refl
  found_after (Some x) name [] = refl
  found_after found name (b ∷ rest) =
      found_after (if bytes_eq b.0 name then Some b.1 else found) name rest
      ∙ found_by (bytes_eq b.0 name) b.1 found (list_any (λ x. bytes_eq x name) (map (λ b. b.0) rest))

  -- a name is found where it is one of those in scope
  pub found_is : (name : Text) (bs : List (Text × T)) (found : Option T) → found ≡ last_bound name bs → is_there found ≡ list_any (λ x. bytes_eq x name) (map (λ b. b.0) bs)
  found_is name bs found e = ap is_there e ∙ found_after None name bs

-- ## The end of a block

map_take : {A B : Type 0} (f : A → B) (n : ℕ) (xs : List A) → map f (take n xs) ≡ take n (map f xs)
map_take f ℕ.zero xs = refl
map_take f (ℕ.suc n) [] = refl
map_take f (ℕ.suc n) (x ∷ xs) = ap (λ ys. f x ∷ ys) (map_take f n xs)

map_length : {A B : Type 0} (f : A → B) (xs : List A) → length (map f xs) ≡ length xs
map_length f [] = refl
map_length f (x ∷ xs) = ap ℕ.suc (map_length f xs)

take_all : {A : Type 0} (xs ys : List A) → take (length xs) (xs ++ ys) ≡ xs
take_all [] ys = refl
take_all (x ∷ xs) ys = ap (λ zs. x ∷ zs) (take_all xs ys)

-- the names that were in scope at the beginning are those that are kept
pub names_kept : {T : Type 0} (old mid new : List (Text × T)) (count : ℕ) (more : List Text) → count ≡ length old → map (λ b. b.0) mid ≡ map (λ b. b.0) old ++ more → new ≡ take count mid
    → map (λ b. b.0) new ≡ map (λ b. b.0) old
names_kept old mid new count more long grown kept =
    ap (map (λ b. b.0)) kept ∙ map_take (λ b. b.0) count mid ∙ ap (take count) grown
    ∙ ap (λ n. take n (map (λ b. b.0) old ++ more)) (long ∙ sym (map_length (λ b. b.0) old)) ∙ take_all (map (λ b. b.0) old) more

-- names grow
pub declared_grows : (around : List Text) (d : Option DeclaredName) → (more : List Text) × (scope_after around d ≡ around ++ more)
declared_grows around None = ([], sym (append-nil around))
declared_grows around (Some d) = (d.name ∷ [], refl)

pub names_grow : (objects : List PlainObject) (variables : List PlainVariable) (around : List Text) (ss : PlainStatements) → (more : List Text) × (names_after objects variables around ss ≡ around ++ more)
names_grow objects variables around no_statements = ([], sym (append-nil around))
names_grow objects variables around (more_statements s rest) =
    let one = declared_grows around (name_declared objects variables s) in
    let others = names_grow objects variables (scope_after around (name_declared objects variables s)) rest in
    (one.0 ++ others.0, others.1 ∙ ap (λ xs. xs ++ others.0) one.1 ∙ append_assoc around one.0 others.0)

-- ## Loops

-- the names after a loop are those before it
pub loop_names : {T : Type 0} (objects : List PlainObject) (variables : List PlainVariable) (first : PlainStatements) (old one two new : List (Text × T)) (count : ℕ) → count ≡ length old
    → map (λ b. b.0) one ≡ names_after objects variables (map (λ b. b.0) old) first → map (λ b. b.0) two ≡ map (λ b. b.0) one → new ≡ take count two → map (λ b. b.0) new ≡ map (λ b. b.0) old
loop_names objects variables first old one two new count long opened same kept =
    let more = names_grow objects variables (map (λ b. b.0) old) first in
    names_kept old two new count more.0 long (same ∙ opened ∙ more.1) kept

-- ## A function

pub function_declarations : (objects : List PlainObject) (f : Func) (names : List Text) (variables parameters : List Variable) (body : List Stmt) → names ≡ [] → variables ≡ f.vars → parameters ≡ take f.params variables
    → body ≡ f.body → declarations_of_parameters names (map plain_variable parameters) ++ declarations_among objects (map plain_variable variables) (names ++ map (λ v. v.name) (map plain_variable parameters)) (plain_statements body)
    ≡ declarations_of_function objects (plain_function f)
function_declarations objects f names variables parameters body none all first items =
    let firsts : map plain_variable parameters ≡ take f.params (map plain_variable f.vars) =
    ap (map plain_variable) (first ∙ ap (take f.params) all) ∙ map_take plain_variable f.params f.vars in
    ap (λ (ns : List Text). declarations_of_parameters ns (map plain_variable parameters) ++ declarations_among objects (map plain_variable variables) (ns ++ map (λ v. v.name) (map plain_variable parameters)) (plain_statements body)) none
    ∙ ap (λ (ps : List PlainVariable). declarations_of_parameters [] ps ++ declarations_among objects (map plain_variable variables) (map (λ v. v.name) ps) (plain_statements body)) firsts
    ∙ ap (λ (vs : List Variable). declarations_of_parameters [] (take f.params (map plain_variable f.vars)) ++ declarations_among objects (map plain_variable vs) (map (λ v. v.name) (take f.params (map plain_variable f.vars))) (plain_statements body)) all
    ∙ ap (λ (ss : List Stmt). declarations_of_parameters [] (take f.params (map plain_variable f.vars)) ++ declarations_among objects (map plain_variable f.vars) (map (λ v. v.name) (take f.params (map plain_variable f.vars))) (plain_statements ss)) items
