-- Lists of changes and of entries that grow.
use Rattle.std.proofs.Common.{◌≡◌, ℕ, suc, ◌<◌, ◌+◌, List, [], ◌∷◌, ◌++◌, length, map, take, drop, get_or, Option, Some, Vec, ap, sym, ◌∙◌, append_assoc, add-one}
use Rattle.std.specs.Option.{option_map}
use Rattle.std.specs.declared.alloc.Global.{Global}
use Rattle.std.proofs.lemmas.List.{map-append, take_more}
use Rattle.std.proofs.Math.Seq.{drop-cons}
use Rattle.p10_core.specs.declared.program.Variable.{Variable}
use Rattle.p10_core.specs.Views.{plain_variable}
use Rattle.p10_cert.specs.Claims.{Value}
use Rattle.p10_absx.specs.declared.abs.Abs.{Abs}
use Rattle.p10_absx.specs.declared.notes.Entry.{Entry}
use Rattle.p10_absx.specs.declared.changes.Change.{Change}
use Rattle.p10_absx.specs.Abstract.{Abstract, abstract_of}
use Rattle.p10_absx.specs.Environments.{Environment, hull_environment}
use Rattle.p10_absx.specs.Entering.{entry_for, entries_from}
use Rattle.p10_absx.specs.Trails.{known_in_entries}
use Rattle.p10_absx.specs.private.Changes.{replaced_of, replaced_in, applied, widened_one, widened}
use Rattle.p10_absx.specs.private.Found.{state_of}
use Rattle.p10_absx.proofs.Trails.{entry_with}
use Rattle.p10_absx.proofs.BothSides.{applied_more}
use Rattle.p10_absx.proofs.Hulls.{hull_is}

-- changes after others
pub after_changes : (env : Environment) (first : List Change) (v more : Vec Change Global) (o : Option (Vec Change Global)) → replaced_in v.items ≡ replaced_in first ++ replaced_in more.items →
    o ≡ Some more → Some (applied (replaced_in v.items) env) ≡ state_of (applied (replaced_in first) env) o
after_changes env first v more o is there =
    ap (λ cs. Some (applied cs env)) is ∙ (ap Some (applied_more (replaced_in first) (replaced_in more.items) env) ∙ sym (ap (state_of (applied (replaced_in first) env)) there))

-- one more change that is widened
pub widened_more : (env : Environment) (all changes : List Change) (i : ℕ) (c now : Change) → replaced_in all ≡ widened env (replaced_in (take i changes)) → i < length changes → c ≡ get_or changes i c →
    replaced_of now ≡ widened_one env (replaced_of c) → replaced_in (all ++ now ∷ []) ≡ widened env (replaced_in (take (i + 1) changes))
widened_more env all changes i c now so-far below there is =
    map-append replaced_of all (now ∷ []) ∙ (ap (λ cs. cs ++ replaced_of now ∷ []) so-far ∙ (ap (λ x. widened env (replaced_in (take i changes)) ++ x ∷ []) is ∙
    (sym (map-append (widened_one env) (replaced_in (take i changes)) (replaced_of c ∷ [])) ∙ ap (widened env) (sym (map-append replaced_of (take i changes) (c ∷ [])) ∙
    ap replaced_in (ap (λ x. take i changes ++ x ∷ []) there ∙ sym (take_more changes i c below))))))

-- the hull of what changes give, by the lists that the code makes
pub hull_of_changes : (env inner-env : Environment) (first second : List Change) (inner outer v : Vec Change Global) → inner-env ≡ applied (replaced_in second) env →
    replaced_in inner.items ≡ widened inner-env (replaced_in first) → replaced_in outer.items ≡ widened env (replaced_in second) → replaced_in v.items ≡ replaced_in outer.items ++ replaced_in inner.items →
    applied (replaced_in v.items) env ≡ hull_environment (applied (replaced_in first) env) (applied (replaced_in second) env)
hull_of_changes env inner-env first second inner outer v there is-inner is-outer is =
    ap (λ cs. applied cs env) (is ∙ (ap (λ cs. cs ++ replaced_in inner.items) is-outer ∙ ap (λ cs. widened env (replaced_in second) ++ cs) (is-inner ∙ ap (λ e. widened e (replaced_in first)) there))) ∙
    hull_is env (replaced_in first) (replaced_in second)

-- one more entry of a function's variables
pub entries_more : (entries : List Entry) (known : Option Abs) (n parameters : ℕ) (claims : List Value) (variables : List Variable) (v : Variable) (all : Environment) →
    known_in_entries entries ++ entries_from n parameters claims (map plain_variable (drop n variables)) ≡ all → n < length variables → v ≡ get_or variables n v →
    option_map abstract_of known ≡ entry_for n parameters claims (plain_variable v) →
    known_in_entries (entries ++ entry_with known 0 ∷ []) ++ entries_from (n + 1) parameters claims (map plain_variable (drop (n + 1) variables)) ≡ all
entries_more entries known n parameters claims variables v all so-far below there is =
    let f : Entry → Option Abstract = λ (e : Entry). option_map abstract_of e.known in
    let d : drop n variables ≡ v ∷ drop (suc n) variables = drop-cons variables n v below ∙ ap (λ x. x ∷ drop (suc n) variables) (sym there) in
    ap (λ m. known_in_entries (entries ++ entry_with known 0 ∷ []) ++ entries_from m parameters claims (map plain_variable (drop m variables))) (add-one n) ∙
    (ap (λ es. es ++ entries_from (suc n) parameters claims (map plain_variable (drop (suc n) variables))) (map-append f entries (entry_with known 0 ∷ [])) ∙
    (append_assoc (known_in_entries entries) (option_map abstract_of known ∷ []) (entries_from (suc n) parameters claims (map plain_variable (drop (suc n) variables))) ∙
    (ap (λ e. known_in_entries entries ++ e ∷ entries_from (suc n) parameters claims (map plain_variable (drop (suc n) variables))) is ∙
    (ap (λ vs. known_in_entries entries ++ entries_from n parameters claims (map plain_variable vs)) (sym d) ∙ so-far))))
