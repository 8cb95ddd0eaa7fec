-- Parameters whose types are known, one after the other.
use Rattle.std.specs.Prelude.{◌≡◌, ℕ, suc, ◌+◌, List, [], ◌∷◌, ◌++◌, length, map, Option, Some, None, option_map}
use Rattle.std.proofs.Common.{◌∙◌, ◌<◌, ap, sym, append_assoc, drop, drop-cons, get_or, add-one}
use Rattle.p10_syn.specs.Built.{identifier_of}
use Rattle.p10_core.specs.Types.{PlainType, plain_type}
use Rattle.p10_elabd.specs.declared.declaration.PlacedParameter.{PlacedParameter}
use Rattle.p10_elabd.specs.Shapes.{PlainParameter, ListedParameter, before_known, known_parameters}
use Rattle.p10_elabd.specs.Views.{plain_placed}

-- parameters before others, if those are known
abbrev pub after_known : List PlainParameter → Option (List PlainParameter) → Option (List PlainParameter)
after_known ps None = None
after_known ps (Some qs) = Some (ps ++ qs)

-- the parameters from a place on
cut : (all : List PlacedParameter) (i : ℕ) (one : PlacedParameter) → i < length all → one ≡ get_or all i one → drop i all ≡ one ∷ drop (i + 1) all
cut all i one below is = drop-cons all i one below ∙ ap (λ x. x ∷ drop (suc i) all) (sym is) ∙ ap (λ n. one ∷ drop n all) (sym (add-one i))

-- one more is known before others
known_more : (ps : List PlainParameter) (p : ListedParameter) (t : PlainType) (rest : Option (List PlainParameter)) → p.type ≡ Some t →
    after_known (ps ++ record { at = p.at; name = p.name; type = t } ∷ []) rest ≡ after_known ps (before_known p p.type rest)
known_more ps p t None is = ap (λ o. after_known ps (before_known p o None)) (sym is)
known_more ps p t (Some qs) is =
    let one : PlainParameter = record { at = p.at; name = p.name; type = t } in
    ap Some (append_assoc ps (one ∷ []) qs) ∙ ap (λ o. after_known ps (before_known p o (Some qs))) (sym is)

-- the one at a place is known
pub known_turn : (all : List PlacedParameter) (i : ℕ) (one : PlacedParameter) (ps qs : List PlainParameter) (t : PlainType) (whole : Option (List PlainParameter)) → i < length all → one ≡ get_or all i one →
    option_map plain_type one.ty ≡ Some t → qs ≡ ps ++ record { at = one.at; name = option_map identifier_of one.name; type = t } ∷ [] → after_known ps (known_parameters (map plain_placed (drop i all))) ≡ whole →
    after_known qs (known_parameters (map plain_placed (drop (i + 1) all))) ≡ whole
known_turn all i one ps qs t whole below is typed more before =
    let rest : Option (List PlainParameter) = known_parameters (map plain_placed (drop (i + 1) all)) in
    ap (λ xs. after_known xs rest) more ∙ known_more ps (plain_placed one) t rest typed
    ∙ sym (ap (λ xs. after_known ps (known_parameters (map plain_placed xs))) (cut all i one below is)) ∙ before

-- the one at a place isn't
pub known_lacking : (all : List PlacedParameter) (i : ℕ) (one : PlacedParameter) (ps : List PlainParameter) (whole : Option (List PlainParameter)) → i < length all → one ≡ get_or all i one →
    option_map plain_type one.ty ≡ None → after_known ps (known_parameters (map plain_placed (drop i all))) ≡ whole → None ≡ whole
known_lacking all i one ps whole below is lacking before =
    let rest : Option (List PlainParameter) = known_parameters (map plain_placed (drop (i + 1) all)) in
    sym (ap (λ o. after_known ps (before_known (plain_placed one) o rest)) lacking)
    ∙ sym (ap (λ xs. after_known ps (known_parameters (map plain_placed xs))) (cut all i one below is)) ∙ before
