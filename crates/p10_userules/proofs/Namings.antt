-- The occurrences in statements are the namings by their nodes.
use Rattle.std.proofs.Common.{◌≡◌, ◌+◌, ◌<◌, List, [], ◌∷◌, ◌++◌, map, Bool, true, false, ◌||◌, Option, Some, None, refl, sym, ◌∙◌, ap, subst, arith, inl, inr}
use Rattle.std.specs.Prelude.{◌↔◌}
use Rattle.std.specs.List.{Contains, filter_map}
use Rattle.std.proofs.lemmas.List.{map-append}
use Rattle.std.proofs.lemmas.List.Elements.{Contains-append_left, Contains-append_right, Contains-append_cases, filter_map-append}
use Rattle.p10_core.specs.declared.statements.LoopKeyword.{LoopKeyword}
use Rattle.p10_core.specs.declared.statements.LoopKeyword.TheVariants.{While, Do, For}
use Rattle.p10_core.specs.Typed.{PlainValue, value, constant, read, sense, address, decay, convert, cast, unary, binary, logic, conditional, call, built_in, PlainPlace, place, variable, global, literal, index, member, dereference, PlainValues, no_values, more_values}
use Rattle.p10_core.specs.Typed.{PlainWritten, one_scalar, scalars_of_text, PlainItem, PlainInitializer, not_initialized, single, copied, listed, PlainStatement, statement, PlainStatementForm, set, update, copy, evaluate, asserts, declare, declare_static, block, if_then, if_else, loop, switch, break, continue, return, empty, mark, PlainStatements, no_statements, more_statements}
use Rattle.p10_core.specs.Nodes.{PlainNode, nodes_of_value, nodes_of_place, nodes_of_values, nodes_of_maybe, nodes_of_written, nodes_of_items, nodes_of_initializer, in_loop_order, nodes_of_statement, nodes_in_statement_form, nodes_of_statements}
use Rattle.p10_userules.specs.declared.occurrences.Referent.{Referent}
use Rattle.p10_userules.specs.declared.occurrences.Occurrence.{Occurrence}
use Rattle.p10_userules.specs.Occurrences.{is_assertion, occurrences_in_value, occurrences_in_place, occurrences_in_values, occurrences_in_maybe, occurrences_in_written, occurrences_in_items, occurrences_in_initializer, in_text_order, occurrences_in_statement, occurrences_in_statement_form, occurrences_in_statements, times}
use Rattle.p10_userules.specs.Blocks.{blocks_in, blocks_in_form, blocks_among, reached_in, reached_in_form, reached_among}
use Rattle.p10_userules.specs.Violations.{IsUsedOnlyIn}
use Rattle.p10_userules.specs.Laws.{named_by_node}
use Rattle.p10_userules.proofs.Spreading.{times_append}
use Rattle.p10_userules.proofs.Members.{none_in, here, first_or_later}

-- occurrences are the namings by nodes
abbrev Are : List Occurrence → List PlainNode → Type 0
Are os ns = map (λ (o : Occurrence). o.referent) os ≡ filter_map named_by_node ns

two : (a b : List Occurrence) (m n : List PlainNode) → Are a m → Are b n → Are (a ++ b) (m ++ n)
two a b m n e f =
    map-append (λ (o : Occurrence). o.referent) a b
    ∙ ap (λ l. l ++ map (λ (o : Occurrence). o.referent) b) e ∙ ap (λ l. filter_map named_by_node m ++ l) f ∙ sym (filter_map-append named_by_node m n)

mutual
  value_are : (checked : Bool) (v : PlainValue) → Are (occurrences_in_value checked v) (nodes_of_value v)
  value_are checked (value at t (constant z)) = refl
  value_are checked (value at t (read p)) = place_are checked p
  value_are checked (value at t (sense n)) = refl
  value_are checked (value at t (address p)) = place_are checked p
  value_are checked (value at t (decay p)) = place_are checked p
  value_are checked (value at t (convert v)) = value_are checked v
  value_are checked (value at t (cast v)) = value_are checked v
  value_are checked (value at t (unary op v)) = value_are checked v
  value_are checked (value at t (binary op a b)) = two (occurrences_in_value checked a) (occurrences_in_value checked b) (nodes_of_value a) (nodes_of_value b) (value_are checked a) (value_are checked b)
  value_are checked (value at t (logic op a b)) = two (occurrences_in_value checked a) (occurrences_in_value checked b) (nodes_of_value a) (nodes_of_value b) (value_are checked a) (value_are checked b)
  value_are checked (value at t (conditional v a b)) =
      two (occurrences_in_value checked v) (occurrences_in_value checked a ++ occurrences_in_value checked b) (nodes_of_value v) (nodes_of_value a ++ nodes_of_value b) (value_are checked v)
      (two (occurrences_in_value checked a) (occurrences_in_value checked b) (nodes_of_value a) (nodes_of_value b) (value_are checked a) (value_are checked b))
  value_are checked (value at t (call s n arguments)) = values_are checked arguments
  value_are checked (value at t (built_in s f arguments)) = values_are (checked || is_assertion f) arguments

  place_are : (checked : Bool) (p : PlainPlace) → Are (occurrences_in_place checked p) (nodes_of_place p)
  place_are checked (place at t (variable n)) = refl
  place_are checked (place at t (global n)) = refl
  place_are checked (place at t (literal n bytes)) = refl
  place_are checked (place at t (index a i)) = two (occurrences_in_value checked a) (occurrences_in_value checked i) (nodes_of_value a) (nodes_of_value i) (value_are checked a) (value_are checked i)
  place_are checked (place at t (member p m)) = place_are checked p
  place_are checked (place at t (dereference v)) = value_are checked v

  values_are : (checked : Bool) (vs : PlainValues) → Are (occurrences_in_values checked vs) (nodes_of_values vs)
  values_are checked no_values = refl
  values_are checked (more_values v vs) = two (occurrences_in_value checked v) (occurrences_in_values checked vs) (nodes_of_value v) (nodes_of_values vs) (value_are checked v) (values_are checked vs)

maybe_are : (v : Option PlainValue) → Are (occurrences_in_maybe v) (nodes_of_maybe v)
maybe_are None = refl
maybe_are (Some v) = value_are false v

written_are : (w : PlainWritten) → Are (occurrences_in_written w) (nodes_of_written w)
written_are (one_scalar v) = value_are false v
written_are (scalars_of_text bytes) = refl

items_are : (is : List PlainItem) → Are (occurrences_in_items is) (nodes_of_items is)
items_are [] = refl
items_are (i ∷ rest) = two (occurrences_in_written i.written) (occurrences_in_items rest) (nodes_of_written i.written) (nodes_of_items rest) (written_are i.written) (items_are rest)

initializer_are : (i : PlainInitializer) → Are (occurrences_in_initializer i) (nodes_of_initializer i)
initializer_are not_initialized = refl
initializer_are (single v) = value_are false v
initializer_are (copied p) = place_are false p
initializer_are (listed at items) = items_are items

loop_are : (keyword : LoopKeyword) (a b c d : List Occurrence) (k l m n : List PlainNode) → Are a k → Are b l → Are c m → Are d n → Are (in_text_order keyword a b c d) (in_loop_order keyword k l m n)
loop_are While a b c d k l m n e f g h = two a (b ++ (c ++ d)) k (l ++ (m ++ n)) e (two b (c ++ d) l (m ++ n) f (two c d m n g h))
loop_are For a b c d k l m n e f g h = two a (b ++ (c ++ d)) k (l ++ (m ++ n)) e (two b (c ++ d) l (m ++ n) f (two c d m n g h))
loop_are Do a b c d k l m n e f g h = two a (d ++ (b ++ c)) k (n ++ (l ++ m)) e (two d (b ++ c) n (l ++ m) h (two b c l m f g))

mutual
  statement_are : (s : PlainStatement) → Are (occurrences_in_statement [] s) (nodes_of_statement s)
  statement_are (statement at f) = form_are f

  form_are : (f : PlainStatementForm) → Are (occurrences_in_statement_form [] f) (nodes_in_statement_form f)
  form_are (set p v) = two (occurrences_in_place false p) (occurrences_in_value false v) (nodes_of_place p) (nodes_of_value v) (place_are false p) (value_are false v)
  form_are (update kind op t p v) = two (occurrences_in_place false p) (occurrences_in_value false v) (nodes_of_place p) (nodes_of_value v) (place_are false p) (value_are false v)
  form_are (copy p q) = two (occurrences_in_place false p) (occurrences_in_place false q) (nodes_of_place p) (nodes_of_place q) (place_are false p) (place_are false q)
  form_are (evaluate v) = value_are false v
  form_are (asserts at v) = value_are true v
  form_are (declare n i) = initializer_are i
  form_are (declare_static n) = refl
  form_are (block ss) = statements_are ss
  form_are (if_then v s) = two (occurrences_in_value true v) (occurrences_in_statement [] s) (nodes_of_value v) (nodes_of_statement s) (value_are true v) (statement_are s)
  form_are (if_else v s t) =
      two (occurrences_in_value true v) (occurrences_in_statement [] s ++ occurrences_in_statement [] t) (nodes_of_value v) (nodes_of_statement s ++ nodes_of_statement t) (value_are true v)
      (two (occurrences_in_statement [] s) (occurrences_in_statement [] t) (nodes_of_statement s) (nodes_of_statement t) (statement_are s) (statement_are t))
  form_are (loop head first test third body) =
      loop_are head.keyword (occurrences_in_statements [] first) (occurrences_in_maybe test) (occurrences_in_statements [] third) (occurrences_in_statement [] body)
      (nodes_of_statements first) (nodes_of_maybe test) (nodes_of_statements third) (nodes_of_statement body) (statements_are first) (maybe_are test) (statements_are third) (statement_are body)
  form_are (switch span v labels body) = two (occurrences_in_value false v) (occurrences_in_statement [] body) (nodes_of_value v) (nodes_of_statement body) (value_are false v) (statement_are body)
  form_are break = refl
  form_are continue = refl
  form_are (return span v) = maybe_are v
  form_are empty = refl
  form_are (mark kind) = refl

  pub statements_are : (ss : PlainStatements) → Are (occurrences_in_statements [] ss) (nodes_of_statements ss)
  statements_are no_statements = refl
  statements_are (more_statements s rest) = two (occurrences_in_statement [] s) (occurrences_in_statements [] rest) (nodes_of_statement s) (nodes_of_statements rest) (statement_are s) (statements_are rest)

-- ## Parts

pub used_nowhere_else : (x : Referent) (before part after : List Occurrence) → IsUsedOnlyIn x part (before ++ (part ++ after)) ↔ ((0 < times x part) × (times x before ≡ 0) × (times x after ≡ 0))
used_nowhere_else x before part after =
    let all : times x (before ++ (part ++ after)) ≡ times x before + (times x part + times x after) = times_append x before (part ++ after) ∙ ap (λ n. times x before + n) (times_append x part after) in (
      (λ u. let same : times x part ≡ times x before + (times x part + times x after) = u.only ∙ all in (u.used, omega (arith, same), omega (arith, same))),
      (λ h. record { used = h.0; only = omega (arith, all, h.1, h.2) }),
    )

-- ## Blocks

mutual
  reached_is : (s : PlainStatement) (b : PlainStatements) → Contains (reached_in s) b → Contains (blocks_in s) b
  reached_is (statement at f) b held = reached_form f b held

  reached_form : (f : PlainStatementForm) (b : PlainStatements) → Contains (reached_in_form f) b → Contains (blocks_in_form f) b
  reached_form (block ss) b held =
      elim (first_or_later ss (reached_among ss) b held) [
        | inl same ↦ Contains-append_right (blocks_among ss) (ss ∷ []) b (subst (Contains (ss ∷ [])) same (here ss []))
        | inr later ↦ Contains-append_left (blocks_among ss) (ss ∷ []) b (reached_are ss b later)
      ]
  reached_form (if_then v s) b held = reached_is s b held
  reached_form (if_else v s t) b held =
      elim (Contains-append_cases (reached_in s) (reached_in t) b held) [
        | inl first ↦ Contains-append_left (blocks_in s) (blocks_in t) b (reached_is s b first)
        | inr later ↦ Contains-append_right (blocks_in s) (blocks_in t) b (reached_is t b later)
      ]
  reached_form (switch span v labels body) b held = reached_is body b held
  reached_form (loop head first test third body) b held = absurd (none_in b held)
  reached_form (set q v) b held = absurd (none_in b held)
  reached_form (update kind op t q v) b held = absurd (none_in b held)
  reached_form (copy q r) b held = absurd (none_in b held)
  reached_form (evaluate v) b held = absurd (none_in b held)
  reached_form (asserts at v) b held = absurd (none_in b held)
  reached_form (declare n i) b held = absurd (none_in b held)
  reached_form (declare_static n) b held = absurd (none_in b held)
  reached_form break b held = absurd (none_in b held)
  reached_form continue b held = absurd (none_in b held)
  reached_form (return span v) b held = absurd (none_in b held)
  reached_form empty b held = absurd (none_in b held)
  reached_form (mark kind) b held = absurd (none_in b held)

  pub reached_are : (ss : PlainStatements) (b : PlainStatements) → Contains (reached_among ss) b → Contains (blocks_among ss) b
  reached_are no_statements b held = absurd (none_in b held)
  reached_are (more_statements s rest) b held =
      elim (Contains-append_cases (reached_in s) (reached_among rest) b held) [
        | inl first ↦ Contains-append_left (blocks_in s) (blocks_among rest) b (reached_is s b first)
        | inr later ↦ Contains-append_right (blocks_in s) (blocks_among rest) b (reached_are rest b later)
      ]
