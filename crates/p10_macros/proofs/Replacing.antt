-- What is put for a use is its replacement.
use Rattle.std.proofs.Common.{◌≡◌, ℕ, ◌+◌, ◌<◌, ◌≤◌, List, [], ◌∷◌, ◌++◌, length, map, Bool, true, false, cond, Option, Some, None, option_map, refl, sym, subst, ap, ◌∙◌, arith, length-append}
use Rattle.std.specs.Prelude.{reverse}
use Rattle.std.specs.List.{flat_map}
use Rattle.std.proofs.lemmas.List.{map-append, length-map, length-reverse}
use Rattle.p10_base.specs.declared.span.Span.{Span}
use Rattle.p10_base.specs.declared.word.Word.{Word}
use Rattle.p10_base.specs.Words.{Text, PlainWord, is_name, plain_word}
use Rattle.p10_direct.specs.Directives.{PlainMacro}
use Rattle.p10_macros.specs.declared.origin.Origins.{Origins}
use Rattle.p10_macros.specs.declared.pending.Traced.{Traced}
use Rattle.p10_macros.specs.declared.pending.Pending.{Pending}
use Rattle.p10_macros.specs.declared.replaced.ReplaceFault.{ReplaceFault}
use Rattle.p10_macros.specs.declared.known.Known.{Known}
use Rattle.p10_macros.specs.private.KnownMacros.{plain_known}
use Rattle.p10_macros.specs.Uses.{Sourced, given, value_of, value_or, texts_of, replacement}
use Rattle.p10_macros.specs.private.Places.{at_place, place_named, gives}
use Rattle.p10_macros.specs.private.Origins.{Extends, HasOne}
use Rattle.p10_macros.specs.private.Traces.{IsTraced, AreTraced, AreValues}
use Rattle.p10_macros.specs.private.Putting.{fresh, ArePut, PutsTraced, PutsReplacement, IsBase, AreGiven, part_of, value_or_word, Short}
use Rattle.p10_macros.proofs.Growing.{traced_more, values_more, base_more}
use Rattle.p10_macros.proofs.Uniting.{base_of, traced_length, written_traced}
use Rattle.p10_macros.proofs.Putting.{IsValue, short_by}
use Rattle.p10_macros.proofs.ByParameter.{is_value}

-- nothing is put for a value without words
pub gives_none : (value : Option (List Traced)) (traced : Traced) → gives value ≡ false → value_or_word value traced ≡ []
gives_none None traced none = absurd cc
gives_none (Some []) traced none = refl
gives_none (Some (first ∷ value)) traced none = absurd cc

-- fewer words may be made by as many as were put
pub puts_lighter : (before behind : List Pending) (words : List Traced) (left remaining : ℕ) → PutsTraced before behind words left remaining → (remaining ≤ left) × (remaining + length behind ≡ left + length before)
puts_lighter before behind words left remaining puts =
    let items : length puts.items ≡ length words = sym (length-map puts.items (λ (p : Pending). p.traced)) ∙ ap length puts.put in
    let long : length (reverse behind) ≡ length puts.items + length (reverse before) = ap length puts.pending ∙ length-append puts.items (reverse before) in
    (omega (arith, puts.costs), omega (arith, puts.costs, items, long, length-reverse behind, length-reverse before))

are_put : (origins : Origins) (items : List Pending) (traced : List Traced) (words : List Sourced) → map (λ (p : Pending). p.traced) items ≡ traced → AreTraced origins traced words → ArePut origins items words
are_put origins [] [] [] e are = tt
are_put origins (item ∷ items) (traced ∷ those) (word ∷ words) e (is, are) =
    let first : traced ≡ item.traced = cc in
    let others : map (λ (p : Pending). p.traced) items ≡ those = cc in
    (subst (λ (t : Traced). IsTraced origins t word) first is, are_put origins items those words others are)
are_put origins [] [] (word ∷ words) e are = absurd are
are_put origins (item ∷ items) (traced ∷ those) [] e are = absurd are
are_put origins [] (traced ∷ those) words e are = absurd cc
are_put origins (item ∷ items) [] words e are = absurd cc

-- ## The words of the replacement list

value_mapped : (f : List Sourced → List Sourced) (texts : List Text) (values : List (List Sourced)) (word : PlainWord) → value_of texts (map f values) word ≡ option_map f (value_of texts values word)
value_mapped f [] [] word = refl
value_mapped f [] (value ∷ values) word = refl
value_mapped f (text ∷ texts) [] word = refl
value_mapped f (text ∷ texts) (value ∷ values) word = go (is_name text word) (value_mapped f texts values word)
  where
    go : (b : Bool) → value_of texts (map f values) word ≡ option_map f (value_of texts values word) →
        cond b (Some (f value)) (value_of texts (map f values) word) ≡ option_map f (cond b (Some value) (value_of texts values word))
    go true e = refl
    go false e = e

module _ (origins : Origins) (plain : PlainMacro) (name : Sourced) (at : Span) (from : ℕ) (place : at ≡ name.word.at) (base : IsBase origins from plain.name name) where
  -- what is put for one
  part_traced : (values : List (List Traced)) (words : List (List Sourced)) (word : Word) → AreValues origins values (map (λ (value : List Sourced). map (given plain name) value) words) →
      AreTraced origins (part_of plain values at from word) (map (given plain name) (value_or (value_of (texts_of plain.parameters) words (plain_word word)) (plain_word word)))
  part_traced values words word are =
      let texts : List Text = texts_of plain.parameters in
      let word' : PlainWord = plain_word word in
      go (at_place (place_named texts word') values) (value_of texts words word')
      (subst (λ (o : Option (List Sourced)). IsValue origins (at_place (place_named texts word') values) o) (value_mapped (λ (value : List Sourced). map (given plain name) value) texts words word')
      (is_value texts word' (place_named texts word') values (at_place (place_named texts word') values) refl refl origins (map (λ (value : List Sourced). map (given plain name) value) words) are))
    where
      go : (v : Option (List Traced)) (o : Option (List Sourced)) → IsValue origins v (option_map (λ (value : List Sourced). map (given plain name) value) o) →
          AreTraced origins (value_or_word v (fresh word at from)) (map (given plain name) (value_or o (plain_word word)))
      go None None is = (written_traced origins word at from plain name place base, tt)
      go (Some value) (Some words') is = is
      go None (Some words') is = absurd is
      go (Some value) None is = absurd is

  traced_both : (these those : List Traced) (these' those' : List Sourced) → AreTraced origins these these' → AreTraced origins those those' → AreTraced origins (these ++ those) (these' ++ those')
  traced_both [] those [] those' are are' = are'
  traced_both (traced ∷ these) those (word ∷ these') those' (is, are) are' = (is, traced_both these those these' those' are are')
  traced_both [] those (word ∷ these') those' are are' = absurd are
  traced_both (traced ∷ these) those [] those' are are' = absurd are

  -- what is put for all
  list_traced : (values : List (List Traced)) (words : List (List Sourced)) (body : List Word) → AreValues origins values (map (λ (value : List Sourced). map (given plain name) value) words) →
      AreTraced origins (flat_map (part_of plain values at from) body) (map (given plain name) (flat_map (λ (word : PlainWord). value_or (value_of (texts_of plain.parameters) words word) word) (map plain_word body)))
  list_traced values words [] are = tt
  list_traced values words (word ∷ body) are =
      let part : List Sourced = value_or (value_of (texts_of plain.parameters) words (plain_word word)) (plain_word word) in
      let rest : List Sourced = flat_map (λ (w : PlainWord). value_or (value_of (texts_of plain.parameters) words w) w) (map plain_word body) in
      subst (λ (l : List Sourced). AreTraced origins (part_of plain values at from word ++ flat_map (part_of plain values at from) body) l) (sym (map-append (given plain name) part rest))
      (traced_both (part_of plain values at from word) (flat_map (part_of plain values at from) body) (map (given plain name) part) (map (given plain name) rest)
      (part_traced values words word are) (list_traced values words body are))

-- ## The replacement

-- what stands for the replacement list of a use, where the words of its arguments were made those of the use
module _ (old middle new : Origins) (known : Known) (name : Traced) (values values' : List (List Traced)) (from : ℕ) (grown : Extends old middle) (grown' : Extends middle new)
    (first : HasOne old (plain_known known).name name.from middle from) (given' : AreGiven middle new name from values values') where
  abbrev plain : PlainMacro
  plain = plain_known known

  abbrev body : List Word
  body = known.made.body.now

  use_traced : (name' : Sourced) (words : List (List Sourced)) → IsTraced old name name' → AreValues old values words → AreTraced new (flat_map (part_of plain values' name.word.at from) body) (replacement plain name' words)
  use_traced name' words named are =
      let base : IsBase middle from plain.name name' = base_of old middle plain.name name name' from first named in
      list_traced new plain name' name.word.at from (ap (λ (w : PlainWord). w.at) named.word) (base_more middle new grown' from plain.name name' base) values' words body
      (given' plain name' words (traced_more old middle grown name name' named) base (values_more old middle grown values words are))

  pub is_replacement : (before behind : List Pending) (left remaining : ℕ) → PutsTraced before behind (flat_map (part_of plain values' name.word.at from) body) left remaining → PutsReplacement old new before behind plain name values left remaining
  is_replacement before behind left remaining puts name' words named are =
      let traced = use_traced name' words named are in record {
        items = puts.items;
        pending = puts.pending;
        put = are_put new puts.items (flat_map (part_of plain values' name.word.at from) body) (replacement plain name' words) puts.put traced;
        costs = omega (arith, puts.costs, traced_length new (flat_map (part_of plain values' name.word.at from) body) (replacement plain name' words) traced);
      }

  pub is_short : (left : ℕ) (f : ReplaceFault) → Short f (left < length (flat_map (part_of plain values' name.word.at from) body)) →
      (name' : Sourced) (words : List (List Sourced)) → IsTraced old name name' → AreValues old values words → Short f (left < length (replacement plain name' words))
  is_short left f short name' words named are =
      let parts : List Traced = flat_map (part_of plain values' name.word.at from) body in
      short_by f (left < length parts) (left < length (replacement plain name' words)) short
      (λ less. omega (arith, less, traced_length new parts (replacement plain name' words) (use_traced name' words named are)))
