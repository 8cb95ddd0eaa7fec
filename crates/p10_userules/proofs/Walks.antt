-- What walks over statements find stands for what lies in these.
use Rattle.std.proofs.Common.{◌≡◌, ◌+◌, List, [], ◌∷◌, ◌++◌, length, map, refl, sym, ◌∙◌, ap, subst, arith, append_assoc, length-append, Option, true, false}
use Rattle.std.proofs.lemmas.List.{append-nil, map-append}
use Rattle.p10_core.specs.declared.statements.LoopKeyword.{LoopKeyword}
use Rattle.p10_core.specs.declared.statements.LoopKeyword.TheVariants.{While, Do, For}
use Rattle.p10_core.specs.Typed.{PlainValue, PlainStatement, statement, PlainStatementForm, set, update, copy, evaluate, asserts, declare, declare_static, block, if_then, if_else, loop, switch, break, continue, return, empty, mark, PlainStatements, no_statements, more_statements, PlainFunction, PlainObject}
use Rattle.p10_userules.specs.declared.occurrences.Occurrence.{Occurrence}
use Rattle.p10_userules.specs.declared.parts.Stretch.{Stretch}
use Rattle.p10_userules.specs.declared.parts.BlockParts.{BlockParts}
use Rattle.p10_userules.specs.Occurrences.{occurrences_in_value, occurrences_in_maybe, occurrences_in_statement, occurrences_in_statement_form, occurrences_in_statements, in_text_order}
use Rattle.p10_userules.specs.Blocks.{declared_among, blocks_in, blocks_in_form, blocks_among, blocks_of, blocks_in_order}
use Rattle.p10_userules.specs.private.Spreads.{Rises}
use Rattle.p10_userules.specs.private.Outermost.{outermost_in, outermost_in_form, outermost_among}
use Rattle.p10_userules.specs.private.Walking.{Walked, met, entered, left_loop, left_block, noted, loop_walked, walk_over, walk_over_form, walk_over_all, beginning, function_walked}
use Rattle.p10_userules.specs.private.Laid.{AllStand, IsBlock, AreBlocks}
use Rattle.p10_userules.proofs.Standing.{all_wider, blocks_wider, all_append, blocks_append, rises_append}

-- a walk goes on by these occurrences, by these outermost blocks, and by these blocks that are left
pub record Goes (objects : List PlainObject) (os : List Occurrence) (outer blocks : List PlainStatements) (w v : Walked) : Type 0 where
  pub occurrences_are : v.occurrences ≡ w.occurrences ++ os
  pub nested : List Stretch
  pub nested_are : v.nested ≡ w.nested ++ nested
  pub stand : AllStand (length w.occurrences) os nested (map (occurrences_in_statements objects) outer)
  pub rises : Rises (length w.occurrences) nested (length w.occurrences + length os)
  pub left : List BlockParts
  pub left_are : v.blocks ≡ w.blocks ++ left
  pub are : AreBlocks objects (length w.occurrences) os left blocks

-- ## One walk after another

module _ (objects : List PlainObject) where
  pub goes_met : (os : List Occurrence) (w : Walked) → Goes objects os [] [] w (met os w)
  goes_met os w = record {
    occurrences_are = refl;
    nested = [];
    nested_are = sym (append-nil w.nested);
    stand = tt;
    rises = omega arith;
    left = [];
    left_are = sym (append-nil w.blocks);
    are = tt;
  }

  pub goes_nowhere : (w : Walked) → Goes objects [] [] [] w w
  goes_nowhere w = record {
    occurrences_are = sym (append-nil w.occurrences);
    nested = [];
    nested_are = sym (append-nil w.nested);
    stand = tt;
    rises = omega arith;
    left = [];
    left_are = sym (append-nil w.blocks);
    are = tt;
  }

  chained : {A : Type 0} (first second third a b : List A) → second ≡ first ++ a → third ≡ second ++ b → third ≡ first ++ (a ++ b)
  chained first second third a b e f = f ∙ ap (λ l. l ++ b) e ∙ append_assoc first a b

  pub goes_then : (os qs : List Occurrence) (outer others blocks more : List PlainStatements) (w v u : Walked) → Goes objects os outer blocks w v → Goes objects qs others more v u → Goes objects (os ++ qs) (outer ++ others) (blocks ++ more) w u
  goes_then os qs outer others blocks more w v u g h =
      let far : length v.occurrences ≡ length w.occurrences + length os = ap length g.occurrences_are ∙ length-append w.occurrences os in
      let near : length w.occurrences ≡ length w.occurrences + length {A = Occurrence} [] = omega arith in
      let seen : (parts : List PlainStatements) → List (List Occurrence) = map (occurrences_in_statements objects) in
      record {
        occurrences_are = chained w.occurrences v.occurrences u.occurrences os qs g.occurrences_are h.occurrences_are;
        nested = g.nested ++ h.nested;
        nested_are = chained w.nested v.nested u.nested g.nested h.nested g.nested_are h.nested_are;
        stand = subst (AllStand (length w.occurrences) (os ++ qs) (g.nested ++ h.nested)) (sym (map-append (occurrences_in_statements objects) outer others))
            (all_append (length w.occurrences) (os ++ qs) g.nested h.nested (seen outer) (seen others)
            (all_wider (length w.occurrences) [] os qs (length w.occurrences) g.nested (seen outer) near g.stand)
            (subst (λ l. AllStand (length w.occurrences) (os ++ l) h.nested (seen others)) (append-nil qs) (all_wider (length w.occurrences) os qs [] (length v.occurrences) h.nested (seen others) far h.stand)));
        rises = rises_append (length w.occurrences) g.nested (length w.occurrences + length os) h.nested (length w.occurrences + length (os ++ qs)) g.rises
            (let total : length v.occurrences + length qs ≡ length w.occurrences + length (os ++ qs) = omega (arith, far, length-append os qs) in
            subst (λ n. Rises n h.nested (length w.occurrences + length (os ++ qs))) far (subst (Rises (length v.occurrences) h.nested) total h.rises));
        left = g.left ++ h.left;
        left_are = chained w.blocks v.blocks u.blocks g.left h.left g.left_are h.left_are;
        are = blocks_append objects (length w.occurrences) (os ++ qs) g.left h.left blocks more
            (blocks_wider objects (length w.occurrences) [] os qs (length w.occurrences) g.left blocks near g.are)
            (subst (λ l. AreBlocks objects (length w.occurrences) (os ++ l) h.left more) (append-nil qs) (blocks_wider objects (length w.occurrences) os qs [] (length v.occurrences) h.left more far h.are));
      }

  -- ## Loops and blocks

  pub goes_loop : (os : List Occurrence) (outer blocks : List PlainStatements) (w v : Walked) → Goes objects os outer blocks (entered w) v → Goes objects os [] blocks w (left_loop w v)
  goes_loop os outer blocks w v g = record {
    occurrences_are = g.occurrences_are;
    nested = [];
    nested_are = sym (append-nil w.nested);
    stand = tt;
    rises = omega arith;
    left = g.left;
    left_are = g.left_are;
    are = g.are;
  }

  known : (os : List Occurrence) (items : PlainStatements) (blocks : List PlainStatements) (w v : Walked) → w.nested ≡ [] → Goes objects os (outermost_among items) blocks w v
      → IsBlock objects (length w.occurrences) os (record { declared = declared_among items; nested = v.nested }) items
  known os items blocks w v none g =
      let same : g.nested ≡ v.nested = sym (g.nested_are ∙ ap (λ l. l ++ g.nested) none) in
      record {
        declared = refl;
        stand = subst (λ ts. AllStand (length w.occurrences) os ts (map (occurrences_in_statements objects) (outermost_among items))) same g.stand;
        from = length w.occurrences;
        to = length w.occurrences + length os;
        rises = subst (λ ts. Rises (length w.occurrences) ts (length w.occurrences + length os)) same g.rises;
      }

  pub goes_noted : (os : List Occurrence) (items : PlainStatements) (blocks : List PlainStatements) (w v : Walked) → w.nested ≡ [] → Goes objects os (outermost_among items) blocks w v
      → Goes objects os (outermost_among items) (blocks ++ items ∷ []) w (noted (declared_among items) v)
  goes_noted os items blocks w v none g = record {
    occurrences_are = g.occurrences_are;
    nested = g.nested;
    nested_are = g.nested_are;
    stand = g.stand;
    rises = g.rises;
    left = g.left ++ record { declared = declared_among items; nested = v.nested } ∷ [];
    left_are = ap (λ l. l ++ record { declared = declared_among items; nested = v.nested } ∷ []) g.left_are ∙ append_assoc w.blocks g.left (record { declared = declared_among items; nested = v.nested } ∷ []);
    are = blocks_append objects (length w.occurrences) os g.left (record { declared = declared_among items; nested = v.nested } ∷ []) blocks (items ∷ []) g.are (known os items blocks w v none g, tt);
  }

  pub goes_block : (items : PlainStatements) (blocks : List PlainStatements) (w v : Walked) → Goes objects (occurrences_in_statements objects items) (outermost_among items) blocks (entered w) v
      → Goes objects (occurrences_in_statements objects items) (items ∷ []) (blocks ++ items ∷ []) w (left_block (declared_among items) w v)
  goes_block items blocks w v g =
      let os : List Occurrence = occurrences_in_statements objects items in
      let noted' = goes_noted os items blocks (entered w) v refl g in
      let grown : length v.occurrences ≡ length w.occurrences + length os = ap length g.occurrences_are ∙ length-append w.occurrences os in
      record {
        occurrences_are = g.occurrences_are;
        nested = record { start = length w.occurrences; end = length v.occurrences } ∷ [];
        nested_are = refl;
        stand = (record { front = []; back = []; is = sym (append-nil os); starts = omega arith; ends = grown }, tt);
        rises = (omega arith, omega (arith, grown), omega (arith, grown));
        left = noted'.left;
        left_are = noted'.left_are;
        are = noted'.are;
      }

-- ## Statements

-- the parts of a loop whose body stands last
forward : (objects : List PlainObject) (first : PlainStatements) (test : Option PlainValue) (third : PlainStatements) (body : PlainStatement) (w : Walked)
    → ((w : Walked) → Goes objects (occurrences_in_statements objects first) (outermost_among first) (blocks_among first) w (walk_over_all objects first w))
    → ((w : Walked) → Goes objects (occurrences_in_statements objects third) (outermost_among third) (blocks_among third) w (walk_over_all objects third w))
    → ((w : Walked) → Goes objects (occurrences_in_statement objects body) (outermost_in body) (blocks_in body) w (walk_over objects body w))
    → Goes objects (in_text_order For (occurrences_in_statements objects first) (occurrences_in_maybe test) (occurrences_in_statements objects third) (occurrences_in_statement objects body)) [] (blocks_in_order For (blocks_among first) (blocks_among third) (blocks_in body))
    w (left_loop w (loop_walked For (walk_over_all objects first) (met (occurrences_in_maybe test)) (walk_over_all objects third) (walk_over objects body) (entered w)))
forward objects first test third body w f t b =
    let a : List Occurrence = occurrences_in_statements objects first in
    let m : List Occurrence = occurrences_in_maybe test in
    let c : List Occurrence = occurrences_in_statements objects third in
    let d : List Occurrence = occurrences_in_statement objects body in
    let one : Walked = walk_over_all objects first (entered w) in
    let two : Walked = met m one in
    let three : Walked = walk_over_all objects third two in
    let four : Walked = walk_over objects body three in
    goes_loop objects (a ++ (m ++ (c ++ d))) (outermost_among first ++ (outermost_among third ++ outermost_in body)) (blocks_among first ++ (blocks_among third ++ blocks_in body)) w four
    (goes_then objects a (m ++ (c ++ d)) (outermost_among first) (outermost_among third ++ outermost_in body) (blocks_among first) (blocks_among third ++ blocks_in body) (entered w) one four (f (entered w))
    (goes_then objects m (c ++ d) [] (outermost_among third ++ outermost_in body) [] (blocks_among third ++ blocks_in body) one two four (goes_met objects m one)
    (goes_then objects c d (outermost_among third) (outermost_in body) (blocks_among third) (blocks_in body) two three four (t two) (b three))))

-- the parts of a loop in text order
in_order : (objects : List PlainObject) (keyword : LoopKeyword) (first : PlainStatements) (test : Option PlainValue) (third : PlainStatements) (body : PlainStatement) (w : Walked)
    → ((w : Walked) → Goes objects (occurrences_in_statements objects first) (outermost_among first) (blocks_among first) w (walk_over_all objects first w))
    → ((w : Walked) → Goes objects (occurrences_in_statements objects third) (outermost_among third) (blocks_among third) w (walk_over_all objects third w))
    → ((w : Walked) → Goes objects (occurrences_in_statement objects body) (outermost_in body) (blocks_in body) w (walk_over objects body w))
    → Goes objects (in_text_order keyword (occurrences_in_statements objects first) (occurrences_in_maybe test) (occurrences_in_statements objects third) (occurrences_in_statement objects body)) [] (blocks_in_order keyword (blocks_among first) (blocks_among third) (blocks_in body))
    w (left_loop w (loop_walked keyword (walk_over_all objects first) (met (occurrences_in_maybe test)) (walk_over_all objects third) (walk_over objects body) (entered w)))
in_order objects While first test third body w f t b = forward objects first test third body w f t b
in_order objects For first test third body w f t b = forward objects first test third body w f t b
in_order objects Do first test third body w f t b =
    let a : List Occurrence = occurrences_in_statements objects first in
    let m : List Occurrence = occurrences_in_maybe test in
    let c : List Occurrence = occurrences_in_statements objects third in
    let d : List Occurrence = occurrences_in_statement objects body in
    let one : Walked = walk_over_all objects first (entered w) in
    let two : Walked = walk_over objects body one in
    let three : Walked = met m two in
    let four : Walked = walk_over_all objects third three in
    goes_loop objects (a ++ (d ++ (m ++ c))) (outermost_among first ++ (outermost_in body ++ outermost_among third)) (blocks_among first ++ (blocks_in body ++ blocks_among third)) w four
    (goes_then objects a (d ++ (m ++ c)) (outermost_among first) (outermost_in body ++ outermost_among third) (blocks_among first) (blocks_in body ++ blocks_among third) (entered w) one four (f (entered w))
    (goes_then objects d (m ++ c) (outermost_in body) (outermost_among third) (blocks_in body) (blocks_among third) one two four (b one)
    (goes_then objects m c [] (outermost_among third) [] (blocks_among third) two three four (goes_met objects m two) (t three))))

mutual
  pub goes_statement : (objects : List PlainObject) (s : PlainStatement) (w : Walked) → Goes objects (occurrences_in_statement objects s) (outermost_in s) (blocks_in s) w (walk_over objects s w)
  goes_statement objects (statement at f) w = goes_form objects f w

  goes_form : (objects : List PlainObject) (f : PlainStatementForm) (w : Walked) → Goes objects (occurrences_in_statement_form objects f) (outermost_in_form f) (blocks_in_form f) w (walk_over_form objects f w)
  goes_form objects (set p v) w = goes_met objects _ w
  goes_form objects (update kind op t p v) w = goes_met objects _ w
  goes_form objects (copy p q) w = goes_met objects _ w
  goes_form objects (evaluate v) w = goes_met objects _ w
  goes_form objects (asserts at v) w = goes_met objects _ w
  goes_form objects (declare n i) w = goes_met objects _ w
  goes_form objects (declare_static n) w = goes_met objects _ w
  goes_form objects (block ss) w = goes_block objects ss (blocks_among ss) w (walk_over_all objects ss (entered w)) (goes_statements objects ss (entered w))
  goes_form objects (if_then v s) w =
      let tested : Walked = met (occurrences_in_value true v) w in
      goes_then objects (occurrences_in_value true v) (occurrences_in_statement objects s) [] (outermost_in s) [] (blocks_in s) w tested (walk_over objects s tested)
      (goes_met objects (occurrences_in_value true v) w) (goes_statement objects s tested)
  goes_form objects (if_else v s t) w =
      let tested : Walked = met (occurrences_in_value true v) w in
      let first : Walked = walk_over objects s tested in
      goes_then objects (occurrences_in_value true v) (occurrences_in_statement objects s ++ occurrences_in_statement objects t) [] (outermost_in s ++ outermost_in t) [] (blocks_in s ++ blocks_in t) w tested (walk_over objects t first)
      (goes_met objects (occurrences_in_value true v) w)
      (goes_then objects (occurrences_in_statement objects s) (occurrences_in_statement objects t) (outermost_in s) (outermost_in t) (blocks_in s) (blocks_in t) tested first (walk_over objects t first)
      (goes_statement objects s tested) (goes_statement objects t first))
  goes_form objects (loop head first test third body) w = in_order objects head.keyword first test third body w
      (goes_statements objects first) (goes_statements objects third) (goes_statement objects body)
  goes_form objects (switch span v labels body) w =
      let tested : Walked = met (occurrences_in_value false v) w in
      goes_then objects (occurrences_in_value false v) (occurrences_in_statement objects body) [] (outermost_in body) [] (blocks_in body) w tested (walk_over objects body tested)
      (goes_met objects (occurrences_in_value false v) w) (goes_statement objects body tested)
  goes_form objects break w = goes_met objects _ w
  goes_form objects continue w = goes_met objects _ w
  goes_form objects (return span v) w = goes_met objects _ w
  goes_form objects empty w = goes_met objects _ w
  goes_form objects (mark kind) w = goes_met objects _ w

  pub goes_statements : (objects : List PlainObject) (ss : PlainStatements) (w : Walked) → Goes objects (occurrences_in_statements objects ss) (outermost_among ss) (blocks_among ss) w (walk_over_all objects ss w)
  goes_statements objects no_statements w = goes_nowhere objects w
  goes_statements objects (more_statements s rest) w =
      goes_then objects (occurrences_in_statement objects s) (occurrences_in_statements objects rest) (outermost_in s) (outermost_among rest) (blocks_in s) (blocks_among rest) w (walk_over objects s w) (walk_over_all objects rest (walk_over objects s w))
      (goes_statement objects s w) (goes_statements objects rest (walk_over objects s w))

-- ## A function

-- the occurrences of a function are passed, and its blocks are known
pub record Passes (objects : List PlainObject) (before : List Occurrence) (f : PlainFunction) : Type 0 where
  pub occurrences_are : (function_walked objects f.body before).occurrences ≡ before ++ occurrences_in_statements objects f.body
  pub are : AreBlocks objects (length before) (occurrences_in_statements objects f.body) (function_walked objects f.body before).blocks (blocks_of f)

pub passes : (objects : List PlainObject) (before : List Occurrence) (f : PlainFunction) → Passes objects before f
passes objects before f =
    let w : Walked = beginning before in
    let os : List Occurrence = occurrences_in_statements objects f.body in
    let g = goes_noted objects os f.body (blocks_among f.body) w (walk_over_all objects f.body w) refl (goes_statements objects f.body w) in
    record {
      occurrences_are = g.occurrences_are;
      are = subst (λ bs. AreBlocks objects (length before) os bs (blocks_of f)) (sym g.left_are) g.are;
    }
