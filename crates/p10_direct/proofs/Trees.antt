-- The words of a condition are read as that condition, and as no other.
use Rattle.std.proofs.Common.{◌≡◌, ℕ, ◌-◌, ◌<◌, ◌≤◌, zero, suc, max, List, [], ◌∷◌, drop, Bool, true, false, cond, codes, refl, sym, ◌∙◌, ap, subst, arith, Option, Some, None, option_map, option_and_then}
use Rattle.std.proofs.lemmas.Option.{none-some, same_Some, cond_some}
use Rattle.p10_int.specs.declared.operators.UnOp.{UnOp}
use Rattle.p10_int.specs.declared.operators.BinOp.TheVariants.{Add, Sub, Mul, Div, Rem, Shl, Shr, And, Or, Xor, Lt, Gt, Le, Ge, Eq, Ne}
use Rattle.p10_direct.specs.declared.operator.Binary.{Binary}
use Rattle.p10_direct.specs.declared.operator.Binary.TheVariants.{Apply, AndAlso, OrElse}
use Rattle.p10_direct.specs.Tokens.{Token, sign_token}
use Rattle.p10_direct.specs.private.Signs.{is_mark, sign_of}
use Rattle.p10_direct.specs.Operators.{sign_text, binary_text, level_of_binary}
use Rattle.p10_direct.specs.Constants.{Constant, constant_of}
use Rattle.p10_direct.specs.Conditions.{Condition, Single, Grouped, Applied, Joined, Chosen, level_of, spell, IsFormed, depth_of}
use Rattle.p10_direct.specs.private.Climbing.{Algebra, Found, Reader, Group, Lone, lone_or_nothing, sign_or_lone, heads, operator_at, closed, signed, begun, operand, both_sides, kept, chained, ends_here, chain, three_parts, second_branch, choice, ended, behind_left, climb}
use Rattle.p10_direct.proofs.Marks.{sign_again, close_no_operator, question_no_operator, colon_no_operator, lone_again, mark_is, heads_is, sign_is, binary_low, operator_there, operator_low, operator_is, operator_higher, operator_eleven, operator_bound}
use Rattle.p10_direct.proofs.Climbs.{then_some, kept_shallow, kept_some, left_end, left_step, climb_suc, climb_zero}

depth_some : (t : Condition) → 1 ≤ depth_of t
depth_some (Single token constant) = omega arith
depth_some (Grouped inner) = omega arith
depth_some (Applied op inner) = omega arith
depth_some (Joined op left right) = omega arith
depth_some (Chosen test first second) = omega arith

binary_some : (op : Binary) → 1 ≤ level_of_binary op
binary_some AndAlso = omega arith
binary_some OrElse = omega arith
binary_some (Apply Add) = omega arith
binary_some (Apply Sub) = omega arith
binary_some (Apply Mul) = omega arith
binary_some (Apply Div) = omega arith
binary_some (Apply Rem) = omega arith
binary_some (Apply Shl) = omega arith
binary_some (Apply Shr) = omega arith
binary_some (Apply And) = omega arith
binary_some (Apply Or) = omega arith
binary_some (Apply Xor) = omega arith
binary_some (Apply Lt) = omega arith
binary_some (Apply Gt) = omega arith
binary_some (Apply Le) = omega arith
binary_some (Apply Ge) = omega arith
binary_some (Apply Eq) = omega arith
binary_some (Apply Ne) = omega arith

cond_some_option : {B : Type 0} (b : Bool) (o : Option B) (y : B) → cond b o None ≡ Some y → (b ≡ true) × (o ≡ Some y)
cond_some_option true o y e = (refl, e)
cond_some_option false o y e = absurd (none-some y e)

module _ {A : Type 0} (algebra : Algebra A) where
  abbrev pub fold : Condition → A
  fold (Single token constant) = algebra.single token constant
  fold (Grouped inner) = algebra.grouped (fold inner)
  fold (Applied op inner) = algebra.apply op (fold inner)
  fold (Joined op left right) = algebra.join op (fold left) (fold right)
  fold (Chosen test first second) = algebra.choose (fold test) (fold first) (fold second)

  -- what is to be found of a condition with these words after it
  abbrev pub result : Condition → List Token → Found A
  result t rest = record { what = fold t; depth = depth_of t; rest = rest }

  -- ## What is spelled is read

  abbrev Left : Condition → Type 0
  Left t = (b level : ℕ) (rest : List Token) → depth_of t ≤ suc b → level ≤ level_of t → operator_at (suc (level_of t)) rest ≡ None
      → option_and_then (behind_left algebra (suc b) level (climb algebra b)) (operand algebra (climb algebra b) (spell t rest)) ≡ behind_left algebra (suc b) level (climb algebra b) (result t rest)

  abbrev Full : Condition → Type 0
  Full t = (b level : ℕ) (rest : List Token) → depth_of t ≤ b → level ≤ level_of t → operator_at level rest ≡ None → (level ≡ 0 → heads (codes "?") rest ≡ false)
      → climb algebra b level (spell t rest) ≡ Some (result t rest)

  record Laws (t : Condition) : Type 0 where
    left : 1 ≤ level_of t → Left t
    full : Full t

  ends_there : (b level : ℕ) (f : Found A) → (level ≡ 0 → heads (codes "?") f.rest ≡ false) → ended algebra (suc b) level (climb algebra b) f ≡ Some f
  ends_there b zero f no_question = ap (λ h. cond h (option_and_then (second_branch algebra (suc b) (climb algebra b) f) (climb algebra b 0 (drop 1 f.rest))) (Some f)) (no_question refl)
  ends_there b (suc level) f no_question = refl

  full_of : (t : Condition) → Left t → Full t
  full_of t left zero level rest deep high ends no_question = let d = depth_some t in absurd (omega arith)
  full_of t left (suc b) level rest deep high ends no_question =
      climb_suc algebra b level (spell t rest)
      ∙ left b level rest deep high (operator_higher level (suc (level_of t)) rest (omega arith) ends)
      ∙ left_end algebra (suc b) level (climb algebra b) (result t rest) ends
      ∙ ends_there b level (result t rest) no_question

  never_zero : (level : ℕ) (P : Type 0) → suc level ≡ 0 → P
  never_zero level P e = absurd (omega (arith, e))

  single_left : (token : Token) (constant : Constant) → constant_of token ≡ Some constant → Left (Single token constant)
  single_left token constant is b level rest deep high ends =
      ap (λ s. option_and_then (behind_left algebra (suc b) level (climb algebra b)) (begun algebra (climb algebra b) token s rest)) (lone_again token constant is)

  grouped_left : (inner : Condition) → Full inner → Left (Grouped inner)
  grouped_left inner full b level rest deep high ends =
      ap (λ o. option_and_then (behind_left algebra (suc b) level (climb algebra b)) (option_and_then (closed algebra) o))
      (full b 0 (sign_token (codes ")") ∷ rest) (omega arith) (omega arith) (close_no_operator 0 rest) (λ zero. refl))

  applied_left : (op : UnOp) (inner : Condition) → Full inner → 11 ≤ level_of inner → Left (Applied op inner)
  applied_left op inner full tight b level rest deep high ends =
      ap (λ s. option_and_then (behind_left algebra (suc b) level (climb algebra b)) (begun algebra (climb algebra b) (sign_token (sign_text op)) s (spell inner rest))) (sign_again op)
      ∙ ap (λ o. option_and_then (behind_left algebra (suc b) level (climb algebra b)) (option_map (signed algebra op) o))
      (full b 11 rest (omega arith) tight (operator_eleven 11 rest (omega arith)) (λ e. never_zero 10 _ e))

  joined_left : (op : Binary) (l r : Condition) → Left l → Full r → level_of_binary op ≤ level_of l → level_of_binary op < level_of r → Left (Joined op l r)
  joined_left op l r left full first second b level rest deep high ends =
      let behind = sign_token (binary_text op) ∷ spell r rest in
      left b level behind (omega arith) (omega arith) (operator_low (suc (level_of l)) op (spell r rest) (omega arith))
      ∙ left_step algebra (suc b) level (climb algebra b) (result l behind) (result r rest) op
      (operator_there level op (spell r rest) high)
      (full b (suc (level_of_binary op)) rest (omega arith) second ends (λ e. never_zero (level_of_binary op) _ e))
      deep

  chosen_full : (test first second : Condition) → Left test → Full first → Full second → Full (Chosen test first second)
  chosen_full test first second left one two zero level rest deep high ends no_question = absurd (omega arith)
  chosen_full test first second left one two (suc b) (suc level) rest deep high ends no_question = absurd (omega arith)
  chosen_full test first second left one two (suc b) zero rest deep high ends no_question =
      let branches = spell first (sign_token (codes ":") ∷ spell second rest) in
      let behind = sign_token (codes "?") ∷ branches in
      climb_suc algebra b 0 (spell test behind)
      ∙ left b 0 behind (omega arith) (omega arith) (question_no_operator (suc (level_of test)) branches)
      ∙ left_end algebra (suc b) 0 (climb algebra b) (result test behind) (question_no_operator 0 branches)
      ∙ ap (option_and_then (second_branch algebra (suc b) (climb algebra b) (result test behind)))
      (one b 0 (sign_token (codes ":") ∷ spell second rest) (omega arith) (omega arith) (colon_no_operator 0 (spell second rest)) (λ zero. refl))
      ∙ ap (option_and_then (λ found. kept algebra (suc b) (λ f. Some f) (three_parts algebra (result test behind) (result first (sign_token (codes ":") ∷ spell second rest)) found)))
      (two b 0 rest (omega arith) (omega arith) ends no_question)
      ∙ kept_shallow algebra (suc b) (λ f. Some f) (result (Chosen test first second) rest) deep

  laws : (t : Condition) → IsFormed t → Laws t
  laws (Single token constant) is = let l = single_left token constant is in record { left = λ some. l; full = full_of (Single token constant) l }
  laws (Grouped inner) is = let l = grouped_left inner (laws inner is).full in record { left = λ some. l; full = full_of (Grouped inner) l }
  laws (Applied op inner) is = let l = applied_left op inner (laws inner is.0).full is.1 in record { left = λ some. l; full = full_of (Applied op inner) l }
  laws (Joined op l r) (left, right, first, second) =
      let b = binary_some op in
      let some : 1 ≤ level_of l = omega (arith, b, first) in
      let law = joined_left op l r ((laws l left).left some) (laws r right).full first second in
      record { left = λ some. law; full = full_of (Joined op l r) law }
  laws (Chosen test first second) (one, two, three, some) =
      record { left = λ none. absurd (omega (arith, none)); full = chosen_full test first second ((laws test one).left some) (laws first two).full (laws second three).full }

  pub climb_again : (t : Condition) (b : ℕ) → IsFormed t → depth_of t ≤ b → climb algebra b 0 (spell t []) ≡ Some (result t [])
  climb_again t b is deep = (laws t is).full b 0 [] deep (omega arith) refl (λ zero. refl)

  -- ## What is read is spelled

  -- a left operand: its words, and no tighter operator after it
  record IsLeft (level : ℕ) (tokens : List Token) (f : Found A) : Type 0 where
    tree : Condition
    formed : IsFormed tree
    spelled : tokens ≡ spell tree f.rest
    what_is : f.what ≡ fold tree
    depth_is : f.depth ≡ depth_of tree
    high : level ≤ level_of tree
    some : 1 ≤ level_of tree
    stops : operator_at (suc (level_of tree)) f.rest ≡ None

  pub record Took (level : ℕ) (tokens : List Token) (f : Found A) : Type 0 where
    pub tree : Condition
    pub formed : IsFormed tree
    pub spelled : tokens ≡ spell tree f.rest
    pub what_is : f.what ≡ fold tree
    pub depth_is : f.depth ≡ depth_of tree
    pub high : level ≤ level_of tree
    pub ends : operator_at level f.rest ≡ None

  abbrev Takes : Reader A → Type 0
  Takes inner = (level : ℕ) (tokens : List Token) (f : Found A) → level ≤ 11 → inner level tokens ≡ Some f → Took level tokens f

  to_found : (level : ℕ) (tokens : List Token) (made f : Found A) → made ≡ f → IsLeft level tokens made → IsLeft level tokens f
  to_found level tokens made f e left = subst (λ x. IsLeft level tokens x) e left

  closed_takes : (level : ℕ) (token : Token) (tokens : List Token) (inner f : Found A) → level ≤ 11 → is_mark (codes "(") token ≡ true → Took 0 tokens inner → closed algebra inner ≡ Some f → IsLeft level (token ∷ tokens) f
  closed_takes level token tokens inner f low opens took e =
      let parts = cond_some _ _ _ e in
      to_found level (token ∷ tokens) _ f parts.1 (record {
        tree = Grouped took.tree;
        formed = took.formed;
        spelled = ap (λ t. t ∷ tokens) (mark_is (codes "(") token opens) ∙ ap (λ ts. sign_token (codes "(") ∷ ts) (took.spelled ∙ ap (spell took.tree) (heads_is (codes ")") inner.rest parts.0));
        what_is = ap algebra.grouped took.what_is;
        depth_is = ap suc took.depth_is;
        high = low;
        some = omega arith;
        stops = operator_eleven 12 (drop 1 inner.rest) (omega arith);
      })

  signed_takes : (level : ℕ) (token : Token) (tokens : List Token) (op : UnOp) (o : Option (Found A)) (f : Found A) → level ≤ 11 → sign_of token ≡ Some op → ((g : Found A) → o ≡ Some g → Took 11 tokens g) → option_map (signed algebra op) o ≡ Some f → IsLeft level (token ∷ tokens) f
  signed_takes level token tokens op None f low is took e = absurd (none-some f e)
  signed_takes level token tokens op (Some g) f low is took e =
      let t = took g refl in
      to_found level (token ∷ tokens) (signed algebra op g) f (same_Some (signed algebra op g) f e) (record {
        tree = Applied op t.tree;
        formed = (t.formed, t.high);
        spelled = ap (λ x. x ∷ tokens) (sign_is token op is) ∙ ap (λ ts. sign_token (sign_text op) ∷ ts) t.spelled;
        what_is = ap (algebra.apply op) t.what_is;
        depth_is = ap suc t.depth_is;
        high = low;
        some = omega arith;
        stops = operator_eleven 12 g.rest (omega arith);
      })

  lone_takes : (level : ℕ) (token : Token) (tokens : List Token) (constant : Constant) (f : Found A) → level ≤ 11 → constant_of token ≡ Some constant → begun algebra (λ level tokens. None) token (Lone constant) tokens ≡ Some f → IsLeft level (token ∷ tokens) f
  lone_takes level token tokens constant f low is e =
      to_found level (token ∷ tokens) (result (Single token constant) tokens) f (same_Some (result (Single token constant) tokens) f e) (record {
        tree = Single token constant;
        formed = is;
        spelled = refl;
        what_is = refl;
        depth_is = refl;
        high = low;
        some = omega arith;
        stops = operator_eleven 12 tokens (omega arith);
      })

  operand_takes : (inner : Reader A) (level : ℕ) (tokens : List Token) (f : Found A) → Takes inner → level ≤ 11 → operand algebra inner tokens ≡ Some f → IsLeft level tokens f
  operand_takes inner level [] f takes low e = absurd (none-some f e)
  operand_takes inner level (token ∷ tokens) f takes low e =
      elim (is_mark (codes "(") token) as (λ b. is_mark (codes "(") token ≡ b → begun algebra inner token (cond b Group (sign_or_lone (sign_of token) (constant_of token))) tokens ≡ Some f → IsLeft level (token ∷ tokens) f) [
        | true ↦ λ opens e. then_some (closed algebra) (inner 0 tokens) f e (λ g is closes. closed_takes level token tokens g f low opens (takes 0 tokens g (omega arith) is) closes)
        | false ↦ λ plain e. elim (sign_of token) as (λ o. sign_of token ≡ o → begun algebra inner token (sign_or_lone o (constant_of token)) tokens ≡ Some f → IsLeft level (token ∷ tokens) f) [
          | Some op ↦ λ is e. signed_takes level token tokens op (inner 11 tokens) f low is (λ g found. takes 11 tokens g (omega arith) found) e
          | None ↦ λ no_sign e. elim (constant_of token) as (λ o. constant_of token ≡ o → begun algebra inner token (lone_or_nothing o) tokens ≡ Some f → IsLeft level (token ∷ tokens) f)
              [ Some constant ↦ λ is e. lone_takes level token tokens constant f low is e | None ↦ λ nothing e. absurd (none-some f e) ] refl e
        ] refl e
      ] refl e

  sides_take : (level : ℕ) (tokens : List Token) (left right : Found A) (op : Binary) → IsLeft level tokens left → operator_at level left.rest ≡ Some op → Took (suc (level_of_binary op)) (drop 1 left.rest) right → IsLeft level tokens (both_sides algebra op left right)
  sides_take level tokens left right op l there r =
      let is = operator_is level left.rest op there in
      record {
        tree = Joined op l.tree r.tree;
        formed = (l.formed, r.formed, operator_bound level (level_of l.tree) left.rest op there l.stops, r.high);
        spelled = l.spelled ∙ ap (spell l.tree) (is.0 ∙ ap (λ ts. sign_token (binary_text op) ∷ ts) r.spelled);
        what_is = ap (λ a. algebra.join op a right.what) l.what_is ∙ ap (algebra.join op (fold l.tree)) r.what_is;
        depth_is = ap (λ d. suc (max d right.depth)) l.depth_is ∙ ap (λ d. suc (max (depth_of l.tree) d)) r.depth_is;
        high = is.1;
        some = binary_some op;
        stops = r.ends;
      }

  -- a left operand after which no operator of the level stands
  record IsEnd (level : ℕ) (tokens : List Token) (f : Found A) : Type 0 where
    last : IsLeft level tokens f
    ends : operator_at level f.rest ≡ None

  end_found : (level : ℕ) (tokens : List Token) (left f : Found A) → IsLeft level tokens left → operator_at level left.rest ≡ None → left ≡ f → IsEnd level tokens f
  end_found level tokens left f l none e = subst (λ x. IsEnd level tokens x) e (record { last = l; ends = none })

  chain_takes : (n budget level : ℕ) (inner : Reader A) (tokens : List Token) (left f : Found A) → Takes inner → IsLeft level tokens left → chain algebra n budget level inner left ≡ Some f → IsEnd level tokens f
  chain_takes zero budget level inner tokens left f takes l e =
      elim (operator_at level left.rest) as (λ o. operator_at level left.rest ≡ o → ends_here algebra left o ≡ Some f → IsEnd level tokens f)
      [ None ↦ λ none e. end_found level tokens left f l none (same_Some left f e) | Some op ↦ λ there e. absurd (none-some f e) ] refl e
  chain_takes (suc n) budget level inner tokens left f takes l e =
      elim (operator_at level left.rest) as (λ o. operator_at level left.rest ≡ o → chained algebra budget (λ g. chain algebra n budget level inner g) inner left o ≡ Some f → IsEnd level tokens f) [
        | None ↦ λ none e. end_found level tokens left f l none (same_Some left f e)
        | Some op ↦ λ there e. then_some (λ right. kept algebra budget (λ g. chain algebra n budget level inner g) (both_sides algebra op left right)) (inner (suc (level_of_binary op)) (drop 1 left.rest)) f e
            (λ right is more.
            let go = kept_some algebra budget (λ g. chain algebra n budget level inner g) (both_sides algebra op left right) f more in
            chain_takes n budget level inner tokens (both_sides algebra op left right) f takes
            (sides_take level tokens left right op l there (takes (suc (level_of_binary op)) (drop 1 left.rest) right (omega (arith, binary_low op)) is)) go.1)
      ] refl e

  took_end : (level : ℕ) (tokens : List Token) (f : Found A) → IsEnd level tokens f → Took level tokens f
  took_end level tokens f end = record { tree = end.last.tree; formed = end.last.formed; spelled = end.last.spelled; what_is = end.last.what_is; depth_is = end.last.depth_is; high = end.last.high; ends = end.ends }

  branches_take : (tokens : List Token) (test first second : Found A) → IsEnd 0 tokens test → heads (codes "?") test.rest ≡ true → Took 0 (drop 1 test.rest) first → heads (codes ":") first.rest ≡ true → Took 0 (drop 1 first.rest) second → Took 0 tokens (three_parts algebra test first second)
  branches_take tokens test first second t question one colon two = record {
    tree = Chosen t.last.tree one.tree two.tree;
    formed = (t.last.formed, one.formed, two.formed, t.last.some);
    spelled = t.last.spelled ∙ ap (spell t.last.tree) (heads_is (codes "?") test.rest question ∙ ap (λ ts. sign_token (codes "?") ∷ ts)
        (one.spelled ∙ ap (spell one.tree) (heads_is (codes ":") first.rest colon ∙ ap (λ ts. sign_token (codes ":") ∷ ts) two.spelled)));
    what_is = ap (λ a. algebra.choose a first.what second.what) t.last.what_is ∙ ap (λ a. algebra.choose (fold t.last.tree) a second.what) one.what_is ∙ ap (algebra.choose (fold t.last.tree) (fold one.tree)) two.what_is;
    depth_is = ap (λ d. suc (max d (max first.depth second.depth))) t.last.depth_is ∙ ap (λ d. suc (max (depth_of t.last.tree) (max d second.depth))) one.depth_is ∙ ap (λ d. suc (max (depth_of t.last.tree) (max (depth_of one.tree) d))) two.depth_is;
    high = omega arith;
    ends = two.ends;
  }

  choice_takes : (budget : ℕ) (inner : Reader A) (tokens : List Token) (test f : Found A) → Takes inner → IsEnd 0 tokens test → choice algebra budget inner test ≡ Some f → Took 0 tokens f
  choice_takes budget inner tokens test f takes t e =
      elim (heads (codes "?") test.rest) as (λ b. heads (codes "?") test.rest ≡ b → cond b (option_and_then (second_branch algebra budget inner test) (inner 0 (drop 1 test.rest))) (Some test) ≡ Some f → Took 0 tokens f) [
        | true ↦ λ question e. then_some (second_branch algebra budget inner test) (inner 0 (drop 1 test.rest)) f e (λ first is more.
            let parts = cond_some_option (heads (codes ":") first.rest) _ f more in
            then_some (λ second. kept algebra budget (λ g. Some g) (three_parts algebra test first second)) (inner 0 (drop 1 first.rest)) f parts.1 (λ second found last.
            let shallow = kept_some algebra budget (λ g. Some g) (three_parts algebra test first second) f last in
            subst (λ x. Took 0 tokens x) (same_Some (three_parts algebra test first second) f shallow.1)
            (branches_take tokens test first second t question (takes 0 (drop 1 test.rest) first (omega arith) is) parts.0 (takes 0 (drop 1 first.rest) second (omega arith) found))))
        | false ↦ λ none e. subst (λ x. Took 0 tokens x) (same_Some test f e) (took_end 0 tokens test t)
      ] refl e

  ended_takes : (budget level : ℕ) (inner : Reader A) (tokens : List Token) (g f : Found A) → Takes inner → IsEnd level tokens g → ended algebra budget level inner g ≡ Some f → Took level tokens f
  ended_takes budget zero inner tokens g f takes end e = choice_takes budget inner tokens g f takes end e
  ended_takes budget (suc level) inner tokens g f takes end e = subst (λ x. Took (suc level) tokens x) (same_Some g f e) (took_end (suc level) tokens g end)

  pub climb_takes : (b level : ℕ) (tokens : List Token) (f : Found A) → level ≤ 11 → climb algebra b level tokens ≡ Some f → Took level tokens f
  climb_takes zero level tokens f low e = absurd (none-some f (sym (climb_zero algebra level tokens) ∙ e))
  climb_takes (suc b) level tokens f low e =
      let inner : Takes (climb algebra b) = λ level tokens f low e. climb_takes b level tokens f low e in
      then_some (behind_left algebra (suc b) level (climb algebra b)) (operand algebra (climb algebra b) tokens) f (sym (climb_suc algebra b level tokens) ∙ e) (λ left first more.
      then_some (ended algebra (suc b) level (climb algebra b)) (chain algebra (suc b - left.depth) (suc b) level (climb algebra b) left) f more (λ g chained last.
      ended_takes (suc b) level (climb algebra b) tokens g f inner
      (chain_takes (suc b - left.depth) (suc b) level (climb algebra b) tokens left g inner (operand_takes (climb algebra b) level tokens left inner low first) chained) last))
