-- The arguments of a use are counted from one comma to the next.
use Rattle.std.proofs.Common.{◌≡◌, ℕ, suc, ◌+◌, ◌<◌, ◌≤◌, ◌==◌, List, [], ◌∷◌, ◌++◌, length, ◌⊎◌, inl, inr, Bool, true, false, ◌&&◌, ◌||◌, cond, refl, sym, subst, ap, ◌∙◌, arith, append_assoc, length-append}
use Rattle.std.proofs.lemmas.Bool.Decides.{nat_tests}
use Rattle.p10_macros.specs.declared.pending.Pending.{Pending}
use Rattle.p10_macros.specs.declared.pending.Exits.{Exits}
use Rattle.p10_macros.specs.Uses.{closes, separates, depth_after}
use Rattle.p10_macros.specs.private.Links.{word_of, argument_end, call_end, commas, HasExits, IsLinked, exits_past, after_place}
use Rattle.p10_macros.proofs.Links.{separates_only, separates_no_end, as_deep, call_at_most, argument_at_most, is_same, not_above}

-- the first argument is the last one, or the others stand after the comma at this place
abbrev Parts : ℕ → ℕ → ℕ → List Pending → Type 0
Parts place call count behind = ((place ≡ call) × (count ≡ 0)) ⊎ ((0 < place) × (call ≡ call_end 0 behind) × (count ≡ suc (commas 0 behind)))

is_zero : (n : ℕ) → (n == 0) ≡ true → n ≡ 0
is_zero n e = grind (arith, nat_tests)

module _ (depth : ℕ) (pending : Pending) (items : List Pending)
    (again : (depth : ℕ) → 0 < call_end depth items → Parts (argument_end depth items) (call_end depth items) (commas depth items) (after_place items (argument_end depth items))) where
  abbrev PartsHere : Bool → Bool → Bool → Type 0
  PartsHere c s z =
      let place = cond ((c || s) && z) (length items + 1) (argument_end (depth_after depth (word_of pending)) items) in
      0 < cond (c && z) (length items + 1) (call_end (depth_after depth (word_of pending)) items) →
      Parts place (cond (c && z) (length items + 1) (call_end (depth_after depth (word_of pending)) items))
      (cond (c && z) 0 (cond (s && z) (suc (commas 0 items)) (commas (depth_after depth (word_of pending)) items))) (cond (place == length items + 1) items (after_place items place))

  -- no part ends at the word
  further : (deeper : ℕ) → 0 < call_end deeper items →
      Parts (argument_end deeper items) (call_end deeper items) (commas deeper items) (cond (argument_end deeper items == length items + 1) items (after_place items (argument_end deeper items)))
  further deeper more =
      subst (λ (b : Bool). Parts (argument_end deeper items) (call_end deeper items) (commas deeper items) (cond b items (after_place items (argument_end deeper items))))
      (sym (not_above (argument_end deeper items) (length items) (argument_at_most deeper items))) (again deeper more)

  comma : separates (word_of pending) ≡ true → (depth == 0) ≡ true → call_end (depth_after depth (word_of pending)) items ≡ call_end 0 items
  comma split flat =
      ap (λ (n : ℕ). call_end n items) (as_deep (word_of pending) depth (separates_only (word_of pending) split) (separates_no_end (word_of pending) split) ∙ is_zero depth flat)

  parts_by : (c s z : Bool) → separates (word_of pending) ≡ s → (depth == 0) ≡ z → PartsHere c s z
  parts_by true s true split flat more = inl (refl, refl)
  parts_by false true true split flat more =
      inr (
        omega arith,
        comma split flat ∙ ap (λ (b : Bool). call_end 0 (cond b items (after_place items (length items + 1)))) (sym (is_same (length items + 1))),
        ap (λ (b : Bool). suc (commas 0 (cond b items (after_place items (length items + 1))))) (sym (is_same (length items + 1))),
      )
  parts_by true true false split flat more = further (depth_after depth (word_of pending)) more
  parts_by true false false split flat more = further (depth_after depth (word_of pending)) more
  parts_by false true false split flat more = further (depth_after depth (word_of pending)) more
  parts_by false false true split flat more = further (depth_after depth (word_of pending)) more
  parts_by false false false split flat more = further (depth_after depth (word_of pending)) more

parts : (depth : ℕ) (items : List Pending) → 0 < call_end depth items → Parts (argument_end depth items) (call_end depth items) (commas depth items) (after_place items (argument_end depth items))
parts depth [] more = absurd (omega arith)
parts depth (pending ∷ items) more =
    parts_by depth pending items (λ d m. parts d items m) (closes (word_of pending)) (separates (word_of pending)) (depth == 0) refl refl more

-- ## Words after others

-- they are the last of them
pub record IsBehind (all rest : List Pending) : Type 0 where
  pub front : List Pending
  pub is : all ≡ front ++ rest

behind_all : (all : List Pending) → IsBehind all all
behind_all all = record { front = []; is = refl }

behind_more : (all middle rest : List Pending) → IsBehind all middle → IsBehind middle rest → IsBehind all rest
behind_more all middle rest these those =
    record { front = these.front ++ those.front; is = these.is ∙ ap (λ (l : List Pending). these.front ++ l) those.is ∙ sym (append_assoc these.front those.front rest) }

behind_one : (pending : Pending) (items rest : List Pending) → IsBehind items rest → IsBehind (pending ∷ items) rest
behind_one pending items rest these = record { front = pending ∷ these.front; is = ap (λ (l : List Pending). pending ∷ l) these.is }

stand_behind : (items : List Pending) (place : ℕ) → IsBehind items (after_place items place)
stand_behind [] place = behind_all []
stand_behind (pending ∷ items) place = by_test pending items place (place == length items + 1) (stand_behind items place)
  where
    by_test : (p : Pending) (l : List Pending) (n : ℕ) (b : Bool) → IsBehind l (after_place l n) → IsBehind (p ∷ l) (cond b l (after_place l n))
    by_test p l n true those = behind_one p l l (behind_all l)
    by_test p l n false those = behind_one p l (after_place l n) those

in_front_of : (front rest : List Pending) (place : ℕ) → place ≤ length rest → after_place (front ++ rest) place ≡ after_place rest place
in_front_of [] rest place less = refl
in_front_of (pending ∷ front) rest place less =
    ap (λ (b : Bool). cond b (front ++ rest) (after_place (front ++ rest) place)) (not_above place (length (front ++ rest)) (omega (arith, length-append front rest)))
    ∙ in_front_of front rest place less

behind_same : (all rest : List Pending) (place : ℕ) → IsBehind all rest → place ≤ length rest → after_place all place ≡ after_place rest place
behind_same all rest place behind less = ap (λ (l : List Pending). after_place l place) behind.is ∙ in_front_of behind.front rest place less

fewer_behind : (items : List Pending) (place : ℕ) → 0 < place → length (after_place items place) < place
fewer_behind [] place more = more
fewer_behind (pending ∷ items) place more = by_test (place == length items + 1) refl (fewer_behind items place more)
  where
    by_test : (b : Bool) → (place == length items + 1) ≡ b → length (after_place items place) < place → length (cond b items (after_place items place)) < place
    by_test true e less = let same : place ≡ length items + 1 = grind (arith, nat_tests) in omega (arith, same)
    by_test false e less = less

-- ## Counting

-- `count` arguments were counted, and the next ends at this place
pub record IsCounting (all : List Pending) (call place count : ℕ) : Type 0 where
  pub rest : List Pending
  pub behind : IsBehind all rest
  pub argument : place ≡ argument_end 0 rest
  pub closed : call ≡ call_end 0 rest
  pub counted : count + commas 0 rest ≡ commas 0 all + 1
  pub few : count + length rest ≤ length all + 1

pub counting_begun : (all : List Pending) (exits : Exits) → HasExits exits all → IsCounting all exits.call exits.argument 1
counting_begun all exits has = record { rest = all; behind = behind_all all; argument = has.argument; closed = has.call; counted = omega arith; few = omega arith }

module _ (all : List Pending) (call place count : ℕ) (some : 0 < call) (counting : IsCounting all call place count) where
  abbrev rest : List Pending
  rest = counting.rest

  parted : Parts (argument_end 0 rest) (call_end 0 rest) (commas 0 rest) (after_place rest (argument_end 0 rest))
  parted = parts 0 rest (subst (λ (n : ℕ). 0 < n) counting.closed some)

  -- the place is that of a word
  pub place_within : (place ≡ call → ⊥) → (0 < place) × (place ≤ length all)
  place_within other = by parted
    where
      by : Parts (argument_end 0 rest) (call_end 0 rest) (commas 0 rest) (after_place rest (argument_end 0 rest)) → (0 < place) × (place ≤ length all)
      by (inl (same, none)) = absurd (other (counting.argument ∙ same ∙ sym counting.closed))
      by (inr (more, closed, counted)) =
          (omega (arith, more, counting.argument), omega (arith, counting.argument, argument_at_most 0 rest, ap length counting.behind.is, length-append counting.behind.front rest))

  pub counting_done : place ≡ call → count ≡ commas 0 all + 1
  counting_done same = by parted
    where
      by : Parts (argument_end 0 rest) (call_end 0 rest) (commas 0 rest) (after_place rest (argument_end 0 rest)) → count ≡ commas 0 all + 1
      by (inl (equal, none)) = omega (arith, counting.counted, none)
      by (inr (more, closed, counted)) =
          absurd (omega (
            arith,
            more,
            same,
            counting.argument,
            counting.closed,
            closed,
            call_at_most 0 (after_place rest (argument_end 0 rest)),
            fewer_behind rest (argument_end 0 rest) more,
          ))

  pub counting_more : (place ≡ call → ⊥) → (exits : Exits) → exits ≡ exits_past all place → IsLinked all → IsCounting all call exits.argument (count + 1)
  counting_more other exits is linked = by parted
    where
      by : Parts (argument_end 0 rest) (call_end 0 rest) (commas 0 rest) (after_place rest (argument_end 0 rest)) → IsCounting all call exits.argument (count + 1)
      by (inl (same, none)) = absurd (other (counting.argument ∙ same ∙ sym counting.closed))
      by (inr (more, closed, counted)) =
          let next : List Pending = after_place rest (argument_end 0 rest) in
          let same : after_place all place ≡ next =
          behind_same all rest place counting.behind (omega (arith, counting.argument, argument_at_most 0 rest)) ∙ ap (λ (n : ℕ). after_place rest n) counting.argument in
          let has : HasExits (exits_past all place) (after_place all place) = linked place in
          record {
            rest = next;
            behind = behind_more all rest next counting.behind (stand_behind rest (argument_end 0 rest));
            argument = ap (λ (e : Exits). e.argument) is ∙ has.argument ∙ ap (λ (l : List Pending). argument_end 0 l) same;
            closed = counting.closed ∙ closed;
            counted = omega (arith, counting.counted, counted);
            few = omega (arith, counting.few, fewer_behind rest (argument_end 0 rest) more, argument_at_most 0 rest);
          }

  -- the next comma or `)` stands after this place
  pub next_place : (place ≡ call → ⊥) → (exits : Exits) → exits ≡ exits_past all place → IsLinked all → exits.argument < place
  next_place other exits is linked =
      let (more, less) = place_within other in
      omega (arith, ap (λ (e : Exits). e.argument) is, (linked place).argument, argument_at_most 0 (after_place all place), fewer_behind all place more)
