-- Each turn of the loop is one lemma of `Stepping`.
use Rattle.std.proofs.Common.{ℕ, List, length, arith, refl, sym, ap, subst, map}
use Rattle.std.proofs.lemmas.List.{length-map}
use Rattle.std.proofs.lemmas.Result.{err_from_is_err_and}
use Rattle.p10_lex.specs.Pieces.{State}
use Rattle.p10_lex.proofs.Stepping.{Continues, front_from, is_nil, space_turn, next_turn, refused_turn, full_turn, last_turn, same_state}
use Rattle.p10_lex.proofs.words.words_in.Goals as goal
use Rattle.p10_base.specs.Words.{plain_word}

pub slice_bounds-here-count : goal.slice_bounds-here-count
slice_bounds-here-count c =
    let front = front_from _ c.loop-rest.line _ c.loop-rest.rest.now _ c.is_include.ensures c.cut_at-piece.ensures c.loop-rest-test.ensures in
    omega (arith, front.some)

pub returns-in-Some-fault_at : goal.returns-in-Some-fault_at
returns-in-Some-fault_at c =
    let s : State = record { place = c.loop-rest.place; line = c.loop-rest.line; tight = c.loop-rest.tight } in
    let front = front_from _ c.loop-rest.line _ c.loop-rest.rest.now _ c.is_include.ensures c.cut_at-piece.ensures c.loop-rest-test.ensures in
    refused_turn c.args.file c.args.text.now (map plain_word c.loop-rest.words.items) s c.cut_at-piece.result.0 c.loop-rest.rest.now
    c.cut_at-piece.result.1.now c.in-Some-fault_at.fault c.refused.result c.loop-rest.invariant.bytes
    (omega (arith, length-map c.loop-rest.words.items plain_word, c.loop-rest.words.ok.0)) c.loop-rest.invariant.gives front
    (sym c.in-Some-fault_at.ensures.value) c.refused.ensures

pub returns-in_err-add_word : goal.returns-in_err-add_word
returns-in_err-add_word c =
    let s : State = record { place = c.loop-rest.place; line = c.loop-rest.line; tight = c.loop-rest.tight } in
    let front = front_from _ c.loop-rest.line _ c.loop-rest.rest.now _ c.is_include.ensures c.cut_at-piece.ensures c.loop-rest-test.ensures in
    let p = err_from_is_err_and c.from_residual.result c.from_residual.ensures.1 in
    rw (p.1, p.2) (full_turn c.args.file c.args.text.now (map plain_word c.loop-rest.words.items) s c.cut_at-piece.result.0 c.loop-rest.rest.now
    c.cut_at-piece.result.1.now c.in_err-add_word.field-0.0 c.loop-rest.invariant.bytes c.loop-rest.invariant.gives front
    (sym c.in_default-fault_at.ensures.value) c.in_err-add_word.ensures.full)

pub loop-rest-smaller : goal.loop-rest-smaller
loop-rest-smaller c =
    let front = front_from _ c.loop-rest.line _ c.loop-rest.rest.now _ c.is_include.ensures c.cut_at-piece.ensures c.loop-rest-test.ensures in
    front.some

pub loop-rest-preserved-in-Some : goal.loop-rest-preserved-in-Some
loop-rest-preserved-in-Some c =
    let after = c.in-Some.ensures in record {
      places = omega (arith, ap (λ (bytes : List ℕ). length bytes) after);
      bytes = c.loop-rest.invariant.bytes;
      count = c.loop-rest.invariant.count;
      gives = space_turn c.args.file c.args.text.now (map plain_word c.loop-rest.words.items)
          (record { place = c.loop-rest.place; line = c.loop-rest.line; tight = c.loop-rest.tight }) _ c.in-Some.more.now
          (subst (λ (bytes : List ℕ). Continues c.args.file c.args.text.now (map plain_word c.loop-rest.words.items)
          (record { place = c.loop-rest.place; line = c.loop-rest.line; tight = c.loop-rest.tight }) bytes) after c.loop-rest.invariant.gives) refl;
    }

pub loop-rest-preserved : goal.loop-rest-preserved
loop-rest-preserved c =
    let s : State = record { place = c.loop-rest.place; line = c.loop-rest.line; tight = c.loop-rest.tight } in
    let front = front_from _ c.loop-rest.line _ c.loop-rest.rest.now _ c.is_include.ensures c.cut_at-piece.ensures c.loop-rest-test.ensures in
    record {
      places = omega (arith, front.shorter);
      bytes = c.loop-rest.invariant.bytes;
      count = c.in_ok-add_word.ensures.count c.loop-rest.invariant.count;
      gives = next_turn c.args.file c.args.text.now (map plain_word c.loop-rest.words.items) (map plain_word c.add_word.new.words.items) s _ c.cut_at-piece.result.0
          c.loop-rest.rest.now c.cut_at-piece.result.1.now c.loop-rest.invariant.gives front (sym c.in_default-fault_at.ensures.value)
          c.in_ok-add_word.ensures.added (same_state _ _ _ _ _ c.after-line.ensures c.tight_after-tight.ensures);
    }

pub returns : goal.returns
returns c =
    last_turn c.args.file c.args.text.now (map plain_word c.loop-rest.words.items) (record { place = c.loop-rest.place; line = c.loop-rest.line; tight = c.loop-rest.tight })
    c.loop-rest.rest.now c.loop-rest.invariant.bytes (omega (arith, length-map c.loop-rest.words.items plain_word, c.loop-rest.words.ok.0))
    c.loop-rest.invariant.gives (is_nil c.loop-rest.rest.now c.loop-rest-test.ensures)
