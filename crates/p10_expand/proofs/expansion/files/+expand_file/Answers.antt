use Rattle.std.specs.Prelude.{vec_len}
use Rattle.std.proofs.Common.{[], ap, arith}
use Rattle.std.proofs.lemmas.Result.{err_from_is_err_and}
use Rattle.p10_direct.specs.declared.line.Line.{Line}
use Rattle.p10_direct.specs.declared.line.Line.TheVariants.{Text}
use Rattle.p10_expand.specs.Obeying.{RefusedBy}
use Rattle.p10_expand.specs.private.Steps.{state_of, file_of}
use Rattle.p10_expand.proofs.Including.{lines_begin}
use Rattle.p10_expand.proofs.Walking.{after_ordered, cut_at, count_here, count_fails, file_begins, lines_done, stops, goes_on, too_deep, within_stops, within_goes, fails, within_fails}
use Rattle.p10_expand.proofs.InOrder.{file_in_order}
use Rattle.p10_expand.proofs.expansion.files.+expand_file.Goals as goal
use Rattle.p10_expand.proofs.expansion.files.+expand_file.Goals.{in-On, in-Enter+else-nested-eq0+in_ok-within-in-Enter+in-None}

abbrev other : Line
other = Text (record { ref_ptr = (0, 0); now = [] })

pub loop-place-init : goal.loop-place-init
loop-place-init t c =
    let cut = cut_at c.args.texts.now c.args.number c.index.result.now c.requires.stands c.requires.held c.index.ensures in
    let count = count_here c.args.texts.now c.args.number c.index-texts-number.result c.requires.stands c.requires.held c.index-texts-number.is in
    let lexed = c.requires.stands.words.lexed c.args.number c.requires.held in
    record {
      few = omega arith;
      ordered = file_in_order c.args.texts.now.sources.now c.args.number _ _ lexed (rw c.as_slice-line-items.ensures cut.cut_so);
      walks = rw c.as_slice-line-items.ensures (file_begins c.args.texts.now.sources.now c.args.nested c.args.number c.args.built_in (state_of c.args.state.now) (state_of c.count.new.state) _ _ _
          c.in_ok-count.ensures (omega (arith, c.len.ensures, ap vec_len c.index-texts-number.is, count)) lexed cut.cut_so);
    }

pub returns-in_err-count : goal.returns-in_err-count
returns-in_err-count t c =
    let p = err_from_is_err_and c.from_residual.result c.from_residual.ensures.1 in
    let count = count_here c.args.texts.now c.args.number c.index-texts-number.result c.requires.stands c.requires.held c.index-texts-number.is in
    let lexed = c.requires.stands.words.lexed c.args.number c.requires.held in
    rw (p.1, p.2) (count_fails c.args.texts.now.sources.now c.args.nested c.args.number c.args.built_in (state_of c.args.state.now) _ _ c.in_err-count.field-0.0 c.count.new.state
    (omega (arith, c.len.ensures, ap vec_len c.index-texts-number.is, count)) lexed c.in_err-count.ensures)

pub returns : goal.returns
returns t c =
    lines_done c.args.texts.now.sources.now c.args.nested (file_of (record { number = c.args.number; built_in = c.args.built_in; cut = c.index.result })) c.as_slice-line-items.result.now c.loop-place.place c.loop-place.stand (state_of c.loop-place.state) _
    (omega (arith, c.loop-place-test.false)) c.loop-place.invariant.walks

pub expand_line-requires-clause-balance : goal.expand_line-requires-clause-balance
expand_line-requires-clause-balance t c = (cut_at c.args.texts.now c.args.number c.index.result.now c.requires.stands c.requires.held c.index.ensures).unbalanced

pub expand_line-requires-clause-begins : goal.expand_line-requires-clause-begins
expand_line-requires-clause-begins t c =
    let cut = cut_at c.args.texts.now c.args.number c.index.result.now c.requires.stands c.requires.held c.index.ensures in
    rw c.as_slice-line-items.ensures (lines_begin c.index.result.now.lines _ cut.cut_so c.loop-place.place _ (rw c.as_slice-line-items.ensures at c.loop-place-test.true))

pub returns-in_err-holds : goal.returns-in_err-holds
returns-in_err-holds t c =
    let p = err_from_is_err_and c.from_residual-in_err-holds.result c.from_residual-in_err-holds.ensures.1 in
    rw (p.1, p.2) (fails c.args.texts.now.sources.now c.args.nested (file_of (record { number = c.args.number; built_in = c.args.built_in; cut = c.index.result })) c.as_slice-line-items.result.now c.loop-place.place other c.loop-place-test.true c.loop-place.stand (state_of c.loop-place.state) c.loop-place.invariant.ordered _ c.loop-place.invariant.walks _ c.part_of-part.ensures _ c.is_followed-obeyed.ensures
    c.in_err-holds.field-0.0 c.expand_line.new.state c.in_err-holds.ensures.gives)

pub returns-in-Refused : goal.returns-in-Refused
returns-in-Refused t c =
    stops c.args.texts.now.sources.now c.args.nested (file_of (record { number = c.args.number; built_in = c.args.built_in; cut = c.index.result })) c.as_slice-line-items.result.now c.loop-place.place other c.loop-place-test.true c.loop-place.stand (state_of c.loop-place.state) c.loop-place.invariant.ordered _ c.loop-place.invariant.walks _ c.part_of-part.ensures _ c.is_followed-obeyed.ensures
    (RefusedBy (state_of c.expand_line.new.state) c.in-Refused.refusal) (rw c.in-Refused.is at c.in_ok-holds.ensures.gives)

pub returns-then-nested-eq0 : goal.returns-then-nested-eq0
returns-then-nested-eq0 t c =
    too_deep c.args.texts.now.sources.now c.args.nested (file_of (record { number = c.args.number; built_in = c.args.built_in; cut = c.index.result })) c.as_slice-line-items.result.now c.loop-place.place other c.loop-place-test.true c.loop-place.stand (state_of c.loop-place.state) c.loop-place.invariant.ordered _ c.loop-place.invariant.walks _ c.part_of-part.ensures _ c.is_followed-obeyed.ensures
    c.in-Enter.number c.in-Enter.built_in (state_of c.expand_line.new.state) (rw c.in-Enter.is at c.in_ok-holds.ensures.gives) c.if-nested-eq0.true

pub returns-in_err-within-in-Enter : goal.returns-in_err-within-in-Enter
returns-in_err-within-in-Enter t c =
    let p = err_from_is_err_and c.from_residual-in_err-within-in-Enter.result c.from_residual-in_err-within-in-Enter.ensures.1 in
    rw (p.1, p.2) (within_fails c.args.texts.now.sources.now c.args.nested (file_of (record { number = c.args.number; built_in = c.args.built_in; cut = c.index.result })) c.as_slice-line-items.result.now c.loop-place.place other c.loop-place-test.true c.loop-place.stand (state_of c.loop-place.state) c.loop-place.invariant.ordered _ c.loop-place.invariant.walks _ c.part_of-part.ensures _ c.is_followed-obeyed.ensures
    c.in-Enter.number c.in-Enter.built_in (state_of c.expand_line.new.state) c.in_err-within-in-Enter.field-0.0 c.expand_file.new.state (rw c.in-Enter.is at c.in_ok-holds.ensures.gives) (omega (arith, c.if-nested-eq0.false)) c.in_err-within-in-Enter.ensures)

pub returns-in-Some : goal.returns-in-Some
returns-in-Some t c =
    within_stops c.args.texts.now.sources.now c.args.nested (file_of (record { number = c.args.number; built_in = c.args.built_in; cut = c.index.result })) c.as_slice-line-items.result.now c.loop-place.place other c.loop-place-test.true c.loop-place.stand (state_of c.loop-place.state) c.loop-place.invariant.ordered _ c.loop-place.invariant.walks _ c.part_of-part.ensures _ c.is_followed-obeyed.ensures
    c.in-Enter.number c.in-Enter.built_in (state_of c.expand_line.new.state) (RefusedBy (state_of c.expand_file.new.state) c.in-Some.refusal) (rw c.in-Enter.is at c.in_ok-holds.ensures.gives) (omega (arith, c.if-nested-eq0.false)) (rw c.in-Some.is at c.in_ok-within-in-Enter.ensures)

pub loop-place-preserved : goal.loop-place-preserved
loop-place-preserved t c = elim c.match-branch-3.branch [
  | in-On w ↦ record {
    few = rw w.stand-is (omega (arith, w.after-stand.ensures.few, c.loop-place.invariant.few));
    ordered = after_ordered c.as_slice-line-items.result.now c.loop-place.place other c.loop-place-test.true c.loop-place.invariant.ordered;
    walks = rw (w.state-is, w.stand-is) (goes_on c.args.texts.now.sources.now c.args.nested (file_of (record { number = c.args.number; built_in = c.args.built_in; cut = c.index.result })) c.as_slice-line-items.result.now c.loop-place.place other c.loop-place-test.true c.loop-place.stand (state_of c.loop-place.state) c.loop-place.invariant.ordered _ c.loop-place.invariant.walks _ c.part_of-part.ensures _ c.is_followed-obeyed.ensures
        w.in-On.holds (state_of c.expand_line.new.state) w.after-stand.result w.after-stand.ensures.value (rw w.in-On.is at c.in_ok-holds.ensures.gives));
  }
  | in-Enter+else-nested-eq0+in_ok-within-in-Enter+in-None w ↦ record {
    few = rw w.stand-is (omega (arith, w.after-stand-in-None.ensures.few, c.loop-place.invariant.few));
    ordered = after_ordered c.as_slice-line-items.result.now c.loop-place.place other c.loop-place-test.true c.loop-place.invariant.ordered;
    walks = rw (w.state-is, w.stand-is) (within_goes c.args.texts.now.sources.now c.args.nested (file_of (record { number = c.args.number; built_in = c.args.built_in; cut = c.index.result })) c.as_slice-line-items.result.now c.loop-place.place other c.loop-place-test.true c.loop-place.stand (state_of c.loop-place.state) c.loop-place.invariant.ordered _ c.loop-place.invariant.walks _ c.part_of-part.ensures _ c.is_followed-obeyed.ensures
        w.in-Enter.number w.in-Enter.built_in (state_of c.expand_line.new.state) (state_of w.expand_file.new.state) w.after-stand-in-None.result w.after-stand-in-None.ensures.value (rw w.in-Enter.is at c.in_ok-holds.ensures.gives) (omega (arith, w.if-nested-eq0.false)) (rw w.in-None.is at w.in_ok-within-in-Enter.ensures));
  }
]
