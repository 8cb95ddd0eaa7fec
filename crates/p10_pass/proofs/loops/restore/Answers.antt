use Rattle.std.proofs.Common.{◌≡◌, ◌≤◌, ◌∙◌, ℕ, Bool, map, length, arith}
use Rattle.std.specs.Option.{option_map}
use Rattle.std.proofs.lemmas.List.{length-map}
use Rattle.p10_core.specs.Views.{plain_variable, plain_statement}
use Rattle.p10_pass.specs.Scopes.{assigns, offsets_restored}
use Rattle.p10_pass.specs.Leaving.{values_in, left_of}
use Rattle.p10_pass.proofs.Restoring.{end_restored}
use Rattle.p10_pass.proofs.loops.restore.Goals as goal

pub returns : goal.returns
returns c =
    let test : ℕ → Bool = λ n. assigns n (plain_statement c.args.s.now) in
    let few : length (map plain_variable c.args.m.now.variables.now) ≤ length c.args.m.now.variables.now = omega (arith, length-map c.args.m.now.variables.now plain_variable) in
    let exits : values_in c.restore_end.new.end ≡ option_map (offsets_restored test c.args.entry.now.values (map plain_variable c.args.m.now.variables.now)) (values_in c.args.round.now.exits) =
    c.in_ok-restore_end.ensures ∙ end_restored test c.in_ok-marks.marks.items c.as_slice.result.now (length c.args.m.now.variables.now) c.args.entry.now.values (map plain_variable c.args.m.now.variables.now) (values_in c.args.round.now.exits)
    c.as_slice.ensures.value c.in_ok-marks.ensures few in
    let returning : values_in c.restore_end-2.new.end ≡ option_map (offsets_restored test c.args.entry.now.values (map plain_variable c.args.m.now.variables.now)) (values_in c.args.round.now.body.returns) =
    c.in_ok-restore_end-2.ensures ∙ end_restored test c.in_ok-marks.marks.items c.as_slice-2.result.now (length c.args.m.now.variables.now) c.args.entry.now.values (map plain_variable c.args.m.now.variables.now) (values_in c.args.round.now.body.returns)
    c.as_slice-2.ensures.value c.in_ok-marks.ensures few in
    λ i. record {
      enters = values_in c.args.round.now.enters;
      back = values_in c.args.round.now.back;
      exits = exits i;
      body = record (left_of c.args.round.now.body) { returns = returning i };
      names = c.args.round.now.names.items;
    }
