-- Where a line stands among conditionals, as the code keeps it: of those that are open only the one whose group is skipped.
use Rattle.std.specs.Prelude.{zero, suc, Bool, true, false}
use Rattle.p10_direct.specs.declared.mark.Mark.{Mark}
use Rattle.p10_direct.specs.declared.mark.Mark.TheVariants.{Opens, Elif, Else, Closes}
use Rattle.p10_expand.specs.declared.expansion.stand.Stand.{Stand}
use Rattle.p10_expand.specs.declared.expansion.stand.Stand.TheVariants.{Obeyed, Skipped}

-- whether a line with this mark is obeyed
abbrev pub is_obeyed : Stand → Mark → Bool
is_obeyed Obeyed Elif = false
is_obeyed Obeyed _ = true
is_obeyed (Skipped false zero) Elif = true
is_obeyed (Skipped chosen zero) Else = true
is_obeyed (Skipped chosen zero) Closes = true
is_obeyed (Skipped chosen inner) _ = false

-- where the line after one with this mark stands, whose condition holds or doesn't
abbrev pub stand_after : Stand → Mark → Bool → Stand
stand_after Obeyed Opens true = Obeyed
stand_after Obeyed Opens false = Skipped false 0
stand_after Obeyed Elif holds = Skipped true 0
stand_after Obeyed Else holds = Skipped true 0
stand_after Obeyed _ holds = Obeyed
stand_after (Skipped chosen inner) Opens holds = Skipped chosen (suc inner)
stand_after (Skipped false zero) Elif true = Obeyed
stand_after (Skipped false zero) Else holds = Obeyed
stand_after (Skipped chosen zero) Closes holds = Obeyed
stand_after (Skipped chosen (suc inner)) Closes holds = Skipped chosen inner
stand_after (Skipped chosen inner) _ holds = Skipped chosen inner
