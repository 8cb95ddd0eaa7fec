use Rattle.p10_check.proofs.kept.nothing_kept.Goals as goal

pub returns : goal.returns
returns c = record { loopless = c.no_funcs.ensures; told = c.no_lines.ensures }
