use Rattle.feasibility.proofs.explorer.Explorer.mark_list.Given as goal

abbrev pub ghost-block : goal.ghost-block
ghost-block g a = g.of

abbrev pub ghost-settle : goal.ghost-settle
ghost-settle g a = g.of
