use Rattle.feasibility.proofs.explorer.Explorer.block.Given as goal

abbrev pub ghost-block : goal.ghost-block
ghost-block g a = g.of
