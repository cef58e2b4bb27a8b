use Rattle.searched.proofs.searched.Searched.remove.Given as goal

abbrev pub ghost-retain : goal.ghost-retain
ghost-retain g a = g.test
