use Rattle.enet.proofs.Enet.+sends.Given as goal

abbrev pub decreases-sends : goal.decreases-sends
decreases-sends l = l.left
