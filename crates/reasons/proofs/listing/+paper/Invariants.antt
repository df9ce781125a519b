use Rattle.reasons.proofs.listing.+paper.Given as goal

abbrev pub decreases-paper : goal.decreases-paper
decreases-paper l = l.m
