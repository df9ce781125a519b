-- `machine::cores::lands`.
use Rattle.machine.proofs.cores.lands.Goals as goal

pub returns : goal.returns
returns c = cc
