-- `machine::cores::alone`.
use Rattle.machine.proofs.cores.alone.Goals as goal

pub returns : goal.returns
returns c = cc
