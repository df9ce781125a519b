-- `desk::paper::put_length`: two numbers stored in front.
use Rattle.desk.proofs.PaperWriting.{front-set}
use Rattle.desk.proofs.paper.put_length.Goals as goal

pub returns : goal.returns
returns c = front-set c.args.out.now _ _ c.requires
