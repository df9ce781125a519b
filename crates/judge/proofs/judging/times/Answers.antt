-- `judge::judging::times`: as many places pass the test as the number stands in.
use Rattle.std.proofs.Common.{rules, ◌≡◌, count_by, ◌==◌}
use mathlib.Core.Path.{◌∙◌}
use Rattle.judge.proofs.Walked.{counted}
use Rattle.judge.proofs.judging.times.Goals as goal

pub returns : goal.returns
returns c =
    let p : c.count.result ≡ count_by (λ y. c.args.x == y) c.args.list.now = search rules in
    p ∙ counted c.args.x c.args.list.now
