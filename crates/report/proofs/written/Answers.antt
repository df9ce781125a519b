-- `report::written`: what the reader answers, in lines.
use mathlib.Core.Path.{◌∙◌}
use native.Mathlib.Omega.{arith}
use Rattle.report.proofs.Answered.{answer-good, answer-refused, answer-lost}
use Rattle.report.proofs.written.Goals as goal

pub returns-in-Good : goal.returns-in-Good
returns-in-Good c = let l = c.put_models.ensures in
    record {
      out = l.out;
      prints = answer-good c.args.text.now c.read_whole-reading.result c.read_whole-reading.ensures c.in-Good.is l.out l.lines;
      wrote = l.wrote;
      within = l.within;
    }

pub returns-in-Refused : goal.returns-in-Refused
returns-in-Refused c = record {
  out = _;
  prints = answer-refused c.args.text.now c.read_whole-reading.result c.read_whole-reading.ensures _ c.wide.result _ c.in-Refused.is (c.wide.ensures ∙ c.number.ensures);
  wrote = c.put_refusal.ensures.0;
  within = omega (arith, c.put_refusal.ensures.1);
}

pub returns-in-Lost : goal.returns-in-Lost
returns-in-Lost c = record {
  out = _;
  prints = answer-lost c.args.text.now c.read_whole-reading.result c.read_whole-reading.ensures c.wide-in-Lost.result c.in-Lost.is c.wide-in-Lost.ensures;
  wrote = c.put_refusal-in-Lost.ensures.0;
  within = omega (arith, c.put_refusal-in-Lost.ensures.1);
}
