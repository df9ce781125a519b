-- What is proved of the whole, for a reader who wants to know nothing else: a file for each demand, and one for what goes beyond them. Each law is stated whole
-- and is proved by the law of the crate that owns it.
pub mod EveryInput
pub mod Verdicts
pub mod Sessions
pub mod Beyond
use Rattle.demands.proofs.EveryInput.{text-taken, text-turned-back, cores-there, core-lost, file-taken, file-core-lost, model-refused, form-refused, call-refused, call-leaves, nothing-recorded}
use Rattle.demands.proofs.Verdicts.{some-verdict, one-verdict, accepted-exactly, accepted-first, faulty-none, missing-named, circle-faulty, verdict-first, verdict-heard, traces-to-try, weaker-models, only-operations}
use Rattle.demands.proofs.Sessions.{calls-afresh, contradicted-exactly, held-exactly, held-always, order-clears, waits-no-source, held-in-bytes}
use Rattle.demands.proofs.Beyond.{limit-undecided, limit-decided, limit-more, steps-by-hand, placed-set-short, cut-down-exactly, cut-verdict, cut-one-less, accepted-reasons, our-paper-accepted, our-paper-exactly, knot-none-left, words-equal-reads, reads-back, words_back, words-fit, run-has-sources, files-apart, machine-runs, buffers-in-turn}
