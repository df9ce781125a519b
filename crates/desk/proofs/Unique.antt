-- No second answer meets the contract of an entry.
--
--   ENTRY-settles == the contract settles what comes back
--   ENTRY-leaves  == and what the lent bytes hold
use mathlib.Core.Path.{sym, ◌∙◌}
use Rattle.laws.specs.Settles.{Settles, Leaves}
use Rattle.session.proofs.Forcing.{closings-some}
use Rattle.report.proofs.Unique.{reported-one}
use Rattle.desk.proofs.Spelling.{answered-one}
use Rattle.desk.proofs.Limiting.{limited-one}
use Rattle.desk.proofs.Judging.{judged-one}
use Rattle.desk.proofs.Papering.{papered-one}
use Rattle.desk.proofs.PaperWriting.{asked-one}
use Rattle.desk.proofs.Hosted.{run-one, replayed-one}
use Rattle.desk.proofs.Leaving.{smaller-one}
use Rattle.desk.proofs.Nightly.{nighted-one}
use Rattle.desk.proofs.texts.wheelotter_report.Reads as report
use Rattle.desk.proofs.texts.wheelotter_report.Kinds as report-kinds
use Rattle.desk.proofs.texts.wheelotter_number.Reads as number
use Rattle.desk.proofs.texts.wheelotter_number.Kinds as number-kinds
use Rattle.desk.proofs.texts.wheelotter_line.Reads as line
use Rattle.desk.proofs.texts.wheelotter_line.Kinds as line-kinds
use Rattle.desk.proofs.texts.wheelotter_start.Reads as start
use Rattle.desk.proofs.texts.wheelotter_start.Kinds as start-kinds
use Rattle.desk.proofs.texts.wheelotter_end.Reads as end
use Rattle.desk.proofs.texts.wheelotter_end.Kinds as end-kinds
use Rattle.desk.proofs.verdicts.wheelotter_verdict.Reads as verdict
use Rattle.desk.proofs.verdicts.wheelotter_verdict.Kinds as verdict-kinds
use Rattle.desk.proofs.limits.wheelotter_limited.Reads as limited
use Rattle.desk.proofs.limits.wheelotter_limited.Kinds as limited-kinds
use Rattle.desk.proofs.judgements.wheelotter_judge.Reads as judge
use Rattle.desk.proofs.judgements.wheelotter_judge.Kinds as judge-kinds
use Rattle.desk.proofs.paper.wheelotter_accepts.Reads as accepts
use Rattle.desk.proofs.paper.wheelotter_accepts.Kinds as accepts-kinds
use Rattle.desk.proofs.paper.wheelotter_paper.Reads as paper
use Rattle.desk.proofs.paper.wheelotter_paper.Kinds as paper-kinds
use Rattle.desk.proofs.runs.wheelotter_run.Reads as run
use Rattle.desk.proofs.runs.wheelotter_run.Kinds as run-kinds
use Rattle.desk.proofs.runs.wheelotter_steps.Reads as steps
use Rattle.desk.proofs.runs.wheelotter_steps.Kinds as steps-kinds
use Rattle.desk.proofs.cuts.wheelotter_smaller.Reads as smaller
use Rattle.desk.proofs.cuts.wheelotter_smaller.Kinds as smaller-kinds
use Rattle.desk.proofs.packs.wheelotter_pack.Reads as pack
use Rattle.desk.proofs.packs.wheelotter_pack.Kinds as pack-kinds
use Rattle.desk.proofs.packs.wheelotter_unpack.Reads as unpack
use Rattle.desk.proofs.packs.wheelotter_unpack.Kinds as unpack-kinds
use Rattle.desk.proofs.packs.wheelotter_file_number.Reads as file-number
use Rattle.desk.proofs.packs.wheelotter_file_number.Kinds as file-number-kinds
use Rattle.desk.proofs.packs.wheelotter_file_line.Reads as file-line
use Rattle.desk.proofs.packs.wheelotter_file_line.Kinds as file-line-kinds
use Rattle.desk.proofs.sessions.wheelotter_open.Reads as opens
use Rattle.desk.proofs.sessions.wheelotter_open.Kinds as open-kinds
use Rattle.desk.proofs.sessions.wheelotter_open_file.Reads as open-file
use Rattle.desk.proofs.sessions.wheelotter_open_file.Kinds as open-file-kinds
use Rattle.desk.proofs.sessions.wheelotter_suppose.Reads as suppose
use Rattle.desk.proofs.sessions.wheelotter_suppose.Kinds as suppose-kinds
use Rattle.desk.proofs.sessions.wheelotter_take_back.Reads as take_back
use Rattle.desk.proofs.sessions.wheelotter_take_back.Kinds as take-back-kinds
use Rattle.desk.proofs.sessions.wheelotter_ask.Reads as ask
use Rattle.desk.proofs.sessions.wheelotter_ask.Kinds as ask-kinds
use Rattle.desk.proofs.growing.wheelotter_add.Reads as add
use Rattle.desk.proofs.growing.wheelotter_add.Kinds as add-kinds
use Rattle.desk.proofs.growing.wheelotter_waiting.Reads as waiting
use Rattle.desk.proofs.growing.wheelotter_waiting.Kinds as waiting-kinds
use Rattle.desk.proofs.signatures.wheelotter_words.Reads as signed-words
use Rattle.desk.proofs.signatures.wheelotter_words.Kinds as signed-words-kinds
use Rattle.desk.proofs.signatures.wheelotter_loads.Reads as signed-loads
use Rattle.desk.proofs.signatures.wheelotter_loads.Kinds as signed-loads-kinds
use Rattle.desk.proofs.signatures.wheelotter_signature.Reads as signed-pack
use Rattle.desk.proofs.signatures.wheelotter_signature.Kinds as signed-pack-kinds
use Rattle.desk.proofs.signatures.wheelotter_reads.Reads as signed-unpack
use Rattle.desk.proofs.signatures.wheelotter_reads.Kinds as signed-unpack-kinds
use Rattle.desk.proofs.nights.wheelotter_night.Reads as nights
use Rattle.desk.proofs.nights.wheelotter_night.Kinds as nights-kinds

pub report-settles : Settles 2 report-kinds.ps report-kinds.r report.Post
report-settles κs a x y s t p q = (reported-one a.0.now a.1.0.now s.1.0.now t.1.0.now x y p q).0

pub report-leaves : Leaves 2 report-kinds.ps report-kinds.r (λ κs s. s.1.0.now) report.Post
report-leaves κs a x y s t p q = (reported-one a.0.now a.1.0.now s.1.0.now t.1.0.now x y p q).1

pub number-settles : Settles 1 number-kinds.ps number-kinds.r number.Post
number-settles κs a x y s t p q = p ∙ sym q

pub line-settles : Settles 1 line-kinds.ps line-kinds.r line.Post
line-settles κs a x y s t p q = p ∙ sym q

pub start-settles : Settles 1 start-kinds.ps start-kinds.r start.Post
start-settles κs a x y s t p q = p ∙ sym q

pub end-settles : Settles 1 end-kinds.ps end-kinds.r end.Post
end-settles κs a x y s t p q = p ∙ sym q

pub verdict-settles : Settles 2 verdict-kinds.ps verdict-kinds.r verdict.Post
verdict-settles κs a x y s t p q = (answered-one a.0.now a.1.0 a.1.1.0.now s.1.1.0.now t.1.1.0.now x y p q).0

pub verdict-leaves : Leaves 2 verdict-kinds.ps verdict-kinds.r (λ κs s. s.1.1.0.now) verdict.Post
verdict-leaves κs a x y s t p q = (answered-one a.0.now a.1.0 a.1.1.0.now s.1.1.0.now t.1.1.0.now x y p q).1

pub limited-settles : Settles 2 limited-kinds.ps limited-kinds.r limited.Post
limited-settles κs a x y s t p q = (limited-one a.0.now a.1.0 a.1.1.0 a.1.1.1.0.now s.1.1.1.0.now t.1.1.1.0.now x y p q).0

pub limited-leaves : Leaves 2 limited-kinds.ps limited-kinds.r (λ κs s. s.1.1.1.0.now) limited.Post
limited-leaves κs a x y s t p q = (limited-one a.0.now a.1.0 a.1.1.0 a.1.1.1.0.now s.1.1.1.0.now t.1.1.1.0.now x y p q).1

pub judge-settles : Settles 3 judge-kinds.ps judge-kinds.r judge.Post
judge-settles κs a x y s t p q =
    (judged-one a.0.now a.1.0 a.1.1.0.now a.1.1.1.0.now s.1.1.1.0.now t.1.1.1.0.now x y p q).0

pub judge-leaves : Leaves 3 judge-kinds.ps judge-kinds.r (λ κs s. s.1.1.1.0.now) judge.Post
judge-leaves κs a x y s t p q =
    (judged-one a.0.now a.1.0 a.1.1.0.now a.1.1.1.0.now s.1.1.1.0.now t.1.1.1.0.now x y p q).1

pub accepts-settles : Settles 2 accepts-kinds.ps accepts-kinds.r accepts.Post
accepts-settles κs a x y s t p q = papered-one a.0.now a.1.0 a.1.1.0.now x y p q

pub paper-settles : Settles 2 paper-kinds.ps paper-kinds.r paper.Post
paper-settles κs a x y s t p q = (asked-one a.0.now a.1.0 a.1.1.0.now s.1.1.0.now t.1.1.0.now x y p q).0

pub paper-leaves : Leaves 2 paper-kinds.ps paper-kinds.r (λ κs s. s.1.1.0.now) paper.Post
paper-leaves κs a x y s t p q = (asked-one a.0.now a.1.0 a.1.1.0.now s.1.1.0.now t.1.1.0.now x y p q).1

pub run-settles : Settles 3 run-kinds.ps run-kinds.r run.Post
run-settles κs a x y s t p q =
    (run-one a.0.now a.1.0 a.1.1.0.now a.1.1.1.0.now s.1.1.1.0.now t.1.1.1.0.now x y p q).0

pub run-leaves : Leaves 3 run-kinds.ps run-kinds.r (λ κs s. s.1.1.1.0.now) run.Post
run-leaves κs a x y s t p q =
    (run-one a.0.now a.1.0 a.1.1.0.now a.1.1.1.0.now s.1.1.1.0.now t.1.1.1.0.now x y p q).1

pub steps-settles : Settles 3 steps-kinds.ps steps-kinds.r steps.Post
steps-settles κs a x y s t p q =
    (replayed-one a.0.now a.1.0 a.1.1.0.now a.1.1.1.0.now s.1.1.1.0.now t.1.1.1.0.now x y p q).0

pub steps-leaves : Leaves 3 steps-kinds.ps steps-kinds.r (λ κs s. s.1.1.1.0.now) steps.Post
steps-leaves κs a x y s t p q =
    (replayed-one a.0.now a.1.0 a.1.1.0.now a.1.1.1.0.now s.1.1.1.0.now t.1.1.1.0.now x y p q).1

pub smaller-settles : Settles 2 smaller-kinds.ps smaller-kinds.r smaller.Post
smaller-settles κs a x y s t p q = (smaller-one a.0.now a.1.0 a.1.1.0.now s.1.1.0.now t.1.1.0.now x y p q).0

pub smaller-leaves : Leaves 2 smaller-kinds.ps smaller-kinds.r (λ κs s. s.1.1.0.now) smaller.Post
smaller-leaves κs a x y s t p q = (smaller-one a.0.now a.1.0 a.1.1.0.now s.1.1.0.now t.1.1.0.now x y p q).1

pub pack-settles : Settles 2 pack-kinds.ps pack-kinds.r pack.Post
pack-settles κs a x y s t p q = p.0 ∙ sym q.0

pub pack-leaves : Leaves 2 pack-kinds.ps pack-kinds.r (λ κs s. s.1.0.now) pack.Post
pack-leaves κs a x y s t p q = p.1 ∙ sym q.1

pub unpack-settles : Settles 2 unpack-kinds.ps unpack-kinds.r unpack.Post
unpack-settles κs a x y s t p q = p.0 ∙ sym q.0

pub unpack-leaves : Leaves 2 unpack-kinds.ps unpack-kinds.r (λ κs s. s.1.0.now) unpack.Post
unpack-leaves κs a x y s t p q = p.1 ∙ sym q.1

pub file-number-settles : Settles 1 file-number-kinds.ps file-number-kinds.r file-number.Post
file-number-settles κs a x y s t p q = p ∙ sym q

pub file-line-settles : Settles 1 file-line-kinds.ps file-line-kinds.r file-line.Post
file-line-settles κs a x y s t p q = p ∙ sym q

pub open-settles : Settles 2 open-kinds.ps open-kinds.r opens.Post
open-settles κs a x y s t p q = p.0 ∙ sym q.0

pub open-leaves : Leaves 2 open-kinds.ps open-kinds.r (λ κs s. s.1.1.0.now) opens.Post
open-leaves κs a x y s t p q = p.1 closings-some ∙ sym (q.1 closings-some)

pub open-file-settles : Settles 2 open-file-kinds.ps open-file-kinds.r open-file.Post
open-file-settles κs a x y s t p q = p.0 ∙ sym q.0

pub open-file-leaves : Leaves 2 open-file-kinds.ps open-file-kinds.r (λ κs s. s.1.1.0.now) open-file.Post
open-file-leaves κs a x y s t p q = p.1 closings-some ∙ sym (q.1 closings-some)

pub suppose-settles : Settles 1 suppose-kinds.ps suppose-kinds.r suppose.Post
suppose-settles κs a x y s t p q = (p closings-some).0 ∙ sym (q closings-some).0

pub suppose-leaves : Leaves 1 suppose-kinds.ps suppose-kinds.r (λ κs s. s.0.now) suppose.Post
suppose-leaves κs a x y s t p q = (p closings-some).1 ∙ sym (q closings-some).1

pub take-back-settles : Settles 1 take-back-kinds.ps take-back-kinds.r take_back.Post
take-back-settles κs a x y s t p q = (p closings-some).0 ∙ sym (q closings-some).0

pub take-back-leaves : Leaves 1 take-back-kinds.ps take-back-kinds.r (λ κs s. s.0.now) take_back.Post
take-back-leaves κs a x y s t p q = (p closings-some).1 ∙ sym (q closings-some).1

pub ask-settles : Settles 1 ask-kinds.ps ask-kinds.r ask.Post
ask-settles κs a x y s t p q = p closings-some ∙ sym (q closings-some)

pub add-settles : Settles 1 add-kinds.ps add-kinds.r add.Post
add-settles κs a x y s t p q = (p closings-some).0 ∙ sym (q closings-some).0

pub add-leaves : Leaves 1 add-kinds.ps add-kinds.r (λ κs s. s.0.now) add.Post
add-leaves κs a x y s t p q = (p closings-some).1 ∙ sym (q closings-some).1

pub waiting-settles : Settles 2 waiting-kinds.ps waiting-kinds.r waiting.Post
waiting-settles κs a x y s t p q = (p closings-some).0 ∙ sym (q closings-some).0

pub waiting-leaves : Leaves 2 waiting-kinds.ps waiting-kinds.r (λ κs s. s.1.0.now) waiting.Post
waiting-leaves κs a x y s t p q = (p closings-some).1 ∙ sym (q closings-some).1

pub words-settles : Settles 1 signed-words-kinds.ps signed-words-kinds.r signed-words.Post
words-settles κs a x y s t p q = p ∙ sym q

pub loads-settles : Settles 1 signed-loads-kinds.ps signed-loads-kinds.r signed-loads.Post
loads-settles κs a x y s t p q = p ∙ sym q

pub signature-settles : Settles 2 signed-pack-kinds.ps signed-pack-kinds.r signed-pack.Post
signature-settles κs a x y s t p q = p.0 ∙ sym q.0

pub signature-leaves : Leaves 2 signed-pack-kinds.ps signed-pack-kinds.r (λ κs s. s.1.0.now) signed-pack.Post
signature-leaves κs a x y s t p q = p.1 ∙ sym q.1

pub reads-settles : Settles 3 signed-unpack-kinds.ps signed-unpack-kinds.r signed-unpack.Post
reads-settles κs a x y s t p q = p.0 ∙ sym q.0

pub reads-leaves : Leaves 3 signed-unpack-kinds.ps signed-unpack-kinds.r (λ κs s. s.1.1.0.now) signed-unpack.Post
reads-leaves κs a x y s t p q = p.1 ∙ sym q.1

pub night-settles : Settles 3 nights-kinds.ps nights-kinds.r nights.Post
night-settles κs a x y s t p q = (nighted-one a.0.now a.1.0 a.1.1.0.now a.1.1.1.0.now s.1.1.1.0.now t.1.1.1.0.now x y p q).0

pub night-leaves : Leaves 3 nights-kinds.ps nights-kinds.r (λ κs s. s.1.1.1.0.now) nights.Post
night-leaves κs a x y s t p q = (nighted-one a.0.now a.1.0 a.1.1.0.now a.1.1.1.0.now s.1.1.1.0.now t.1.1.1.0.now x y p q).1
