-- `search::first::first_order_by`: where nothing is to be answered, the edges contradict each other or a source is missing, there is no order.
use mathlib.Core.Path.{refl, sym, ◌∙◌, subst}
use mathlib.Core.Bool.{Bool, So, false≢true}
use borrow.Author.Tests.{not-true, not-false}
use Rattle.laws.specs.Dict.{Least}
use Rattle.trace.specs.Meaning.{frame_of}
use Rattle.rules.specs.Order.{Valid}
use Rattle.trace.specs.WellFormed.{well_formed}
use Rattle.rows.specs.Lent.{lent_of}
use Rattle.rows.proofs.Lent.{lent-joins}
use Rattle.pairs.proofs.ValidOrders.{well-fits}
use Rattle.rules.proofs.Says.{missing-none}
use Rattle.search.specs.inner.SearchBelow.{follows_as}
use Rattle.search.proofs.TablesLaid.{sources-read}
use Rattle.search.proofs.Guiding.{held-guided, refuted-none}
use Rattle.search.proofs.FirstOrder.{empty-rest, first-none, first_some, counted-fits}
use Rattle.search.proofs.first.first_order_by.Goals as goal

pub returns-then-not-well_formed : goal.returns-then-not-well_formed
returns-then-not-well_formed c = first-none c.args.t (lent_of c.args.t c.args.kept.now) c.nothing.result c.nothing.ensures (λ a. absurd (false≢true (sym (not-true _ c.if-not-well_formed.true-raw) ∙ c.well_formed-2.ensures ∙ a)))

pub returns-then-forced : goal.returns-then-forced
returns-then-forced c = first-none c.args.t (lent_of c.args.t c.args.kept.now) c.nothing-then-forced.result c.nothing-then-forced.ensures
    (λ a. refuted-none c.args.t (lent_of c.args.t c.args.kept.now) (lent-joins c.args.t c.args.kept.now) a c.forced_by-forced.result c.forced_by-forced.ensures c.if-forced.true)

pub sourced-requires : goal.sourced-requires
sourced-requires c = let w : So (well_formed c.args.t) = sym c.well_formed-2.ensures ∙ not-false _ c.if-not-well_formed.false-raw in
    (w, sources-read c.args.t w _ c.sources_of-sources.ensures)

pub returns-then-not-sourced : goal.returns-then-not-sourced
returns-then-not-sourced c = let f = frame_of c.args.t in
    first-none c.args.t (lent_of c.args.t c.args.kept.now) c.nothing-then-not-sourced.result c.nothing-then-not-sourced.ensures
    (λ _ xs v. false≢true (sym (not-true _ c.if-not-sourced.true-raw) ∙ c.sourced.ensures.1 (λ L m. missing-none f (lent_of c.args.t c.args.kept.now) L m xs v)))

pub lay_operations-total-requires : goal.lay_operations-total-requires
lay_operations-total-requires c = let w : So (well_formed c.args.t) = sym c.well_formed-2.ensures ∙ not-false _ c.if-not-well_formed.false-raw in
    (well-fits c.args.t w, refl)

pub look-requires : goal.look-requires
look-requires c = let w : So (well_formed c.args.t) = sym c.well_formed-2.ensures ∙ not-false _ c.if-not-well_formed.false-raw in
    let n = c.lay_operations-total.ensures in
    (w, n, counted-fits c.args.t w _ _ n, sources-read c.args.t w _ c.sources_of-sources.ensures)

pub returns-then-look : goal.returns-then-look
returns-then-look c = let t = c.args.t in
    let K = lent_of t c.args.kept.now in
    let w : So (well_formed t) = sym c.well_formed-2.ensures ∙ not-false _ c.if-not-well_formed.false-raw in
    let g = held-guided t K (lent-joins t c.args.kept.now) w c.forced_by-forced.result c.forced_by-forced.ensures c.if-forced.false in
    let r = c.look.ensures in
    let best = subst (λ (b : Bool). Least (Valid (frame_of t) K) (follows_as b 0 c.lay_operations-total.result c.look.new.list)) c.if-look.true
    (r.right K g (c.sourced.ensures.0 (not-false _ c.if-not-sourced.false-raw))) in
    first_some t K _ w refl (counted-fits t w _ _ c.lay_operations-total.ensures) c.look.auto.list (λ i h. r.rest i h ∙ empty-rest i) best

pub returns : goal.returns
returns c = let t = c.args.t in
    let K = lent_of t c.args.kept.now in
    first-none t K c.nothing-2.result c.nothing-2.ensures
    (λ a.
    let g = held-guided t K (lent-joins t c.args.kept.now) a c.forced_by-forced.result c.forced_by-forced.ensures c.if-forced.false in
    subst (λ (b : Bool). Least (Valid (frame_of t) K) (follows_as b 0 c.lay_operations-total.result c.look.new.list)) c.if-look.false
    (c.look.ensures.right K g (c.sourced.ensures.0 (not-false _ c.if-not-sourced.false-raw))))
