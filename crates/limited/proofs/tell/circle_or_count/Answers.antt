-- `limited::tell::circle_or_count`: each answer by what the part beneath promises.
use mathlib.Core.Path.{sym, subst}
use native.Mathlib.Omega.{arith}
use Rattle.limited.specs.LimitedVerdict.{ToldLimited}
use Rattle.limited.specs.declared.Limit.{Limit}
use Rattle.limited.proofs.LaidOut.{told-circle, told-order, told_none, told_over}
use Rattle.limited.proofs.tell.circle_or_count.Goals as goal

pub returns-then-circle-gt0 : goal.returns-then-circle-gt0
returns-then-circle-gt0 c =
    let k = c.circle_of-circle in
    told-circle c.args.t c.args.model c.args.limit c.requires k.result k.ensures c.if-circle-gt0.true

pub returns-in-Order : goal.returns-in-Order
returns-in-Order c =
    let k = c.circle_of-circle in
    let p = c.plain_search-counted in
    told-order c.args.t c.args.model c.args.limit c.requires k.result k.ensures (omega (arith, c.if-circle-gt0.false)) p.result p.ensures _ c.in-Order.is

pub returns-in-End : goal.returns-in-End
returns-in-End c =
    let k = c.circle_of-circle in
    let p = c.plain_search-counted in
    subst (λ (r : Limit). ToldLimited c.args.t c.args.model c.args.limit r) (sym c.bare.ensures)
    (told_none c.args.t c.args.model c.args.limit c.requires k.result k.ensures (omega (arith, c.if-circle-gt0.false)) p.result p.ensures _ c.in-End.is)

pub returns-in-Over : goal.returns-in-Over
returns-in-Over c =
    let k = c.circle_of-circle in
    let p = c.plain_search-counted in
    subst (λ (r : Limit). ToldLimited c.args.t c.args.model c.args.limit r) (sym c.bare-in-Over.ensures)
    (told_over c.args.t c.args.model c.args.limit c.requires k.result k.ensures (omega (arith, c.if-circle-gt0.false)) p.result p.ensures c.in-Over.is)
