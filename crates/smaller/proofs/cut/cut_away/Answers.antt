-- `smaller::cut::cut_away`: the looks leave what the definition leaves, and no more of a set counts than which records it has.
use mathlib.Core.Path.{refl, ap, ap₂, ◌∙◌}
use mathlib.Core.List.{List}
use Prim.Native.Nat.{ℕ}
use Rattle.trace.specs.Padded.{padded}
use Rattle.trace.specs.declared.Trace.{Trace}
use Rattle.parts.proofs.Alike.{picked-alike, olds-alike}
use Rattle.pairs.proofs.ValidOrders.{well-fits}
use Rattle.smaller.specs.declared.Answer.TheVariants.{Cut}
use Rattle.smaller.proofs.cut.cut_away.Goals as goal

pub all-requires : goal.all-requires
all-requires c = (well-fits _ c.requires.0, refl)

pub picked-requires : goal.picked-requires
picked-requires c = well-fits _ c.requires.0

pub olds-requires : goal.olds-requires
olds-requires c = well-fits _ c.requires.0

pub returns : goal.returns
returns c = let t = c.args.t in
    let p = c.pass.ensures in (
      p.kept,
      p.left,
      ap₂ (λ (u : Trace) (l : List ℕ). record { answer = Cut; trace = u; olds = l })
          (c.picked.ensures ∙ picked-alike _ p.kept t t.len p.same)
          (c.olds.ensures ∙ ap padded (olds-alike _ p.kept t.len p.same)),
    )
