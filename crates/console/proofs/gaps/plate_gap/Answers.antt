use Rattle.std.proofs.Common.{◌∙◌, ap, sym}
use Rattle.console.proofs.Fronts.{answer_is, gap_told}
use Rattle.console.proofs.gaps.plate_gap.Goals as goal

pub returns : goal.returns
returns c =
    let size = c.args.draft.now.header.size in
    let draft = ap (λ p. p.size) c.measure.ensures.draft in
    let draft' = ap (λ p. p.size) c.measure-2.ensures.draft in
    let answer = answer_is _ _ _ (sym c.gap.ensures ∙ c.unwrap.ensures) in
    gap_told size _ _ c.args.cells.now c.args.groups.now _ _ _ _ c.unwrap.result draft (draft' ∙ draft) c.measure.ensures.map c.measure-2.ensures.map answer
