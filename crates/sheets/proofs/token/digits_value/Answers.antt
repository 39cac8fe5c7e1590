use Rattle.std.proofs.Common.{◌∙◌, sym, ap, refl, arith}
use Rattle.std.proofs.lemmas.List.{drop_all}
use Rattle.sheets.proofs.Figures.{broken_off, figures_on, number_is}
use Rattle.sheets.proofs.token.digits_value.Goals as goal

pub returns-in_err-value : goal.returns-in_err-value
returns-in_err-value c =
    let ds = c.args.digits.now in
    c.from_residual.ensures ∙ sym (broken_off c.loop-digit.value ds c.loop-digit.digit-index _ (omega arith) refl (sym c.in_err-value.ensures))
    ∙ c.loop-digit.invariant ∙ number_is ds

pub returns : goal.returns
returns c =
    let ds = c.args.digits.now in
    sym (ap (figures_on c.loop-digit.value) (drop_all c.loop-digit.digit-index ds (omega arith))) ∙ c.loop-digit.invariant ∙ number_is ds
