use Rattle.std.proofs.Common.{◌≡◌, ◌∙◌, ap, sym, Ok, rules}
use Rattle.sheets.specs.Lines.{keyword_in}
use Rattle.sheets.specs.Tokens.{fields_left}
use Rattle.sheets.specs.declared.token.Keyword.TheVariants.{Cell, Bar, Enrol}
use Rattle.sheets.proofs.Pairs.{bar_err, cell_err, cell_ok, enrol_err, pair_told, reads_on}
use Rattle.sheets.proofs.line.Line.edit.Goals as goal

pub returns-in_err-row-in-Bar : goal.returns-in_err-row-in-Bar
returns-in_err-row-in-Bar c =
    let key : Ok Bar ≡ keyword_in c.args.self.place.line (fields_left c.args.self.rest) = sym (ap Ok c.in-Bar.is) ∙ c.in_ok-keyword.ensures.keyword in
    let pair = pair_told 1 c.args.self _ _ c.requires c.in_ok-keyword.ensures.after c.in_err-row-in-Bar.ensures.pair in
    rw (bar_err c.args.self.place.line (fields_left c.args.self.rest) c.in_err-row-in-Bar.field-0.0 key pair) (search rules)

pub returns-in_err-pad-in-Enrol : goal.returns-in_err-pad-in-Enrol
returns-in_err-pad-in-Enrol c =
    let key : Ok Enrol ≡ keyword_in c.args.self.place.line (fields_left c.args.self.rest) = sym (ap Ok c.in-Enrol.is) ∙ c.in_ok-keyword.ensures.keyword in
    let pair = pair_told 1 c.args.self _ _ c.requires c.in_ok-keyword.ensures.after c.in_err-pad-in-Enrol.ensures.pair in
    rw (enrol_err c.args.self.place.line (fields_left c.args.self.rest) c.in_err-pad-in-Enrol.field-0.0 key pair) (search rules)

pub returns-in_err-height-in-Cell : goal.returns-in_err-height-in-Cell
returns-in_err-height-in-Cell c =
    let key : Ok Cell ≡ keyword_in c.args.self.place.line (fields_left c.args.self.rest) = sym (ap Ok c.in-Cell.is) ∙ c.in_ok-keyword.ensures.keyword in
    let word = c.in_ok-keyword.ensures.after in
    let first = pair_told 1 c.args.self _ _ c.requires word c.in_ok-row-in-Cell.ensures.pair in
    let second = pair_told 3 c.args.self _ _ c.requires (reads_on 1 2 _ _ _ word c.in_ok-row-in-Cell.ensures.after) c.in_err-height-in-Cell.ensures.pair in
    rw (cell_err c.args.self.place.line (fields_left c.args.self.rest) c.in_err-height-in-Cell.field-0.0 _ key first second) (search rules)

pub returns-in_ok-height-in-Cell : goal.returns-in_ok-height-in-Cell
returns-in_ok-height-in-Cell c =
    let key : Ok Cell ≡ keyword_in c.args.self.place.line (fields_left c.args.self.rest) = sym (ap Ok c.in-Cell.is) ∙ c.in_ok-keyword.ensures.keyword in
    let word = c.in_ok-keyword.ensures.after in
    let first = pair_told 1 c.args.self _ _ c.requires word c.in_ok-row-in-Cell.ensures.pair in
    let second = pair_told 3 c.args.self _ _ c.requires (reads_on 1 2 _ _ _ word c.in_ok-row-in-Cell.ensures.after) c.in_ok-height-in-Cell.ensures.pair in
    sym (cell_ok c.args.self.place.line (fields_left c.args.self.rest) _ _ key first second)
