use Rattle.std.proofs.Common.{◌≡◌, ◌+◌, ◌∙◌, Ok, Err, sym, ap, arith, rules}
use Rattle.sheets.specs.Readers.{reading_on}
use Rattle.sheets.specs.Reading.{come_to, done_or, edit_fault, edited, entered_on, plate_answer, refused_at, size_or_fault}
use Rattle.sheets.proofs.Onward.{accepted, begun, new_plate, not_opened, on_given, on_err, on_none, sent_back}
use Rattle.sheets.proofs.Opened.{stays_unmeasured}
use Rattle.sheets.proofs.reading.read_sheet.Goals as goal

pub returns-in_err-draft-clause-reading : goal.returns-in_err-draft-clause-reading
returns-in_err-draft-clause-reading c =
    let new = new_plate c.new-reader.result c.args.sheet c.new-reader.ensures.sheet c.new-reader.ensures.place c.new-reader.ensures.line in
    let asked = begun c.args.sheet.now c.args.cells.now c.args.groups.now _ (c.in_ok-dimensions.ensures.answer ∙ new) in
    let out : c.from_residual-in_err-draft.result ≡ Err c.in_err-draft.field-0.0 = search rules in
    ap (λ r. come_to (size_or_fault r) c.open_plate.new.cells c.open_plate.new.groups) out ∙ not_opened _ _ _ _ _ _ _ _ c.in_err-draft.ensures.opening ∙ sym asked

pub returns-in_err-edit-clause-reading : goal.returns-in_err-edit-clause-reading
returns-in_err-edit-clause-reading c =
    let l = c.loop-edit in
    let out : c.from_residual-in_err-edit.result ≡ Err c.in_err-edit.field-0.0 = search rules in
    ap (λ r. come_to (size_or_fault r) l.cells l.groups) out ∙ sym (l.invariant.whole ∙ on_err l.reader (entered_on l.draft l.cells l.groups) _ l.invariant.begun c.in_err-edit.ensures.answer)

pub loop-edit-preserved : goal.loop-edit-preserved
loop-edit-preserved c =
    let l = c.loop-edit in
    let s = entered_on l.draft l.cells l.groups in
    let e = c.in-Some.edit in
    let next = c.next_edit.new.self in
    let step = on_given l.reader next s e _ _ l.invariant.begun c.in-Some.is c.in_ok-edit.ensures.answer c.in_ok-edit.ensures.after c.line.ensures in
    let told = accepted (plate_answer e s) (refused_at (l.reader.line + 1) e s) s _ (edited e s) (reading_on next (edited e s)) c.make_edit.ensures.after (c.in_ok-make_edit.ensures.answer ∙ ap (λ n. done_or (edit_fault n e s)) step.line) in
    record {
      begun = omega (arith, step.passed.line);
      whole = l.invariant.whole ∙ step.reads ∙ told.0 ∙ ap (reading_on next) (sym told.1);
      unmeasured = stays_unmeasured (plate_answer e s) l.draft _ c.in_ok-make_edit.ensures.maps l.invariant.unmeasured;
      fits = rw c.in_ok-make_edit.ensures.size l.invariant.fits;
    }

pub returns-in_err-make_edit-clause-reading : goal.returns-in_err-make_edit-clause-reading
returns-in_err-make_edit-clause-reading c =
    let l = c.loop-edit in
    let s = entered_on l.draft l.cells l.groups in
    let e = c.in-Some.edit in
    let next = c.next_edit.new.self in
    let step = on_given l.reader next s e _ _ l.invariant.begun c.in-Some.is c.in_ok-edit.ensures.answer c.in_ok-edit.ensures.after c.line.ensures in
    let told = sent_back (plate_answer e s) (refused_at (l.reader.line + 1) e s) s _ (edited e s) (reading_on next (edited e s)) c.make_edit.ensures.after _ (c.in_err-make_edit.ensures.answer ∙ ap (λ n. done_or (edit_fault n e s)) step.line) in
    let out : c.from_residual-in_err-make_edit.result ≡ Err c.in_err-make_edit.field-0.0 = search rules in
    ap (λ r. come_to (size_or_fault r) c.make_edit.new.cells c.make_edit.new.groups) out ∙ told ∙ sym (l.invariant.whole ∙ step.reads)

pub returns-clause-reading : goal.returns-clause-reading
returns-clause-reading c =
    let l = c.loop-edit in
    sym (l.invariant.whole ∙ on_none l.reader (entered_on l.draft l.cells l.groups) l.invariant.begun (ap Ok (sym c.in_default.is) ∙ c.in_ok-edit.ensures.answer))
