-- The tests are those of the definition, in its order, and it writes only after them.
use Rattle.std.proofs.Common.{rules, sym, ◌∙◌, arith, refl}
use Rattle.refusals.specs.declared.Refusal.TheVariants.{Page}
use Rattle.wall_page.proofs.Refused.{refused_by_form, refused_by_page, refused, accepted, first_written}
use Rattle.wall_page.proofs.day_page.Goals as goal

pub returns-in_err-accept_form : goal.returns-in_err-accept_form
returns-in_err-accept_form c =
    let a = c.args in
    refused a.entries a.count a.page.now c.in_err-accept_form.field-0.0 (refused_by_form a.entries a.count _ (sym c.accept_form.ensures ∙ c.in_err-accept_form.was)) (search rules)

pub returns-then-page-count : goal.returns-then-page-count
returns-then-page-count c =
    let a = c.args in
    refused a.entries a.count a.page.now Page (refused_by_page a.entries a.count _ (sym c.accept_form.ensures ∙ c.in_ok-accept_form.was) c.if-page-count.true) refl

pub returns : goal.returns
returns c =
    let a = c.args in
    accepted a.entries a.count a.page.now c.put_lines.new.page (sym c.accept_form.ensures ∙ c.in_ok-accept_form.was) c.if-page-count.false
    (first_written a.entries a.count (omega arith) (sym c.accept_form.ensures ∙ c.in_ok-accept_form.was) a.page.now c.put_lines.new.page c.put_lines.ensures)
