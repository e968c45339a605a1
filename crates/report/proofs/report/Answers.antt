-- Its tests are those of the definition, in the definition's order. Assumes nothing.
use mathlib.Core.Path.{sym, ◌∙◌}
use native.Mathlib.Omega.{arith}
use Rattle.refusals.specs.declared.Refusal.TheVariants.{Input, Feed, Needle}
use Rattle.report.proofs.Inputs.{feed_none, feed_some, too_long, no_feed, long_needle, no_refusal}
use Rattle.report.proofs.Listings.{refused_so, listed_so}
use Rattle.report.proofs.report.Goals as goal

pub returns-then-input-gt-LONGEST_INPUT : goal.returns-then-input-gt-LONGEST_INPUT
returns-then-input-gt-LONGEST_INPUT c =
    let a = c.args in
    refused_so a.input.now a.page.now Input (too_long a.input.now (omega arith))

pub returns-in_default : goal.returns-in_default
returns-in_default c =
    let a = c.args in
    refused_so a.input.now a.page.now Feed (no_feed a.input.now (omega arith) (feed_none a.input.now (sym c.feed_at.ensures ∙ c.in_default.is)))

pub returns-then-at-gt-LONGEST_NEEDLE : goal.returns-then-at-gt-LONGEST_NEEDLE
returns-then-at-gt-LONGEST_NEEDLE c =
    let a = c.args in
    let feed = feed_some a.input.now c.in-Some.at (sym c.feed_at.ensures ∙ c.in-Some.is) in
    refused_so a.input.now a.page.now Needle (long_needle a.input.now (omega arith) (λ e. omega (arith, feed.0, feed.1, e)) (omega (arith, feed.0)))

pub returns : goal.returns
returns c =
    let a = c.args in
    let feed = feed_some a.input.now c.in-Some.at (sym c.feed_at.ensures ∙ c.in-Some.is) in
    listed_so a.input.now a.page.now c.put_listing.new.page c.in-Some.at c.put_listing.result feed.0
    (no_refusal a.input.now (omega arith) (λ e. omega (arith, feed.0, feed.1, e)) (omega (arith, feed.0))) c.put_listing.ensures
