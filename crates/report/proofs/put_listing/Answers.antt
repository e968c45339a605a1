-- The lines of all matches are on the page, and the totals go after them. Assumes nothing.
use Prim.Native.Nat.{◌*◌}
use mathlib.Core.Path.{◌∙◌}
use native.Mathlib.Omega.{arith}
use lib.ListN.{length-drop}
use Rattle.std.proofs.lemmas.List.{take_rest}
use Rattle.report.proofs.Listings.{compares_few, found_fits, listing_put}
use Rattle.report.proofs.put_listing.Goals as goal

pub overflow_mul-at : goal.overflow_mul-at
overflow_mul-at c =
    let fits = found_fits c.args.text.now c.args.needle.now c.requires.small c.requires.short c.put_matches-tally.ensures (c.put_matches-tally.auto.page ∙ c.requires.room) in
    omega (arith, fits.0)

pub slice_bounds-put_totals-count : goal.slice_bounds-put_totals-count
slice_bounds-put_totals-count c =
    let fits = found_fits c.args.text.now c.args.needle.now c.requires.small c.requires.short c.put_matches-tally.ensures (c.put_matches-tally.auto.page ∙ c.requires.room) in
    omega (arith, fits.1)

pub slice_bounds-put_totals-start : goal.slice_bounds-put_totals-start
slice_bounds-put_totals-start c =
    let fits = found_fits c.args.text.now c.args.needle.now c.requires.small c.requires.short c.put_matches-tally.ensures (c.put_matches-tally.auto.page ∙ c.requires.room) in
    omega (arith, fits.1)

pub put_totals-requires : goal.put_totals-requires
put_totals-requires c =
    let fits = found_fits c.args.text.now c.args.needle.now c.requires.small c.requires.short c.put_matches-tally.ensures (c.put_matches-tally.auto.page ∙ c.requires.room) in
    let t = c.put_matches-tally.result in (
      omega (arith, fits.0),
      omega (arith, c.put_matches-tally.ensures.compares, compares_few c.args.text.now c.args.needle.now c.requires.small c.requires.short),
      rw (take_rest c.put_matches-tally.new.page (t.matches * 9), length-drop) (omega (arith, fits.1)),
    )

pub overflow_add-result : goal.overflow_add-result
overflow_add-result c =
    let fits = found_fits c.args.text.now c.args.needle.now c.requires.small c.requires.short c.put_matches-tally.ensures (c.put_matches-tally.auto.page ∙ c.requires.room) in
    omega (arith, fits.0)

pub returns : goal.returns
returns c =
    let a = c.args in
    listing_put a.text.now a.needle.now c.requires.small c.requires.short c.put_matches-tally.result a.page.now c.put_matches-tally.new.page
    c.put_totals.new.page c.put_matches-tally.ensures c.put_totals.ensures
