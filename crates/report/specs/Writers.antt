-- What the private functions of the report ask and say: what each writer puts on the page. A reader
-- of the public calls needs none of it.
use Rattle.std.specs.Prelude.{ℕ, ◌*◌, ◌≤◌, ◌<◌, ◌≡◌, List, ◌++◌, length, drop}
use Rattle.search.specs.Cursors.{longest_needle}
use Rattle.search.specs.Positions.{positions}
use Rattle.report.specs.declared.Tally.{Tally}
use Rattle.report.specs.Report.{longest_input, longest_report, match_lines, compares_for}

-- a text and a needle of an input that is accepted, and a page as long as the longest report
pub record Listable (text needle page : List ℕ) : Type 0 where
  pub small : length text < longest_input
  pub short : length needle ≤ longest_needle
  pub room : length page ≡ longest_report

-- Some bytes put at the front of a page, the rest of it as before: r is how many.
pub record Put (bytes before after : List ℕ) (r : ℕ) : Type 0 where
  pub count : r ≡ length bytes
  pub page : after ≡ bytes ++ drop (length bytes) before

-- Every match was found, at the walk's count, and the page has their lines at its front.
pub record Found (text needle before after : List ℕ) (t : Tally) : Type 0 where
  pub matches : t.matches ≡ length (positions text needle)
  pub compares : t.compares ≡ compares_for text needle
  pub page : after
      ≡ match_lines (positions text needle) ++ drop (length (positions text needle) * 9) before
