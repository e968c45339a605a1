-- What crosses to C: a cursor as four numbers, the flags as one, an answer as a status and what is
-- written through the caller's pointers. A refused call writes nothing.
use Rattle.std.specs.Prelude.{ℕ, ◌+◌, ◌≡◌, Bool, cond, not, List, [], ◌∷◌, ◌++◌, map, eqb, ℤ, get_or, length, drop, Result, Ok, Err}
use Rattle.std.specs.Result.{result_and}
use Rattle.std.specs.declared.cmp.Ordering.{Ordering}
use Rattle.refusals.specs.declared.Refusal.{Refusal}
use Rattle.refusals.specs.Numbers.{status}
use Rattle.unit.specs.declared.Flags.{Flags}
use Rattle.unit.specs.declared.IndexAnswer.{IndexAnswer}
use Rattle.unit.specs.declared.MaskAnswer.{MaskAnswer}
use Rattle.search.specs.declared.Cursor.{Cursor}
use Rattle.search.specs.declared.Next.{Next}
use Rattle.search.specs.Cursors.{cursor_at}
use Rattle.search.specs.declared.Filled.{Filled}
use Rattle.search.specs.Fills.{Fill, FillSaid, full, absent as no_more, stopped, refused as unfilled, answer_of, fill_said, written}
use Rattle.search.specs.Calls.{Said, found, absent, refused, said, cursor_of as next_cursor}
use Rattle.report.specs.Report.{lines_of, refusal_of as report_refusal}
use Rattle.orders.specs.Orders.{told}
use Rattle.layout.specs.Layout.{row_of}
use Rattle.decimal.specs.Decimal.{refusal_of as column_refusal, written as column_written}
use Rattle.entries.specs.declared.Entry.{Entry}
use Rattle.wall_page.specs.Pages.{page_refusal, page_after}
use Rattle.worst_case.specs.Cases.{case_refusal, buffer_after}
use Rattle.schedule.specs.declared.Day.{Day}

-- what stands behind a pointer after it: what is told of the answer, or what stood there
abbrev pub after : {A B : Type 0} → (A → B) → Result A Refusal → B → B
after f (Ok x) old = f x
after f (Err r) old = old

-- An answer that is handed over whole: what stood behind the pointer before the call; what it
-- returns, and what stands there after it.
pub record Given {A : Type 0} (a : Result A Refusal) (old : A) (r : ℕ) (new : A) : Type 0 where
  pub number : r ≡ status a
  pub told_after : new ≡ after (λ (x : A). x) a old

-- what stands behind a pointer after a call of the unit with this refusal: 0 writes the new value,
-- and any other number leaves the old one
abbrev pub unless_refused : {A : Type 0} → ℕ → A → A → A
unless_refused number new old = cond (eqb number 0) new old

-- a number that C hands over for a truth value: 0 is false, and any other is true
abbrev pub truth : ℕ → Bool
truth n = not (eqb n 0)

-- ---- the unit

-- the flags in the places that they have in the register EFLAGS: CF is bit 0, PF 2, AF 4, ZF 6, SF
-- 7, OF 11
unfoldable pub eflags : Flags → ℕ
eflags f =
    cond f.carry 1 0 + cond f.parity 4 0 + cond f.auxiliary 16 0 + cond f.zero 64 0
    + cond f.sign 128 0 + cond f.overflow 2048 0

-- an index call: its answer, index and flags before the call, what it returns, index and flags
-- after it
pub record IndexGiven (a : IndexAnswer) (index flags r index' flags' : ℕ) : Type 0 where
  pub number : r ≡ a.refusal
  pub index_after : index' ≡ unless_refused a.refusal a.index index
  pub flags_after : flags' ≡ unless_refused a.refusal (eflags a.flags) flags

-- a mask call, in the same way
pub record MaskGiven (a : MaskAnswer) (mask : List ℕ) (flags r : ℕ) (mask' : List ℕ) (flags' : ℕ)
    : Type 0 where
  pub number : r ≡ a.refusal
  pub mask_after : mask' ≡ unless_refused a.refusal a.mask mask
  pub flags_after : flags' ≡ unless_refused a.refusal (eflags a.flags) flags

-- ---- the search

-- a cursor as four numbers: position, compares, whether it is exhausted, and its stop
abbrev pub numbers_of : Cursor → List ℕ
numbers_of c = c.position ∷ c.compares ∷ cond c.exhausted 1 0 ∷ c.stop ∷ []

-- the cursor that four numbers stand for
abbrev pub cursor_of : List ℕ → Cursor
cursor_of ns = cursor_at (get_or ns 0 0) (get_or ns 1 0) (truth (get_or ns 2 0)) (get_or ns 3 0)

-- what next match returns: 0 for a match, 256 for absent, which is above every refusal's number,
-- or that number
abbrev pub status_of : Said → ℕ
status_of (found p) = 0
status_of absent = 256
status_of (refused number) = number

-- the four numbers after a call: those of the cursor to go on with, or what stood there where it
-- was refused
abbrev pub cursor_after : Said → Cursor → List ℕ → List ℕ
cursor_after (found p) c ns = numbers_of c
cursor_after absent c ns = numbers_of c
cursor_after (refused number) c ns = ns

-- the match's position, or what stood there
abbrev pub position_after : Said → ℕ → ℕ
position_after (found p) old = p
position_after absent old = old
position_after (refused number) old = old

-- next match: its answer, cursor and position before the call, what it returns, cursor and position
-- after it
pub record NextGiven (a : Next) (cursor : List ℕ) (position r : ℕ) (cursor' : List ℕ)
    (position' : ℕ) : Type 0 where
  pub status : r ≡ status_of (said a)
  pub new_cursor : cursor' ≡ cursor_after (said a) (next_cursor a) cursor
  pub new_position : position' ≡ position_after (said a) position

-- ---- the fill

-- what a fill returns: 257 for full and 256 for absent, which are above every refusal's number, or
-- the number that stopped or refused it
abbrev pub fill_status : FillSaid → ℕ
fill_status (full count) = 257
fill_status (no_more count) = 256
fill_status (stopped number count) = number
fill_status (unfilled number) = number

-- the four numbers after a fill, and the count: new ones, or what stood there where it was refused
abbrev pub fill_cursor_after : FillSaid → Cursor → List ℕ → List ℕ
fill_cursor_after (full count) c ns = numbers_of c
fill_cursor_after (no_more count) c ns = numbers_of c
fill_cursor_after (stopped number count) c ns = numbers_of c
fill_cursor_after (unfilled number) c ns = ns

abbrev pub count_after : FillSaid → ℕ → ℕ
count_after (full count) old = count
count_after (no_more count) old = count
count_after (stopped number count) old = count
count_after (unfilled number) old = old

-- an answer, cursor and count before the call, what it returns, cursor and count after it
pub record FilledGiven (a : Filled) (cursor : List ℕ) (count r : ℕ) (cursor' : List ℕ)
    (count' : ℕ) : Type 0 where
  pub status : r ≡ fill_status (fill_said a)
  pub new_cursor : cursor' ≡ fill_cursor_after (fill_said a) a.cursor cursor
  pub new_count : count' ≡ count_after (fill_said a) count

-- the fill, with the list of positions before and after it
pub record FillGiven (f : Fill) (cursor positions : List ℕ) (count r : ℕ)
    (cursor' positions' : List ℕ) (count' : ℕ) : Type 0 where
  pub answer : FilledGiven (answer_of f) cursor count r cursor' count'
  pub positions_after : positions' ≡ written f.positions positions

-- ---- runs and orders

-- A call that tells one number, as the length of a run or which text is the smaller: what refuses
-- it, the number told, what stood there before; what it returns, what stands there after it.
abbrev pub NumberGiven : Result (Unit {0}) Refusal → ℕ → ℕ → ℕ → ℕ → Type 0
NumberGiven accepted number old r new = Given (result_and accepted (Ok number)) old r new

-- an order as -1, 0 or 1, in the same way
pub record OrderGiven (a : Result Ordering Refusal) (old : ℤ) (r : ℕ) (new : ℤ) : Type 0 where
  pub number : r ≡ status a
  pub order_after : new ≡ after told a old

-- ---- the day

-- a day: the answer, the rows and the count before the call; what it returns, the rows and the
-- count after it
pub record DayGiven (a : Result Day Refusal) (rows : List (List ℕ)) (count r : ℕ) (rows' : List (List ℕ))
    (count' : ℕ) : Type 0 where
  pub number : r ≡ status a
  pub day_after : rows' ≡ after (λ (d : Day). map row_of d.entries) a rows
  pub new_count : count' ≡ after (λ (d : Day). d.count) a count

-- ---- what is written into buffers

-- A call that writes a buffer: the number, the buffer before the call; what it returns, and the
-- buffer after it.
pub record ColumnGiven (number width : ℕ) (buffer : List ℕ) (r : ℕ) (buffer' : List ℕ) : Type 0 where
  pub status_is : r ≡ status (column_refusal number width (length buffer))
  pub new_buffer : buffer' ≡ column_written number width buffer

-- the page of n entries, in the same way
pub record PageGiven (es : List Entry) (n : ℕ) (page : List ℕ) (r : ℕ) (page' : List ℕ) : Type 0 where
  pub status_is : r ≡ status (page_refusal es n (length page))
  pub new_page : page' ≡ page_after es n page

-- the slowest search: the sizes, text and needle before the call; what it returns, text and needle
-- after it
pub record WorstGiven (words : Bool) (n m : ℕ) (text needle : List ℕ) (r : ℕ) (text' needle' : List ℕ)
    : Type 0 where
  pub status_is : r ≡ status (case_refusal words n m (length text) (length needle))
  pub new_text : text' ≡ buffer_after (case_refusal words n m (length text) (length needle)) n text
  pub new_needle : needle' ≡ buffer_after (case_refusal words n m (length text) (length needle)) m needle

-- ---- the report

-- the report: its input, the page and the number that stood behind the pointer before the call;
-- what it returns, the page and that number after it
pub record ReportGiven (input page : List ℕ) (old r : ℕ) (page' : List ℕ) (new : ℕ) : Type 0 where
  pub written_after : NumberGiven (report_refusal input) (length (lines_of input)) old r new
  pub new_page : page' ≡ lines_of input ++ drop (length (lines_of input)) page
