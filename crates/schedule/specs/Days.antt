-- The day of some entries (document 02 [5]): the entries within the count, cleared, go in one by
-- one, each after those that come before it. `Schedules.antt` says, apart from any way of sorting,
-- what a day must be.
use Rattle.std.specs.Prelude.{ℕ, Bool, cond, List, [], ◌∷◌, eqb, get_or, Result, Ok, Err}
use Rattle.refusals.specs.declared.Refusal.{Refusal}
use Rattle.refusals.specs.declared.Refusal.TheVariants.{Number}
use Rattle.bits.specs.Bits.{any_below, tabulate}
use Rattle.entries.specs.declared.Entry.{Entry}
use Rattle.entries.specs.Entries.{no_entry, cleared_entry, filled, form_refusal, if_accepted, precedes}
use Rattle.schedule.specs.declared.Day.{Day}

-- the first n entries, cleared
unfoldable pub cleared_front : List Entry → ℕ → List Entry
cleared_front es n = tabulate n (λ i. cleared_entry (get_or es i no_entry))

-- an entry goes in after those at the front that come before it
unfoldable pub insert : Entry → List Entry → List Entry
insert e [] = e ∷ []
insert e (x ∷ xs) = cond (precedes x e) (x ∷ insert e xs) (e ∷ x ∷ xs)

-- entries go in one by one
unfoldable pub insert_all : List Entry → List Entry → List Entry
insert_all day [] = day
insert_all day (e ∷ es) = insert_all (insert e day) es

abbrev pub inserted : List Entry → List Entry
inserted es = insert_all [] es

-- ---- refusals

-- within the first n, an entry has the number of an earlier one
unfoldable pub number_twice : List Entry → ℕ → Bool
number_twice es n =
    any_below n (λ i. any_below i (λ j. eqb (get_or es j no_entry).number (get_or es i no_entry).number))

-- these entries are refused, with 32, 33 or 34, or accepted
unfoldable pub day_refusal : List Entry → ℕ → Result (Unit {0}) Refusal
day_refusal es n =
    if_accepted (form_refusal es n) (cond (number_twice es n) (Err Number) (Ok tt))

-- ---- the call

unfoldable pub day_of : List Entry → ℕ → Day
day_of es n = record { entries = filled (inserted (cleared_front es n)); count = n }

-- the day of entries that are accepted
unfoldable pub day_answer : List Entry → ℕ → Result Day Refusal
day_answer es n = if_accepted (day_refusal es n) (Ok (day_of es n))
