-- Worked days of document 02 [5], by hand, in one list that one computed check covers. Every byte
-- of a day is looked at.
use Rattle.std.specs.Prelude.{ℕ, ◌-◌, Bool, true, false, ◌&&◌, List, [], ◌∷◌, ◌++◌, T, eqb, length, replicate, Result, Ok, Err}
use Rattle.refusals.specs.declared.Refusal.{Refusal}
use Rattle.refusals.specs.Numbers.{status}
use Rattle.bits.specs.Bits.{least_below, tabulate}
use Rattle.unit.specs.Specimens.{all, same_list}
use Rattle.orders.specs.Orders.{order, difference}
use Rattle.entries.specs.declared.Entry.{Entry}
use Rattle.entries.specs.Entries.{empty_entry, filled, cleared_name, cleared_entry, name_of, precedes, bad_entry, form_refusal}
use Rattle.schedule.specs.declared.Day.{Day}
use Rattle.schedule.specs.Days.{cleared_front, insert, insert_all, number_twice, day_refusal, day_of, day_answer}

-- an entry with 255 in the bytes past its name, and the same with zeros there
unfoldable pub entered : ℕ → ℕ → List ℕ → Entry
entered k m s =
    record { number = k; minute = m; length = length s; name = s ++ replicate (32 - length s) 255 }

unfoldable pub clear : ℕ → ℕ → List ℕ → Entry
clear k m s =
    record { number = k; minute = m; length = length s; name = s ++ replicate (32 - length s) 0 }

-- two lists of entries are the same, byte for byte
abbrev pub same_entries : List Entry → List Entry → Bool
same_entries [] [] = true
same_entries [] (y ∷ ys) = false
same_entries (x ∷ xs) [] = false
same_entries (x ∷ xs) (y ∷ ys) =
    eqb x.number y.number && eqb x.minute y.minute && eqb x.length y.length
    && same_list x.name y.name && same_entries xs ys

-- the answer to these entries and n of a count
unfoldable pub answered : List Entry → ℕ → Result Day Refusal
answered es n = day_answer (filled es) n

-- an answer is a day of n entries, and this one
abbrev pub is_day : Result Day Refusal → ℕ → List Entry → Bool
is_day (Ok d) n day = eqb d.count n && same_entries d.entries (filled day)
is_day (Err r) n day = false

-- these entries, all within the count, make this day
unfoldable pub makes : List Entry → List Entry → Bool
makes es day = is_day (answered es (length es)) (length es) day

-- n of these entries are refused with this number
unfoldable pub refuses : List Entry → ℕ → ℕ → Bool
refuses es n number = eqb (status (answered es n)) number

unfoldable pub smith : List ℕ
smith = 83 ∷ 77 ∷ 73 ∷ 84 ∷ 72 ∷ []

unfoldable pub smithe : List ℕ
smithe = smith ++ 69 ∷ []

unfoldable pub jones : List ℕ
jones = 74 ∷ 79 ∷ 78 ∷ 69 ∷ 83 ∷ []

-- D1: no entry
unfoldable pub D1 : Bool
D1 = makes [] []

-- D2: one entry; the bytes past its name are cleared
unfoldable pub D2 : Bool
D2 = makes (entered 7 545 smith ∷ []) (clear 7 545 smith ∷ [])

-- D3: two at 10:30, in both orders of entry: `JONES` first; one at 9:05 goes before them
unfoldable pub D3 : Bool
D3 =
    makes (entered 3 630 smith ∷ entered 7 630 jones ∷ [])
    (clear 7 630 jones ∷ clear 3 630 smith ∷ [])
    && makes (entered 7 630 jones ∷ entered 3 630 smith ∷ [])
    (clear 7 630 jones ∷ clear 3 630 smith ∷ [])
    && makes (entered 3 630 smith ∷ entered 7 630 jones ∷ entered 9 545 smith ∷ [])
    (clear 9 545 smith ∷ clear 7 630 jones ∷ clear 3 630 smith ∷ [])

-- D4: `SMITH` and `SMITHE`: the shorter is smaller, whatever follows it
unfoldable pub D4 : Bool
D4 =
    makes (entered 3 630 smithe ∷ entered 7 630 smith ∷ [])
    (clear 7 630 smith ∷ clear 3 630 smithe ∷ [])
    && makes (entered 7 630 smith ∷ entered 3 630 smithe ∷ [])
    (clear 7 630 smith ∷ clear 3 630 smithe ∷ [])

-- D5: 220 is above `S`: bytes are unsigned
unfoldable pub D5 : Bool
D5 =
    makes (entered 3 630 (220 ∷ []) ∷ entered 7 630 smith ∷ [])
    (clear 7 630 smith ∷ clear 3 630 (220 ∷ []) ∷ [])

-- D6: one minute and one name: by entry number
unfoldable pub D6 : Bool
D6 =
    makes (entered 9 630 smith ∷ entered 7 630 smith ∷ entered 8 630 smith ∷ [])
    (clear 7 630 smith ∷ clear 8 630 smith ∷ clear 9 630 smith ∷ [])

-- D7: a minute of 1,440, and a name of 33 bytes, each within the count; past it neither is seen
unfoldable pub D7 : Bool
D7 =
    refuses (entered 3 630 smith ∷ entered 7 1440 smith ∷ []) 2 33
    && eqb (status (answered (entered 3 630 smith ∷ entered 7 1440 smith ∷ []) 1)) 0
    && refuses (entered 3 1439 (replicate 33 65) ∷ []) 1 33
    && makes (entered 3 1439 (replicate 32 65) ∷ []) (clear 3 1439 (replicate 32 65) ∷ [])

-- D8: a number twice, and 33 before 34; past the count it is not seen
unfoldable pub D8 : Bool
D8 =
    refuses (entered 7 630 smith ∷ entered 7 545 jones ∷ []) 2 34
    && refuses (entered 7 630 smith ∷ entered 7 1440 jones ∷ []) 2 33
    && eqb (status (answered (entered 7 630 smith ∷ entered 7 545 jones ∷ []) 1)) 0

-- D9: a count of 201, whatever the entries are
unfoldable pub D9 : Bool
D9 = refuses (entered 7 1440 smith ∷ entered 7 545 jones ∷ []) 201 32

pub days_hold : T (all (D1 ∷ D2 ∷ D3 ∷ D4 ∷ D5 ∷ D6 ∷ D7 ∷ D8 ∷ D9 ∷ []))
unfolding least_below tabulate order difference empty_entry filled cleared_name cleared_entry name_of precedes bad_entry form_refusal cleared_front insert insert_all number_twice day_refusal day_of day_answer entered clear answered makes refuses smith smithe jones D1 D2 D3 D4 D5 D6 D7 D8 D9
days_hold = tt
