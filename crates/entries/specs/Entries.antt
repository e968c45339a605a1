-- An entry of the day (document 02 [5]): a minute of the day, a name with its length, and an entry
-- number. When it is bad, what it is cleared, and when it comes before another.
use Rattle.std.specs.Prelude.{ℕ, ◌-◌, ◌≡◌, Bool, true, false, cond, ◌||◌, List, [], ◌++◌, ltb, length, get_or, take, replicate, ℤ, pos, Result, Ok, Err}
use Rattle.std.specs.Int.Signed.{lt_z}
use Rattle.bits.specs.Bits.{any_below, tabulate}
use Rattle.unit.specs.Operand.{in_bytes}
use Rattle.orders.specs.Orders.{order}
use Rattle.refusals.specs.declared.Refusal.{Refusal}
use Rattle.refusals.specs.declared.Refusal.TheVariants.{Count}
use Rattle.refusals.specs.declared.Refusal.TheVariants as TheVariants
use Rattle.entries.specs.declared.Entry.{Entry}

-- the most entries of a day, the last minute of a day, and the most bytes of a name
abbrev pub most_entries : ℕ
most_entries = 200

abbrev pub last_minute : ℕ
last_minute = 1439

abbrev pub longest_name : ℕ
longest_name = 32

-- what `get_or` gives past a list's end
abbrev pub no_entry : Entry
no_entry = record { number = 0; minute = 0; length = 0; name = [] }

-- an entry of zeros
unfoldable pub empty_entry : Entry
empty_entry = record { number = 0; minute = 0; length = 0; name = replicate longest_name 0 }

-- entries, and empty ones after them up to 200
unfoldable pub filled : List Entry → List Entry
filled es = es ++ replicate (most_entries - length es) empty_entry

-- ---- cleared

-- name bytes past the length are zero
unfoldable pub cleared_name : List ℕ → ℕ → List ℕ
cleared_name name n = tabulate longest_name (λ i. cond (ltb i n) (get_or name i 0) 0)

unfoldable pub cleared_entry : Entry → Entry
cleared_entry e =
    record {
      number = e.number;
      minute = e.minute;
      length = e.length;
      name = cleared_name e.name e.length;
    }

-- ---- the order of entries

-- names are ordered as unsigned bytes
abbrev pub unsigned : Bool
unsigned = false

-- the bytes of the name within its length
unfoldable pub name_of : Entry → List ℕ
name_of e = take e.length e.name

-- true where the first is less, false where it is more, and else what comes next decides
abbrev pub decided : Bool → Bool → Bool → Bool
decided less more next = cond less true (cond more false next)

-- -1, 0 or 1, the order of two names, in the same way
abbrev pub decided_by : ℤ → Bool → Bool
decided_by o next = decided (lt_z o (pos 0)) (lt_z (pos 0) o) next

-- a comes before b: by minute, then by name in the unsigned order, then by entry number
unfoldable pub precedes : Entry → Entry → Bool
precedes a b =
    decided (ltb a.minute b.minute) (ltb b.minute a.minute)
    (decided_by (order in_bytes unsigned (name_of a) (name_of b)) (ltb a.number b.number))

-- What the order must be: no entry comes before itself, what comes before goes on from entry to
-- entry, and of two entries one comes before the other, unless minute, name and number are the
-- same. proofs/Order.antt shows it.
pub record IsTotal : Type 0 where
  pub irreflexive : (a : Entry) → precedes a a ≡ false
  pub transitive : (a b c : Entry) → precedes a b ≡ true → precedes b c ≡ true
      → precedes a c ≡ true
  pub total : (a b : Entry) → precedes a b ≡ false → precedes b a ≡ false
      → (a.minute ≡ b.minute) × (name_of a ≡ name_of b) × (a.number ≡ b.number)

-- ---- refusals

-- no day has its minute, or its name is too long
unfoldable pub bad_entry : Entry → Bool
bad_entry e = ltb last_minute e.minute || ltb longest_name e.length

-- what comes next, where a test was passed
abbrev pub if_accepted : {A : Type 0} → Result (Unit {0}) Refusal → Result A Refusal → Result A Refusal
if_accepted (Ok tt) next = next
if_accepted (Err r) next = Err r

-- n entries are refused by their count, or one by one, or accepted
unfoldable pub form_refusal : List Entry → ℕ → Result (Unit {0}) Refusal
form_refusal es n =
    cond (ltb most_entries n) (Err Count) (cond (any_below n (λ i. bad_entry (get_or es i no_entry))) (Err TheVariants.Entry) (Ok tt))
