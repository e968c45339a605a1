-- A line made column by column at the front of a page, and lines one after the other. Assumes
-- nothing.
use Prim.Native.Nat.{ℕ, suc, ◌+◌, ◌-◌, ◌*◌, ◌≤◌, ◌<◌}
use mathlib.Core.Path.{◌≡◌, refl, ap, ◌∙◌}
use mathlib.Core.Bool.{false}
use mathlib.Core.List.{List, [], ◌∷◌, ◌++◌, append_assoc, append-nil}
use native.Mathlib.Omega.{arith}
use native.Mathlib.Numerals.{add-one}
use lib.ListN.{length, get_or, set, take, drop, length-append, length-take, length-drop}
use lib.Seq.{take-suc}
use Rattle.std.proofs.lemmas.List.{take_rest}
use Rattle.decimal.specs.Decimal.{column, written}
use Rattle.decimal.proofs.Columns.{length_column, writes}
use Rattle.decimal.proofs.Pages.{byte_put, length_kept, part_put, line_put}
use Rattle.entries.specs.declared.Entry.{Entry}
use Rattle.entries.specs.Entries.{bad_entry, name_of, no_entry}
use Rattle.entries.proofs.Tests.{good_length}
use Rattle.wall_page.specs.Pages.{time_of, printed_name, line_of, lines_of}
use Rattle.wall_page.specs.Writers.{HasLine}
use Rattle.wall_page.proofs.Columns.{length_name, length_time}

-- a page that had b begins with n bytes x, and goes on as it was
pub record Begins (x : List ℕ) (n : ℕ) (b page : List ℕ) : Type 0 where
  pub has : page ≡ x ++ drop n b
  pub long : length x ≡ n
  pub room : n ≤ length b

-- the page is as long as it was
pub as_long : (x b page : List ℕ) (n : ℕ) → Begins x n b page → length page ≡ length b
as_long x b page n h = ap length h.has ∙ length_kept x b n h.long h.room

-- the number in its columns
pub number_put : (k : ℕ) (b page : List ℕ) → k < 10000000000 → 10 ≤ length b → page ≡ written k 10 b → Begins (column k 10) 10 b page
number_put k b page h r e =
    record {
      has = e ∙ writes k 10 b h (omega arith) (omega arith) r;
      long = length_column k 10 h (omega arith);
      room = r;
    }

-- one byte more
pub next_byte : (x b page : List ℕ) (n v : ℕ) → Begins x n b page → n < length b → Begins (x ++ (v ∷ [])) (suc n) b (set page n v)
next_byte x b page n v h r =
    record {
      has = ap (λ (l : List ℕ). set l n v) h.has ∙ byte_put x b n v h.long r;
      long = rw length-append (omega (arith, h.long));
      room = r;
    }

-- the part of a page from n on, which a writer gets, and the page that it leaves
abbrev pub part_from : ℕ → List ℕ → List ℕ
part_from n page = take (length page - n) (drop n page)

abbrev pub with_part : ℕ → List ℕ → List ℕ → List ℕ
with_part n part page = take n page ++ (part ++ drop (length page - n) (drop n page))

-- w bytes y more, put by a writer at the front of its part
pub next_part : (x y b page part : List ℕ) (n w : ℕ) → Begins x n b page → length y ≡ w → n + w ≤ length b → part ≡ y ++ drop w (part_from n page)
    → Begins (x ++ y) (n + w) b (with_part n part page)
next_part x y b page part n w h l r e =
    record {
      has = part_put y page part n w e ∙ line_put x y b page n w h.long h.has;
      long = rw length-append (omega (arith, h.long));
      room = r;
    }

-- how long that part is
pub length_part : (x b page : List ℕ) (n : ℕ) → Begins x n b page → length (part_from n page) ≡ length b - n
length_part x b page n h = rw (take_rest page n, length-drop, as_long x b page n h)

-- ---- a line

-- the line of an entry up to its time, to the space after that, to its name and to its line feed
abbrev pub up_to_time : Entry → List ℕ
up_to_time e = column e.number 10 ++ (32 ∷ [])

abbrev pub up_to_space : Entry → List ℕ
up_to_space e = up_to_time e ++ time_of e.minute

abbrev pub up_to_name : Entry → List ℕ
up_to_name e = up_to_space e ++ (32 ∷ [])

abbrev pub up_to_feed : Entry → List ℕ
up_to_feed e = up_to_name e ++ printed_name e

pub length_printed : (e : Entry) → bad_entry e ≡ false → length (printed_name e) ≡ 32
unfolding name_of
length_printed e g = length_name (take e.length e.name) (rw length-take (omega (arith, good_length e g)))

-- the page as the line is put on it, part by part
module _ (e : Entry) (b numbered : List ℕ) (h : e.number < 10000000000) (r : 50 ≤ length b) (w : numbered ≡ written e.number 10 b) where
  -- with a space after the number
  pub number_spaced : Begins (up_to_time e) 11 b (set numbered 10 32)
  number_spaced = next_byte (column e.number 10) b numbered 10 32 (number_put e.number b numbered h (omega arith) w) (omega arith)

  module _ (time : List ℕ) (t : time ≡ time_of e.minute ++ drop 5 (part_from 11 (set numbered 10 32))) where
    abbrev timed : List ℕ
    timed = with_part 11 time (set numbered 10 32)

    -- with a space after the time
    pub time_spaced : Begins (up_to_name e) 17 b (set timed 16 32)
    time_spaced =
        next_byte (up_to_space e) b timed 16 32
        (next_part (up_to_time e) (time_of e.minute) b (set numbered 10 32) time 11 5 number_spaced (length_time e.minute) (omega arith) t) (omega arith)

    -- with a line feed after the name
    pub line_made : (name : List ℕ) → bad_entry e ≡ false → name ≡ printed_name e ++ drop 32 (part_from 17 (set timed 16 32))
        → HasLine e b (set (with_part 17 name (set timed 16 32)) 49 10)
    unfolding line_of
    line_made name g n =
        let named =
        next_byte (up_to_feed e) b (with_part 17 name (set timed 16 32)) 49 10
        (next_part (up_to_name e) (printed_name e) b (set timed 16 32) name 17 32 time_spaced (length_printed e g) (omega arith) n) (omega arith) in
        record { page = named.has; long = named.long }

-- ---- lines

lines_join : (xs ys : List Entry) → lines_of (xs ++ ys) ≡ lines_of xs ++ lines_of ys
unfolding lines_of
lines_join [] ys = refl
lines_join (x ∷ xs) ys = rw (lines_join xs ys, append_assoc)

-- one line more
pub lines_more : (es : List Entry) (r : ℕ) → r < length es → lines_of (take (r + 1) es) ≡ lines_of (take r es) ++ line_of (get_or es r no_entry)
unfolding lines_of
lines_more es r h = rw (add-one, take-suc es r no_entry h, lines_join, append-nil)

pub next_line : (es : List Entry) (b page part : List ℕ) (r : ℕ) → Begins (lines_of (take r es)) (50 * r) b page → r < length es → 50 * r + 50 ≤ length b
    → HasLine (get_or es r no_entry) (part_from (50 * r) page) part → Begins (lines_of (take (r + 1) es)) (50 * (r + 1)) b (with_part (50 * r) part page)
next_line es b page part r h g room l =
    let k : 50 * (r + 1) ≡ 50 * r + 50 = omega arith in
    rw (lines_more es r g, k) (next_part (lines_of (take r es)) (line_of (get_or es r no_entry)) b page part (50 * r) 50 h l.long room l.page)

pub no_line : (es : List Entry) (b : List ℕ) → Begins (lines_of (take 0 es)) (50 * 0) b b
unfolding lines_of
no_line es b = record { has = refl; long = refl; room = omega arith }
