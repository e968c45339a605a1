-- What a line and a page must be. Assumes nothing.
use Prim.Native.Nat.{ℕ, zero, suc, ◌+◌, ◌-◌, ◌*◌, ◌/◌, ◌%◌, ◌≤◌, ◌<◌}
use mathlib.Core.Path.{◌≡◌, refl, sym, ap, ◌∙◌}
use mathlib.Core.List.{List, [], ◌∷◌, ◌++◌, append_assoc, map}
use native.Mathlib.Omega.{arith}
use lib.Dec.{ltb}
use lib.ListN.{length, get_or, take, drop, replicate, length-append, get_or-append}
use lib.Seq.{take_at, drop_at, get_or_at, drop-append-add, length-take-le, get_or-take}
use borrow.Author.Tests.{ltb-false}
use Rattle.bits.proofs.Below.{by_test}
use Rattle.std.specs.Prelude.{Ok}
use Rattle.decimal.specs.Decimal.{column, digits, value}
use Rattle.decimal.proofs.Digits.{digits_numeral}
use Rattle.decimal.proofs.Columns.{length_column, value_column}
use Rattle.decimal.proofs.Pages.{length_kept}
use Rattle.entries.specs.declared.Entry.{Entry}
use Rattle.entries.specs.Entries.{name_of, no_entry, form_refusal}
use Rattle.entries.proofs.Tests.{good_minute, form_count, form_good}
use Rattle.wall_page.specs.Pages.{time_of, printed_byte, name_column, printed_name, line_of, lines_of, page_of, page_refusal}
use Rattle.wall_page.specs.Aligned.{Accepted, IsLine, Handed, IsPage}
use Rattle.wall_page.proofs.Columns.{length_time}
use Rattle.wall_page.proofs.Lines.{up_to_time, up_to_space, up_to_name, up_to_feed, length_printed}
use Rattle.wall_page.proofs.Refused.{accepted_form, accepted_room, page_written}

-- ---- fifty bytes

module _ (e : Entry) (h : Accepted e) where
  length_number : length (column e.number 10) ≡ 10
  length_number = length_column e.number 10 (omega (arith, h.number)) (omega arith)

  length_spaced : length (up_to_time e) ≡ 11
  length_spaced = rw (length-append, length_number)

  length_timed : length (up_to_space e) ≡ 16
  length_timed = rw (length-append, length_spaced, length_time e.minute)

  length_up : length (up_to_name e) ≡ 17
  length_up = rw (length-append, length_timed)

  length_front : length (up_to_feed e) ≡ 49
  length_front = rw (length-append, length_up, length_printed e h.good)

  pub fifty : length (line_of e) ≡ 50
  unfolding line_of
  fifty = rw (length-append, length_front)

  -- ---- the last is a line feed

  last : get_or (line_of e) 49 0 ≡ 10
  unfolding line_of
  last = get_or_at (up_to_feed e) 10 [] 0 49 length_front

-- ---- the others are printed

abbrev Printed : List ℕ → Type 0
Printed l = (i : ℕ) → i < length l → (32 ≤ get_or l i 0) × (get_or l i 0 ≤ 126)

printed_both : (x y : List ℕ) → Printed x → Printed y → Printed (x ++ y)
printed_both [] y f g i h = g i h
printed_both (a ∷ x) y f g zero h = f 0 (omega arith)
printed_both (a ∷ x) y f g (suc i) h = printed_both x y (λ j u. f (suc j) (omega arith)) g i (omega arith)

printed_one : (a : ℕ) → 32 ≤ a → a ≤ 126 → Printed (a ∷ [])
printed_one a l g zero h = (l, g)
printed_one a l g (suc i) h = absurd (omega arith)

printed_spaces : (k : ℕ) → Printed (replicate k 32)
printed_spaces zero i h = absurd (omega arith)
printed_spaces (suc k) zero h = (omega arith, omega arith)
printed_spaces (suc k) (suc i) h = printed_spaces k i (omega arith)

printed_digits : (n : ℕ) → Printed (digits n)
printed_digits n i h = let d = (digits_numeral n).each i h in (omega (arith, d.0), omega (arith, d.1))

printed_number : (n w : ℕ) → Printed (column n w)
unfolding column
printed_number n w = printed_both (replicate (w - length (digits n)) 32) (digits n) (printed_spaces (w - length (digits n))) (printed_digits n)

-- two digits of a number below 100, and other bytes after them
printed_two : (n : ℕ) (l : List ℕ) → n < 100 → Printed l → Printed ((48 + n / 10) ∷ (48 + n % 10) ∷ l)
printed_two n l h f zero u = (omega arith, omega arith)
printed_two n l h f (suc zero) u = (omega arith, omega arith)
printed_two n l h f (suc (suc i)) u = f i (omega arith)

printed_time : (m : ℕ) → m ≤ 1439 → Printed (time_of m)
unfolding time_of
printed_time m h = printed_two (m / 60) (58 ∷ (48 + m % 60 / 10) ∷ (48 + m % 60 % 10) ∷ []) (omega arith) (printed_both (58 ∷ []) ((48 + m % 60 / 10) ∷ (48 + m % 60 % 10) ∷ []) (printed_one 58 (omega arith) (omega arith)) (printed_two (m % 60) [] (omega arith) (λ i u. absurd (omega arith))))

printed_byte_lem : (x : ℕ) → (32 ≤ printed_byte x) × (printed_byte x ≤ 126)
unfolding printed_byte
printed_byte_lem x =
    by_test (ltb x 32) (λ e. rw e (omega arith, omega arith))
    (λ e. by_test (ltb 126 x) (λ f. rw (e, f) (omega arith, omega arith)) (λ f. rw (e, f) (ltb-false x 32 e, ltb-false 126 x f)))

printed_bytes : (l : List ℕ) → Printed (map printed_byte l)
printed_bytes [] i h = absurd (omega arith)
printed_bytes (x ∷ l) zero h = printed_byte_lem x
printed_bytes (x ∷ l) (suc i) h = printed_bytes l i (omega arith)

printed_name_lem : (l : List ℕ) → Printed (name_column l)
unfolding name_column
printed_name_lem l = printed_both (map printed_byte l) (replicate (32 - length l) 32) (printed_bytes l) (printed_spaces (32 - length l))

printed_front : (e : Entry) → Accepted e → Printed (up_to_feed e)
printed_front e h =
    let space = printed_one 32 (omega arith) (omega arith) in
    let number = printed_both (column e.number 10) (32 ∷ []) (printed_number e.number 10) space in
    let time = printed_both (up_to_time e) (time_of e.minute) number (printed_time e.minute (good_minute e h.good)) in
    printed_both (up_to_name e) (printed_name e) (printed_both (up_to_space e) (32 ∷ []) time space) (printed_name_lem (name_of e))

others : (e : Entry) → Accepted e → (i : ℕ) → i < 49 → (32 ≤ get_or (line_of e) i 0) × (get_or (line_of e) i 0 ≤ 126)
unfolding line_of
others e h i u =
    let within : i < length (up_to_feed e) = rw (length_front e h) u in
    rw (get_or-append (up_to_feed e) (10 ∷ []) 0 i within) (printed_front e h i within)

-- ---- unlike entries have unlike lines

parted : (x y v w : List ℕ) (n : ℕ) → length x ≡ n → length v ≡ n → x ++ y ≡ v ++ w → (x ≡ v) × (y ≡ w)
parted x y v w n h k e =
    (sym (take_at x y n h) ∙ ap (take n) e ∙ take_at v w n k, sym (drop_at x y n h) ∙ ap (drop n) e ∙ drop_at v w n k)

-- a time tells its minute
time_minute : (m k : ℕ) → time_of m ≡ time_of k → m ≡ k
unfolding time_of
time_minute m k e =
    let a : 48 + m / 60 / 10 ≡ 48 + k / 60 / 10 = ap (λ (l : List ℕ). get_or l 0 0) e in
    let b : 48 + m / 60 % 10 ≡ 48 + k / 60 % 10 = ap (λ (l : List ℕ). get_or l 1 0) e in
    let c : 48 + m % 60 / 10 ≡ 48 + k % 60 / 10 = ap (λ (l : List ℕ). get_or l 3 0) e in
    let d : 48 + m % 60 % 10 ≡ 48 + k % 60 % 10 = ap (λ (l : List ℕ). get_or l 4 0) e in
    omega arith

apart : (a b : Entry) → Accepted a → Accepted b → line_of a ≡ line_of b → (a.number ≡ b.number) × (a.minute ≡ b.minute) × (printed_name a ≡ printed_name b)
unfolding line_of
apart a b h k e =
    let at_feed = parted (up_to_feed a) (10 ∷ []) (up_to_feed b) (10 ∷ []) 49 (length_front a h) (length_front b k) e in
    let at_name = parted (up_to_name a) (printed_name a) (up_to_name b) (printed_name b) 17 (length_up a h) (length_up b k) at_feed.0 in
    let at_space = parted (up_to_space a) (32 ∷ []) (up_to_space b) (32 ∷ []) 16 (length_timed a h) (length_timed b k) at_name.0 in
    let at_time = parted (up_to_time a) (time_of a.minute) (up_to_time b) (time_of b.minute) 11 (length_spaced a h) (length_spaced b k) at_space.0 in
    let at_first = parted (column a.number 10) (32 ∷ []) (column b.number 10) (32 ∷ []) 10 (length_number a h) (length_number b k) at_time.0 in
    (sym (value_column a.number 10) ∙ ap value at_first.0 ∙ value_column b.number 10, time_minute a.minute b.minute at_time.1, at_name.1)

-- every line
pub is_line : IsLine
is_line = record { fifty = fifty; last = last; others = others; apart = apart }

-- ---- lines one after the other

-- each line of a list of entries has 50 bytes
abbrev Fifty : List Entry → Type 0
Fifty l = (i : ℕ) → i < length l → length (line_of (get_or l i no_entry)) ≡ 50

fifty_rest : (x : Entry) (l : List Entry) → Fifty (x ∷ l) → Fifty l
fifty_rest x l f i h = f (suc i) (omega arith)

length_lines : (l : List Entry) → Fifty l → length (lines_of l) ≡ 50 * length l
unfolding lines_of
length_lines [] f = refl
length_lines (x ∷ l) f = rw length-append (omega (arith, f 0 (omega arith), length_lines l (fifty_rest x l f)))

-- line r begins at byte 50 × r
line_at : (l : List Entry) (rest : List ℕ) → Fifty l → (r : ℕ) → r < length l → take 50 (drop (50 * r) (lines_of l ++ rest)) ≡ line_of (get_or l r no_entry)
unfolding lines_of
line_at [] rest f r h = absurd (omega arith)
line_at (x ∷ l) rest f zero h = rw append_assoc (take_at (line_of x) (lines_of l ++ rest) 50 (f 0 (omega arith)))
line_at (x ∷ l) rest f (suc r) h =
    let k : 50 * suc r ≡ length (line_of x) + 50 * r = omega (arith, f 0 (omega arith)) in
    rw (append_assoc, k, drop-append-add (line_of x) (lines_of l ++ rest) (50 * r)) (line_at l rest (fifty_rest x l f) r (omega arith))

-- ---- the page

module _ (es : List Entry) (n : ℕ) (b : List ℕ) (handed : Handed es) (z : page_refusal es n (length b) ≡ Ok tt) where
  form : form_refusal es n ≡ Ok tt
  form = accepted_form es n (length b) z

  within : n ≤ length es
  within = omega (arith, form_count es n form, handed.places)

  long : length (take n es) ≡ n
  long = length-take-le n es within

  good : (i : ℕ) → i < n → Accepted (get_or es i no_entry)
  good i h =
      record { number = handed.numbers i (omega (arith, form_count es n form)); good = form_good es n form i h }

  each : Fifty (take n es)
  each i h =
      let u : i < n = omega (arith, long) in
      rw (get_or-take n es i no_entry u) (fifty (get_or es i no_entry) (good i u))

  all_long : length (lines_of (take n es)) ≡ 50 * n
  all_long = length_lines (take n es) each ∙ rw long

  is_lined : IsPage es n b
  unfolding page_of
  is_lined =
      record {
        line = λ r h.
            rw (page_written es n b z)
            (line_at (take n es) (drop (50 * n) b) each r (omega (arith, long)) ∙ ap line_of (get_or-take n es r no_entry h));
        rest = rw (page_written es n b z) (drop_at (lines_of (take n es)) (drop (50 * n) b) (50 * n) all_long);
        same_length = rw (page_written es n b z) (length_kept (lines_of (take n es)) b (50 * n) all_long (accepted_room es n (length b) z));
      }

-- every page that is accepted
pub is_page : (es : List Entry) (n : ℕ) (b : List ℕ) → Handed es → page_refusal es n (length b) ≡ Ok tt → IsPage es n b
is_page = is_lined
