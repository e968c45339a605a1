-- The time and the name in their columns: what the stores make, and how long they are. Assumes
-- nothing.
use Prim.Native.Nat.{ℕ, zero, suc, ◌+◌, ◌-◌, ◌≤◌, ◌<◌}
use mathlib.Core.Path.{◌≡◌, refl, sym, ap, ◌∙◌}
use mathlib.Core.Bool.{cond}
use mathlib.Core.List.{List, [], ◌∷◌, ◌++◌, append_assoc, append-nil}
use native.Mathlib.Omega.{arith}
use native.Mathlib.Nat.{add-zero, add-suc}
use native.Mathlib.Numerals.{add-one}
use lib.Dec.{ltb}
use lib.ListN.{length, get_or, set, take, drop, replicate, length-append, length-map, length-replicate, replicate-append-replicate}
use lib.Seq.{length-take-le}
use borrow.Author.Tests.{lt-ltb, le-ltb}
use Rattle.bits.specs.Bits.{tabulate}
use Rattle.bits.proofs.Lists.{length_tabulate, tabulate_same}
use Rattle.decimal.proofs.Pages.{byte_put}
use Rattle.entries.proofs.Fills.{table_front}
use Rattle.wall_page.specs.Pages.{time_of, printed_byte, name_column}

-- ---- the time

-- five bytes at the front
pub five_put : (b : List ℕ) (v w x y z : ℕ) → 5 ≤ length b
    → set (set (set (set (set b 0 v) 1 w) 2 x) 3 y) 4 z ≡ (v ∷ w ∷ x ∷ y ∷ z ∷ []) ++ drop 5 b
five_put [] v w x y z h = absurd (omega arith)
five_put (a ∷ []) v w x y z h = absurd (omega arith)
five_put (a ∷ b ∷ []) v w x y z h = absurd (omega arith)
five_put (a ∷ b ∷ c ∷ []) v w x y z h = absurd (omega arith)
five_put (a ∷ b ∷ c ∷ d ∷ []) v w x y z h = absurd (omega arith)
five_put (a ∷ b ∷ c ∷ d ∷ e ∷ l) v w x y z h = refl

pub length_time : (m : ℕ) → length (time_of m) ≡ 5
unfolding time_of
length_time m = refl

-- ---- the name

-- the byte in column i of a name of n bytes
abbrev pub name_byte : List ℕ → ℕ → ℕ → ℕ
name_byte name n i = cond (ltb i n) (printed_byte (get_or name i 0)) 32

-- one byte more of a name in its columns, at the front of a page that had b
pub name_more : (f : ℕ → ℕ) (b page : List ℕ) (i x : ℕ) → i < length b → page ≡ tabulate i f ++ drop i b → x ≡ f i → set page i x ≡ tabulate (i + 1) f ++ drop (i + 1) b
unfolding tabulate
name_more f b page i x h e q =
    ap (λ (l : List ℕ). set l i x) e ∙ rw (byte_put (tabulate i f) b i x (length_tabulate i f) h, q, add-one)

-- bytes below n, and then k of z
padded : (g : ℕ → ℕ) (z n k : ℕ) → tabulate (n + k) (λ i. cond (ltb i n) (g i) z) ≡ tabulate n g ++ replicate k z
unfolding tabulate
padded g z n zero =
    rw (add-zero, append-nil) (tabulate_same n (λ i. cond (ltb i n) (g i) z) g (λ i h. rw (lt-ltb i n h)))
padded g z n (suc k) =
    let r : replicate k z ++ (z ∷ []) ≡ replicate (suc k) z = replicate-append-replicate k 1 z ∙ rw add-one in
    rw (add-suc, padded g z n k, le-ltb (n + k) n (omega arith), append_assoc, r)

-- all 32 columns
pub name_made : (name : List ℕ) (n : ℕ) → n ≤ length name → n ≤ 32 → tabulate 32 (name_byte name n) ≡ name_column (take n name)
unfolding name_column
name_made name n h g =
    let k : n + (32 - n) ≡ 32 = omega arith in
    ap (λ (m : ℕ). tabulate m (name_byte name n)) (sym k)
    ∙ padded (λ i. printed_byte (get_or name i 0)) 32 n (32 - n)
    ∙ rw (table_front printed_byte n name 0 h, length-take-le n name h)

pub length_name : (name : List ℕ) → length name ≤ 32 → length (name_column name) ≡ 32
unfolding name_column
length_name name h = rw (length-append, length-map, length-replicate) (omega arith)
