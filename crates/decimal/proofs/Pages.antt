-- Bytes put on a page: columns and a byte after them at its front, a line at its own byte, and a
-- part of the page that another call wrote. Assumes nothing.
use Prim.Native.Nat.{ℕ, suc, ◌+◌, ◌-◌, ◌≤◌, ◌<◌}
use mathlib.Core.Path.{◌≡◌, sym, ap, ◌∙◌}
use mathlib.Core.List.{List, [], ◌∷◌, ◌++◌, append_assoc, append-nil}
use lib.ListN.{length, get_or, take, drop, set, length-append, length-drop}
use lib.Seq.{drop-cons, drop-drop, drop-length, set_at, take_at, drop-append-add}
use native.Mathlib.Omega.{arith}
use Rattle.std.proofs.lemmas.List.{take_rest}

-- a byte x after the columns, as a space or a line feed
pub byte_put : (columns b : List ℕ) (w x : ℕ) → length columns ≡ w → w < length b → set (columns ++ drop w b) w x ≡ (columns ++ (x ∷ [])) ++ drop (suc w) b
byte_put columns b w x e h = rw (drop-cons b w 0 h, set_at columns (get_or b w 0) (drop (suc w) b) x w e, append_assoc)

-- bytes at the front leave the page as long as it was
pub length_kept : (x b : List ℕ) (n : ℕ) → length x ≡ n → n ≤ length b → length (x ++ drop n b) ≡ length b
length_kept x b n e h = rw (length-append, length-drop) (omega arith)

-- ---- a part of a page, from `at` to its end

pub past_tail : (b : List ℕ) (at : ℕ) → drop (length b - at) (drop at b) ≡ []
past_tail b at = ap (λ (n : ℕ). drop n (drop at b)) (sym (length-drop at b)) ∙ drop-length (drop at b)

-- the writer had the part of the page from n on, and put w bytes `x` at its front
pub part_put : (x page part : List ℕ) (n w : ℕ) → part ≡ x ++ drop w (take (length page - n) (drop n page))
    → take n page ++ (part ++ drop (length page - n) (drop n page)) ≡ take n page ++ (x ++ drop (n + w) page)
part_put x page part n w e = rw (e, take_rest page n, past_tail page n, append-nil, drop-drop w n page)

-- ---- one line after the other

-- w bytes `x` after `front` of n, in a page that had `b`
pub line_put : (front x b page : List ℕ) (n w : ℕ) → length front ≡ n → page ≡ front ++ drop n b → take n page ++ (x ++ drop (n + w) page) ≡ (front ++ x) ++ drop (n + w) b
line_put front x b page n w l e =
    let d : drop (n + w) (front ++ drop n b) ≡ drop (n + w) b =
    ap (λ (i : ℕ). drop (i + w) (front ++ drop n b)) (sym l) ∙ drop-append-add front (drop n b) w ∙ drop-drop w n b in
    rw (e, take_at front (drop n b) n l, d, append_assoc)
