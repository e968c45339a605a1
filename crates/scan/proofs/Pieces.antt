-- Two parts, piece by piece: how their compares are made, and how many agree. Assumes nothing.
use Prim.Native.Nat.{ℕ, ◌+◌, ◌*◌, ◌-◌, ◌/◌, ◌≤◌, ◌<◌, min}
use mathlib.Core.Path.{◌≡◌, refl, sym, ap, ◌∙◌}
use mathlib.Core.Bool.{Bool, true, false}
use mathlib.Core.List.{List}
use lib.Dec.{ltb}
use lib.ListN.{length, take, drop, length-take, length-drop}
use lib.IntN.{pos}
use native.Mathlib.Omega.{arith}
use borrow.Author.Count.{below_more}
use Rattle.bits.proofs.Below.{least_at, least_none}
use Rattle.blocks.specs.Blocks.{compare_index, each_negated, index_at, operand_of}
use Rattle.blocks.proofs.Compares.{compare_called}
use Rattle.unit.specs.Elements.{Reading}
use Rattle.unit.specs.Operand.{count}
use Rattle.unit.proofs.Elements.{part_is}
use Rattle.scan.proofs.Scans.{block_room}
use Rattle.scan.specs.Scan.{common, piece_count, piece, pieces_differ, agreeing}

-- ---- how many pieces there are

-- the whole pieces of n elements, and one more for what is left
pub count_even : (words : Bool) (n i : ℕ) → i * count words ≡ n → i ≡ piece_count words n
count_even true n i e = omega arith
count_even false n i e = omega arith

pub count_odd : (words : Bool) (n i : ℕ) → i * count words < n → n < i * count words + count words → i + 1 ≡ piece_count words n
count_odd true n i h g = omega arith
count_odd false n i h g = omega arith

pub count_more : (words : Bool) (n i : ℕ) → i * count words < n → i < piece_count words n
count_more true n i h = omega arith
count_more false n i h = omega arith

module _ (words : Bool) (x y : List ℕ) where
  abbrev n : ℕ
  n = common x y

  abbrev b : ℕ
  b = count words

  -- the first i pieces agree
  abbrev pub Agreed : ℕ → Type 0
  Agreed i = (k : ℕ) → k < i → pieces_differ words x y k ≡ false

  pub agreed_ended : (i : ℕ) → Agreed i → i * b < n → pieces_differ words x y i ≡ true → i ≡ agreeing words x y
  unfolding agreeing
  agreed_ended i c h t = sym (least_at (piece_count words n) (pieces_differ words x y) i (count_more words n i h) c t)

  pub agreed_all : (i : ℕ) → Agreed i → i ≡ piece_count words n → i ≡ agreeing words x y
  unfolding agreeing
  agreed_all i c e = e ∙ sym (least_none (piece_count words n) (pieces_differ words x y) (λ k h. c k (omega arith)))

  pub agreed_more : (i : ℕ) → Agreed i → pieces_differ words x y i ≡ false → Agreed (i + 1)
  agreed_more i c e = below_more (λ k. pieces_differ words x y k ≡ false) i c e

  -- ---- a compare as code makes it: piece i reaches from p to e

  module _ (i p e k : ℕ) (at : p ≡ i * b) (to : e - p ≡ min b (n - i * b)) where
    piece_is : (z : List ℕ) → take (e - p) (drop p z) ≡ piece words n z i
    piece_is z = ap (λ (m : ℕ). take m (drop p z)) to ∙ ap (λ (q : ℕ). take (min b (n - i * b)) (drop q z)) at

    pub piece_differs_lem : k ≡ compare_index words each_negated (take (e - p) (drop p x)) (take (e - p) (drop p y)) → pieces_differ words x y i ≡ ltb k b
    piece_differs_lem is = sym (ap (λ (m : ℕ). ltb m b) (is ∙ (λ t. compare_index words each_negated (piece_is x t) (piece_is y t))))

-- ---- the compares as code makes them, in pieces of b of parts whose elements are read as numbers

module _ {A : Type 0} {numbers : List A → List ℕ} {number : A → ℕ} (r : Reading numbers number) (words : Bool) (x y : List A) (b n : ℕ) (is : b ≡ count words) (size : n ≡ min (length x) (length y)) where
  abbrev differ : ℕ → Bool
  differ = pieces_differ words (numbers x) (numbers y)

  abbrev part : List A → ℕ → ℕ → List ℕ
  part z p e = numbers (take (e - p) (drop p z))

  both : n ≡ common (numbers x) (numbers y)
  both = rw (r.long x, r.long y) size

  -- piece i reaches from i b to e
  piece_differs : (i e k : ℕ) → e - i * b ≡ min b (n - i * b) → k ≡ compare_index words each_negated (part x (i * b) e) (part y (i * b) e) → differ i ≡ ltb k b
  piece_differs i e k to h =
      piece_differs_lem words (numbers x) (numbers y) i (i * b) e k (rw is refl) (to ∙ rw (is, both) refl)
      (h ∙ (λ t. compare_index words each_negated (part_is r (i * b) e x t) (part_is r (i * b) e y t)))
      ∙ rw is refl

  -- a whole one, by its operands
  pub whole_differs : (i k : ℕ) (o z : List ℕ) → i < n / b → k ≡ index_at words each_negated o b z b
      → o ≡ operand_of words (part x (i * b) (i * b + b))
      → z ≡ operand_of words (part y (i * b) (i * b + b))
      → differ i ≡ ltb k b
  whole_differs i k o z h called ho hz =
      let room : i * count words + count words ≤ n = block_room words i n (rw is at h) in
      let within : i * b + b ≤ n = rw is room in
      let hx : length (part x (i * b) (i * b + b)) ≡ b = r.long (take (i * b + b - i * b) (drop (i * b) x)) ∙ rw (length-take, length-drop) (omega arith) in
      let hy : length (part y (i * b) (i * b + b)) ≡ b = r.long (take (i * b + b - i * b) (drop (i * b) y)) ∙ rw (length-take, length-drop) (omega arith) in
      piece_differs i (i * b + b) k (omega arith)
      (called ∙ compare_called words each_negated (part x (i * b) (i * b + b)) (part y (i * b) (i * b + b)) o z (pos b) (pos b) ho (ap pos (sym hx)) hz (ap pos (sym hy)))

  pub whole_room : (i : ℕ) → i < n / b → i * b < n
  whole_room i h = rw is (room words i n (rw is at h))
    where
      room : (words : Bool) (i n : ℕ) → i < n / count words → i * count words < n
      room true i n h = omega arith
      room false i n h = omega arith

  pub ended : (i : ℕ) → Agreed words (numbers x) (numbers y) i → i * b < n → differ i ≡ true → i ≡ agreeing words (numbers x) (numbers y)
  ended i c h t = agreed_ended words (numbers x) (numbers y) i c (rw (is, both) at h) t

  -- what the whole pieces leave
  rest : (n / b * b ≤ n) × (n < n / b * b + b)
  rest = rw is (halves words n)
    where
      halves : (words : Bool) (n : ℕ) → (n / count words * count words ≤ n) × (n < n / count words * count words + count words)
      halves true n = (omega arith, omega arith)
      halves false n = (omega arith, omega arith)

  pub none_left : Agreed words (numbers x) (numbers y) (n / b) → n / b * b ≡ n → n / b ≡ agreeing words (numbers x) (numbers y)
  none_left c e = agreed_all words (numbers x) (numbers y) (n / b) c (count_even words _ (n / b) (ap (λ (m : ℕ). n / b * m) (sym is) ∙ e ∙ both))

  -- the last, shorter one
  pub last_differs : (k : ℕ) → k ≡ compare_index words each_negated (part x (n / b * b) n) (part y (n / b * b) n) → differ (n / b) ≡ ltb k b
  last_differs k h = piece_differs (n / b) n k (omega (arith, rest.1)) h

  pub last_ended : Agreed words (numbers x) (numbers y) (n / b) → (n / b * b ≡ n → ⊥) → differ (n / b) ≡ true → n / b ≡ agreeing words (numbers x) (numbers y)
  last_ended c some t = ended (n / b) c (omega (arith, rest.0)) t

  pub last_agreed : Agreed words (numbers x) (numbers y) (n / b) → (n / b * b ≡ n → ⊥) → differ (n / b) ≡ false → n / b + 1 ≡ agreeing words (numbers x) (numbers y)
  last_agreed c some t =
      let i = n / b in
      let at : i * b ≡ i * count words = ap (λ (m : ℕ). i * m) is in
      agreed_all words (numbers x) (numbers y) (i + 1) (agreed_more words (numbers x) (numbers y) i c t)
      (count_odd words _ i (omega (arith, rest.0, both)) (omega (arith, rest.1, both)))
