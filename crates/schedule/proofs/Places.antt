-- The places of entries in an array, and where a new one goes in among them. Assumes nothing.
use Prim.Native.Nat.{ℕ, zero, suc, ◌+◌, ◌≤◌, ◌<◌}
use mathlib.Core.Path.{◌≡◌, refl, sym, ap, ◌∙◌}
use mathlib.Core.Bool.{Bool, true, false}
use mathlib.Core.List.{List, [], ◌∷◌, ◌++◌}
use native.Mathlib.Omega.{arith}
use lib.ListN.{length, get_or, take, drop, length-map}
use lib.Seq.{length-take-le, get_or-take, take-take}
use Rattle.bits.specs.Bits.{tabulate}
use Rattle.bits.proofs.Below.{by_order}
use Rattle.entries.specs.declared.Entry.{Entry}
use Rattle.entries.specs.Entries.{precedes, no_entry}
use Rattle.entries.proofs.Fills.{table_front}
use Rattle.schedule.specs.Days.{insert, insert_all, inserted}
use Rattle.schedule.specs.Places.{entries_at, Places, no_place, and_place, Placed, PutAt}
use Rattle.schedule.proofs.Lists.{take_more}
use Rattle.schedule.proofs.Sorting.{goes_at, one_more, all_in_order, front, back, InOrder, empty}

-- ---- places

pub place_at : {m : ℕ} {ks : List ℕ} → Places m ks → (i : ℕ) → i < length ks → get_or ks i 0 < m
place_at no_place i h = absurd (omega arith)
place_at (and_place p ps) zero h = p
place_at (and_place p ps) (suc i) h = place_at ps i (omega arith)

join : {m : ℕ} {ks js : List ℕ} → Places m ks → Places m js → Places m (ks ++ js)
join no_place q = q
join (and_place p ps) q = and_place p (join ps q)

take_places : {m : ℕ} {ks : List ℕ} (n : ℕ) → Places m ks → Places m (take n ks)
take_places zero ps = no_place
take_places (suc n) no_place = no_place
take_places (suc n) (and_place p ps) = and_place p (take_places n ps)

drop_places : {m : ℕ} {ks : List ℕ} (n : ℕ) → Places m ks → Places m (drop n ks)
drop_places zero ps = ps
drop_places (suc n) no_place = no_place
drop_places (suc n) (and_place p ps) = drop_places n ps

-- a place is put in
pub put_places : {m : ℕ} {ks : List ℕ} (p v : ℕ) → v < m → Places m ks → Places m (take p ks ++ v ∷ drop p ks)
put_places p v h ps = join (take_places p ps) (and_place h (drop_places p ps))

-- ---- the entries at places

pub entries_long : (es : List Entry) (ks : List ℕ) → length (entries_at es ks) ≡ length ks
unfolding entries_at
entries_long es ks = length-map ks (λ k. get_or es k no_entry)

pub entries_at_lem : (es : List Entry) (ks : List ℕ) (i : ℕ) (d : Entry) → i < length ks → get_or (entries_at es ks) i d ≡ get_or es (get_or ks i 0) no_entry
unfolding entries_at
entries_at_lem es [] i d h = absurd (omega arith)
entries_at_lem es (k ∷ ks) zero d h = refl
entries_at_lem es (k ∷ ks) (suc i) d h = entries_at_lem es ks i d (omega arith)

-- the entries at the first n places, one by one
pub entries_table : (es : List Entry) (ks : List ℕ) (n : ℕ) → n ≤ length ks → tabulate n (λ i. get_or es (get_or ks i 0) no_entry) ≡ entries_at es (take n ks)
unfolding entries_at
entries_table es ks n h = table_front (λ k. get_or es k no_entry) n ks 0 h

entries_put : (es : List Entry) (ks : List ℕ) (p v : ℕ) → entries_at es (take p ks ++ v ∷ drop p ks) ≡ take p (entries_at es ks) ++ get_or es v no_entry ∷ drop p (entries_at es ks)
unfolding entries_at
entries_put es ks zero v = refl
entries_put es [] (suc p) v = refl
entries_put es (k ∷ ks) (suc p) v = ap (λ (l : List Entry). get_or es k no_entry ∷ l) (entries_put es ks p v)

-- the entry at place k, which is number m of the first i places
module _ (es : List Entry) (ks : List ℕ) (i m k : ℕ) (h : m < i) (l : i ≤ length ks) (e : k ≡ get_or ks m 0) where
  pub place_below : Places (length es) (take i ks) → k < length es
  place_below ps =
      let q : get_or (take i ks) m 0 ≡ get_or ks m 0 = get_or-take i ks m 0 h in
      omega (arith, place_at ps m (omega (arith, length-take-le i ks l)))

  entry_read : get_or (entries_at es (take i ks)) m no_entry ≡ get_or es k no_entry
  entry_read =
      entries_at_lem es (take i ks) m no_entry (omega (arith, length-take-le i ks l))
      ∙ ap (λ (j : ℕ). get_or es j no_entry) (get_or-take i ks m 0 h ∙ sym e)

-- ---- halving

-- what the halving knows: those below `low` come before e, and those from `high` on do not
pub record Halved (day : List Entry) (e : Entry) (low high : ℕ) : Type 0 where
  pub below : (k : ℕ) → k < low → precedes (get_or day k no_entry) e ≡ true
  pub above : (k : ℕ) → high ≤ k → k < length day → precedes (get_or day k no_entry) e ≡ false

module _ {day : List Entry} (s : InOrder day) (e : Entry) (low high m : ℕ) (h : Halved day e low high) (k : m < length day) where
  halved_up : precedes (get_or day m no_entry) e ≡ true → Halved day e (m + 1) high
  halved_up t = record {
    below = λ j u. by_order j m (front s no_entry e m k t j) (λ v. let q : j ≡ m = omega arith in rw q t);
    above = h.above;
  }

  halved_down : precedes (get_or day m no_entry) e ≡ false → Halved day e low m
  halved_down t = record {
    below = h.below;
    above = λ j u v. by_order m j (λ w. back s no_entry e m t j w v) (λ w. let q : j ≡ m = omega arith in rw q t);
  }

-- ---- the loops

-- where the halving for an entry e has got to
abbrev pub Searched : List Entry → List ℕ → ℕ → Entry → ℕ → ℕ → Type 0
Searched es ks i e low high = Halved (entries_at es (take i ks)) e low high

module _ (es : List Entry) (ks : List ℕ) (i : ℕ) (p : Placed es ks i) (b : i ≤ 200) where
  day_long : length (entries_at es (take i ks)) ≡ i
  day_long = entries_long es (take i ks) ∙ length-take-le i ks (omega (arith, p.long))

  day_in_order : InOrder (entries_at es (take i ks))
  day_in_order = rw p.in_place (all_in_order (take i es) empty)

  pub search_start : (e : Entry) → Searched es ks i e 0 i
  search_start e = record { below = λ k h. absurd (omega arith); above = λ k h u. absurd (omega (arith, day_long)) }

  -- entry number m of the day, at place k, is compared; r is the answer
  module _ (e : Entry) (low high m k : ℕ) (r : Bool) (h : m < i) (q : k ≡ get_or ks m 0)
      (f : r ≡ precedes (get_or es k no_entry) e) (s : Searched es ks i e low high) where
    answer : (t : Bool) → r ≡ t → precedes (get_or (entries_at es (take i ks)) m no_entry) e ≡ t
    answer t g = ap (λ (y : Entry). precedes y e) (entry_read es ks i m k h (omega (arith, p.long)) q) ∙ sym f ∙ g

    pub search_up : r ≡ true → Searched es ks i e (m + 1) high
    search_up g = halved_up day_in_order e low high m s (omega (arith, day_long)) (answer true g)

    pub search_down : r ≡ false → Searched es ks i e low m
    search_down g = halved_down day_in_order e low high m s (omega (arith, day_long)) (answer false g)

  -- entry i goes in where the halving ended
  pub placed_more : (ls : List ℕ) (at : ℕ) → i < length es → at ≤ i → PutAt ks ls at i i
      → Searched es ks i (get_or es i no_entry) at at → Placed es ls (i + 1)
  placed_more ls at h u w v =
      let day = entries_at es (take i ks) in
      let x = get_or es i no_entry in
      let q : take (i + 1) ls ≡ take at (take i ks) ++ i ∷ drop at (take i ks) =
      w.front ∙ ap (λ (l : List ℕ). l ++ i ∷ drop at (take i ks)) (sym (take-take at i ks u)) in
      record {
        long = w.long;
        places = rw q (put_places at i h p.places);
        in_place =
            ap (entries_at es) q ∙ entries_put es (take i ks) at i
            ∙ sym (goes_at no_entry x day at (omega (arith, day_long)) v.below (λ t. v.above at (omega arith) t))
            ∙ ap (insert x) p.in_place ∙ sym (one_more [] (take i es) x) ∙ ap inserted (sym (take_more es i no_entry h));
      }

pub placed_none : (es : List Entry) (ks : List ℕ) → length ks ≡ 200 → Placed es ks 0
unfolding entries_at insert_all
placed_none es ks h = record { long = h; places = no_place; in_place = refl }
