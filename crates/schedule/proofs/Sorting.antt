-- Insertion: the entries are in order and a rearrangement of what went in; entries with unlike
-- numbers can go in in any order; and where an entry goes by its place. Assumes nothing.
use Prim.Native.Nat.{ℕ, zero, suc, ◌≤◌, ◌<◌}
use mathlib.Core.Path.{◌≡◌, refl, sym, ap, subst, ◌∙◌}
use mathlib.Core.Bool.{true, false}
use mathlib.Core.List.Permᴰ
use mathlib.Core.List.{List, [], ◌∷◌, ◌++◌, append-nil}
use native.Mathlib.Omega.{arith}
use lib.ListN.{length, get_or, take, drop}
use Rattle.bits.proofs.Below.{by_test}
use Rattle.entries.specs.declared.Entry.{Entry}
use Rattle.entries.specs.Entries.{no_entry, precedes}
use Rattle.entries.proofs.Order.{precedes_weak, tied, clash}
use Rattle.schedule.specs.Days.{insert, insert_all}
use Rattle.schedule.specs.Schedules.{Rearranged}

-- ---- one step of an insertion

pub past : (e x : Entry) (xs : List Entry) → precedes x e ≡ true → insert e (x ∷ xs) ≡ x ∷ insert e xs
unfolding insert
past e x xs h = rw h

pub here : (e x : Entry) (xs : List Entry) → precedes x e ≡ false → insert e (x ∷ xs) ≡ e ∷ x ∷ xs
unfolding insert
here e x xs h = rw h

pub last : (e : Entry) → insert e [] ≡ e ∷ []
unfolding insert
last e = refl

-- ---- in order

-- no entry of the list comes before e
pub data NoneBefore (e : Entry) : List Entry → Type 0 where
  no_entry_lem : NoneBefore e []
  and_not : {x : Entry} {xs : List Entry} → precedes x e ≡ false → NoneBefore e xs → NoneBefore e (x ∷ xs)

-- no entry comes before an earlier one
pub data InOrder : List Entry → Type 0 where
  empty : InOrder []
  more : {e : Entry} {xs : List Entry} → NoneBefore e xs → InOrder xs → InOrder (e ∷ xs)

insert_none : {a : Entry} {xs : List Entry} (e : Entry) → NoneBefore a xs → precedes e a ≡ false → NoneBefore a (insert e xs)
insert_none e no_entry_lem h = rw (last e) (and_not h no_entry_lem)
insert_none e (and_not {x} {xs} p n) h =
    by_test (precedes x e) (λ t. rw (past e x xs t) (and_not p (insert_none e n h))) (λ t. rw (here e x xs t) (and_not h (and_not p n)))

pub none_on : {e x : Entry} {xs : List Entry} → precedes x e ≡ false → NoneBefore x xs → NoneBefore e xs
none_on h no_entry_lem = no_entry_lem
none_on {e} {x} h (and_not {x = y} p n) = and_not (precedes_weak.goes_on e x y h p) (none_on h n)

pub insert_in_order : (e : Entry) {xs : List Entry} → InOrder xs → InOrder (insert e xs)
insert_in_order e empty = rw (last e) (more no_entry_lem empty)
insert_in_order e (more {e = x} {xs} n s) =
    by_test (precedes x e)
    (λ t. rw (past e x xs t) (more (insert_none e n (precedes_weak.one_way x e t)) (insert_in_order e s)))
    (λ t. rw (here e x xs t) (more (and_not t (none_on t n)) (more n s)))

pub all_in_order : {day : List Entry} (es : List Entry) → InOrder day → InOrder (insert_all day es)
unfolding insert_all
all_in_order [] s = s
all_in_order {day = day} (e ∷ es) s = all_in_order {day = insert e day} es (insert_in_order e s)

-- ---- a rearrangement

insert_rearranged : (e : Entry) (xs : List Entry) → Rearranged (insert e xs) (e ∷ xs)
insert_rearranged e [] = rw (last e) (Permᴰ.refl (e ∷ []))
insert_rearranged e (x ∷ xs) =
    by_test (precedes x e)
    (λ t. rw (past e x xs t) (Permᴰ.trans (Permᴰ.cons refl (insert_rearranged e xs)) (Permᴰ.swap refl refl)))
    (λ t. rw (here e x xs t) (Permᴰ.refl (e ∷ x ∷ xs)))

pub all_rearranged : (day es : List Entry) → Rearranged (insert_all day es) (day ++ es)
unfolding insert_all
all_rearranged day [] = rw (append-nil day) (Permᴰ.refl day)
all_rearranged day (e ∷ es) =
    Permᴰ.trans (all_rearranged (insert e day) es)
    (Permᴰ.trans (Permᴰ.append_right es (insert_rearranged e day)) (Permᴰ.symm (Permᴰ.middle e day es)))

pub length_kept : {xs ys : List Entry} → Rearranged xs ys → length xs ≡ length ys
length_kept Permᴰ.nil = refl
length_kept (Permᴰ.cons e r) = ap suc (length_kept r)
length_kept (Permᴰ.swap e f) = refl
length_kept (Permᴰ.trans r s) = length_kept r ∙ length_kept s

-- ---- unlike numbers

abbrev pub Unlike : Entry → Entry → Type 0
Unlike x y = x.number ≡ y.number → ⊥

-- every entry of a list
pub data Each (P : Entry → Type 0) : List Entry → Type 0 where
  no_more : Each P []
  and_each : {x : Entry} {xs : List Entry} → P x → Each P xs → Each P (x ∷ xs)

-- no number twice
pub data Apart : List Entry → Type 0 where
  alone : Apart []
  beside : {x : Entry} {xs : List Entry} → Each (Unlike x) xs → Apart xs → Apart (x ∷ xs)

each_moved : {P : Entry → Type 0} {xs ys : List Entry} → Rearranged xs ys → Each P xs → Each P ys
each_moved Permᴰ.nil no_more = no_more
each_moved {P} (Permᴰ.cons e r) (and_each p n) = and_each (subst P e p) (each_moved r n)
each_moved {P} (Permᴰ.swap e f) (and_each p (and_each q n)) = and_each (subst P f q) (and_each (subst P e p) n)
each_moved (Permᴰ.trans r s) n = each_moved s (each_moved r n)

pub apart_moved : {xs ys : List Entry} → Rearranged xs ys → Apart xs → Apart ys
apart_moved Permᴰ.nil alone = alone
apart_moved (Permᴰ.cons {l₂ = ys} e r) (beside o a) = beside (subst (λ (z : Entry). Each (Unlike z) ys) e (each_moved r o)) (apart_moved r a)
apart_moved (Permᴰ.swap {b = y} {b' = x'} {l = l} e f) (beside (and_each p ps) (beside qs a)) =
    subst (λ (z : Entry). Apart (z ∷ x' ∷ l)) f (subst (λ (z : Entry). Apart (y ∷ z ∷ l)) e (beside (and_each (λ q. p (sym q)) qs) (beside ps a)))
apart_moved (Permᴰ.trans r s) a = apart_moved s (apart_moved r a)

-- by places
each_from : {P : Entry → Type 0} (xs : List Entry) → ((i : ℕ) → i < length xs → P (get_or xs i no_entry)) → Each P xs
each_from [] f = no_more
each_from (x ∷ xs) f = and_each (f 0 (omega arith)) (each_from xs (λ i h. f (suc i) (omega arith)))

pub apart_from : (xs : List Entry) → ((i j : ℕ) → i < j → j < length xs → Unlike (get_or xs i no_entry) (get_or xs j no_entry)) → Apart xs
apart_from [] f = alone
apart_from (x ∷ xs) f =
    beside (each_from xs (λ i h. f 0 (suc i) (omega arith) (omega arith))) (apart_from xs (λ i j h k. f (suc i) (suc j) (omega arith) (omega arith)))

each_at : {P : Entry → Type 0} {xs : List Entry} → Each P xs → (i : ℕ) → i < length xs → P (get_or xs i no_entry)
each_at no_more i h = absurd (omega arith)
each_at (and_each p ps) zero h = p
each_at (and_each p ps) (suc i) h = each_at ps i (omega arith)

pub apart_at : {xs : List Entry} → Apart xs → (i j : ℕ) → i < j → j < length xs → Unlike (get_or xs i no_entry) (get_or xs j no_entry)
apart_at alone i j h k = absurd (omega arith)
apart_at (beside o a) i zero h k = absurd (omega arith)
apart_at (beside o a) zero (suc j) h k = each_at o j (omega arith)
apart_at (beside o a) (suc i) (suc j) h k = apart_at a i j (omega arith) (omega arith)

-- ---- one day

-- One of two entries with unlike numbers comes before the other, so they can go in either way
-- round.
module _ (x y : Entry) (o : Unlike x y) where
  -- both go to the front
  both_first : (l : List Entry) → insert x l ≡ x ∷ l → insert y l ≡ y ∷ l → insert x (y ∷ l) ≡ insert y (x ∷ l)
  both_first l u v =
      by_test (precedes y x)
      (λ e. past x y l e ∙ ap (λ (m : List Entry). y ∷ m) u ∙ sym (here y x l (precedes_weak.one_way y x e)))
      (λ e. here x y l e ∙ by_test (precedes x y)
      (λ f. ap (λ (m : List Entry). x ∷ m) (sym v) ∙ sym (past y x l f))
      (λ f. absurd (o (tied x y f e).2)))

  -- z comes before x, and not before y
  between : (z : Entry) → precedes z x ≡ true → precedes z y ≡ false → precedes y x ≡ true
  between z h k = by_test (precedes y x) (λ e. e) (λ e. clash h (precedes_weak.goes_on x y z e k))

  around : (z : Entry) (zs : List Entry) → precedes z x ≡ true → precedes z y ≡ false → insert x (insert y (z ∷ zs)) ≡ insert y (insert x (z ∷ zs))
  around z zs e f =
      ap (insert x) (here y z zs f) ∙ past x y (z ∷ zs) (between z e f) ∙ ap (λ (m : List Entry). y ∷ m) (past x z zs e)
      ∙ sym (here y z (insert x zs) f) ∙ ap (insert y) (sym (past x z zs e))

insert_both : (x y : Entry) → Unlike x y → (zs : List Entry) → insert x (insert y zs) ≡ insert y (insert x zs)
insert_both x y o [] = ap (insert x) (last y) ∙ both_first x y o [] (last x) (last y) ∙ ap (insert y) (sym (last x))
insert_both x y o (z ∷ zs) =
    by_test (precedes z x)
    (λ e. by_test (precedes z y)
    (λ f. ap (insert x) (past y z zs f) ∙ past x z (insert y zs) e ∙ ap (λ (m : List Entry). z ∷ m) (insert_both x y o zs)
    ∙ sym (past y z (insert x zs) f) ∙ ap (insert y) (sym (past x z zs e)))
    (around x y o z zs e))
    (λ e. by_test (precedes z y)
    (λ f. sym (around y x (λ q. o (sym q)) z zs f e))
    (λ f. ap (insert x) (here y z zs f) ∙ both_first x y o (z ∷ zs) (here x z zs e) (here y z zs f) ∙ ap (insert y) (sym (here x z zs e))))

-- rearranged entries make one day
pub same_day : {xs ys : List Entry} → Rearranged xs ys → Apart xs → (day : List Entry) → insert_all day xs ≡ insert_all day ys
unfolding insert_all
same_day Permᴰ.nil a day = refl
same_day (Permᴰ.cons {a = x} {l₂ = ys} e r) (beside o a) day =
    same_day r a (insert x day) ∙ ap (λ (z : Entry). insert_all (insert z day) ys) e
same_day (Permᴰ.swap {a = x} {b = y} {b' = x'} {l = l} e f) (beside (and_each p ps) a) day =
    ap (λ (d : List Entry). insert_all d l) (insert_both y x (λ q. p (sym q)) day)
    ∙ ap (λ (z : Entry). insert_all (insert z (insert y day)) l) e ∙ ap (λ (z : Entry). insert_all (insert x' (insert z day)) l) f
same_day (Permᴰ.trans r s) a day = same_day r a day ∙ same_day s (apart_moved r a) day

-- ---- where an entry goes

pub one_more : (day es : List Entry) (e : Entry) → insert_all day (es ++ e ∷ []) ≡ insert e (insert_all day es)
unfolding insert_all
one_more day [] e = refl
one_more day (x ∷ es) e = one_more (insert x day) es e

pub goes_at : (z e : Entry) (xs : List Entry) (p : ℕ) → p ≤ length xs
    → ((i : ℕ) → i < p → precedes (get_or xs i z) e ≡ true) → (p < length xs → precedes (get_or xs p z) e ≡ false)
    → insert e xs ≡ take p xs ++ e ∷ drop p xs
goes_at z e [] zero h f g = last e
goes_at z e [] (suc p) h f g = absurd (omega arith)
goes_at z e (x ∷ xs) zero h f g = here e x xs (g (omega arith))
goes_at z e (x ∷ xs) (suc p) h f g =
    past e x xs (f 0 (omega arith)) ∙ ap (λ (l : List Entry). x ∷ l) (goes_at z e xs p (omega arith) (λ i u. f (suc i) (omega arith)) (λ u. g (omega arith)))

none_at : {e : Entry} {xs : List Entry} (z : Entry) → NoneBefore e xs → (i : ℕ) → i < length xs → precedes (get_or xs i z) e ≡ false
none_at z no_entry_lem i h = absurd (omega arith)
none_at z (and_not p n) zero h = p
none_at z (and_not p n) (suc i) h = none_at z n i (omega arith)

pub in_order_at : {xs : List Entry} (z : Entry) → InOrder xs → (i j : ℕ) → i < j → j < length xs → precedes (get_or xs j z) (get_or xs i z) ≡ false
in_order_at z empty i j h k = absurd (omega arith)
in_order_at z (more n s) i zero h k = absurd (omega arith)
in_order_at z (more n s) zero (suc j) h k = none_at z n j (omega arith)
in_order_at z (more n s) (suc i) (suc j) h k = in_order_at z s i j (omega arith) (omega arith)

-- in order, what comes before e stands in front
module _ {xs : List Entry} (s : InOrder xs) (z e : Entry) where
  pub front : (m : ℕ) → m < length xs → precedes (get_or xs m z) e ≡ true → (i : ℕ) → i < m → precedes (get_or xs i z) e ≡ true
  front m h t i u =
      by_test (precedes (get_or xs i z) e) (λ f. f)
      (λ f. clash t (precedes_weak.goes_on e (get_or xs i z) (get_or xs m z) f (in_order_at z s i m u h)))

  pub back : (m : ℕ) → precedes (get_or xs m z) e ≡ false → (i : ℕ) → m < i → i < length xs → precedes (get_or xs i z) e ≡ false
  back m t i u h = precedes_weak.goes_on e (get_or xs m z) (get_or xs i z) t (in_order_at z s m i u h)
