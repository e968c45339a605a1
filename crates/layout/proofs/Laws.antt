-- An entry that is written and read again is the same entry. Assumes nothing.
use Prim.Native.Nat.{ℕ, ◌+◌, ◌<◌}
use mathlib.Core.Path.{◌≡◌, ◌∙◌}
use mathlib.Core.List.{List, ◌++◌}
use native.Mathlib.Omega.{arith}
use lib.ListN.{length, get_or}
use lib.Seq.{ext_get_or, get_or-append-add}
use Rattle.bits.specs.Bits.{tabulate}
use Rattle.bits.proofs.Lists.{get_or_tabulate, length_tabulate}
use Rattle.entries.specs.declared.Entry.{Entry}
use Rattle.layout.specs.Layout.{bytes_of, entry_of, number_at, row_of}

-- an entry as its types allow it
pub record Fits (e : Entry) : Type 0 where
  pub number : e.number < 4294967296
  pub minute : e.minute < 65536
  pub long : e.length < 65536
  pub name : length e.name ≡ 32

module _ (e : Entry) (h : Fits e) where
  -- the bytes before the name
  abbrev numbers : List ℕ
  numbers = bytes_of 4 e.number ++ bytes_of 2 e.minute ++ bytes_of 2 e.length

  name_read : tabulate 32 (λ i. get_or (numbers ++ e.name) (8 + i) 0) ≡ e.name
  name_read =
      ext_get_or 0 (tabulate 32 (λ i. get_or (numbers ++ e.name) (8 + i) 0)) e.name
      (length_tabulate 32 (λ i. get_or (numbers ++ e.name) (8 + i) 0) ∙ omega (arith, h.name))
      (λ i u. get_or_tabulate 32 i (λ j. get_or (numbers ++ e.name) (8 + j) 0) 0 (omega (arith, u, length_tabulate 32 (λ j. get_or (numbers ++ e.name) (8 + j) 0)))
      ∙ get_or-append-add numbers e.name i 0)

  pub read_again : entry_of (row_of e) ≡ e
  unfolding entry_of row_of
  read_again =
      let n : number_at (row_of e) 0 4 ≡ e.number = omega (arith, h.number) in
      let m : number_at (row_of e) 4 2 ≡ e.minute = omega (arith, h.minute) in
      let l : number_at (row_of e) 6 2 ≡ e.length = omega (arith, h.long) in
      λ t. record { number = n t; minute = m t; length = l t; name = name_read t }
