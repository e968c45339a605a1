-- The theorem on the slowest search is about the calls that C has: one that returns 0 has written
-- such a search. Assumes nothing.
use Prim.Native.Nat.{ℕ}
use mathlib.Core.Path.{◌≡◌, refl, sym}
use mathlib.Core.Bool.{Bool}
use mathlib.Core.List.{List}
use lib.ListN.{length}
use Rattle.std.specs.Prelude.{Result, Ok, Err}
use Rattle.refusals.specs.Numbers.{status}
use Rattle.refusals.specs.declared.Refusal.{Refusal}
use Rattle.refusals.specs.declared.Refusal.TheVariants as refusal
use Rattle.worst_case.specs.Cases.{case_refusal}
use Rattle.worst_case.specs.Most.{Slowest}
use Rattle.worst_case.proofs.Laws.{written_slowest}
use Rattle.capi.specs.Crossing.{WorstGiven}

-- no refusal has the number 0
accepted : (a : Result (Unit {0}) Refusal) → 0 ≡ status a → a ≡ Ok tt
accepted (Ok tt) e = refl
accepted (Err refusal.Control) e = cc
accepted (Err refusal.Text) e = cc
accepted (Err refusal.Needle) e = cc
accepted (Err refusal.List) e = cc
accepted (Err refusal.Odd) e = cc
accepted (Err refusal.Feed) e = cc
accepted (Err refusal.Input) e = cc
accepted (Err refusal.Width) e = cc
accepted (Err refusal.Exhausted) e = cc
accepted (Err refusal.Position) e = cc
accepted (Err refusal.Compares) e = cc
accepted (Err refusal.Buffer) e = cc
accepted (Err refusal.Stop) e = cc
accepted (Err refusal.Count) e = cc
accepted (Err refusal.Entry) e = cc
accepted (Err refusal.Number) e = cc
accepted (Err refusal.Page) e = cc
accepted (Err refusal.Sizes) e = cc
accepted (Err refusal.Lengths) e = cc

pub given_slowest : (words : Bool) (n m : ℕ) (before before' text needle : List ℕ) → WorstGiven words n m before before' 0 text needle → Slowest words n m text needle
given_slowest words n m before before' text needle g =
    let a = accepted (case_refusal words n m (length before) (length before')) g.status_is in
    written_slowest words n m before before' text needle
    (record { answer = sym a; text_after = rw a at g.new_text; needle_after = rw a at g.new_needle })
