-- The number of each refusal, as documents 01 and 02 list them. 0 stands for an accepted call.
use Rattle.std.specs.Prelude.{ℕ, Result, Ok, Err}
use Rattle.refusals.specs.declared.Refusal.{Refusal}
use Rattle.refusals.specs.declared.Refusal.TheVariants.{Control, Text, Needle, List, Odd, Feed, Input, Width, Exhausted, Position, Compares, Buffer, Stop, Count, Entry, Number, Page, Sizes, Lengths}

abbrev pub number_of : Refusal → ℕ
number_of Control = 1
number_of Text = 2
number_of Needle = 3
number_of List = 4
number_of Odd = 5
number_of Feed = 6
number_of Input = 7
number_of Width = 8
number_of Exhausted = 21
number_of Position = 22
number_of Compares = 23
number_of Buffer = 24
number_of Stop = 31
number_of Count = 32
number_of Entry = 33
number_of Number = 34
number_of Page = 35
number_of Sizes = 36
number_of Lengths = 37

-- the number of a call: 0 where it is accepted, or that of what refuses it
abbrev pub status : {A : Type 0} → Result A Refusal → ℕ
status (Ok x) = 0
status (Err r) = number_of r
