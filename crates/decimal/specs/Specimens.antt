-- Columns, refusals and buffers written out, in one list that one computed check covers.
use Rattle.std.specs.Prelude.{ℕ, Bool, true, false, ◌&&◌, List, [], ◌∷◌, ◌++◌, T, eqb, replicate}
use Rattle.refusals.specs.Numbers.{status}
use Rattle.decimal.specs.Decimal.{digits, digits_within, column, refusal_of, written, value}

abbrev pub all : List Bool → Bool
all [] = true
all (x ∷ xs) = x && all xs

-- two lists are the same
abbrev pub same : List ℕ → List ℕ → Bool
same [] [] = true
same [] (y ∷ ys) = false
same (x ∷ xs) [] = false
same (x ∷ xs) (y ∷ ys) = eqb x y && same xs ys

-- `18446744073709551615`, the largest number of 64 bits
abbrev pub largest : List ℕ
largest =
    49 ∷ 56 ∷ 52 ∷ 52 ∷ 54 ∷ 55 ∷ 52 ∷ 52 ∷ 48 ∷ 55 ∷ 51 ∷ 55 ∷ 48 ∷ 57 ∷ 53 ∷ 53 ∷ 49 ∷ 54 ∷ 49
    ∷ 53 ∷ []

-- the digits: 0 has one, and no other number has a leading zero
unfoldable pub numerals : Bool
numerals =
    same (digits 0) (48 ∷ []) && same (digits 7) (55 ∷ []) && same (digits 10) (49 ∷ 48 ∷ [])
    && same (digits 65536) (54 ∷ 53 ∷ 53 ∷ 51 ∷ 54 ∷ [])
    && same (digits 18446744073709551615) largest
    && eqb (value largest) 18446744073709551615

-- right-justified: 0 and the largest number in 20 columns, 0 in one, 7 and 65536 in 8
unfoldable pub columns : Bool
columns =
    same (column 0 20) (replicate 19 32 ++ (48 ∷ []))
    && same (column 18446744073709551615 20) largest
    && same (column 0 1) (48 ∷ [])
    && same (column 7 8) (32 ∷ 32 ∷ 32 ∷ 32 ∷ 32 ∷ 32 ∷ 32 ∷ 55 ∷ [])
    && same (column 65536 8) (32 ∷ 32 ∷ 32 ∷ 54 ∷ 53 ∷ 53 ∷ 51 ∷ 54 ∷ [])

-- 8 before 24, each at its edge
unfoldable pub refusals : Bool
refusals =
    eqb (status (refusal_of 0 0 20)) 8 && eqb (status (refusal_of 0 1 20)) 0
    && eqb (status (refusal_of 0 20 20)) 0
    && eqb (status (refusal_of 0 21 30)) 8
    && eqb (status (refusal_of 99999999 8 8)) 0
    && eqb (status (refusal_of 100000000 8 8)) 8
    && eqb (status (refusal_of 18446744073709551615 19 20)) 8
    && eqb (status (refusal_of 18446744073709551615 20 20)) 0
    && eqb (status (refusal_of 7 8 7)) 24
    && eqb (status (refusal_of 10 1 0)) 8

-- bytes after the width stay, and a refused call writes none; 35 is `#`
unfoldable pub buffers : Bool
buffers =
    same (written 42 4 (replicate 6 35)) (32 ∷ 32 ∷ 52 ∷ 50 ∷ 35 ∷ 35 ∷ [])
    && same (written 42 2 (replicate 2 35)) (52 ∷ 50 ∷ [])
    && same (written 42 1 (replicate 3 35)) (replicate 3 35)
    && same (written 42 4 (replicate 3 35)) (replicate 3 35)

pub specimens_hold : T (all (numerals ∷ columns ∷ refusals ∷ buffers ∷ []))
unfolding numerals columns refusals buffers digits digits_within column refusal_of written
specimens_hold = tt
