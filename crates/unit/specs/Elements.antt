-- What the trait `Element` asks of the reading of elements as numbers.
use Rattle.std.specs.Prelude.{ℕ, ◌≡◌, ◌<◌, refl, List, length, take, drop, get_or, set}
use Rattle.std.proofs.Common.{sym}
use Rattle.std.proofs.lemmas.List.{get_or_read}

-- The numbers of a list are as many as its elements, those of a part are that part of them, an
-- element that is read has the number that stands there, and one that is written changes that.
pub record Reading {A : Type 0} (numbers : List A → List ℕ) (number : A → ℕ) : Type 0 where
  pub long : (xs : List A) → length (numbers xs) ≡ length xs
  pub front : (n : ℕ) (xs : List A) → numbers (take n xs) ≡ take n (numbers xs)
  pub rest : (n : ℕ) (xs : List A) → numbers (drop n xs) ≡ drop n (numbers xs)
  pub at : (xs : List A) (i : ℕ) (x : A) → i < length xs → x ≡ get_or xs i x
      → get_or (numbers xs) i 0 ≡ number x
  pub stored : (xs : List A) (i : ℕ) (x : A) → numbers (set xs i x) ≡ set (numbers xs) i (number x)

-- bytes and words are numbers
pub reading_itself : Reading (λ (xs : List ℕ). xs) (λ (x : ℕ). x)
reading_itself =
    record {
      long = λ xs. refl;
      front = λ n xs. refl;
      rest = λ n xs. refl;
      at = λ xs i x h e. sym (get_or_read xs i x h e 0);
      stored = λ xs i x. refl;
    }
