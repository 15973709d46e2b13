-- THE FIRST n WORDS of what an operation makes are made of the first n words: nothing goes down from a word to the one below.
use Rattle.std.proofs.Common.{◌≡◌, ℕ, zero, suc, Bool, List, [], ◌∷◌, ◌++◌, take, refl, ap}
use Rattle.model.specs.Models.Words.{each_word, not_words, ripple, shift_words}

pub take_each : (f : ℕ → ℕ → ℕ) (n : ℕ) (xs ys : List ℕ) → take n (each_word f xs ys) ≡ each_word f (take n xs) (take n ys)
take_each f zero xs ys = refl
take_each f (suc n) [] ys = refl
take_each f (suc n) (x ∷ xs) [] = refl
take_each f (suc n) (x ∷ xs) (y ∷ ys) = ap (λ (l : List ℕ). f x y ∷ l) (take_each f n xs ys)

pub take_not : (n : ℕ) (xs : List ℕ) → take n (not_words xs) ≡ not_words (take n xs)
take_not zero xs = refl
take_not (suc n) [] = refl
take_not (suc n) (x ∷ xs) = ap (λ (l : List ℕ). not_words (x ∷ []) ++ l) (take_not n xs)

pub take_ripple : (word : ℕ → ℕ → Bool → ℕ) (out : ℕ → ℕ → Bool → Bool) (n : ℕ) (xs ys : List ℕ) (c : Bool)
    → take n (ripple word out xs ys c) ≡ ripple word out (take n xs) (take n ys) c
take_ripple word out zero xs ys c = refl
take_ripple word out (suc n) [] ys c = refl
take_ripple word out (suc n) (x ∷ xs) [] c = refl
take_ripple word out (suc n) (x ∷ xs) (y ∷ ys) c = ap (λ (l : List ℕ). word x y c ∷ l) (take_ripple word out n xs ys (out x y c))

pub take_shift : (n : ℕ) (xs : List ℕ) (c : Bool) → take n (shift_words xs c) ≡ shift_words (take n xs) c
take_shift zero xs c = refl
take_shift (suc n) [] c = refl
take_shift (suc n) (x ∷ xs) c = ap (λ (l : List ℕ). take 1 (shift_words (x ∷ []) c) ++ l) (take_shift n xs _)
