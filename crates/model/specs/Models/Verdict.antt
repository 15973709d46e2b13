-- THE VERDICT on any words: take them apart, lay out what was taken, compare. Words that are an image give the tree whose image they are.
use Rattle.std.specs.Prelude.{Bool, true, false, ◌&&◌, cond, List, [], ◌∷◌, ℕ, eqb, leb}
use Rattle.std.proofs.Math.Option.{Option, none, some}
use Rattle.model.specs.Tree.{Tree}
use Rattle.model.specs.Models.Apart.{tape}
use Rattle.model.specs.Models.Sections.{state_word}
use Rattle.model.specs.Models.LayOut.{begin, laid, valid}
use Rattle.model.specs.Models.Tokens.{parse}

abbrev pub same_words : List ℕ → List ℕ → Bool
same_words [] [] = true
same_words [] (y ∷ ys) = false
same_words (x ∷ xs) [] = false
same_words (x ∷ xs) (y ∷ ys) = eqb x y && same_words xs ys

abbrev pub accepts : List ℕ → Bool
accepts ws = leb (state_word ws) 512 && (valid (tape ws) begin && same_words ws (laid (tape ws)))

abbrev pub verdict : List ℕ → Option Tree
verdict ws = cond (accepts ws) (some (parse (tape ws)).here) none
