-- `next_out`: the complements of the words have the bytes that are not in the class.
use mathlib.Core.Path.{◌≡◌, sym, subst}
use mathlib.Core.List.{List}
use Prim.Native.Nat.{ℕ}
use lib.ListN.{length}
use borrow.Author.Rules.{rules}
use Rattle.model.specs.Models.Words.{not_words, value}
use Rattle.mask.proofs.Laws.Bits.{fit_row}
use Rattle.writing_letters.specs.Runs.{FirstIn}
use Rattle.writing_letters.proofs.Laws.Words.{each_of, first_not}
use Rattle.writing_letters.proofs.classes.next_out.Goals as goal

pub returns : goal.returns
returns c =
    let a = c.args in
    let four : length a.class ≡ 4 = search rules in
    first_not a.class four (fit_row a.class (λ k. search rules)) a.b c.next_in.result
    (subst (λ (ws : List ℕ). FirstIn (value (not_words ws)) a.b c.next_in.result) (sym (each_of a.class four)) c.next_in.ensures)
