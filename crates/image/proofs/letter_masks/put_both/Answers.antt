-- `letter_masks::put_both`: the words written so far are the first of the row with the loops; those read stand before them, and are as they were.
use mathlib.Core.Path.{ap, ◌∙◌}
use mathlib.Core.List.{List}
use Prim.Native.Nat.{ℕ, ◌+◌, ◌≤◌}
use native.Mathlib.Omega.{arith}
use lib.Bits.{bit_and}
use lib.ListN.{get_or, length, set, take}
use lib.Seq.{sets, take_all}
use Rattle.image.specs.Work.{both_row}
use Rattle.image.proofs.Laws.Loops.{both_long, both_word, word_before}
use Rattle.image.proofs.Laws.Stores.{take_more}
use Rattle.image.proofs.letter_masks.put_both.Goals as goal

pub loop-j-preserved : goal.loop-j-preserved
loop-j-preserved c =
    let a = c.args in
    let l = c.loop-j in
    let row = both_row a.width a.words.now a.from a.loops in
    let start = sets a.words.now a.at (take l.j row) in
    let eight = c.well_formed.1.1.1.1.0.1.0.1 in
    let fits : a.from + a.width ≤ length a.words.now = omega (arith, c.requires.1, c.requires.2) in
    ap (λ (ws : List ℕ). set ws (a.at + l.j) (bit_and (get_or ws (a.from + l.j) 0) (get_or a.loops l.j 0))) l.invariant
    ∙ ap (set start (a.at + l.j))
    (ap (λ (w : ℕ). bit_and w (get_or a.loops l.j 0)) (word_before a.words.now a.at (a.from + l.j) (take l.j row) (omega (arith, c.requires.1)))
    ∙ both_word a.width a.words.now a.from a.loops c.requires.0 fits eight l.j c.loop-j-test.true)
    ∙ take_more a.words.now a.at row l.j (omega (arith, both_long a.width a.words.now a.from a.loops c.requires.0 fits eight))

pub returns : goal.returns
returns c =
    let a = c.args in
    let l = c.loop-j in
    let eight = c.well_formed.1.1.1.1.0.1.0.1 in
    let fits : a.from + a.width ≤ length a.words.now = omega (arith, c.requires.1, c.requires.2) in
    l.invariant
    ∙ ap (sets a.words.now a.at)
    (take_all l.j (both_row a.width a.words.now a.from a.loops)
    (omega (arith, both_long a.width a.words.now a.from a.loops c.requires.0 fits eight, c.loop-j-test.false)))
