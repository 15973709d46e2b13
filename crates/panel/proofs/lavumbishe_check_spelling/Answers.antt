-- The check's answer is the table's, and its number and 1 for yes are packed.
use borrow.Author.Rules.{rules}
use native.Mathlib.Omega.{arith}
use Rattle.answers.specs.Answers.{judgement}
use Rattle.panel.proofs.Laws.Counted.{judged_halves}
use Rattle.panel.proofs.Laws.Spelling.{check_placeless, yes_small}
use Rattle.panel.proofs.lavumbishe_check_spelling.Goals as goal

pub pack-requires : goal.pack-requires
pack-requires c =
    let j = c.check_spelling-judged in
    let h = judged_halves _ (λ x n h. search rules) j.result c.map.result c.map.ensures.cases in
    omega (arith, h.low, check_placeless j.ensures, yes_small (judgement j.result).given)

pub returns : goal.returns
returns c =
    let j = c.check_spelling-judged in
    let h = judged_halves _ (λ x n h. search rules) j.result c.map.result c.map.ensures.cases in
    record {
      number = (judgement j.result).number;
      place = (judgement j.result).place;
      given = (judgement j.result).given;
      says = j.ensures;
      packed = rw (h.high, h.low) at c.pack.ensures;
    }
