-- The proposer's answer is the table's, and its number and count are packed.
use borrow.Author.Rules.{rules}
use native.Mathlib.Omega.{arith}
use Rattle.answers.specs.Answers.{proposed_number, proposed_place, proposed_stretch}
use Rattle.panel.proofs.Laws.Counted.{proposed_halves}
use Rattle.panel.proofs.Laws.Spelling.{proposed_small, proposed_start}
use Rattle.panel.proofs.lavumbishe_propose_spelling.Goals as goal

pub pack-requires : goal.pack-requires
pack-requires c =
    let p = c.propose_spelling-proposed in
    let k = proposed_small p.ensures in
    omega (arith, (proposed_halves _ (λ x n h. search rules) p.result c.map.result c.map.ensures.cases).low, k.0, k.1)

pub returns : goal.returns
returns c =
    let p = c.propose_spelling-proposed in
    let h = proposed_halves _ (λ x n h. search rules) p.result c.map.result c.map.ensures.cases in
    record {
      number = proposed_number p.result;
      place = proposed_place p.result;
      given = proposed_stretch p.result;
      says = (p.ensures, proposed_start p.ensures);
      packed = rw (h.high, h.low) at c.pack.ensures;
    }
