-- `enter`: the move without state 0.
use mathlib.Core.Path.{◌≡◌}
use lib.ListN.{length}
use Rattle.mask.proofs.Laws.Bits.{fit_row}
use Rattle.run_edges.specs.Reach.{enter_words}
use Rattle.run_edges.proofs.Laws.Image.{enter_says}
use Rattle.run_edges.proofs.Laws.Reached.{enter_whole}
use borrow.Author.Rules.{rules}
use Rattle.run_edges.proofs.enter.Goals as goal

pub returns : goal.returns
returns c =
    let a = c.args in
    let ws = a.image.now.words.now in
    let v = a.live.words in
    let l = c.letters-l in
    let p = c.repeats-p in
    let n = c.none-none in
    let r = c.advance.result.words in
    let hv : length v ≡ 8 = search (rules, c.well_formed.1.0.1.1.0.1.0.1) in
    let e : r ≡ enter_words ws a.byte v =
    enter_whole ws a.byte v r l.result p.result n.result.words (search rules) (search rules) (search rules) hv (search (rules, c.advance.type_inv.1.1.0.1.0.1))
    l.ensures p.ensures n.ensures c.advance.ensures in record {
      computed = e;
      entered = enter_says ws a.byte v r c.well_formed.1.1.0.1 hv (fit_row v (λ k. search (rules, c.well_formed.1.0.1.1.0.1.1))) e;
    }
