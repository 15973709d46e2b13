-- `leave`: what is taken goes back by one state, and what is repeated stays.
use mathlib.Core.Path.{◌≡◌}
use lib.ListN.{length}
use Rattle.mask.proofs.Laws.Bits.{fit_row}
use Rattle.run_edges.specs.Reach.{leave_words}
use Rattle.run_edges.proofs.Laws.Image.{leave_says}
use Rattle.run_edges.proofs.Laws.Reached.{leave_whole}
use borrow.Author.Rules.{rules}
use Rattle.run_edges.proofs.leave.Goals as goal

pub returns : goal.returns
returns c =
    let a = c.args in
    let ws = a.image.now.words.now in
    let v = a.set.words in
    let l = c.letters-l in
    let p = c.repeats-p in
    let t = c.and-taken in
    let u = c.unshift-back in
    let k = c.and-stayed in
    let r = c.or.result.words in
    let hv : length v ≡ 8 = search (rules, c.well_formed.1.0.1.1.0.1.0.1) in
    let e : r ≡ leave_words ws a.byte v =
    leave_whole ws a.byte v r l.result p.result t.result.words u.result k.result.words (search rules) (search rules) (search rules) (search rules) (search rules) hv (search (rules, c.or.type_inv.1.1.0.1.0.1))
    l.ensures p.ensures t.ensures u.ensures k.ensures c.or.ensures in record {
      computed = e;
      left = leave_says ws a.byte v r c.well_formed.1.1.0.1 hv (fit_row v (λ i. search (rules, c.well_formed.1.0.1.1.0.1.1))) e;
    }
