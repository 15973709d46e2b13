-- `run_over`: each loop runs as the image's masks do (`chosen`); where every word of the back edges is 0, the masks are those without (`no_back`).
use Rattle.std.proofs.Common.{true, false, [], refl, arith}
use Rattle.run_word.proofs.Laws.Bytes.{all_bytes}
use Rattle.run_word.proofs.Laws.One.{chosen, never, no_back}
use Rattle.run_word.proofs.stretch.run_over.Goals as goal

pub returns-then-any_back : goal.returns-then-any_back
returns-then-any_back c =
    let a = c.args in
    chosen c.requires (λ i. (c.type_inv.image i).fits) (all_bytes a.stretch.now (λ i. omega (arith, c.type_inv.stretch i))) a.work.now.any c.requires.none
    a.work.now.backs c.requires.edges a.work.now.depth refl _ c.over_back.ensures

pub returns-in-0-true : goal.returns-in-0-true
returns-in-0-true c =
    let C = no_back c.requires (c.any_back.ensures c.if-any_back.false) in
    chosen C (λ i. (c.type_inv.image i).fits) (all_bytes c.args.stretch.now (λ i. omega (arith, c.type_inv.stretch i)))
    true (λ e. absurd (never e)) [] C.edges 0 c.in-0-true.is-0 _ c.over_fixed.ensures

pub returns-in-0-false : goal.returns-in-0-false
returns-in-0-false c =
    let C = no_back c.requires (c.any_back.ensures c.if-any_back.false) in
    chosen C (λ i. (c.type_inv.image i).fits) (all_bytes c.args.stretch.now (λ i. omega (arith, c.type_inv.stretch i)))
    false (λ e. c.requires.none c.in-0-false.is-1) [] C.edges 0 c.in-0-false.is-0 _ c.over_fixed-in-0-false.ensures

pub returns-in-1-true : goal.returns-in-1-true
returns-in-1-true c =
    let C = no_back c.requires (c.any_back.ensures c.if-any_back.false) in
    chosen C (λ i. (c.type_inv.image i).fits) (all_bytes c.args.stretch.now (λ i. omega (arith, c.type_inv.stretch i)))
    true (λ e. absurd (never e)) [] C.edges 1 c.in-1-true.is-0 _ c.over_fixed-in-1-true.ensures

pub returns-in-1-false : goal.returns-in-1-false
returns-in-1-false c =
    let C = no_back c.requires (c.any_back.ensures c.if-any_back.false) in
    chosen C (λ i. (c.type_inv.image i).fits) (all_bytes c.args.stretch.now (λ i. omega (arith, c.type_inv.stretch i)))
    false (λ e. c.requires.none c.in-1-false.is-1) [] C.edges 1 c.in-1-false.is-0 _ c.over_fixed-in-1-false.ensures

pub returns-in-2-default : goal.returns-in-2-default
returns-in-2-default c =
    let C = no_back c.requires (c.any_back.ensures c.if-any_back.false) in
    chosen C (λ i. (c.type_inv.image i).fits) (all_bytes c.args.stretch.now (λ i. omega (arith, c.type_inv.stretch i)))
    true (λ e. absurd (never e)) [] C.edges 2 c.in-2-default.is-0 _ c.over_fixed-in-2-default.ensures

pub returns-in_default : goal.returns-in_default
returns-in_default c =
    let C = no_back c.requires (c.any_back.ensures c.if-any_back.false) in
    chosen C (λ i. (c.type_inv.image i).fits) (all_bytes c.args.stretch.now (λ i. omega (arith, c.type_inv.stretch i)))
    c.args.work.now.any c.requires.none [] C.edges c.args.work.now.depth refl _ c.over_plain.ensures
