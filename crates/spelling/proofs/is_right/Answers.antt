-- `is_right`: each way out is one of the wish's conditions.
use native.Mathlib.Omega.{arith}
use Rattle.image_sections.proofs.Laws.Within.{own_states}
use Rattle.spelling.proofs.Laws.Check.{followed}
use Rattle.spelling.proofs.is_right.Goals as goal

pub returns-then-end-text : goal.returns-then-end-text
returns-then-end-text c = λ t I. (λ f. absurd f, λ s. omega (arith, s.inside))

pub returns-then-start-end : goal.returns-then-start-end
returns-then-start-end c = λ t I. (λ f. absurd f, λ s. omega (arith, s.ordered))

pub returns-then-states-end : goal.returns-then-states-end
returns-then-states-end c = λ t I. (λ f. absurd f, λ s. c.if-states-end.true s.each)

pub returns : goal.returns
returns c = followed c.if-end-text.false c.if-start-end.false c.if-states-end.false (own_states c.args.image.now.placed) c.follow.result c.follow.ensures
