-- Each way out is one of the laws of Laws/Answers, for what was taken from the words so far.
use mathlib.Core.Path.{refl, sym, ◌∙◌}
use Rattle.image_check.specs.Says.{is_other}
use Rattle.image_check.proofs.Laws.Answers.{image_found, no_tree, not_headed, other_depth, words_differ}
use Rattle.image_check.proofs.check.Goals as goal

pub returns-in_err-image : goal.returns-in_err-image
returns-in_err-image c = is_other (not_headed c.type_inv.words c.take_apart.ensures c.in_err-image.was) c.from_residual.ensures

pub returns-in_err-lay_out : goal.returns-in_err-lay_out
returns-in_err-lay_out c =
    is_other (no_tree c.type_inv.words c.take_apart.ensures c.in_ok-image.was c.in_err-lay_out.ensures.computed)
    c.from_residual-in_err-lay_out.ensures

pub returns-then-branch-image : goal.returns-then-branch-image
returns-then-branch-image c =
    is_other
    (other_depth c.type_inv.words c.take_apart.ensures c.in_ok-image.was _ c.in_ok-lay_out.ensures.computed c.if-branch-image.true) refl

pub returns-then-not-agrees : goal.returns-then-not-agrees
returns-then-not-agrees c =
    is_other
    (words_differ c.type_inv.words c.take_apart.ensures c.in_ok-image.was c.in_ok-lay_out.ensures.laid (sym c.if-not-agrees.true ∙ c.agrees.ensures)) refl

pub returns : goal.returns
returns c =
    image_found c.type_inv.words c.take_apart.ensures c.in_ok-image.was _ c.in_ok-lay_out.ensures.computed c.if-branch-image.false
    c.in_ok-lay_out.ensures.laid (sym c.if-not-agrees.false ∙ c.agrees.ensures) refl refl
