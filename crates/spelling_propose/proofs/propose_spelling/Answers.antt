-- `propose_spelling`: each way out is a row of the table.
use mathlib.Core.Path.{refl, subst, sym}
use mathlib.Core.List.{List}
use Prim.Native.Nat.{ℕ}
use Rattle.std.proofs.lemmas.Result.{err_from_is_err_and}
use Rattle.model.specs.Answers.{ImageOf}
use Rattle.model.specs.Spelling.{not_an_image, text_too_long}
use Rattle.image_check.proofs.Laws.Found.{found, not_found}
use Rattle.spelling_propose.proofs.Laws.Propose.{its_words, passed_on, past_text}
use Rattle.spelling_propose.proofs.propose_spelling.Goals as goal

pub returns-in_err-checked : goal.returns-in_err-checked
returns-in_err-checked c =
    let p = err_from_is_err_and c.from_residual.result c.from_residual.ensures.1 in
    let q = c.in_err-checked.ensures in
    rw (p.1, p.2, passed_on q.ok_part q.value) (not_an_image (not_found c.args.image.now c.check.ensures q.ok_part) refl)

pub returns-then-text-gt65535 : goal.returns-then-text-gt65535
returns-then-text-gt65535 c =
    let F = found c.args.image.now c.check.ensures c.in_ok-checked.ensures.ok_part in
    text_too_long F.tree F.image_of c.if-text-gt65535.true refl

pub returns-then-end-text : goal.returns-then-end-text
returns-then-end-text c =
    let a = c.args in
    let F = found a.image.now c.check.ensures c.in_ok-checked.ensures.ok_part in
    past_text a.image.now a.text.now a.end a.states.now F.tree F.image_of c.if-text-gt65535.false c.if-end-text.true

pub propose-requires : goal.propose-requires
propose-requires c =
    let F = found c.args.image.now c.check.ensures c.in_ok-checked.ensures.ok_part in
    let e = its_words c.check.ensures c.in_ok-checked.ensures.ok_part c.of.ensures in
    record { tree = F.tree; image_of = subst (λ (ws : List ℕ). ImageOf ws F.tree) (sym e) F.image_of; inside = c.if-end-text.false; short = c.if-text-gt65535.false }

pub returns : goal.returns
returns c = rw (its_words c.check.ensures c.in_ok-checked.ensures.ok_part c.of.ensures) at c.propose.ensures
