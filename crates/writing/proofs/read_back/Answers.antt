-- The check finds a tree or none; the tape's tokens, written out with each union's own mark, are that tree's writing.
use mathlib.Core.Path.{refl}
use Rattle.model.specs.Answers.{not_an_image}
use Rattle.image_check.proofs.Laws.Found.{found, not_found, words_found}
use Rattle.writing.proofs.Laws.Answer.{asked, found_tree, says_found}
use Rattle.writing.proofs.read_back.Goals as goal

pub returns-in_default : goal.returns-in_default
returns-in_default c =
    let k = c.check in
    not_an_image (not_found c.args.words.now k.ensures c.in_default.is) refl

pub own_marks-own-requires : goal.own_marks-own-requires
own_marks-own-requires c =
    let k = c.check in
    found_tree (found c.args.words.now k.ensures c.in-Some.is)

pub write-requires : goal.write-requires
write-requires c =
    let k = c.check in
    asked (found c.args.words.now k.ensures c.in-Some.is) c.own_marks-own.result c.own_marks-own.ensures

pub returns : goal.returns
returns c =
    let k = c.check in
    let o = c.own_marks-own in
    let w = c.write in
    says_found (found c.args.words.now k.ensures c.in-Some.is) o.result o.ensures
    (words_found c.args.words.now k.ensures c.in-Some.is) o.type_inv.1.1.0.1.0.1 c.args.bytes.now
    w.new.bytes w.result w.ensures.answer w.ensures.written
