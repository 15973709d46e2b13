-- `span`: a span is the mask of its four words, and empty where its ends are turned.
use mathlib.Core.Path.{sym, ◌∙◌}
use Rattle.rule_letters.specs.Classes.{bytes_of}
use Rattle.rule_letters.proofs.Laws.Classes.{span_none, span_of}
use Rattle.rule_letters.proofs.classes.Class.span.Goals as goal

pub returns-then-last-first : goal.returns-then-last-first
returns-then-last-first c = c.none.ensures ∙ sym (span_none c.args.lo c.args.hi c.if-last-first.true)

pub returns : goal.returns
unfolding bytes_of
returns c =
    span_of c.args.lo c.args.hi c.span_word.ensures c.span_word-2.ensures c.span_word-3.ensures c.span_word-4.ensures
