-- `put_many`: after some turns the token is written that many times, and counted as often as there is a number for it.
use mathlib.Core.Path.{refl, sym, ap, ◌∙◌}
use mathlib.Core.List.{List, ◌∷◌}
use Prim.Native.Nat.{ℕ, ◌+◌, ◌*◌}
use native.Mathlib.Numerals.{add-one}
use native.Mathlib.Omega.{arith}
use lib.Seq.{length-sets, sets}
use Rattle.rule_letters.specs.Classes.{words_of}
use Rattle.rule.specs.Tokens.{times_words}
use Rattle.rule.proofs.Laws.Stands.{sets_alike}
use Rattle.rule.proofs.Laws.RowWords.{sets_times}
use Rattle.rule.proofs.rows.put_many.Goals as goal

pub loop-preserved : goal.loop-preserved
loop-preserved c =
    let l = c.loop in
    let a = c.args in
    let t = a.tokens.now in
    let ws = a.kind ∷ words_of a.class in
    let written = sets t (5 * a.n) (times_words l.counter ws) in (
      omega (arith, c.put_token-next.ensures.count, l.invariant.0),
      c.put_token-next.ensures.written
          ∙ ap (λ (k : List ℕ). sets k (5 * l.next) ws) l.invariant.1
          ∙ sets_alike written (length-sets t (5 * a.n) (times_words l.counter ws) ∙ c.requires.0) l.next (a.n + l.counter) ws (omega (arith, l.invariant.0))
          ∙ sets_times t a.n l.counter ws refl
          ∙ ap (λ (k : ℕ). sets t (5 * a.n) (times_words k ws)) (sym (add-one l.counter)),
    )
