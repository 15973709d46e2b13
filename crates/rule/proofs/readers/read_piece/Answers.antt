-- A letter, and then its sign.
use mathlib.Core.Bool.{true}
use Rattle.rule.specs.Parts.{after_letter, PartSays}
use Rattle.rule_bytes.proofs.Laws.Binds.{bind_goes, bind_stops}
use Rattle.rule.proofs.Laws.Placed.{piece_tells}
use Rattle.rule.proofs.readers.read_piece.Goals as goal

pub returns-in-Ok : goal.returns-in-Ok
returns-in-Ok c =
    let a = c.args in
    piece_tells _ _ _ _ _ c.requires.inside _
    (bind_goes c.in-Ok.ensures.reads after_letter
    (λ m. PartSays true a.rule.now a.n m a.tokens.now c.read_repeated.new.tokens c.read_repeated.result) c.read_repeated.ensures)

pub returns-in-Err : goal.returns-in-Err
returns-in-Err c = piece_tells _ _ _ _ _ c.requires.inside _ (bind_stops after_letter c.in-Err.ensures.reads)
