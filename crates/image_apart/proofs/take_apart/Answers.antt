-- `take_apart`: words whose header passes are taken apart, and the parts have found what the model finds.
use mathlib.Core.Path.{refl}
use Rattle.std.proofs.Common.{rules}
use Rattle.mask.proofs.Laws.Bits.{fit_row}
use Rattle.image_sections.specs.Header.{header_fits}
use Rattle.image_sections.proofs.Laws.Header.{placed, told}
use Rattle.image_apart.proofs.Laws.Answers.{taken_says}
use Rattle.image_apart.proofs.take_apart.Goals as goal

pub invariant_of-image : goal.invariant_of-image
invariant_of-image c =
    let ws = c.args.words.now in
    record {
      placed = placed (told (header_fits ws) ws c.read_header.ensures c.in_ok-sections.was);
      fit = λ i. (c.type_inv.words i).fits;
    }

pub returns : goal.returns
returns c =
    taken_says (fit_row c.args.words.now c.type_inv.words) c.read_header.ensures c.in_ok-sections.was c.marks_of-marks.ensures
    c.shown_tape-tape.ensures (search rules) refl refl refl refl
