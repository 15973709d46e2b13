-- `lay_out`: what is marked for the tape is what document 01 puts into the masks, once propagate's are joined.
use mathlib.Core.Path.{sym, subst}
use Rattle.tokens_masks.proofs.OfTree.{laid_of, masks_say}
use Rattle.tokens_masks.proofs.Told.{on_tape_says}
use Rattle.tokens_masks.specs.Says.{OnTapeSays}
use Rattle.tokens_masks.proofs.lay_out.Goals as goal

pub returns : goal.returns
returns c =
    let t = c.args.tape in
    let L = laid_of c.lay_planes-on_tape.ensures.planes c.join_propagate.ensures in record {
      computed = c.lay_planes-on_tape.ensures.told;
      told = subst (OnTapeSays t) (sym c.lay_planes-on_tape.ensures.told) (on_tape_says t (c.well_formed.0.1.1.0.1.0.1));
      laid = L;
      masks = masks_say L;
    }
