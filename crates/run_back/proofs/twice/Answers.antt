-- `twice`: bit by bit it is the law for n + n places (`doubled`).
use Rattle.run_back.proofs.Laws.Words.{doubled}
use Rattle.run_back.proofs.twice.Goals as goal

pub returns : goal.returns
returns c =
    doubled c.args.n c.args.near c.struct_known-5-1.given.0.fits c.struct_known-5-1.given.1.0.fits
