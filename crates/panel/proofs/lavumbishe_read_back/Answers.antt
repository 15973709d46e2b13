-- Read back's answer is the table's, and its number and count are packed.
use native.Mathlib.Omega.{arith}
use Rattle.answers.specs.Answers.{count_in, number_in, place_in}
use Rattle.panel.proofs.Laws.ReadBack.{count_small}
use Rattle.panel.proofs.lavumbishe_read_back.Goals as goal

pub pack-requires : goal.pack-requires
pack-requires c = let k = count_small c.read_back-answer.ensures in omega (arith, k.0, k.1)

pub returns : goal.returns
returns c =
    let b = c.read_back-answer in
    record { number = number_in b.result; place = place_in b.result; given = count_in b.result; says = b.ensures; packed = c.pack.ensures }
