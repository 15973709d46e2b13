-- `follow`: each turn leaves less to follow, or shows that nothing can.
use lib.ListN.{drop, length, take}
use Rattle.std.specs.Iterator.Adapters.{zip_first, zip_second}
use Rattle.std.specs.Slice.Iter.{iter_rest}
use Rattle.spelling.proofs.Laws.Follow.{Going}
use Rattle.spelling.proofs.follow.follow.Given as goal

abbrev pub invariant-loop-byte : goal.invariant-loop-byte
invariant-loop-byte l =
    Going l.edges.image.words.now (take (length l.states) (drop l.start l.text)) l.states l.q (iter_rest (zip_first l.byte-iterator)) (iter_rest (zip_second l.byte-iterator))
