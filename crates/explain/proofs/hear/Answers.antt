-- What was read is as long as it is counted, and no longer than there was room for.
use mathlib.Core.Path.{sym}
use Prim.Native.Nat.{ℕ}
use lib.ListN.{length-replicate}
use Rattle.explain.proofs.hear.Goals as goal

pub slice_bounds-read_full-end : goal.slice_bounds-read_full-end
slice_bounds-read_full-end g c = sym (length-replicate {A = ℕ} 2162688 0)

pub slice_bounds-request-end : goal.slice_bounds-request-end
slice_bounds-request-end g c = c.read_full-length.ensures.0

pub slice_bounds-reply-end : goal.slice_bounds-reply-end
slice_bounds-reply-end g c = c.read_full-length.ensures.1
