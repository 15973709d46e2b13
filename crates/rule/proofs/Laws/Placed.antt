-- WHERE THE READERS STOP: what they answer is what the model read, and the model stops at its place.
use mathlib.Core.Bool.{Bool, true}
use mathlib.Core.List.{List}
use Prim.Native.Nat.{ℕ, ◌≤◌}
use lib.ListN.{drop, length}
use Rattle.model.specs.Grammar.{IsItem, IsSeq}
use Rattle.model.specs.Models.Places.{free, Piece, Placed}
use Rattle.model.specs.Models.Reader.{alts, item, over, Read, read_piece, seq}
use Rattle.model.specs.Tree.{Seq}
use Rattle.model.proofs.Reading.Placed.{alternatives_placed, item_placed, piece_placed, sequence_placed}
use Rattle.model.proofs.Reading.Positions.{stops_at, takes_at}
use Rattle.std.proofs.Common.{Err, Ok, Result}
use Rattle.rule_bytes.specs.declared.Unreadable.{Unreadable}
use Rattle.rule.specs.Parts.{AlternativesPlaced, AlternativesSay, AlternativesTell, PartPlaced, PartSays, PartTells}
use Rattle.rule.specs.declared.parts.Alternatives.{Alternatives}
use Rattle.rule.specs.declared.parts.Part.{Part}

module _ (rule : List ℕ) (at n : ℕ) (before after : List ℕ) (h : at ≤ length rule) where
  part_tells : {X : List ℕ → Seq → Type 0} {F : List ℕ → Bool} (reader : List ℕ → Read Seq) → Placed X F (drop at rule) (reader (drop at rule))
      → (r : Result Part Unreadable) → PartSays true rule n (reader (drop at rule)) before after r → PartTells X F reader rule at n before after r
  part_tells {X} {F} reader P r s = record { reads = s; place = go r s }
    where
      go : (r : Result Part Unreadable) → PartSays true rule n (reader (drop at rule)) before after r → PartPlaced X F rule at r
      go (Ok r) (a, w) = (a, takes_at rule at r.place h w.took.inside P w.took.reads)
      go (Err e) w = stops_at rule at e.0 h w.inside P w.reads

  pub piece_tells : (r : Result Part Unreadable) → PartSays true rule n (read_piece (drop at rule)) before after r
      → PartTells Piece free read_piece rule at n before after r
  piece_tells r s = part_tells read_piece (piece_placed (drop at rule)) r s

  pub item_tells : (r : Result Part Unreadable) → PartSays true rule n (item (drop at rule)) before after r → PartTells IsItem free item rule at n before after r
  item_tells r s = part_tells item (item_placed (drop at rule)) r s

  pub sequence_tells : (r : Result Part Unreadable) → PartSays true rule n (seq (drop at rule)) before after r → PartTells IsSeq over seq rule at n before after r
  sequence_tells r s = part_tells seq (sequence_placed (drop at rule)) r s

  pub alternatives_tell : (r : Result Alternatives Unreadable) → AlternativesSay rule n (alts (drop at rule)) before after r
      → AlternativesTell rule at n before after r
  alternatives_tell r s = record { reads = s; place = go r s }
    where
      go : (r : Result Alternatives Unreadable) → AlternativesSay rule n (alts (drop at rule)) before after r → AlternativesPlaced rule at r
      go (Ok r) (a, w, o) = (a, takes_at rule at r.place h w.took.inside (alternatives_placed (drop at rule)) w.took.reads)
      go (Err e) w = stops_at rule at e.0 h w.inside (alternatives_placed (drop at rule)) w.reads
