-- The depth that the scan of a tree's tokens reaches is the tree's depth; the scan of a valid row reaches at most 8.
use mathlib.Core.Path.{◌≡◌, sym, ap, ◌∙◌}
use mathlib.Core.List.{List, [], ◌∷◌}
use Prim.Native.Nat.{ℕ, suc, ◌+◌, ◌≤◌, max}
use native.Mathlib.Omega.{arith}
use lib.Dec.{T, ltb, ltb→lt}
use lib.ListN.{length}
use Rattle.model.specs.Tree.{Alts, end, last, letter, Mark, more, Seq, union}
use Rattle.model.specs.Edges.{alts_depth, alts_empty, depth, seq_empty, seq_end}
use Rattle.model.specs.Models.LayOut.{begin, check, Frame, next_alternative, opened, reach, Scan, step, valid}
use Rattle.model.specs.Models.Tokens.{a_bar, a_close, a_letter, alts_tokens, an_open, shown, Token, tokens}
use Rattle.model.proofs.Image.Scan.{after, after_end, after-letter, after-union, after_union, alternative_at}
use Rattle.model.proofs.Laws.Bool.{and_split}

-- the largest number of unions around a place of a sequence that has n around it
abbrev mutual
  top : Seq → ℕ → ℕ
  top end n = 0
  top (letter c r s) n = top s n
  top (union m a s) n = max (suc n) (max (top_alts a (suc n)) (top s n))

  top_alts : Alts → ℕ → ℕ
  top_alts (last s) n = top s n
  top_alts (more s a) n = max (top s n) (top_alts a n)

max_assoc : (a b c : ℕ) → max (max a b) c ≡ max a (max b c)
max_assoc a b c = omega arith

mutual
  reaches : (s : Seq) (rest : List Token) (q : Scan) → reach (tokens s rest) q ≡ max (top s (length q.stack)) (reach rest (after s q))
  reaches end rest q = let r = ap (reach rest) (sym (after_end q)) in omega arith
  reaches (letter c r s) rest q =
      reaches s rest (step (a_letter c r) q)
      ∙ ap (λ (z : Scan). max (top s (length q.stack)) (reach rest z)) (after-letter c r s q)
  reaches (union m a s) rest q =
      ap (max (suc n))
      (reaches_alts a (shown m (alts_empty a)) (tokens s rest) q.position (opened q) q.stack
      ∙ ap (max (top_alts a (suc n))) (reaches s rest (after_union a (shown m (alts_empty a)) q.position (opened q) q.stack)))
      ∙ ap (λ (z : Scan). max (suc n) (max (top_alts a (suc n)) (max (top s n) (reach rest z)))) (after-union m a s q)
      ∙ shuffle (suc n) (top_alts a (suc n)) (top s n) (reach rest (after (union m a s) q))
    where
      n : ℕ
      n = length q.stack

      shuffle : (a b c d : ℕ) → max a (max b (max c d)) ≡ max (max a (max b c)) d
      shuffle a b c d = sym (max_assoc a (max b c) d ∙ ap (max a) (max_assoc b c d))

  reaches_alts : (a : Alts) (m : Mark) (rest : List Token) (p : ℕ) (f : Frame) (st : List Frame)
      → reach (alts_tokens a m rest) (alternative_at p f st) ≡ max (top_alts a (suc (length st))) (reach rest (after_union a m p f st))
  reaches_alts (last s) m rest p f st = reaches s (a_close m ∷ rest) (alternative_at p f st)
  reaches_alts (more s a) m rest p f st =
      reaches s (a_bar ∷ alts_tokens a m rest) (alternative_at p f st)
      ∙ ap (max (top s (suc (length st)))) (reaches_alts a m rest (seq_end s (suc p)) (next_alternative f (seq_end s (suc p)) (seq_empty s)) st)
      ∙ sym (max_assoc (top s (suc (length st))) (top_alts a (suc (length st))) (reach rest (after_union (more s a) m p f st)))

mutual
  top_is : (s : Seq) (n : ℕ) → max n (top s n) ≡ n + depth s
  top_is end n = omega arith
  top_is (letter c r s) n = top_is s n
  top_is (union m a s) n = go (top_alts a (suc n)) (top s n) (alts_depth a) (depth s) (top_alts_is a (suc n)) (top_is s n)
    where
      go : (x y u v : ℕ) → max (suc n) x ≡ suc n + u → max n y ≡ n + v → max n (max (suc n) (max x y)) ≡ n + max (suc u) v
      go x y u v h k = omega arith

  top_alts_is : (a : Alts) (n : ℕ) → max n (top_alts a n) ≡ n + alts_depth a
  top_alts_is (last s) n = top_is s n
  top_alts_is (more s a) n = go (top s n) (top_alts a n) (depth s) (alts_depth a) (top_is s n) (top_alts_is a n)
    where
      go : (x y u v : ℕ) → max n x ≡ n + u → max n y ≡ n + v → max n (max x y) ≡ n + max u v
      go x y u v h k = omega arith

-- THE DEPTH REACHED IS THE TREE'S
pub reach_is : (s : Seq) → reach (tokens s []) begin ≡ depth s
reach_is s = reaches s [] begin ∙ (let h : max 0 (top s 0) ≡ 0 + depth s = top_is s 0 in omega arith)

-- a valid row stays within depth 8
pub valid_reach : (l : List Token) (q : Scan) → T (valid l q) → reach l q ≤ 8
valid_reach [] q v = omega arith
valid_reach (a_letter c p ∷ xs) q v = valid_reach xs (step (a_letter c p) q) v
valid_reach (an_open ∷ xs) q v =
    let c = and_split (ltb (length q.stack) 8) (valid xs (step an_open q)) v in
    omega (arith, ltb→lt (length q.stack) 8 c.0, valid_reach xs (step an_open q) c.1)
valid_reach (a_bar ∷ xs) q v = valid_reach xs (step a_bar q) (and_split (check a_bar q) (valid xs (step a_bar q)) v).1
valid_reach (a_close m ∷ xs) q v = valid_reach xs (step (a_close m) q) (and_split (check (a_close m) q) (valid xs (step (a_close m) q)) v).1
