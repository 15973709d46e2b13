-- THE TOKENS OF A GROUP FROM THOSE OF WHAT IS IN ITS BRACKETS, how many there are, how deep they go and whether they can be empty: what a reader needs
-- that makes the tokens in one pass. A `+` doubles the states of its group, so their number may pass any bound.
use mathlib.Core.Path.{◌≡◌, refl, sym, ap, ◌∙◌}
use mathlib.Core.Bool.{Bool, not, ◌&&◌, and_assoc, and-true}
use mathlib.Core.List.{List, ◌∷◌}
use Prim.Native.Nat.{ℕ, zero, suc, ◌+◌, ◌-◌, ◌*◌, max}
use native.Mathlib.Omega.{arith}
use lib.Dec.{T, eqb, eqb-suc-zero}
use Rattle.model.specs.Tree.{Alts, can_skip, end, glue, last, letter, more, once, option, optional, plus, Seq, star, starred, union}
use Rattle.model.specs.Edges.{accepting, alts_empty, alts_end, depth, seq_empty, seq_end, union_empty}
use Rattle.model.specs.Grammar.{bracket, copies, cycle, grouped, repeated, times}
use Rattle.model.specs.Models.Tokens.{a_close, a_letter, alts_tokens, an_open, shown, Token, tokens}
use Rattle.model.proofs.Laws.Bool.{is_false, is_true}

-- ---- one sequence after another
pub tokens_glue : (h t : Seq) (rest : List Token) → tokens (glue h t) rest ≡ tokens h (tokens t rest)
tokens_glue end t rest = refl
tokens_glue (letter c r s) t rest = ap (λ (l : List Token). a_letter c r ∷ l) (tokens_glue s t rest)
tokens_glue (union m a s) t rest = ap (λ (l : List Token). an_open ∷ alts_tokens a (shown m (alts_empty a)) l) (tokens_glue s t rest)

end_glue : (h t : Seq) (p : ℕ) → seq_end (glue h t) p ≡ seq_end t (seq_end h p)
end_glue end t p = refl
end_glue (letter c r s) t p = end_glue s t (suc p)
end_glue (union m a s) t p = end_glue s t (suc (alts_end a p))

depth_glue : (h t : Seq) → depth (glue h t) ≡ max (depth h) (depth t)
depth_glue end t = omega arith
depth_glue (letter c r s) t = depth_glue s t
depth_glue (union m a s) t = let e = depth_glue s t in omega arith

pub empty_glue : (h t : Seq) → seq_empty (glue h t) ≡ (seq_empty h && seq_empty t)
empty_glue end t = refl
empty_glue (letter c r s) t = ap (λ (b : Bool). can_skip r && b) (empty_glue s t) ∙ sym (and_assoc (can_skip r) (seq_empty s) (seq_empty t))
empty_glue (union m a s) t = ap (λ (b : Bool). union_empty m a && b) (empty_glue s t) ∙ sym (and_assoc (union_empty m a) (seq_empty s) (seq_empty t))

-- ---- a sequence takes as many states wherever it starts
mutual
  end_from : (s : Seq) (p : ℕ) → seq_end s p ≡ p + accepting s
  end_from end p = omega arith
  end_from (letter c r s) p = omega (arith, end_from s (suc p), end_from s 1)
  end_from (union m a s) p = omega (arith, end_from s (suc (alts_end a p)), end_from s (suc (alts_end a 0)), alts_from a p)

  alts_from : (a : Alts) (p : ℕ) → alts_end a p ≡ p + alts_end a 0
  alts_from (last s) p = omega (arith, end_from s (suc p), end_from s 1)
  alts_from (more s a) p = omega (arith, end_from s (suc p), end_from s 1, alts_from a (seq_end s (suc p)), alts_from a (seq_end s 1))

-- ---- groups, by what stands in their brackets
pub empty_bracket : (a : Alts) → seq_empty (bracket a) ≡ alts_empty a
empty_bracket (last s) = refl
empty_bracket (more s a) = and-true (alts_empty (more s a))

-- a letter so many times can be empty exactly if it may come no time
skip_copies : (n c : ℕ) (s : Seq) → seq_empty (copies n c option s) ≡ seq_empty s
skip_copies zero c s = refl
skip_copies (suc n) c s = skip_copies n c s

once_copies : (x c : ℕ) → seq_empty (copies x c once end) ≡ eqb x 0
once_copies zero c = refl
once_copies (suc x) c = sym (eqb-suc-zero x)

pub empty_times : (c x y : ℕ) → seq_empty (repeated c (times x y)) ≡ eqb x 0
empty_times c x y = skip_copies (y - x) c (copies x c once end) ∙ once_copies x c

-- `?`: an open before, a close behind; or, where the group can be empty, nothing
pub option_tokens : (a : Alts) (rest : List Token) → T (not (alts_empty a)) → tokens (grouped a option) rest ≡ an_open ∷ alts_tokens a optional rest
option_tokens a rest h = rw (is_false (alts_empty a) h)

pub option_dropped : (a : Alts) → T (alts_empty a) → grouped a option ≡ bracket a
option_dropped a h = rw (is_true (alts_empty a) h)

-- `*`: an open before, a close behind
pub star_tokens : (a : Alts) (rest : List Token) → tokens (grouped a star) rest ≡ an_open ∷ tokens (bracket a) (a_close starred ∷ rest)
star_tokens a rest = refl

-- `+`: the group, and then all of that
pub plus_tokens : (a : Alts) (rest : List Token) → tokens (grouped a plus) rest ≡ tokens (bracket a) (an_open ∷ tokens (bracket a) (a_close starred ∷ rest))
plus_tokens a rest = tokens_glue (bracket a) (cycle a) rest

pub star_states : (a : Alts) → accepting (grouped a star) ≡ accepting (bracket a) + 2
star_states a = omega (arith, end_from (bracket a) 1)

pub plus_states : (a : Alts) → accepting (grouped a plus) ≡ 2 * accepting (bracket a) + 2
plus_states a = omega (arith, end_glue (bracket a) (cycle a) 0, end_from (cycle a) (accepting (bracket a)), star_states a)

pub star_depth : (a : Alts) → depth (grouped a star) ≡ suc (depth (bracket a))
star_depth a = omega arith

pub plus_depth : (a : Alts) → depth (grouped a plus) ≡ suc (depth (bracket a))
plus_depth a = omega (arith, depth_glue (bracket a) (cycle a))
