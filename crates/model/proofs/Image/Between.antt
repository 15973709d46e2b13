-- Each arc of a tree says which tokens stand at its ends, and each token between two states owns its arcs: by one walk over the tree, in which
-- the tokens and the states go on together.
use mathlib.Core.Path.{◌≡◌, refl, sym, ap, ◌∙◌, subst}
use mathlib.Core.Logic.{◌⊎◌, inl, inr}
use mathlib.Core.List.{List, [], ◌∷◌}
use Prim.Native.Nat.{ℕ, suc, ◌+◌, ◌≤◌, ◌<◌}
use native.Mathlib.Nat.{add-zero, zero-add, eq-or-lt_of_le}
use native.Mathlib.Omega.{arith}
use lib.Dec.{T}
use lib.ListN.{length, get_or}
use Rattle.model.specs.Lists.{All}
use Rattle.model.specs.Tree.{Alts, can_loop, can_omit, can_return, can_skip, end, last, letter, Mark, more, Repeat, Seq, union}
use Rattle.model.specs.Edges.{alts_empty, alts_end, seq_end, Way, ways}
use Rattle.model.specs.Models.Tokens.{a_bar, a_close, a_letter, alts_tokens, an_open, shown, Token, tokens}
use Rattle.model.proofs.Image.Unions.{shown_empty, shown_returns}
use Rattle.model.proofs.Language.Arcs.{alts_arcs, Arc, arc, ArcKind, arcs, back_arc, Branch, branch_parts, branch_whole, fork_arc, Letter, letter_parts, letter_whole, letter_arc, loop_arc, propagate_arc}
use Rattle.model.proofs.Laws.Bool.{le_or_lt}
use Rattle.model.proofs.Laws.Lists.{all_app, all_in, all_left, all_right, In, in_all}

-- what an arc says of the tokens, where K i stands after state i
pub data Skips (K : ℕ → Token) (i j : ℕ) : Type 0 where
  over_letter : (c : ℕ) (r : Repeat) → j ≡ suc i → K i ≡ a_letter c r → T (can_skip r) → Skips K i j
  over_union : (z : ℕ) (m : Mark) → j ≡ suc z → K z ≡ a_close m → T (can_omit m) → Skips K i j

abbrev pub Says : (K : ℕ → Token) → ArcKind → ℕ → ℕ → Type 0
Says K (letter_arc c) i j = (j ≡ suc i) × (r : Repeat) × (K i ≡ a_letter c r)
Says K (loop_arc c) i j = (j ≡ i) × (z : ℕ) × (r : Repeat) × (i ≡ suc z) × (K z ≡ a_letter c r) × T (can_loop r)
Says K propagate_arc i j = Skips K i j
Says K (fork_arc xs) i j = (K i ≡ an_open) × (z : ℕ) × (m : Mark) × (j ≡ suc z) × (K z ≡ a_close m)
Says K back_arc i j = (m : Mark) × (K i ≡ a_close m) × T (can_return m)

-- what a token after state i says of the arcs that have E; a bar says nothing
abbrev pub Owns : (Arc → Type 0) → Token → ℕ → Type 0
Owns E (a_letter c r) i =
    (k : ℕ) × E (arc (letter_arc c) k i (suc i)) × (T (can_loop r) → E (arc (loop_arc c) k (suc i) (suc i))) × (T (can_skip r) → E (arc propagate_arc k i (suc i)))
Owns E an_open i = (xs : List Way) × (k : ℕ) × (j : ℕ) × E (arc (fork_arc xs) k i j)
Owns E a_bar i = Unit
Owns E (a_close m) i =
    (xs : List Way) × (k : ℕ) × (j : ℕ) × E (arc (fork_arc xs) k j (suc i)) × (T (can_omit m) → E (arc propagate_arc k j (suc i)))
    × (T (can_return m) → E (arc back_arc k i (suc j)))

-- ---- the token after each state
module _ (K : ℕ → Token) where
  abbrev mutual
    Shows : Seq → ℕ → Type 0
    Shows end t = Unit
    Shows (letter c r s) t = (K t ≡ a_letter c r) × Shows s (suc t)
    Shows (union m a s) t = (K t ≡ an_open) × ShowsAlts a (shown m (alts_empty a)) t × Shows s (suc (alts_end a t))

    ShowsAlts : Alts → Mark → ℕ → Type 0
    ShowsAlts (last s) m p = Shows s (suc p) × (K (seq_end s (suc p)) ≡ a_close m)
    ShowsAlts (more s a) m p = Shows s (suc p) × (K (seq_end s (suc p)) ≡ a_bar) × ShowsAlts a m (seq_end s (suc p))

  abbrev Reads : ℕ → List Token → Type 0
  Reads t l = (i : ℕ) → i < length l → K (t + i) ≡ get_or l i a_bar

  reads_head : (t : ℕ) (x : Token) (l : List Token) → Reads t (x ∷ l) → K t ≡ x
  reads_head t x l h = ap K (sym (add-zero t)) ∙ h 0 (omega arith)

  reads_tail : (t : ℕ) (x : Token) (l : List Token) → Reads t (x ∷ l) → Reads (suc t) l
  reads_tail t x l h i k = (let e : suc t + i ≡ t + suc i = omega arith in ap K e) ∙ h (suc i) (omega arith)

  mutual
    shows : (s : Seq) (t : ℕ) (rest : List Token) → Reads t (tokens s rest) → Shows s t × Reads (seq_end s t) rest
    shows end t rest h = (tt, h)
    shows (letter c r s) t rest h =
        let m = shows s (suc t) rest (reads_tail t (a_letter c r) (tokens s rest) h) in
        ((reads_head t (a_letter c r) (tokens s rest) h, m.0), m.1)
    shows (union m a s) t rest h =
        let o = shown m (alts_empty a) in
        let l = shows_alts a o t (tokens s rest) (reads_tail t an_open (alts_tokens a o (tokens s rest)) h) in
        let n = shows s (suc (alts_end a t)) rest l.1 in
        ((reads_head t an_open (alts_tokens a o (tokens s rest)) h, l.0, n.0), n.1)

    shows_alts : (a : Alts) (m : Mark) (p : ℕ) (rest : List Token) → Reads (suc p) (alts_tokens a m rest) → ShowsAlts a m p × Reads (suc (alts_end a p)) rest
    shows_alts (last s) m p rest h =
        let l = shows s (suc p) (a_close m ∷ rest) h in
        ((l.0, reads_head (seq_end s (suc p)) (a_close m) rest l.1), reads_tail (seq_end s (suc p)) (a_close m) rest l.1)
    shows_alts (more s a) m p rest h =
        let l = shows s (suc p) (a_bar ∷ alts_tokens a m rest) h in
        let n = shows_alts a m (seq_end s (suc p)) rest (reads_tail (seq_end s (suc p)) a_bar (alts_tokens a m rest) l.1) in
        ((l.0, reads_head (seq_end s (suc p)) a_bar (alts_tokens a m rest) l.1, n.0), n.1)

  -- ---- each arc speaks of the tokens
  abbrev Told : Arc → Type 0
  Told e = Says K e.kind e.from e.to

  close_at_end : (a : Alts) (m : Mark) (p : ℕ) → ShowsAlts a m p → K (alts_end a p) ≡ a_close m
  close_at_end (last s) m p S = S.1
  close_at_end (more s a) m p S = close_at_end a m (seq_end s (suc p)) S.2

  mutual
    told : (s : Seq) (t k : ℕ) → Shows s t → All Told (arcs s t k)
    told end t k S = tt
    told (letter c r s) t k S =
        letter_whole Told c r s t k (record {
          takes = (refl, r, S.0);
          loops = λ x. (refl, t, r, refl, S.0, x);
          skips = λ x. over_letter c r refl S.0 x;
          rest = told s (suc t) k S.1;
        })
    told (union m a s) t k S =
        let o = shown m (alts_empty a) in
        let closed = close_at_end a o t S.1 in
        branch_whole Told m a s t k (record {
          skips = λ x. over_union (alts_end a t) o refl closed (subst T (sym (shown_empty m (alts_empty a))) x);
          forks = (S.0, alts_end a t, o, refl, closed);
          returns = λ x. (o, closed, subst T (sym (shown_returns m (alts_empty a))) x);
          alts = told_alts a o t k S.1;
          rest = told s (suc (alts_end a t)) k S.2;
        })

    told_alts : (a : Alts) (m : Mark) (p k : ℕ) → ShowsAlts a m p → All Told (alts_arcs a p k)
    told_alts (last s) m p k S = told s (suc p) (suc k) S.0
    told_alts (more s a) m p k S =
        all_app Told (arcs s (suc p) (suc k)) (alts_arcs a (seq_end s (suc p)) k) (told s (suc p) (suc k) S.0) (told_alts a m (seq_end s (suc p)) k S.2)

  -- ---- each token owns its arcs
  module _ (E : Arc → Type 0) where
    abbrev Owned : ℕ → Type 0
    Owned i = Owns E (K i) i

    here : (i j : ℕ) (x : Token) → i ≡ j → K i ≡ x → Owns E x i → Owned j
    here i j x e q o = subst Owned e (subst (λ (y : Token). Owns E y i) (sym q) o)

    mutual
      owned : (s : Seq) (t k : ℕ) → Shows s t → All E (arcs s t k) → (i : ℕ) → t ≤ i → i < seq_end s t → Owned i
      owned end t k S A i h l = absurd (omega arith)
      owned (letter c r s) t k S A i h l = go (eq-or-lt_of_le h) (λ m. owned s (suc t) k S.1 B.rest i m l)
        where
          B : Letter E c r s t k
          B = letter_parts E c r s t k A

          go : (t ≡ i) ⊎ (t < i) → (t < i → Owned i) → Owned i
          go (inl q) later = here t i (a_letter c r) q S.0 (k, B.takes, B.loops, B.skips)
          go (inr m) later = later m
      owned (union m a s) t k S A i h l =
          go (eq-or-lt_of_le h) (le_or_lt i (alts_end a t)) (λ x n. owned_alts a o t k S.1 B.alts own i x n)
          (λ x. owned s (suc (alts_end a t)) k S.2 B.rest i x l)
        where
          B : Branch E m a s t k
          B = branch_parts E m a s t k A

          o : Mark
          o = shown m (alts_empty a)

          own : Owns E (a_close o) (alts_end a t)
          own = (ways a t, k, t, B.forks, λ x. B.skips (subst T (shown_empty m (alts_empty a)) x), λ x. B.returns (subst T (shown_returns m (alts_empty a)) x))

          go : (t ≡ i) ⊎ (t < i) → (i ≤ alts_end a t) ⊎ (alts_end a t < i) → (t < i → i ≤ alts_end a t → Owned i) → (alts_end a t < i → Owned i) → Owned i
          go (inl q) y within later = here t i an_open q S.0 (ways a t, k, suc (alts_end a t), B.forks)
          go (inr x) (inl n) within later = within x n
          go (inr x) (inr n) within later = later n

      owned_alts : (a : Alts) (m : Mark) (p k : ℕ) → ShowsAlts a m p → All E (alts_arcs a p k) → Owns E (a_close m) (alts_end a p)
          → (i : ℕ) → p < i → i ≤ alts_end a p → Owned i
      owned_alts (last s) m p k S A o i h l = go (eq-or-lt_of_le l) (λ m. owned s (suc p) (suc k) S.0 A i h m)
        where
          go : (i ≡ seq_end s (suc p)) ⊎ (i < seq_end s (suc p)) → (i < seq_end s (suc p) → Owned i) → Owned i
          go (inl q) within = here (seq_end s (suc p)) i (a_close m) (sym q) S.1 o
          go (inr x) within = within x
      owned_alts (more s a) m p k S A o i h l =
          go (le_or_lt i z) (λ m. owned s (suc p) (suc k) S.0 (all_left E (arcs s (suc p) (suc k)) (alts_arcs a z k) A) i h m)
          (λ x. owned_alts a m (seq_end s (suc p)) k S.2 (all_right E (arcs s (suc p) (suc k)) (alts_arcs a z k) A) o i x l)
        where
          z : ℕ
          z = seq_end s (suc p)

          at_end : (i ≡ z) ⊎ (i < z) → (i < z → Owned i) → Owned i
          at_end (inl q) within = here z i a_bar (sym q) S.1 tt
          at_end (inr m) within = within m

          go : (i ≤ z) ⊎ (z < i) → (i < z → Owned i) → (z < i → Owned i) → Owned i
          go (inl m) within later = at_end (eq-or-lt_of_le m) within
          go (inr m) within later = later m

-- ---- for a whole tree
module _ (s : Seq) where
  -- the token after state i
  abbrev pub token : ℕ → Token
  token i = get_or (tokens s []) i a_bar

  all_shown : Shows token s 0
  all_shown = (shows token s 0 [] (λ i h. ap token (zero-add i))).0

  pub says : (e : Arc) → In (arcs s 0 0) e → Says token e.kind e.from e.to
  says = all_in (Told token) (arcs s 0 0) (told token s 0 0 all_shown)

  pub owns : (i : ℕ) → i < seq_end s 0 → Owns (In (arcs s 0 0)) (token i) i
  owns i l = owned token (In (arcs s 0 0)) s 0 0 all_shown (in_all (arcs s 0 0)) i (omega arith) l
