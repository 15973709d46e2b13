-- A VALUE FOR EACH STATE, handed on along the tree: through letters, past unions and into alternatives. The table that gives each state its value is the
-- one that has at every start what was handed to it. One law for the languages of states and for their depths.
use mathlib.Core.Path.{◌≡◌, refl, ◌∙◌}
use mathlib.Core.Bool.{cond}
use Prim.Native.Nat.{ℕ, suc, ◌≤◌, ◌<◌}
use native.Mathlib.Nat.{le_refl}
use native.Mathlib.Omega.{arith}
use lib.Dec.{leb}
use Rattle.model.specs.Tree.{Alts, end, last, letter, Mark, more, Repeat, Seq, union}
use Rattle.model.specs.Edges.{alts_end, seq_end}
use Rattle.model.proofs.Language.Languages.{alts_end_lt, seq_end_le}
use Rattle.model.proofs.Laws.Bool.{pick-gt, pick-le}

-- how a value goes through a letter, past a union, into its alternatives, and from the union's start t to the alternative that starts in p
module _ {ℓ} (X : Type ℓ) (through : ℕ → Repeat → X → X) (past into : Mark → Alts → X → X) (inside : ℕ → ℕ → X → X) where
  -- the value of state q, where v is handed to the start of a sequence; or to the start t of a union with the alternatives after p
  abbrev mutual
    pub value : Seq → ℕ → X → ℕ → X
    value end t v = λ q. v
    value (letter c r s) t v = λ q. cond (leb q t) v (value s (suc t) (through c r v) q)
    value (union m a s) t v = λ q. cond (leb q t) v (cond (leb q (alts_end a t)) (alts_value a t t (into m a v) q) (value s (suc (alts_end a t)) (past m a v) q))

    pub alts_value : Alts → ℕ → ℕ → X → ℕ → X
    alts_value (last s) t p v = λ q. value s (suc p) (inside t (suc p) v) q
    alts_value (more s a) t p v = λ q. cond (leb q (seq_end s (suc p))) (value s (suc p) (inside t (suc p) v) q) (alts_value a t (seq_end s (suc p)) v q)

  -- what is handed on at a sequence's end
  abbrev pub out : Seq → X → X
  out end v = v
  out (letter c r s) v = out s (through c r v)
  out (union m a s) v = out s (past m a v)

  -- ---- the table W has what is handed on
  module _ (W : ℕ → X) where
    abbrev mutual
      pub Has : Seq → ℕ → X → Type ℓ
      Has end t v = W t ≡ v
      Has (letter c r s) t v = (W t ≡ v) × Has s (suc t) (through c r v)
      Has (union m a s) t v = (W t ≡ v) × HasA a t t (into m a v) × Has s (suc (alts_end a t)) (past m a v)

      pub HasA : Alts → ℕ → ℕ → X → Type ℓ
      HasA (last s) t p v = Has s (suc p) (inside t (suc p) v)
      HasA (more s a) t p v = Has s (suc p) (inside t (suc p) v) × HasA a t (seq_end s (suc p)) v

    pub has_start : (s : Seq) (t : ℕ) (v : X) → Has s t v → W t ≡ v
    has_start end t v h = h
    has_start (letter c r s) t v h = h.0
    has_start (union m a s) t v h = h.0

    pub has_end : (s : Seq) (t : ℕ) (v : X) → Has s t v → W (seq_end s t) ≡ out s v
    has_end end t v h = h
    has_end (letter c r s) t v h = has_end s (suc t) (through c r v) h.1
    has_end (union m a s) t v h = has_end s (suc (alts_end a t)) (past m a v) h.2

    -- what agrees with the values on a sequence's states has it
    mutual
      has : (s : Seq) (t : ℕ) (v : X) → ((q : ℕ) → t ≤ q → q ≤ seq_end s t → W q ≡ value s t v q) → Has s t v
      has end t v A = A t (le_refl t) (le_refl t)
      has (letter c r s) t v A = (
        A t (le_refl t) (seq_end_le (letter c r s) t) ∙ pick-le t t v (value s (suc t) (through c r v) t) (le_refl t),
        has s (suc t) (through c r v) (λ q h k. A q (omega arith) k ∙ pick-gt q t v (value s (suc t) (through c r v) q) h),
      )
      has (union m a s) t v A = (
        A t (le_refl t) (seq_end_le (union m a s) t) ∙ pick-le t t v (rest t) (le_refl t),
        has_a a t t (into m a v) (λ q h k. A q (omega arith) (omega (arith, seq_end_le s (suc z))) ∙ pick-gt q t v (rest q) h ∙ pick-le q z (alts_value a t t (into m a v) q) (after q) k),
        has s (suc z) (past m a v) (λ q h k. A q (omega (arith, alts_end_lt a t)) k ∙ pick-gt q t v (rest q) (omega (arith, alts_end_lt a t))
            ∙ pick-gt q z (alts_value a t t (into m a v) q) (after q) h),
      )
        where
          z : ℕ
          z = alts_end a t

          after : ℕ → X
          after = value s (suc z) (past m a v)

          rest : ℕ → X
          rest q = cond (leb q z) (alts_value a t t (into m a v) q) (after q)

      has_a : (a : Alts) (t p : ℕ) (v : X) → ((q : ℕ) → p < q → q ≤ alts_end a p → W q ≡ alts_value a t p v q) → HasA a t p v
      has_a (last s) t p v A = has s (suc p) (inside t (suc p) v) A
      has_a (more s a) t p v A = (
        has s (suc p) (inside t (suc p) v) (λ q h k. A q h (omega (arith, alts_end_lt a z)) ∙ pick-le q z (first q) (alts_value a t z v q) k),
        has_a a t (seq_end s (suc p)) v (λ q h k. A q (omega (arith, seq_end_le s (suc p))) k ∙ pick-gt q z (first q) (alts_value a t z v q) h),
      )
        where
          z : ℕ
          z = seq_end s (suc p)

          first : ℕ → X
          first = value s (suc p) (inside t (suc p) v)

  -- THE TABLE OF VALUES has it
  pub table : (s : Seq) (t : ℕ) (v : X) → Has (value s t v) s t v
  table s t v = has (value s t v) s t v (λ q h k. refl)
