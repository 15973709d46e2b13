-- IDLE DEPTHS MAY BE PASSED OVER: each pass adds to the live states what it makes of those that it touches; where it touches none it adds what it makes
-- of none at all, and with an image's masks that is nothing, as no edge leaves a state that is not live.
use mathlib.Core.Path.{◌≡◌, refl, sym, ap, ap₂, ◌∙◌, subst}
use mathlib.Core.Logic.{inl, inr}
use mathlib.Core.Bool.{Bool, false, true}
use mathlib.Core.List.{List, [], ◌∷◌}
use Prim.Native.Nat.{ℕ, zero, suc, ◌+◌, ◌≤◌}
use native.Mathlib.Nat.{le_refl}
use native.Mathlib.Omega.{arith}
use lib.Bits.{bit_or, or_zero_r}
use lib.Dec.{T}
use lib.ListN.{length, replicate}
use Rattle.model.specs.Edges.{depth}
use Rattle.model.specs.Live.{itself, onward, Reached}
use Rattle.model.specs.Models.Idle.{Calm, Clear, IdleDown, IdleUp}
use Rattle.model.specs.Models.Run.{fall_words, gather_by, gather_words, Masks, propagate_by, propagate_words, rise_words, scatter_words}
use Rattle.model.specs.Models.Words.{add_words, and_words, not_words, or_words, subtract_words, xor_words}
use Rattle.model.specs.Tree.{Seq}
use Rattle.model.proofs.Image.SameBits.{holds_one}
use Rattle.model.proofs.Laws.Bits.{bit_zero}
use Rattle.model.proofs.Passes.Closure.{Add}
use Rattle.model.proofs.Passes.OnTrees.{Gathers, Scatters}
use Rattle.model.proofs.Words.Full.{Full}
use Rattle.model.proofs.Words.GatherPass.{gathered_is}
use Rattle.model.proofs.Words.Holds.{Holds, pad_holds}
use Rattle.model.proofs.Words.PropagatePass.{propagated_is}
use Rattle.model.proofs.Words.Run.{Carry, gather_is, propagate_is, scatter_is}
use Rattle.model.proofs.Words.ScatterPass.{scattered_is}

-- ---- on words
-- of live states that touch nothing a pass sees as much as of none
sees_none : (live touched : List ℕ) → Clear live touched → and_words live touched ≡ and_words (replicate (length live) 0) touched
sees_none [] touched c = refl
sees_none (x ∷ live) [] c = refl
sees_none (x ∷ live) (y ∷ touched) c = ap₂ (λ (z : ℕ) (zs : List ℕ). z ∷ zs) (c 0) (sees_none live touched (λ i. c (suc i)))

-- what adds nothing to no state adds nothing to any
adds_nothing : (live more : List ℕ) → or_words (replicate (length live) 0) more ≡ replicate (length live) 0 → or_words live more ≡ live
adds_nothing [] more e = refl
adds_nothing (x ∷ live) [] e = let f = ap length e in absurd (omega arith)
adds_nothing (x ∷ live) (y ∷ more) e =
    let h : y ≡ 0 = cc in
    ap₂ (λ (z : ℕ) (zs : List ℕ). z ∷ zs) (ap (bit_or x) h ∙ or_zero_r x) (adds_nothing live more (cc))

-- ONE PASS, whatever it makes of the live states that it touches
idle : (n : ℕ) (makes : List ℕ → List ℕ) (live touched : List ℕ) → length live ≡ n → Clear live touched
    → or_words (replicate n 0) (makes (and_words (replicate n 0) touched)) ≡ replicate n 0 → or_words live (makes (and_words live touched)) ≡ live
idle n makes live touched l c e =
    ap (λ (x : List ℕ). or_words live (makes x)) (sees_none live touched c)
    ∙ adds_nothing live (makes (and_words (replicate (length live) 0) touched))
    (ap (λ (k : ℕ). or_words (replicate k 0) (makes (and_words (replicate k 0) touched))) l ∙ e ∙ ap (λ (k : ℕ). replicate k 0) (sym l))

module _ (n : ℕ) (block source target live : List ℕ) (long : length live ≡ n) where
  scatter_idle : Clear live source → scatter_words block source target (replicate n 0) ≡ replicate n 0 → scatter_words block source target live ≡ live
  scatter_idle = idle n (λ x. and_words (subtract_words block x false) target) live source long

  gather_idle : Clear live source → gather_words block source target (replicate n 0) ≡ replicate n 0 → gather_words block source target live ≡ live
  gather_idle = idle n (λ x. and_words (add_words block x false) target) live source long

  propagate_idle : Clear live block → propagate_words block source target (replicate n 0) ≡ replicate n 0 → propagate_words block source target live ≡ live
  propagate_idle = idle n (λ x. and_words block (xor_words (not_words (subtract_words (or_words x target) source false)) (or_words x target))) live block long

module _ (M : Masks) (n d : ℕ) (C : Calm M n d) (live : List ℕ) (long : length live ≡ n) where
  along : (k : ℕ) → Clear live (M.propagate_mask k 0) → propagate_by M k (replicate n 0) ≡ replicate n 0 → propagate_by M k live ≡ live
  along k = propagate_idle n (M.propagate_mask k 0) (M.propagate_mask k 1) (M.propagate_mask k 2) live long

  -- THE WAY UP is along depth 0's own chains alone
  rises : IdleUp M d live → (k : ℕ) → k ≤ d → rise_words M k live ≡ propagate_by M 0 live
  rises I zero h = refl
  rises I (suc k) h =
      ap (λ (x : List ℕ). rise_words M k (gather_by M k x)) (along (suc k) (I.chains (suc k) (omega arith) h) (C.chains (suc k) (omega arith) h))
      ∙ ap (rise_words M k) (gather_idle n (M.gather_mask k 0) (M.gather_mask k 1) (M.gather_mask k 2) live long (I.gathers k h) (C.gathers k h))
      ∙ rises I k (omega arith)

  pub rise_idle : IdleUp M d live → rise_words M d live ≡ propagate_by M 0 live
  rise_idle I = rises I d (le_refl d)

  -- THE WAY DOWN leads nowhere
  falls : IdleDown M d live → (i k : ℕ) → i + k ≤ d → fall_words M i k live ≡ live
  falls I zero k h = refl
  falls I (suc i) k h =
      ap (λ (x : List ℕ). fall_words M i (suc k) (propagate_by M (suc k) x)) (scatter_idle n (M.scatter_mask k 0) (M.scatter_mask k 1) (M.scatter_mask k 2) live long (I.scatters k (omega arith)) (C.scatters k (omega arith)))
      ∙ ap (fall_words M i (suc k)) (along (suc k) (I.chains (suc k) (omega arith) (omega arith)) (C.chains (suc k) (omega arith) (omega arith)))
      ∙ falls I i (suc k) (omega arith)

  pub fall_idle : IdleDown M d live → fall_words M d 0 live ≡ live
  fall_idle I = falls I d 0 (omega arith)

-- ---- THE MASKS OF AN IMAGE ARE CALM
abbrev no_state : ℕ → Bool
no_state x = false

-- nothing that is no state at all holds
not_any : (b : Bool) → (T b → ⊥) → b ≡ false
not_any true h = absurd (h tt)
not_any false h = refl

-- no edge leads out of no state
nowhere : {R : ℕ → ℕ → Type 0} {x : ℕ} → Reached R (λ q. T (no_state q)) x → ⊥
nowhere (itself h) = h
nowhere (onward c e) = nowhere c

nothing_added : (R : ℕ → ℕ → Type 0) (x : ℕ) → Add R (λ q. T (no_state q)) x → ⊥
nothing_added R x (inl h) = h
nothing_added R x (inr h) = h.1

module _ (m W : ℕ) (s : Seq) (F : Full s) (M : Masks) (C : Carry m W s M) where
  none : Holds m W (replicate W 0) no_state
  none =
      let e : 0 + W ≡ W = omega arith in
      subst (λ (n : ℕ). Holds m n (replicate W 0) no_state) e
      (pad_holds m 0 W [] no_state (record { near = record { len = refl; fit = tt; bits = λ x l. bit_zero x }; none = λ x l. bit_zero x }))

  still : (xs : List ℕ) (f : ℕ → Bool) → Holds m W xs f → ((x : ℕ) → T (f x) → ⊥) → xs ≡ replicate W 0
  still xs f H h = holds_one m W xs (replicate W 0) f no_state H none (λ x l. not_any (f x) (h x))

  pub calm : Calm M W (depth s)
  calm = record {
    scatters = λ k l. still _ _ (scatter_is m W s F M C (replicate W 0) no_state none k l) (λ x t. nothing_added (Scatters s k) x ((scattered_is s F k no_state x).0 t));
    gathers = λ k l. still _ _ (gather_is m W s F M C (replicate W 0) no_state none k l) (λ x t. nothing_added (Gathers s k) x ((gathered_is s F k no_state x).0 t));
    chains = λ k h l. still _ _ (propagate_is m W s F M C (replicate W 0) no_state none k l) (λ x t. nowhere ((propagated_is s F k no_state x).0 t));
  }
