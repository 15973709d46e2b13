-- EACH PASS ON WORDS IS THE PASS ON SETS: where rows of words hold sets of states, so do scatter, gather,
-- propagate, the returns and the move of them.
use mathlib.Core.Path.{◌≡◌, refl, sym, ap, ap₂, ◌∙◌, subst}
use mathlib.Core.Bool.{Bool, true, false, not, ◌&&◌, ◌||◌}
use mathlib.Core.List.{List}
use Prim.Native.Nat.{ℕ, ◌≤◌, ◌<◌}
use native.Mathlib.Omega.{arith}
use lib.Dec.{T}
use Rattle.model.specs.Bits.{bit}
use Rattle.model.specs.Models.Run.{gather_words, move_words, propagate_words, return_words, scatter_words}
use Rattle.model.specs.Models.Words.{and_words, value}
use Rattle.model.proofs.Image.Rows.{wide}
use Rattle.model.proofs.Words.Back.{Clear, return-at, return_fit, return_long, return_off}
use Rattle.model.proofs.Words.Bits.{odd2}
use Rattle.model.proofs.Words.Holds.{Holds, Near}
use Rattle.model.proofs.Words.Operations.{holds_and_l, holds_and_r, holds_or, near_add, near_and, near_not, near_or, near_shift, near_sub, near_xor, next}
use Rattle.model.proofs.Words.Ripple.{difference_bits, sum_bits}

-- live states f in the row D
module _ {m W : ℕ} (r : m ≤ wide W) {D : List ℕ} {f : ℕ → Bool} (H : Holds m W D f) where
  -- masks with the sets b, c and t
  module _ {block source target : List ℕ} {b c t : ℕ → Bool} (B : Holds m W block b) (C : Holds m W source c) (G : Holds m W target t) where
    live_sources : Near m W (and_words D source) (λ x. f x && c x)
    live_sources = near_and m W D source f c H.near C.near

    pub scatter_holds : Holds m W (scatter_words block source target D) (λ x. f x || (difference_bits b (λ y. f y && c y) x && t x))
    scatter_holds = holds_or H (holds_and_r (near_sub r B.near live_sources) G)

    pub gather_holds : Holds m W (gather_words block source target D) (λ x. f x || (sum_bits b (λ y. f y && c y) x && t x))
    gather_holds = holds_or H (holds_and_r (near_add r B.near live_sources) G)

    abbrev minuend : ℕ → Bool
    minuend x = (f x && b x) || t x

    pub propagate_holds : Holds m W (propagate_words block source target D) (λ x. f x || (b x && odd2 (not (difference_bits minuend c x)) (minuend x)))
    propagate_holds =
        let M = near_or (near_and m W D block f b H.near B.near) G.near in
        holds_or H (holds_and_l B (near_xor (near_not r (near_sub r M C.near)) M))

  -- the targets whose sources are live, where each target has its first source ahead of it
  pub return_holds : {source target : List ℕ} {c t g : ℕ → Bool} → Holds m W source c → Holds m W target t
      → ((x : ℕ) → x < m → T (t x) → (q : ℕ) × (q < m) × (x ≤ q) × T (c q) × Clear c x q × (f q ≡ g x)) → Holds m W (return_words source target D) (λ x. t x && g x)
  return_holds {source} {target} {c} {t} {g} C G found = record {
    near = record {
      len = return_long source target D (C.near.len ∙ sym G.near.len) (C.near.len ∙ sym H.near.len) ∙ C.near.len;
      fit = return_fit source target D;
      bits = λ x l. go x l (t x) refl;
    };
    none = λ x l. return_off source target D G.near.fit x (G.none x l);
  }
    where
      go : (x : ℕ) → x < m → (b : Bool) → t x ≡ b → bit (value (return_words source target D)) x ≡ (t x && g x)
      go x l true e =
          let (q, i, h, k, n, d) = found x l (subst T (sym e) tt) in
          return-at source target D (C.near.len ∙ sym G.near.len) (C.near.len ∙ sym H.near.len) C.near.fit G.near.fit H.near.fit x q h
          (subst T (sym (C.near.bits q i)) k) (λ y a b u. n y a b (subst T (C.near.bits y (omega arith)) u))
          ∙ ap₂ ◌&&◌ (G.near.bits x l) (H.near.bits q i ∙ d)
      go x l false e = return_off source target D G.near.fit x (G.near.bits x l ∙ e) ∙ sym (ap (λ (b : Bool). b && g x) e)

  pub move_holds : {letters repeats start : List ℕ} {l p z : ℕ → Bool} → Holds m W letters l → Holds m W repeats p → Holds m W start z
      → Holds m W (move_words letters repeats start D) (λ x. ((next f x && l x) || (f x && p x)) || z x)
  move_holds L P Z = holds_or (holds_or (holds_and_r (near_shift r H.near) L) (holds_and_l H P.near)) Z
