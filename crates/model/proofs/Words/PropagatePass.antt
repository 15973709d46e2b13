-- THE PROPAGATE PASS ON BITS gives exactly what the propagate edges of one depth reach, over any number of them: edges rise, so a state is decided once
-- the states below it are.
use mathlib.Core.Path.{◌≡◌, refl, sym, subst}
use mathlib.Core.Logic.{inl, inr, ◌↔◌}
use mathlib.Core.Bool.{Bool, true, false}
use mathlib.Core.List.{List}
use Prim.Native.Nat.{ℕ, zero, suc, ◌<◌}
use native.Mathlib.Nat.{le_refl}
use native.Mathlib.Omega.{arith}
use lib.Dec.{T, eqb, eqb→eq}
use Rattle.model.specs.Tree.{Seq}
use Rattle.model.specs.Edges.{seq_end, Way}
use Rattle.model.specs.Live.{itself, onward, Reached}
use Rattle.model.proofs.Language.Arcs.{arcs}
use Rattle.model.proofs.Laws.Bool.{or_left, or_right, or_split}
use Rattle.model.proofs.Laws.Lists.{all_in, any_out, In}
use Rattle.model.proofs.Passes.OnTrees.{Propagates}
use Rattle.model.proofs.Words.Chains.{edge_rises, propagate-in, propagate_out, propagates_in_order, propagates_of}
use Rattle.model.proofs.Words.Full.{Full}
use Rattle.model.proofs.Words.Propagate.{Along, enters_of, leaves_of, propagate, propagate_bits, untouched}

enters_out : (ps : List Way) (x : ℕ) → T (enters_of ps x) → (q : ℕ) × In ps (q, x)
enters_out ps x h = let r = any_out (λ p. eqb x p.1) ps h in (r.0.0, subst (λ (y : ℕ). In ps (r.0.0, y)) (sym (eqb→eq x r.0.1 r.2)) r.1)

leaves_out : (ps : List Way) (x : ℕ) → T (leaves_of ps x) → (r : ℕ) × In ps (x, r)
leaves_out ps x h = let r = any_out (λ p. eqb x p.0) ps h in (r.0.1, subst (λ (y : ℕ). In ps (y, r.0.1)) (sym (eqb→eq x r.0.0 r.2)) r.1)

module _ (s : Seq) (F : Full s) (k : ℕ) (D : ℕ → Bool) where
  abbrev ps : List Way
  ps = propagates_of k (arcs s 0 0)

  abbrev pub propagated : ℕ → Bool
  propagated = propagate_bits D (enters_of ps) (leaves_of ps)

  abbrev Reach : ℕ → Type 0
  Reach = Reached (Propagates s k) (λ q. T (D q))

  along : (q r : ℕ) → In ps (q, r) → Along D (enters_of ps) (leaves_of ps) (q, r)
  along q r i = all_in (Along D (enters_of ps) (leaves_of ps)) ps (propagate D (seq_end s 0) ps (propagates_in_order s k F)) (q, r) i

  -- nothing but what the edges reach, for the states below n
  reached : (n x : ℕ) → x < n → T (propagated x) → Reach x
  reached zero x h t = absurd (omega arith)
  reached (suc n) x h t = go (enters_of ps x) (leaves_of ps x) refl refl (λ q l u. reached n q (omega arith) u)
    where
      go : (i o : Bool) → enters_of ps x ≡ i → leaves_of ps x ≡ o → ((q : ℕ) → q < x → T (propagated q) → Reach q) → Reach x
      go true o ei eo ih =
          let r = enters_out ps x (subst T (sym ei) tt) in
          elim (or_split (D x) (propagated r.0) (subst T (along r.0 x r.1).0 t)) [
            | inl y ↦ itself y
            | inr y ↦ onward (ih r.0 (edge_rises s k F (r.0, x) r.1) y) (propagate_out k (arcs s 0 0) (r.0, x) r.1)
          ]
      go false true ei eo ih = let r = leaves_out ps x (subst T (sym eo) tt) in itself (subst T ((along x r.0 r.1).1 ei) t)
      go false false ei eo ih = itself (subst T (untouched D (enters_of ps) (leaves_of ps) x ei eo) t)

  grown : {x : ℕ} → Reach x → T (propagated x)
  grown (itself {q = x} h) = or_left (D x) _ h
  grown (onward {q = q} {r = r} c e) = subst T (sym (along q r (propagate-in k (arcs s 0 0) q r e)).0) (or_right (D r) (propagated q) (grown c))

  pub propagated_is : (x : ℕ) → T (propagated x) ↔ Reached (Propagates s k) (λ q. T (D q)) x
  propagated_is x = (reached (suc x) x (le_refl (suc x)), grown)
