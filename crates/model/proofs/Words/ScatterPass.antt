-- THE SCATTER PASS ON BITS adds to the live states exactly what the scatter edges of one depth reach.
use mathlib.Core.Path.{◌≡◌, sym, subst}
use mathlib.Core.Logic.{◌⊎◌, inl, inr, ◌↔◌}
use mathlib.Core.Bool.{Bool, ◌&&◌, ◌||◌}
use mathlib.Core.List.{List}
use Prim.Native.Nat.{ℕ}
use native.Mathlib.Omega.{arith}
use lib.Dec.{T}
use Rattle.model.specs.Lists.{◌∈◌, within}
use Rattle.model.specs.Tree.{Seq}
use Rattle.model.specs.Edges.{seq_end}
use Rattle.model.proofs.Language.Arcs.{arcs}
use Rattle.model.proofs.Laws.Bool.{and_both, and_split, or_left, or_right, or_split}
use Rattle.model.proofs.Laws.Lists.{all_in, any_in, any_out, In, in_within, within_in}
use Rattle.model.proofs.Passes.Closure.{Add}
use Rattle.model.proofs.Passes.OnTrees.{Scatters}
use Rattle.model.proofs.Words.Forks.{fork_in, fork_out, forks_in_order, forks_sound, forks_of, Sound, Union, union_of}
use Rattle.model.proofs.Words.Full.{Full}
use Rattle.model.proofs.Words.Ripple.{difference_bits}
use Rattle.model.proofs.Words.Scatter.{scatter, scatter_block_of, Scattered, scatter_source_of, scatter_target_of}

module _ (s : Seq) (F : Full s) (k : ℕ) (D : ℕ → Bool) where
  abbrev us : List Union
  us = forks_of k (arcs s 0 0)

  -- block less the live sources
  abbrev spread : ℕ → Bool
  spread = difference_bits (scatter_block_of us) (λ j. D j && scatter_source_of us j)

  abbrev pub scattered : ℕ → Bool
  scattered x = D x || (spread x && scatter_target_of us x)

  -- at an alternative's start the difference says whether the union is live
  spread_is : (u : Union) → In us u → (x : ℕ) → T (within x u.starts) → spread x ≡ D u.start
  spread_is u i x h =
      let r = (all_in Sound us (forks_sound s k F) u i).starting x h in
      all_in (Scattered D (scatter_block_of us) (λ j. D j && scatter_source_of us j)) us (scatter D (seq_end s 0) us (forks_in_order s k F)) u i
      x (omega (arith, r)) r.1

  pub scattered_is : (x : ℕ) → T (scattered x) ↔ Add (Scatters s k) (λ q. T (D q)) x
  scattered_is x = (λ h. there (or_split (D x) (spread x && scatter_target_of us x) h), back)
    where
      there : T (D x) ⊎ T (spread x && scatter_target_of us x) → Add (Scatters s k) (λ q. T (D q)) x
      there (inl h) = inl h
      there (inr h) =
          let b = and_split (spread x) (scatter_target_of us x) h in
          let r = any_out (λ u. within x u.starts) us b.1 in
          let f = fork_out k (arcs s 0 0) r.0 r.1 in
          let live : T (D r.0.start) = subst T (spread_is r.0 r.1 x r.2) b.0 in
          inr (
            f.1,
            subst (λ (u : Union). T (D u.start)) f.4 live,
            (f.0, f.2, f.3, subst (λ (u : Union). x ∈ u.starts) f.4 (in_within r.0.starts x r.2)),
          )

      back : Add (Scatters s k) (λ q. T (D q)) x → T (scattered x)
      back (inl h) = or_left (D x) (spread x && scatter_target_of us x) h
      back (inr h) =
          let u = union_of h.2.0 h.0 h.2.1 in
          let i = fork_in k (arcs s 0 0) h.2.0 h.0 h.2.1 h.2.2 in
          let m = within_in u.starts x h.2.3 in
          or_right (D x) (spread x && scatter_target_of us x)
          (and_both (spread x) (scatter_target_of us x) (subst T (sym (spread_is u i x m)) h.1) (any_in (λ u. within x u.starts) us u i m))
