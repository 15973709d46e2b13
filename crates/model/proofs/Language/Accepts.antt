-- THE TEXTS THAT LEAD TO THE ACCEPTING STATE are those of the tree's language: what the arcs lead to a state is what the tree hands to it.
use mathlib.Core.Logic.{◌↔◌}
use mathlib.Core.List.{List}
use Prim.Native.Nat.{ℕ, ◌≤◌}
use native.Mathlib.Nat.{le_refl}
use native.Mathlib.Omega.{arith}
use Rattle.model.specs.Tree.{Seq}
use Rattle.model.specs.Edges.{seq_end}
use Rattle.model.proofs.Language.Arcs.{arcs}
use Rattle.model.proofs.Language.Carried.{carried, Carries, leads_out}
use Rattle.model.proofs.Language.Languages.{after, Any}
use Rattle.model.proofs.Language.Led.{texts_lead}
use Rattle.model.proofs.Language.Texts.{at, end_of, LeadsTo, start, start_of, Texts, texts_table, to}
use Rattle.model.proofs.Laws.Lists.{all_in, In, in_all}
use Rattle.model.proofs.Words.Full.{Full}

module _ (s : Seq) (F : Full s) (w : List ℕ) where
  -- the states that a text leads to are those whose language has it
  leads_to : (q : ℕ) → q ≤ seq_end s 0 → LeadsTo (In (arcs s 0 0)) w q ↔ Texts s 0 Any q w
  leads_to q l = (
    leads_out (In (arcs s 0 0)) L (all_in (Carries L) (arcs s 0 0) (carried L s 0 0 Any (texts_table s 0 Any)))
        (λ v. to (start_of L s 0 Any (texts_table s 0 Any)) tt),
    texts_lead (In (arcs s 0 0)) s 0 0 Any F (in_all (arcs s 0 0)) (λ v x. start) q (omega arith) l w,
  )
    where
      L : ℕ → List ℕ → Type 0
      L = Texts s 0 Any

  -- THE THEOREM
  pub accepts : LeadsTo (In (arcs s 0 0)) w (seq_end s 0) ↔ after s Any w
  accepts =
      let e = end_of (Texts s 0 Any) s 0 Any (texts_table s 0 Any) in
      (λ h. at e ((leads_to (seq_end s 0) (le_refl (seq_end s 0))).0 h), λ h. (leads_to (seq_end s 0) (le_refl (seq_end s 0))).1 (to e h))
