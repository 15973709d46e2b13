-- STRETCH AFTER STRETCH: where one stops, the set of that place, and the states written so far.
use mathlib.Core.Path.{◌≡◌, refl, sym, ◌∙◌, subst}
use mathlib.Core.Logic.{◌⊎◌, inl, inr}
use mathlib.Core.List.{List, []}
use Prim.Native.Nat.{ℕ, ◌-◌, ◌*◌, ◌/◌, ◌≤◌, ◌<◌}
use native.Mathlib.Nat.{le_refl}
use native.Mathlib.Omega.{arith}
use lib.ListN.{drop, get_or, length, take}
use Rattle.model.specs.Answers.{ImageOf}
use Rattle.model.specs.Tree.{Tree}
use Rattle.model.proofs.Laws.Bool.{le_or_lt}
use Rattle.model.specs.Models.Leads.{Chain, Leads}
use Rattle.model.specs.Spelling.{between}
use Rattle.model.proofs.Spelling.Leads.{between_none, chain_ends}
use Rattle.spelling_propose.specs.Work.{EndingSays, FillSays, KeptFrom, SetAt, SetOf, SetSays, StopSays, Stretch, WalkAsks, Walked, WalkSays, WriteAsks, WriteSays}

-- ---- the set of a place at which a stretch stops
pub set_ending : (image : List ℕ) (end : ℕ) (kept : List (List ℕ)) (stop : ℕ) (r : List ℕ) → stop ≡ end → EndingSays image r → SetSays image end kept stop r
set_ending image end kept stop r e E t text start I K l m w =
    subst (λ (n : ℕ). SetAt t text end n r) (sym e) (subst (λ (bs : List ℕ). SetOf t bs r) (sym (between_none text end)) (E t I))

pub set_kept : (image : List ℕ) (end : ℕ) (kept : List (List ℕ)) (stop : ℕ) → (stop ≡ end → ⊥) → SetSays image end kept stop (get_or kept (stop / 256) [])
set_kept image end kept stop f t text start I K l m (inl e) = absurd (f e)
set_kept image end kept stop f t text start I K l m (inr e) =
    let d : 256 * (stop / 256) ≡ stop = omega arith in
    let h : stop < end = go (le_or_lt end stop) in
    subst (λ (n : ℕ). SetAt t text end n (get_or kept (stop / 256) [])) d (K (stop / 256) (omega arith) (omega arith))
  where
    go : (end ≤ stop) ⊎ (stop < end) → stop < end
    go (inl x) = absurd (f (omega arith))
    go (inr x) = x

-- ---- the states written so far
module _ (image text : List ℕ) (start end : ℕ) (kept : List (List ℕ)) (before : List ℕ) where
  pub record Writing (k at : ℕ) (list : List ℕ) : Type 0 where
    pub above : start ≤ k
    pub below : k ≤ end
    pub state : at < 512
    pub long : length list ≡ length before
    pub rest : drop (end - start) list ≡ drop (end - start) before
    pub holds : (t : Tree) → ImageOf image t → KeptFrom t text end start kept → Leads t (between text start end) 0 → Walked t text start end k list at

  module _ (A : WriteAsks text start end before) where
    pub writing_none : Writing start 0 before
    writing_none = record {
      above = le_refl start;
      below = A.ordered;
      state = omega arith;
      long = refl;
      rest = refl;
      holds = λ t I K L. record {
        state = omega arith;
        leads = L;
        chain = subst (λ (bs : List ℕ). Chain t 0 bs (take (start - start) before) 0) (sym (between_none text start))
            (let e : start - start ≡ 0 = omega arith in subst (λ (n : ℕ). Chain t 0 [] (take n before) 0) (sym e) refl);
      };
    }

    module _ {k at : ℕ} {list : List ℕ} (W : Writing k at list) {stop : ℕ} (S : StopSays k end stop) where
      pub stretch : Stretch text k stop
      stretch = record { ordered = omega (arith, S.past); short = S.short; inside = omega (arith, S.within, A.asked.inside) }

      pub walk_asks : WalkAsks text k stop at start list
      walk_asks = record { stretch = stretch; state = W.state; after = W.above; room = omega (arith, W.long, A.room, S.within) }

      pub writing_more : (here : List ℕ) → SetSays image end kept stop here → (sets : List (List ℕ)) → FillSays image text k stop here sets
          → (r : ℕ) (after : List ℕ) → WalkSays image text k stop sets at start list r after → Writing stop r after
      writing_more here H sets F r after Z = record {
        above = omega (arith, W.above, S.past);
        below = S.within;
        state = Z.state;
        long = Z.long ∙ W.long;
        rest = Z.rest (end - start) (omega (arith, S.within)) ∙ W.rest;
        holds = λ t I K L.
            Z.walks t end I S.within A.asked.inside
            (F.fills t I end S.within A.asked.inside (H t text start I K (omega (arith, W.above, S.past)) S.within S.where_to)) (W.holds t I K L);
      }

    pub writing_all : {k at : ℕ} {list : List ℕ} → Writing k at list → end ≤ k → WriteSays image text start end kept before list
    writing_all {k} {at} {list} W h = record {
      long = W.long;
      rest = W.rest;
      follows = λ t I K L.
          let e : k ≡ end = omega (arith, W.below) in
          let D = subst (λ (n : ℕ). Walked t text start end n list at) e (W.holds t I K L) in
          chain_ends t (between text start end) (take (end - start) list) 0 at D.chain (subst (λ (bs : List ℕ). Leads t bs at) (between_none text end) D.leads);
    }
