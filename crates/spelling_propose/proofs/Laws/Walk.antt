-- ONE STRETCH: its sets, and one state more.
use mathlib.Core.Path.{◌≡◌, refl, sym, ap, ◌∙◌, subst}
use mathlib.Core.Logic.{◌⊎◌, inl, inr, ◌↔◌}
use mathlib.Core.List.{List, [], ◌∷◌, ◌++◌}
use Prim.Native.Nat.{ℕ, suc, ◌+◌, ◌-◌, ◌≤◌, ◌<◌}
use native.Mathlib.Nat.{eq-or-lt_of_le, le_refl}
use native.Mathlib.Omega.{arith}
use lib.ListN.{drop, get_or, length, length-set, set, take}
use lib.Seq.{drop-set-lt, get_or-set_other, get_or-set_same, take-suc-set}
use Rattle.model.specs.Answers.{ImageOf}
use Rattle.model.specs.Tree.{Tree}
use Rattle.model.specs.Models.Leads.{Chain, Leads}
use Rattle.model.specs.Spelling.{between}
use Rattle.model.proofs.Spelling.Leads.{between_more, between_one, chain_more}
use Rattle.model.proofs.Definitions.Below.{takes_below}
use Rattle.run_edges.specs.Reach.{EnterSays, ReachSays}
use Rattle.run_edges.proofs.Laws.Sets.{entered_from}
use Rattle.spelling_propose.specs.Work.{BackSays, ChooseSays, FillSays, Has, LowestSays, SetAt, SetOf, SetsOf, Stretch, WalkAsks, Walked, WalkSays}

-- ---- THE SETS OF A STRETCH, from its last place down
module _ (image text : List ℕ) (lo hi : ℕ) (first : List ℕ) where
  pub record Filling (k : ℕ) (here : List ℕ) (sets : List (List ℕ)) : Type 0 where
    pub above : lo ≤ k
    pub below : k ≤ hi
    pub long : length sets ≡ 256
    pub holds : (t : Tree) → ImageOf image t → (end : ℕ) → hi ≤ end → end ≤ length text → SetAt t text end hi first
        → SetAt t text end k here × ((j : ℕ) → k ≤ j → j < hi → SetAt t text end (suc j) (get_or sets (j - lo) []))

  pub filling_none : (sets : List (List ℕ)) → length sets ≡ 256 → lo ≤ hi → Filling hi first sets
  filling_none sets l h = record { above = h; below = le_refl hi; long = l; holds = λ t I end m n S. (S, λ j x y. absurd (omega arith)) }

  pub filling_more : (S : Stretch text lo hi) {k : ℕ} {here : List ℕ} {sets : List (List ℕ)} → Filling k here sets → lo < k
      → (before : List ℕ) → BackSays image here (get_or text (k - 1) 0) before → Filling (k - 1) before (set sets (k - 1 - lo) here)
  filling_more S {k} {here} {sets} F h before B = record {
    above = omega arith;
    below = omega (arith, F.below);
    long = length-set sets (k - 1 - lo) here ∙ F.long;
    holds = λ t I end m n A. let H = F.holds t I end m n A in (one t I end m n H.0, λ j x y. go t end j H.0 H.1 y (eq-or-lt_of_le x));
  }
    where
      e : suc (k - 1) ≡ k
      e = omega arith

      one : (t : Tree) → ImageOf image t → (end : ℕ) → hi ≤ end → end ≤ length text → SetAt t text end k here → SetAt t text end (k - 1) before
      one t I end m n A =
          subst (λ (bs : List ℕ). SetOf t bs before)
          (sym (between_one text (k - 1) end (omega (arith, F.below)) n ∙ ap (λ (x : ℕ). get_or text (k - 1) 0 ∷ between text x end) e))
          (B t I (between text k end) A)

      go : (t : Tree) (end j : ℕ) → SetAt t text end k here → ((i : ℕ) → k ≤ i → i < hi → SetAt t text end (suc i) (get_or sets (i - lo) [])) → j < hi
          → (k - 1 ≡ j) ⊎ (k - 1 < j) → SetAt t text end (suc j) (get_or (set sets (k - 1 - lo) here) (j - lo) [])
      go t end j A H y (inl d) =
          let same : get_or (set sets (k - 1 - lo) here) (j - lo) [] ≡ here =
          ap (λ (i : ℕ). get_or (set sets (k - 1 - lo) here) (i - lo) []) (sym d) ∙ get_or-set_same sets (k - 1 - lo) here [] (omega (arith, F.long, F.below, S.short)) in
          subst (λ (w : List ℕ). SetAt t text end (suc j) w) (sym same) (subst (λ (x : ℕ). SetAt t text end x here) (let z : k ≡ suc j = omega arith in z) A)
      go t end j A H y (inr d) =
          subst (λ (w : List ℕ). SetAt t text end (suc j) w) (sym (get_or-set_other sets (k - 1 - lo) (j - lo) here [] (λ q. omega arith))) (H j (omega arith) y)

  pub filling_all : {k : ℕ} {here : List ℕ} {sets : List (List ℕ)} → Filling k here sets → k ≤ lo → FillSays image text lo hi first sets
  filling_all F h = record { long = F.long; fills = λ t I end m n S j x y. (F.holds t I end m n S).1 j (omega (arith, F.above)) y }

-- ---- a state to go on with
pub choose_says : (image : List ℕ) (at : ℕ) (row set on both : List ℕ) (b r : ℕ) → ReachSays image at row → EnterSays image b row on
    → ((x : ℕ) → Has both x ↔ (Has on x × Has set x)) → LowestSays both r → ChooseSays image at set b r
choose_says image at row set on both b r R E M L = record {
  state = L.0;
  row = row;
  reaches = R;
  entered = on;
  enters = E;
  chosen = λ x h k. (M r).0 (L.1 x ((M x).1 (h, k)));
}

-- ---- ONE STATE MORE
module _ (image text : List ℕ) (lo hi : ℕ) (sets : List (List ℕ)) (from start : ℕ) (before : List ℕ) where
  pub record Walking (k at : ℕ) (list : List ℕ) : Type 0 where
    pub above : lo ≤ k
    pub below : k ≤ hi
    pub state : at < 512
    pub long : length list ≡ length before
    pub rest : (n : ℕ) → hi - start ≤ n → drop n list ≡ drop n before
    pub holds : (t : Tree) (end : ℕ) → ImageOf image t → hi ≤ end → end ≤ length text → SetsOf t text end lo hi sets
        → Walked t text start end lo before from → Walked t text start end k list at

  module _ (A : WalkAsks text lo hi from start before) where
    pub walking_none : Walking lo from before
    walking_none = record { above = le_refl lo; below = A.stretch.ordered; state = A.state; long = refl; rest = λ n h. refl; holds = λ t end I m n S W. W }

    pub walking_more : {k at : ℕ} {list : List ℕ} → Walking k at list → k < hi → (r : ℕ) → ChooseSays image at (get_or sets (k - lo) []) (get_or text k 0) r
        → Walking (k + 1) r (set list (k - start) r)
    walking_more {k} {at} {list} W h r C = record {
      above = omega (arith, W.above);
      below = omega arith;
      state = C.state;
      long = length-set list (k - start) r ∙ W.long;
      rest = λ n l. drop-set-lt n list (k - start) r (omega (arith, W.above, A.after)) ∙ W.rest n l;
      holds = λ t end I m n S Z. subst (λ (x : ℕ). Walked t text start end x (set list (k - start) r) r) (sym up) (one t end I m n S (W.holds t end I m n S Z));
    }
      where
        up : k + 1 ≡ suc k
        up = omega arith

        one : (t : Tree) (end : ℕ) → ImageOf image t → hi ≤ end → end ≤ length text → SetsOf t text end lo hi sets
            → Walked t text start end k list at → Walked t text start end (suc k) (set list (k - start) r) r
        one t end I m n S Z =
            let b = get_or text k 0 in
            let l = subst (λ (bs : List ℕ). Leads t bs at) (between_one text k end (omega arith) n) Z.leads in
            let H = S k W.above h in
            let s = l.2 in
            let from_here = entered_from I Z.state C.reaches b C.entered C.enters in
            let g = C.chosen s.0 ((from_here s.0).1 (l.0, l.1, s.1)) ((H.within s.0 (takes_below t b l.0 s.0 s.1)).1 s.2) in
            let p = (from_here r).0 g.0 in
            let low = takes_below t b p.0 r p.2 in
            let d : suc k - start ≡ suc (k - start) = omega (arith, W.above, A.after) in
            record {
              state = low;
              leads = (H.within r low).0 g.1;
              chain = subst (λ (xs : List ℕ). Chain t 0 (between text start (suc k)) xs r)
                  (sym (ap (λ (x : ℕ). take x (set list (k - start) r)) d ∙ take-suc-set list (k - start) r (omega (arith, W.long, A.room, W.above, A.after))))
                  (subst (λ (bs : List ℕ). Chain t 0 bs (take (k - start) list ++ (r ∷ [])) r)
                  (sym (between_more text start k (omega (arith, W.above, A.after)) (omega (arith, A.stretch.inside))))
                  (chain_more t (between text start k) (take (k - start) list) 0 at Z.chain b p.0 r p.1 p.2));
            }

    pub walking_all : {k at : ℕ} {list : List ℕ} → Walking k at list → hi ≤ k → WalkSays image text lo hi sets from start before at list
    walking_all {k} {at} {list} W h = record {
      state = W.state;
      long = W.long;
      rest = W.rest;
      walks = λ t end I m n S Z. let e : k ≡ hi = omega (arith, W.below) in subst (λ (x : ℕ). Walked t text start end x list at) e (W.holds t end I m n S Z);
    }
