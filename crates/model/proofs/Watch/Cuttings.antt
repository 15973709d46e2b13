-- CUTTINGS: calls from any watch find the ends of their stretches joined, and leave the live states of those stretches joined: one induction over the
-- calls. From a beginning these are document 01's.
use mathlib.Core.Path.{◌≡◌, refl, sym, ap, ◌∙◌, subst}
use mathlib.Core.List.{List, [], ◌∷◌, ◌++◌}
use Prim.Native.Nat.{ℕ, ◌+◌, ◌≤◌, ◌<◌}
use native.Mathlib.Nat.{add-zero}
use native.Mathlib.Omega.{arith}
use lib.ListN.{drop, length, length-append, take}
use lib.Seq.{take_all, take-append_seam}
use Rattle.model.specs.Answers.{done, ImageOf}
use Rattle.model.specs.Edges.{states}
use Rattle.model.specs.Ends.{EndsAre}
use Rattle.model.specs.Image.{width}
use Rattle.model.specs.Lists.{All}
use Rattle.model.specs.Live.{Before, LiveFrom}
use Rattle.model.specs.Tree.{Tree}
use Rattle.model.proofs.Image.Decided.{one_image}
use Rattle.model.specs.Watch.{BeginSays, begun, Call, Calls, Cutting, EndsIn, ends_of, Fair, found_by, In, IsMask, last_of, MaskOf, not_a_mask, not_an_image, Room, stepped, StepSays, stretch_too_long, text_too_long, text_of, Watched}
use Rattle.model.proofs.Watch.Ends.{ends_app, ends_as, ends_none, ends_whole}
use Rattle.model.proofs.Watch.Live.{before_below, live_app, live_as, live_below}
use Rattle.model.proofs.Watch.Masks.{mask_as, mask_in, mask_is}

-- with room, the list lent begins with all that was found
written : (found lent : List ℕ) → length found ≤ length lent → take (length found) (done found lent).lent ≡ found
written found lent l =
    ap (λ (x : List ℕ). take (length found) (x ++ drop (length found) lent)) (take_all (length lent) found l) ∙ take-append_seam found (drop (length found) lent)

module _ (words : List ℕ) (t : Tree) (I : ImageOf words t) where
  -- ---- one step within the limits is done
  pub record Done (mask : List ℕ) (place : ℕ) (stretch lent : List ℕ) (a : Watched) : Type 0 where
    pub number : a.number ≡ 0
    pub live : MaskOf (states t) (LiveFrom t (In mask) stretch) a.lent.mask
    pub reached : a.lent.place ≡ place + length stretch
    pub found : Room lent a → EndsIn t (In mask) place stretch (found_by a)

  step_done : (mask : List ℕ) (place : ℕ) (stretch lent : List ℕ) (a : Watched) → IsMask (states t) mask → length stretch ≤ 65535 → place + length stretch ≤ 4294967295
      → StepSays words mask place stretch lent a → Done mask place stretch lent a
  step_done mask place stretch lent a M s l (not_an_image f e) = absurd (f t I)
  step_done mask place stretch lent a M s l (stretch_too_long u J k e) = absurd (omega arith)
  step_done mask place stretch lent a M s l (not_a_mask u J k f e) = absurd (f (subst (λ (x : Tree). IsMask (states x) mask) (one_image words t u I J) M))
  step_done mask place stretch lent a M s l (text_too_long u J k f g e) = absurd (omega arith)
  step_done mask place stretch lent a M s l (stepped u after found J k f g A E e) =
      let same = one_image words u t J I in
      let A' = subst (λ (x : Tree). MaskOf (states x) (LiveFrom x (In mask) stretch) after) same A in
      let E' = subst (λ (x : Tree). EndsIn x (In mask) place stretch found) same E in
      subst (Done mask place stretch lent) (sym e) (record {
        number = refl;
        live = A';
        reached = refl;
        found = λ r. subst (EndsIn t (In mask) place stretch) (sym (written found lent r)) E';
      })

  -- ---- CALLS FROM ANY WATCH
  pub record Went (D : ℕ → Type 0) (a : Watched) (cs : List Call) : Type 0 where
    pub numbers : All (λ c. c.gave.number ≡ 0) cs
    pub ends : EndsIn t D a.lent.place (text_of cs) (ends_of cs)
    pub mask : MaskOf (states t) (LiveFrom t D (text_of cs)) (last_of a cs).lent.mask
    pub place : (last_of a cs).lent.place ≡ a.lent.place + length (text_of cs)

  -- from a mask with the states of D, all of them below m
  calls_went : (D : ℕ → Type 0) → ((q : ℕ) → D q → q < states t) → (a : Watched) (cs : List Call) → MaskOf (states t) D a.lent.mask
      → Calls words a.lent.mask a.lent.place cs → All Fair cs → a.lent.place + length (text_of cs) ≤ 4294967295 → Went D a cs
  calls_went D below a [] M S F l = record { numbers = tt; ends = ends_none t D a.lent.place; mask = M; place = sym (add-zero a.lent.place) }
  calls_went D below a (c ∷ cs) M S F l =
      let u = c.stretch in
      let v = text_of cs in
      let g = c.gave in
      let long : length (u ++ v) ≡ length u + length v = length-append u v in
      let own = mask_in M below in
      let R = step_done a.lent.mask a.lent.place u c.lent g (mask_is M) F.0.0 (omega (arith, long, l)) S.0 in
      let N : MaskOf (states t) (LiveFrom t D u) g.lent.mask = mask_as (live_as t u own) R.live in
      let W = calls_went (LiveFrom t D u) (live_below t u below) g cs N S.1 F.1 (omega (arith, long, l, R.reached)) in
      record {
        numbers = (R.number, W.numbers);
        ends = ends_app t (ends_as t own (R.found F.0.1)) (subst (λ (p : ℕ). EndsIn t (LiveFrom t D u) p v (ends_of cs)) R.reached W.ends);
        mask = mask_as (λ q. let e = live_app t u v D q in (e.1, e.0)) W.mask;
        place = omega (arith, W.place, R.reached, long);
      }

  -- THE PROMISE: from a beginning, for every cutting
  pub cutting : (mask : List ℕ) (place : ℕ) (lent : List ℕ) (first : Watched) (cs : List Call) → length mask ≡ width (states t)
      → BeginSays words mask place lent first → Room lent first → Calls words first.lent.mask first.lent.place cs → All Fair cs → length (text_of cs) ≤ 4294967295
      → Cutting t first cs
  cutting mask place lent first cs w (not_an_image f e) r S F l = absurd (f t I)
  cutting mask place lent first cs w (not_a_mask u J f e) r S F l = absurd (f (w ∙ ap (λ (x : Tree). width (states x)) (one_image words t u I J)))
  cutting mask place lent first cs w (begun u now found J k A E e) r S F l =
      let same = one_image words u t J I in
      let A' = subst (λ (x : Tree). MaskOf (states x) (Before x) now) same A in
      let E' = subst (λ (x : Tree). EndsAre x [] found) same E in
      let M : MaskOf (states t) (Before t) first.lent.mask = subst (λ (a : Watched). MaskOf (states t) (Before t) a.lent.mask) (sym e) A' in
      let at : first.lent.place ≡ 0 = ap (λ (a : Watched). a.lent.place) e in
      let G = calls_went (Before t) (before_below t) first cs M S F (omega (arith, at, l)) in
      let all : found_by first ≡ found = ap found_by e ∙ written found lent (subst (Room lent) e r) in
      let E₀ : EndsIn t (Before t) 0 (text_of cs) (ends_of cs) = subst (λ (p : ℕ). EndsIn t (Before t) p (text_of cs) (ends_of cs)) at G.ends in
      record {
        began = ap (λ (a : Watched). a.number) e;
        went_on = G.numbers;
        ends = subst (λ (ps : List ℕ). EndsAre t (text_of cs) (ps ++ ends_of cs)) (sym all) (ends_whole t I.is_rule E' E₀);
        mask = G.mask;
        place = omega (arith, G.place, at);
      }
